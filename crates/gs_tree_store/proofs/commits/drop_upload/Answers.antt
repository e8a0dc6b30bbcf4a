use Rattle.gs_tree_store.proofs.WriteLemmas.{upload_retirable}
use Rattle.gs_tree_store.proofs.commits.drop_upload.Goals as goal

pub drop_tree-requires : goal.drop_tree-requires
drop_tree-requires c = upload_retirable c.args.books.now c.args.upload c.requires.upload
