use Rattle.gs_tree.specs.Reading.{keys_at}
use Rattle.gs_keys.specs.Texts.{key_cmp}
use Rattle.gs_tree_store.proofs.UploadLemmas.{all_read}
use Rattle.gs_tree_store.proofs.uploads.take_keys.Goals as goal

pub returns-clause-ok : goal.returns-clause-ok
returns-clause-ok c = record {
  keys_are = all_read (key_cmp c.new-order.result.dict.now.terms) c.args.upload.triples (keys_at c.args.pool.now c.args.upload.root) c.in_ok-keys.keys.items c.next_keys.new.to.items c.requires.version.counted c.in_ok-keys.ensures.items c.in_ok-next_keys.ensures.ok;
  frees = c.free_tree.ensures.frees;
  total = c.free_tree.ensures.total;
}
