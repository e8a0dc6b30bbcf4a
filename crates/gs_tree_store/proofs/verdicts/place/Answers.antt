use Rattle.std.proofs.Common.{◌∙◌}
use Rattle.gs_tree_store.proofs.VerdictLemmas.{place_found}
use Rattle.gs_tree_store.proofs.verdicts.place.Goals as goal

pub returns : goal.returns
returns c = c.place_of.ensures ∙ place_found c.args.books.now c.args.target.now c.get.result c.requires.sound c.get.ensures
