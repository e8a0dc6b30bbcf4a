use Rattle.std.proofs.Common.{◌≡◌, take}
use Rattle.gs_chronicle.specs.KeptLists.{all_triples}
use Rattle.gs_chronicle.proofs.uploads.Upload.to_vec.Given as goal

abbrev pub invariant-loop-list : goal.invariant-loop-list
invariant-loop-list l = l.triples.items ≡ all_triples (take l.list-index l.self.lists.items)
