use Rattle.std.proofs.Common.{◌≡◌, take, map}
use Rattle.std.specs.List.{concat}
use Rattle.gs_model.specs.Triples.{line_of}
use Rattle.gs_graphs.proofs.graphs.lines_in_order.Given as goal

abbrev pub invariant-loop-triple : goal.invariant-loop-triple
invariant-loop-triple l = l.bytes.items ≡ concat (map line_of (take l.triple-index l.triples))
