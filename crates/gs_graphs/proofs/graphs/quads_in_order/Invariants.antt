use Rattle.std.proofs.Common.{◌≡◌, take, map}
use Rattle.std.specs.List.{concat}
use Rattle.gs_term.specs.Names.{quad_line_of}
use Rattle.gs_graphs.proofs.graphs.quads_in_order.Given as goal

abbrev pub invariant-loop-triple : goal.invariant-loop-triple
invariant-loop-triple l = l.bytes.items ≡ concat (map (quad_line_of l.name) (take l.triple-index l.triples))
