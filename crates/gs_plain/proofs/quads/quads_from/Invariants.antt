-- with what is shown of the graphs that are left, the bytes are all that is shown, and the lines all that there are
use Rattle.std.proofs.Common.{◌≡◌, ◌+◌, ◌++◌, length, map as each}
use Rattle.std.specs.List.{flat_map}
use Rattle.std.specs.Map.Iter.{deref_pair}
use Rattle.gs_event.specs.Datasets.{named_lines, quads_of}
use Rattle.gs_plain.specs.Past.{dataset_at}
use Rattle.gs_plain.proofs.QuadLemmas.{shown_of}
use Rattle.gs_plain.proofs.quads.quads_from.Given as goal

abbrev pub invariant-loop-name : goal.invariant-loop-name
invariant-loop-name l = record {
  shown : l.bytes.items ++ shown_of l.given l.count l.passed (flat_map named_lines (each deref_pair l.name-iterator)) ≡ shown_of l.given l.count 0 (quads_of (dataset_at l.version l.rows));
  passes : l.passed + length (flat_map named_lines (each deref_pair l.name-iterator)) ≡ length (quads_of (dataset_at l.version l.rows));
}
