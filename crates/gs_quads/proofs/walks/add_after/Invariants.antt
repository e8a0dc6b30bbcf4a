-- what adds the places after here adds those after the beginning
use Rattle.std.proofs.Common.{◌≡◌, true, length}
use Rattle.std.specs.Prelude.{IfSome}
use Rattle.gs_index.specs.Indexes.{is_listed, numbers_after}
use Rattle.gs_quads.specs.declared.runs.Found.{Found}
use Rattle.gs_quads.specs.Found.{all_graphs, AreFound, FindsMore, numbers_past}
use Rattle.gs_quads.proofs.walks.add_after.Given as goal

abbrev pub invariant-walk : goal.invariant-walk
invariant-walk l = record {
  listed : IfSome l.after (λ n. is_listed n l.source.records.now.listed ≡ true);
  found : AreFound l.source l.most l.found;
  goes : (new : Found) → FindsMore l.source l.most l.found new (all_graphs l.source (numbers_past l.version l.source.records.now l.after))
      → FindsMore l.source l.most l.fn.found new (all_graphs l.source (numbers_past l.version l.source.records.now l.fn.from));
}

abbrev pub decreases-walk : goal.decreases-walk
decreases-walk l = length (numbers_after l.after l.source.records.now.listed)
