use Rattle.std.proofs.Common.{◌≡◌, ◌+◌, length, map, vec_capacity}
use Rattle.std.specs.List.{sum_by, All}
use Rattle.crossbeam_utils.specs.Seq.{cell_view}
use Rattle.gs_pass.specs.Backing.{IsBacked}
use Rattle.gs_pass.proofs.stamp_logs.StampLog.close_all.Given as goal

abbrev pub invariant-loop-pass : goal.invariant-loop-pass
invariant-loop-pass g l = record {
  stamps : (cell_view l.self.keeper).all ≡ (cell_view l.fn.self.keeper).all;
  calls_total : l.self.calls.total ≡ l.fn.self.calls.total;
  triples_total : l.self.triples.total ≡ l.fn.self.triples.total;
  call_parts : l.call_share.parts ≡ l.fn.call_share.parts + length l.yielded;
  triple_parts : l.triple_share.parts ≡ l.fn.triple_share.parts + length l.yielded;
  calls : l.call_share.amount ≡ l.fn.call_share.amount + sum_by (λ p. p.call_share.amount) l.yielded;
  triples : l.triple_share.amount ≡ l.fn.triple_share.amount + sum_by (λ p. p.triple_share.amount) l.yielded;
  whole : length l.yielded + length l.pass-iterator.rest.items ≡ length l.fn.passes.items;
  room : vec_capacity l.records ≡ vec_capacity l.fn.records;
  records : l.records.items ≡ map (λ p. p.record) l.yielded;
  backed : All (IsBacked (cell_view l.fn.self.keeper).all) l.records.items;
}
