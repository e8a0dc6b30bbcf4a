-- The first mark says how the next text stands, and the reader is after it then.
use Rattle.std.proofs.Common.{◌∷◌, ◌++◌}
use Rattle.gs_packed_texts.specs.Packing.{text_mark_of}
use Rattle.gs_packed_texts.specs.Kept.{own_counts, IsReady}
use Rattle.gs_packed_texts.proofs.KeptLemmas.{ready_next, left_next}
use Rattle.gs_packed_texts.proofs.readers.Texts.next.Goals as goal

pub invariant_of-self : goal.invariant_of-self
invariant_of-self c =
    let r = c.args.self.now in
    let ready : IsReady (c.in_ok-mark.mark.now ∷ c.in_ok-mark.marks.now)
    (own_counts (text_mark_of c.in_ok-mark.mark.now) c.split_count-count.result.0 ++ c.split_count-count.result.1.now) r.bytes.now r.at r.first r.second r.third =
    rw (← c.in_ok-mark.ensures.cases.0, ← c.split_count-count.ensures.counts) r.ready in
    record { ready = rw c.after-window.ensures (ready_next _ _ _ _ _ _ _ _ _ ready c.split_count-count.ensures.none) }

pub returns : goal.returns
returns c =
    let r = c.args.self.now in
    rw (c.in_ok-mark.ensures.cases.0, c.split_count-count.ensures.counts, c.bytes_at.ensures, c.bytes_at-2.ensures, c.after-window.ensures)
    (left_next c.in_ok-mark.marks.now c.split_count-count.result.1.now r.bytes.now r.at c.split_count-count.result.0 c.in_ok-mark.mark.now r.first r.second r.third
    r.ready.first_in
    c.split_count-count.ensures.none)
