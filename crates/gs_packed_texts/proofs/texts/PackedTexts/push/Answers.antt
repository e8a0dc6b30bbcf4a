-- The text is one more, as it was placed.
use Rattle.std.proofs.Common.{◌≡◌, length, arith}
use Rattle.gs_packed_texts.proofs.KeptLemmas.{more_placed, packed_push, texts_push}
use Rattle.gs_packed_texts.proofs.texts.PackedTexts.push.Goals as goal

pub invariant_of-self : goal.invariant_of-self
invariant_of-self c =
    let r = c.args.self.now in
    let start : c.len.result ≡ length r.bytes.items = omega (arith, c.len.ensures) in
    let more = more_placed r.bytes.items c.deref.result.now c.args.text.now r.first c.placed-place.result c.len.result c.placed-place.ensures c.deref.ensures.value start in
    record {
      packed = rw (c.push_reserved.ensures.items, c.push_count.ensures.items, c.append.ensures.items, c.after-window.ensures)
          (packed_push r.marks.items r.counts.items r.bytes.items r.first r.second r.third c.args.text.now c.placed-place.result.mark _ _ r.packed more);
    }

pub returns-clause-texts : goal.returns-clause-texts
returns-clause-texts c =
    let r = c.args.self.now in
    let start : c.len.result ≡ length r.bytes.items = omega (arith, c.len.ensures) in
    let more = more_placed r.bytes.items c.deref.result.now c.args.text.now r.first c.placed-place.result c.len.result c.placed-place.ensures c.deref.ensures.value start in
    rw (c.push_reserved.ensures.items, c.push_count.ensures.items, c.append.ensures.items)
    (texts_push r.marks.items r.counts.items r.bytes.items r.first r.second r.third c.args.text.now c.placed-place.result.mark _ _ r.packed more)
