use Rattle.std.proofs.Common.{ap, append_assoc, ◌≡◌, ◌∷◌, []}
use Rattle.std.specs.Fmt.{decimal}
use Rattle.gs_model.specs.Terms.{numeral}
use Rattle.gs_term.proofs.MakingLemmas.{decimal_is_numeral}
use Rattle.gs_term.proofs.terms.blank_bytes.Goals as goal

pub returns : goal.returns
returns c =
    let a : decimal c.args.request ≡ numeral c.args.request = decimal_is_numeral c.args.request c.ranges.request.fits in
    let b : decimal c.args.number ≡ numeral c.args.number = decimal_is_numeral c.args.number c.ranges.number.fits in
    rw (
      c.in_ok-extend_from_slice-3.ensures.items,
      c.in_ok-push.ensures.items,
      c.in_ok-extend_from_slice-2.ensures.items,
      c.in_ok-extend_from_slice.ensures.items,
      c.in_ok-bytes.ensures.items,
      c.as_bytes-first.ensures.value,
      c.as_bytes-second.ensures.value,
      c.format.ensures.text,
      c.format-2.ensures.text,
      a,
      b,
    )
    (ap (λ z. 95 ∷ 58 ∷ 98 ∷ z) (append_assoc (numeral c.args.request) (95 ∷ []) (numeral c.args.number)))
