use Rattle.std.proofs.Common.{◌≡◌, ◌++◌, ◌∷◌, [], codes, append_assoc}
use Rattle.std.specs.Fmt.{decimal}
use Rattle.gs_model.specs.Terms.{numeral}
use Rattle.gs_term.proofs.MakingLemmas.{decimal_is_numeral}
use Rattle.gs_made_names.proofs.names.name_text.Goals as goal

pub returns : goal.returns
returns c =
    let a : decimal c.args.request ≡ numeral c.args.request = decimal_is_numeral c.args.request c.ranges.request.fits in
    let b : decimal c.args.number ≡ numeral c.args.number = decimal_is_numeral c.args.number c.ranges.number.fits in
    rw (c.in_ok-push_str-4.ensures.bytes, c.in_ok-push_str-3.ensures.bytes, c.in_ok-push_str-2.ensures.bytes, c.in_ok-push_str.ensures.bytes, c.in_ok-text.ensures.ok, c.format.ensures.text, c.format-2.ensures.text, a, b)
    (append_assoc ((c.args.base.now ++ codes "/graphs/n") ++ numeral c.args.request) (45 ∷ []) (numeral c.args.number))
