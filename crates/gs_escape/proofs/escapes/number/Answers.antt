use Rattle.std.proofs.Common.{◌<◌, ◌+◌, ◌*◌, cond, sym, ap, ◌∙◌, arith, refl, length, take}
use Rattle.std.specs.Prelude.{Some, None}
use Rattle.std.specs.Char.{digit_value}
use Rattle.std.specs.List.{list_all}
use Rattle.std.proofs.lemmas.List.{take_all}
use Rattle.gs_model.specs.Escapes.{is_hex, hex_number}
use Rattle.gs_escape.proofs.NumberLemmas.{hex_number-nil, hex_number-more, bound_more, bound_room, digit_some, digit_none, digit_small, all_more, all_not}
use Rattle.gs_escape.proofs.escapes.number.Goals as goal

pub loop-d-init : goal.loop-d-init
loop-d-init c = record { value = sym hex_number-nil; digits = refl; small = omega arith }

pub overflow_mul-value : goal.overflow_mul-value
overflow_mul-value c = omega (arith, bound_room c.loop-d.value c.loop-d.d-index c.loop-d.invariant.small (omega arith))

pub overflow_add-value : goal.overflow_add-value
overflow_add-value c =
    let is = digit_some c.from.result c.in-Some.digit c.in-Some.ensures in
    omega (arith, bound_room c.loop-d.value c.loop-d.d-index c.loop-d.invariant.small (omega arith), digit_small c.from.result is.0, is.1)

pub loop-d-preserved : goal.loop-d-preserved
loop-d-preserved c =
    let within : c.loop-d.d-index < length c.args.digits.now = c.loop-d-test.true in
    let here = ap digit_value c.from.ensures in
    let is = digit_some c.from.result c.in-Some.digit c.in-Some.ensures in
    let low = digit_small c.from.result is.0 in
    record {
      value =
          ap (λ v. v * 16 + c.in-Some.digit) c.loop-d.invariant.value
          ∙ ap (λ d. hex_number (take c.loop-d.d-index c.args.digits.now) * 16 + d) (is.1 ∙ here)
          ∙ sym (hex_number-more c.args.digits.now c.loop-d.d-index within);
      digits = all_more c.args.digits.now c.loop-d.d-index c.from.result within c.from.ensures is.0 c.loop-d.invariant.digits;
      small = bound_more c.loop-d.value c.in-Some.digit c.loop-d.d-index c.loop-d.invariant.small (omega (arith, low, is.1));
    }

pub returns-in-None : goal.returns-in-None
returns-in-None c =
    ap (λ b. cond b (Some (hex_number c.args.digits.now)) None) (sym (all_not c.args.digits.now c.loop-d.d-index c.from.result c.loop-d-test.true c.from.ensures (digit_none c.from.result c.in-None.ensures)))

pub returns : goal.returns
returns c =
    let whole = take_all c.loop-d.d-index c.args.digits.now c.loop-d-test.false in
    ap Some (c.loop-d.invariant.value ∙ ap hex_number whole)
    ∙ ap (λ b. cond b (Some (hex_number c.args.digits.now)) None) (sym (sym (ap (list_all is_hex) whole) ∙ c.loop-d.invariant.digits))
