use Rattle.std.proofs.Common.{ℕ, List, Option, Vec, Global, MatchOption, subst}
use Rattle.gs_commands.specs.Commands.{SaysUpdate}
use Rattle.gs_commands.proofs.PatchLineLemmas.{patch_seat_none, patch_rest_none, patch_says}
use Rattle.gs_commands.proofs.patches.read_patch.Goals as goal

pub returns-in_default : goal.returns-in_default
returns-in_default c = patch_seat_none c.args.line.now c.split.result.0.now c.split.ensures.before c.in_default.ensures

pub returns-in-Some-2 : goal.returns-in-Some-2
returns-in-Some-2 c =
    let action = c.split.result.1.now in
    let P : Option (Vec ℕ Global) → Type 0 = λ o. MatchOption o ((y : List ℕ) → ¬ SaysUpdate y action) (λ y. SaysUpdate y.items action) in
    patch_says c.args.line.now c.split.result.0.now action c.in-Some-2.text.items c.in-Some.seat c.split.ensures.before c.split.ensures.after c.in-Some.ensures
    (subst P c.in-Some-2.is c.in_ok-text.ensures)

pub returns-in-None : goal.returns-in-None
returns-in-None c =
    let action = c.split.result.1.now in
    let P : Option (Vec ℕ Global) → Type 0 = λ o. MatchOption o ((y : List ℕ) → ¬ SaysUpdate y action) (λ y. SaysUpdate y.items action) in
    patch_rest_none c.args.line.now action c.split.ensures.after (subst P c.in-None.is c.in_ok-text.ensures)
