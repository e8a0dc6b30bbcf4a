use Rattle.std.proofs.Common.{true, false, refl}
use Rattle.gs_commands.specs.Targets.{SaysTarget}
use Rattle.gs_commands.proofs.CommandLemmas.{found_says, found_none}
use Rattle.gs_commands.proofs.WordLemmas.{filled, emptied}
use Rattle.gs_commands.proofs.TargetLemmas.{plain_none, other_none, number_none, front_none, condition_says}
use Rattle.gs_commands.proofs.targets.read_target_since.Goals as goal

pub returns-in-None : goal.returns-in-None
returns-in-None c =
    let text = c.args.text.now in
    let rest = c.split.result.1.now in
    plain_none text rest c.split.ensures.after (emptied rest true (c.if-is_empty.ensures) refl) (found_none SaysTarget text c.in_ok-target.field-0 c.in_ok-target.ensures c.in-None.is)

pub returns-in_default : goal.returns-in_default
returns-in_default c =
    let rest = c.split.result.1.now in
    other_none c.args.text.now rest c.split.ensures.after (filled rest false (c.if-is_empty.ensures) refl) c.in_default.ensures

pub returns-in_default-number : goal.returns-in_default-number
returns-in_default-number c = number_none c.args.text.now c.split.result.1.now c.in-Some-after.digits.now c.split.ensures.after c.in-Some-after.ensures c.in_default-number.ensures

pub returns-in-Some-2 : goal.returns-in-Some-2
returns-in-Some-2 c =
    let front = c.split.result.0.now in
    let says = found_says SaysTarget front c.in_ok-target-2.field-0 c.in_ok-target-2.ensures c.in-Some-2.target c.in-Some-2.is in
    condition_says c.args.text.now front c.split.result.1.now c.in-Some-after.digits.now c.in-Some-2.target c.in-Some-number.since
    c.split.ensures.before c.split.ensures.after c.in-Some-after.ensures says c.in-Some-number.ensures

pub returns-in-None-2 : goal.returns-in-None-2
returns-in-None-2 c =
    let front = c.split.result.0.now in
    let none = found_none SaysTarget front c.in_ok-target-2.field-0 c.in_ok-target-2.ensures c.in-None-2.is in
    front_none c.args.text.now front c.split.result.1.now c.in-Some-after.digits.now c.split.ensures.before c.split.ensures.after c.in-Some-after.ensures none
