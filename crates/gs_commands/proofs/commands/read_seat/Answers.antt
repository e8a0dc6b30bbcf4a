use Rattle.gs_commands.specs.Commands.{SaysAction}
use Rattle.gs_commands.proofs.CommandLemmas.{found_says, found_none, seat_says, seat_word_none, seat_action_none}
use Rattle.gs_commands.proofs.commands.read_seat.Goals as goal

pub returns-in_default : goal.returns-in_default
returns-in_default c = seat_word_none c.args.text.now c.split.result.0.now c.split.ensures.before c.in_default.ensures

pub returns-in_default-2 : goal.returns-in_default-2
returns-in_default-2 c =
    let rest = c.split.result.1.now in
    seat_action_none c.args.text.now rest c.split.ensures.after (found_none SaysAction rest c.in_ok-action.field-0 c.in_ok-action.ensures c.in_default-2.is)

pub returns : goal.returns
returns c =
    let rest = c.split.result.1.now in
    let says = found_says SaysAction rest c.in_ok-action.field-0 c.in_ok-action.ensures c.in-Some-2.action c.in-Some-2.is in
    (c.in-Some.ensures.1, seat_says c.args.text.now c.split.result.0.now rest c.in-Some.seat c.in-Some-2.action c.split.ensures.before c.split.ensures.after c.in-Some.ensures.0 says)
