use Rattle.std.proofs.Common.{ℕ, List, Option, Vec, Global, MatchOption, subst}
use Rattle.gs_commands.specs.Commands.{SaysText}
use Rattle.gs_commands.proofs.FeedLineLemmas.{feed_seat_none, feed_word_none, feed_text_none, feed_says}
use Rattle.gs_commands.proofs.commands.read_feed.Goals as goal

pub returns-in_default : goal.returns-in_default
returns-in_default c = feed_seat_none c.args.line.now c.split.result.0.now c.split.ensures.before c.in_default.ensures

pub returns-in_default-feed_language : goal.returns-in_default-feed_language
returns-in_default-feed_language c = feed_word_none c.args.line.now c.split.result.1.now c.split.ensures.after c.in_default-feed_language.ensures

pub returns-in-Some-2 : goal.returns-in-Some-2
returns-in-Some-2 c =
    let words = c.in-Some-feed_language in
    let rest = words.rest.now in
    let P : Option (Vec ℕ Global) → Type 0 = λ o. MatchOption o ((y : List ℕ) → ¬ SaysText y rest) (λ y. SaysText y.items rest) in
    feed_says c.args.line.now c.split.result.0.now c.split.result.1.now rest c.in-Some-2.text.items c.in-Some.seat words.language c.split.ensures.before c.split.ensures.after words.ensures c.in-Some.ensures
    (subst P c.in-Some-2.is c.in_ok-text.ensures)

pub returns-in-None : goal.returns-in-None
returns-in-None c =
    let words = c.in-Some-feed_language in
    let rest = words.rest.now in
    let P : Option (Vec ℕ Global) → Type 0 = λ o. MatchOption o ((y : List ℕ) → ¬ SaysText y rest) (λ y. SaysText y.items rest) in
    feed_text_none c.args.line.now c.split.result.1.now rest words.language c.split.ensures.after words.ensures (subst P c.in-None.is c.in_ok-text.ensures)
