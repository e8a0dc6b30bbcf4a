use Rattle.std.proofs.Common.{ℕ, inl, inr, subst}
use Rattle.gs_commands.specs.Found.{SaysNumber}
use Rattle.gs_commands.proofs.CommandLemmas.{IsCut, start_says, start_none, start_zero}
use Rattle.gs_commands.proofs.commands.read_start.Goals as goal

pub returns-in_default : goal.returns-in_default
returns-in_default c =
    let P : ℕ → Type 0 = λ most. (n : ℕ) → ¬ SaysNumber most n c.split.result.0.now in
    let cut : IsCut c.args.text.now c.split.result.0.now c.split.result.1.now c.split-2.result.0.now c.split-2.result.1.now = record { seats_is = c.split.ensures.before; rest_is = c.split.ensures.after; commit_is = c.split-2.ensures.before; request_is = c.split-2.ensures.after } in
    start_none c.args.text.now c.split.result.0.now c.split.result.1.now c.split-2.result.0.now c.split-2.result.1.now cut (inl (subst P c.from.ensures c.in_default.ensures))

pub returns-in_default-number : goal.returns-in_default-number
returns-in_default-number c =
    let cut : IsCut c.args.text.now c.split.result.0.now c.split.result.1.now c.split-2.result.0.now c.split-2.result.1.now = record { seats_is = c.split.ensures.before; rest_is = c.split.ensures.after; commit_is = c.split-2.ensures.before; request_is = c.split-2.ensures.after } in
    start_none c.args.text.now c.split.result.0.now c.split.result.1.now c.split-2.result.0.now c.split-2.result.1.now cut (inr (inl c.in_default-number.ensures))

pub returns-in_default-number-2 : goal.returns-in_default-number-2
returns-in_default-number-2 c =
    let cut : IsCut c.args.text.now c.split.result.0.now c.split.result.1.now c.split-2.result.0.now c.split-2.result.1.now = record { seats_is = c.split.ensures.before; rest_is = c.split.ensures.after; commit_is = c.split-2.ensures.before; request_is = c.split-2.ensures.after } in
    start_none c.args.text.now c.split.result.0.now c.split.result.1.now c.split-2.result.0.now c.split-2.result.1.now cut (inr (inr c.in_default-number-2.ensures))

pub returns-then-seats-eq0 : goal.returns-then-seats-eq0
returns-then-seats-eq0 c =
    let cut : IsCut c.args.text.now c.split.result.0.now c.split.result.1.now c.split-2.result.0.now c.split-2.result.1.now = record { seats_is = c.split.ensures.before; rest_is = c.split.ensures.after; commit_is = c.split-2.ensures.before; request_is = c.split-2.ensures.after } in
    start_zero c.args.text.now c.split.result.0.now c.split.result.1.now c.split-2.result.0.now c.split-2.result.1.now c.in-Some.seats cut c.in-Some.ensures.0 c.if-seats-eq0.true

pub returns : goal.returns
returns c =
    let P : ℕ → Type 0 = λ most. SaysNumber most c.in-Some.seats c.split.result.0.now in
    let cut : IsCut c.args.text.now c.split.result.0.now c.split.result.1.now c.split-2.result.0.now c.split-2.result.1.now = record { seats_is = c.split.ensures.before; rest_is = c.split.ensures.after; commit_is = c.split-2.ensures.before; request_is = c.split-2.ensures.after } in
    start_says c.args.text.now c.split.result.0.now c.split.result.1.now c.split-2.result.0.now c.split-2.result.1.now c.in-Some.seats c.in-Some-number.commit c.in-Some-number-2.request
    cut (subst P c.from.ensures c.in-Some.ensures) c.in-Some-number.ensures c.in-Some-number-2.ensures c.if-seats-eq0.false
