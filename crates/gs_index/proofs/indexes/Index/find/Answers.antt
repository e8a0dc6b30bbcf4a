use Rattle.std.proofs.Common.{◌<◌, ◌∙◌, length, cond, Some, None, sym, ap, subst, arith}
use Rattle.std.specs.Prelude.{IfSome}
use Rattle.gs_index.specs.Ages.{age_among}
use Rattle.gs_index.proofs.FindLemmas.{number_if_of}
use Rattle.gs_index.proofs.KeptLemmas.{readable_among, found_within, found_number, found_here}
use Rattle.gs_index.proofs.indexes.Index.find.Goals as goal

pub seek-requires : goal.seek-requires
seek-requires c =
    let x = c.self.inside in
    rw c.deref.ensures.value (readable_among x.entries.items x.pool x.root c.self.invariant c.args.target.now c.args.version)

pub returns-in_err-number-clause-value : goal.returns-in_err-number-clause-value
returns-in_err-number-clause-value c =
    let x = c.self.inside in
    let found = found_number x.entries.items x.pool x.root c.self.invariant c.args.target.now c.args.version c.seek.result (rw c.deref.ensures.value at c.seek.ensures) in
    rw (← c.self.view_is) (c.from_residual.ensures ∙ ap (number_if_of (age_among x.entries.items c.args.target.now c.args.version) c.args.target.now) (sym c.in_err-number.was) ∙ found)

pub index-requires : goal.index-requires
index-requires c =
    let x = c.self.inside in
    let within = found_within x.entries.items x.pool x.root c.self.invariant c.args.target.now c.args.version c.seek.result (rw c.deref.ensures.value at c.seek.ensures) in
    let h : c.in_ok-number.number < length x.entries.items = subst (λ o. IfSome o (λ n. n < length x.entries.items)) c.in_ok-number.was within in
    omega (arith, h, x.entries.ok.0)

pub returns-then-is_same-clause-value : goal.returns-then-is_same-clause-value
returns-then-is_same-clause-value c =
    let x = c.self.inside in
    let n = c.in_ok-number.number in
    let found = found_here x.entries.items x.pool x.root c.self.invariant c.args.target.now c.args.version c.seek.result n c.index.result.now c.is_same.result (rw c.deref.ensures.value at c.seek.ensures) c.in_ok-number.was c.index.ensures c.is_same.ensures in
    rw (← c.self.view_is) (ap (λ b. cond b (Some n) None) (sym c.if-is_same.true) ∙ found)

pub returns-then-is_same-clause-within : goal.returns-then-is_same-clause-within
returns-then-is_same-clause-within c =
    let x = c.self.inside in
    let within = found_within x.entries.items x.pool x.root c.self.invariant c.args.target.now c.args.version c.seek.result (rw c.deref.ensures.value at c.seek.ensures) in
    rw (← c.self.view_is) (subst (λ o. IfSome o (λ n. n < length x.entries.items)) c.in_ok-number.was within)

pub returns-else-is_same-clause-value : goal.returns-else-is_same-clause-value
returns-else-is_same-clause-value c =
    let x = c.self.inside in
    let n = c.in_ok-number.number in
    let found = found_here x.entries.items x.pool x.root c.self.invariant c.args.target.now c.args.version c.seek.result n c.index.result.now c.is_same.result (rw c.deref.ensures.value at c.seek.ensures) c.in_ok-number.was c.index.ensures c.is_same.ensures in
    rw (← c.self.view_is) (ap (λ b. cond b (Some n) None) (sym c.if-is_same.false) ∙ found)
