use Rattle.std.proofs.Common.{◌≤◌, arith, sym, length}
use Rattle.gs_lex.proofs.StepLemmas.{find-token, fail-kind, fail-token, stuck-finds, stuck-none, stuck-at, fail-empty, found-barren}
use Rattle.gs_lex.proofs.steps.token_far.Goals as goal
use Rattle.gs_lex.proofs.steps.token_far.Goals.{else-not-is_stuck-via-then-not-is_stuck+else-not-is_end, else-not-is_stuck-via-else-not-is_stuck}

pub returns-then-scan-eq0-clause-fits : goal.returns-then-scan-eq0-clause-fits
returns-then-scan-eq0-clause-fits c h =
    let s = c.read_on-is_stuck.result.0 in
    let x = c.args.rest.now in
    let g = c.read_on-is_stuck.ensures.scanned c.args.at.updates h.scanned in
    let k = stuck-at c.read_on-is_stuck.result.1 c.args.is_end c.args.at.updates x s (c.read_on-is_stuck.ensures.stuck c.args.is_end c.args.at.updates h.scanned h.barren)
    (λ p q. elim c.else-not-is_stuck.branch [ else-not-is_stuck-via-then-not-is_stuck+else-not-is_end w ↦ Prim.cc (sym q, w.if-not-is_end.false) | else-not-is_stuck-via-else-not-is_stuck w ↦ Prim.cc (sym p, w.if-not-is_stuck.false) ]) in
    fail-empty c.args.is_end c.args.at x s c.requires.between c.requires.begins g k c.if-scan-eq0.true

pub returns-in-None-clause-fits : goal.returns-in-None-clause-fits
returns-in-None-clause-fits c h =
    let s = c.read_on-is_stuck.result.0 in
    let x = c.args.rest.now in
    let g = c.read_on-is_stuck.ensures.scanned c.args.at.updates h.scanned in
    let k = stuck-at c.read_on-is_stuck.result.1 c.args.is_end c.args.at.updates x s (c.read_on-is_stuck.ensures.stuck c.args.is_end c.args.at.updates h.scanned h.barren)
    (λ p q. elim c.else-not-is_stuck.branch [ else-not-is_stuck-via-then-not-is_stuck+else-not-is_end w ↦ Prim.cc (sym q, w.if-not-is_end.false) | else-not-is_stuck-via-else-not-is_stuck w ↦ Prim.cc (sym p, w.if-not-is_stuck.false) ]) in
    fail-token c.args.is_end c.args.at x c.requires.between c.requires.begins (stuck-none c.args.is_end c.args.at.updates x s g k c.in-None.is)

pub returns-in-Some-token_kind-clause-fits : goal.returns-in-Some-token_kind-clause-fits
returns-in-Some-token_kind-clause-fits c h =
    let s = c.read_on-is_stuck.result.0 in
    let x = c.args.rest.now in
    let g = c.read_on-is_stuck.ensures.scanned c.args.at.updates h.scanned in
    let k = stuck-at c.read_on-is_stuck.result.1 c.args.is_end c.args.at.updates x s (c.read_on-is_stuck.ensures.stuck c.args.is_end c.args.at.updates h.scanned h.barren)
    (λ p q. elim c.else-not-is_stuck.branch [ else-not-is_stuck-via-then-not-is_stuck+else-not-is_end w ↦ Prim.cc (sym q, w.if-not-is_end.false) | else-not-is_stuck-via-else-not-is_stuck w ↦ Prim.cc (sym p, w.if-not-is_stuck.false) ]) in
    let l : s.best_len ≤ length x = omega (arith, c.read_on-is_stuck.ensures.within, c.read_on-is_stuck.ensures.best_within) in
    find-token c.args.is_end c.args.at x c.in-Some.terminal s.best_len c.barren_after-barren.result c.in-Some-token_kind.kind c.requires.between
    (stuck-finds c.args.is_end c.args.at.updates x s c.in-Some.terminal g k c.in-Some.is) (sym c.in-Some-token_kind.ensures) l
    (found-barren c.args.is_end c.args.at.updates x s c.args.at.barren c.in-Some.terminal c.barren_after-barren.result g k c.in-Some.is l h.barren c.barren_after-barren.ensures)

pub returns-in-None-token_kind-clause-fits : goal.returns-in-None-token_kind-clause-fits
returns-in-None-token_kind-clause-fits c h =
    let s = c.read_on-is_stuck.result.0 in
    let x = c.args.rest.now in
    let g = c.read_on-is_stuck.ensures.scanned c.args.at.updates h.scanned in
    let k = stuck-at c.read_on-is_stuck.result.1 c.args.is_end c.args.at.updates x s (c.read_on-is_stuck.ensures.stuck c.args.is_end c.args.at.updates h.scanned h.barren)
    (λ p q. elim c.else-not-is_stuck.branch [ else-not-is_stuck-via-then-not-is_stuck+else-not-is_end w ↦ Prim.cc (sym q, w.if-not-is_end.false) | else-not-is_stuck-via-else-not-is_stuck w ↦ Prim.cc (sym p, w.if-not-is_stuck.false) ]) in
    fail-kind c.args.is_end c.args.at x c.in-Some.terminal s.best_len c.requires.between
    (stuck-finds c.args.is_end c.args.at.updates x s c.in-Some.terminal g k c.in-Some.is) (sym c.in-None-token_kind.ensures)
