use Rattle.std.proofs.Common.{◌≡◌, [], ◌∷◌, ◌++◌, length, true, sym, ap, ◌∙◌, subst, arith}
use Rattle.crossbeam_utils.specs.Seq.{cell_view}
use Rattle.gs_pass.specs.declared.knowledge.Knowledge.{Knowledge}
use Rattle.gs_pass.specs.declared.stamps.Stamp.{Stamp}
use Rattle.gs_pass.specs.Stamps.{stamp_of}
use Rattle.gs_pass.specs.Claims.{are_of, rises, receipts_of}
use Rattle.gs_pass.specs.Tallies.{AddsReceipt}
use Rattle.gs_pass.proofs.ClaimLemmas.{are_of-push, rises-push, receipts_of-enter}
use Rattle.gs_pass.proofs.stamp_logs.StampLog.enter.Goals as goal

pub invariant_of-pass-clause-own : goal.invariant_of-pass-clause-own
invariant_of-pass-clause-own g c =
    let claims = ap (λ (k : Knowledge). k.claims) c.note.ensures.token.2 in
    let seat : are_of c.args.pass.now.record.seat (cell_view c.note.new.token).claims ≡ true =
    subst (λ cs. are_of c.args.pass.now.record.seat cs ≡ true) (sym claims) (are_of-push _ _ _ c.args.pass.now.own (ap (λ (s : Stamp). s.seat) c.words-words.ensures)) in
    subst (λ n. are_of n (cell_view c.note.new.token).claims ≡ true) (sym c.enter.ensures.seat) seat

pub invariant_of-pass-clause-rise : goal.invariant_of-pass-clause-rise
invariant_of-pass-clause-rise g c =
    let claims = ap (λ (k : Knowledge). k.claims) c.note.ensures.token.2 in
    subst (λ cs. rises 0 cs ≡ true) (sym claims) (rises-push 0 (cell_view c.args.self.now.keeper).all _ (stamp_of c.words-words.result) c.args.pass.now.rise c.note.ensures.stand (omega arith))

pub invariant_of-pass-clause-backed : goal.invariant_of-pass-clause-backed
invariant_of-pass-clause-backed g c =
    let claims = ap (λ (k : Knowledge). k.claims) c.note.ensures.token.2 in
    let place = length (cell_view c.args.self.now.keeper).all in
    let receipt = ap (λ (s : Stamp). s.receipt) c.words-words.ensures in
    let adds = subst (λ r. AddsReceipt c.args.pass.now.record.receipts.items r c.enter.new.self.receipts.items) (sym receipt) c.enter.ensures.entered.0 in
    receipts_of-enter _ (place, stamp_of c.words-words.result) _ _ c.args.pass.now.backed adds ∙ sym (ap receipts_of claims)

pub returns-clause-stamps : goal.returns-clause-stamps
returns-clause-stamps g c =
    ap (λ (k : Knowledge). k.all) c.note.ensures.keeper.1 ∙ ap (λ s. (cell_view c.args.self.now.keeper).all ++ s ∷ []) c.words-words.ensures
