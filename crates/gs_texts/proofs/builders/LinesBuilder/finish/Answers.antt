use Rattle.std.proofs.Common.{arith, ap, ◌∙◌, ◌≡◌, ◌++◌, length}
use Rattle.std.proofs.lemmas.Result.{IfOk-weaker}
use Rattle.gs_texts.specs.Lines.{Written, written, lines_placed}
use Rattle.gs_texts.specs.Building.{Built}
use Rattle.gs_texts.proofs.LineLemmas.{there_shared, lines_shared}
use Rattle.gs_texts.proofs.builders.LinesBuilder.finish.Goals as goal

pub later-requires-clause-there : goal.later-requires-clause-there
later-requires-clause-there c =
    there_shared c.self.inside.texts.now c.in_ok-texts.texts c.self.inside.tails c.self.inside.lines.items c.in_ok-texts.ensures
    c.self.invariant.there (c.self.invariant.sealed c.if-is_sealed.true)

pub later-requires-clause-room : goal.later-requires-clause-room
later-requires-clause-room c =
    let same = lines_shared c.self.inside.texts.now c.in_ok-texts.texts c.self.inside.tails c.self.inside.lines.items c.in_ok-texts.ensures
    (c.self.invariant.sealed c.if-is_sealed.true) in
    omega (arith, ap length same, c.self.invariant.counted, c.in_ok-bytes.ensures.room)

pub returns-then-size-gt0 : goal.returns-then-size-gt0
returns-then-size-gt0 c =
    let lines = lines_placed c.in_ok-texts.texts c.self.inside.tails c.self.inside.lines.items in
    let same = lines_shared c.self.inside.texts.now c.in_ok-texts.texts c.self.inside.tails c.self.inside.lines.items c.in_ok-texts.ensures
    (c.self.invariant.sealed c.if-is_sealed.true) in
    IfOk-weaker c.later.result (λ (l : Written). l ≡ written (c.in_ok-bytes.bytes.items ++ lines)) (λ (l : Written). l.items ≡ c.args.self.items)
    (λ (l : Written) (is : l ≡ written (c.in_ok-bytes.bytes.items ++ lines)).
    ap (λ (w : Written). w.items) is ∙ (ap (λ x. x ++ lines) c.in_ok-bytes.ensures.empty ∙ (same ∙ ap (λ (b : Built). b.items) c.self.view_is)))
    c.later.ensures
