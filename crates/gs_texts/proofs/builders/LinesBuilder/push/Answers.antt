use Rattle.std.proofs.Common.{ap, refl, sym, subst, length-drop, ◌∙◌, ◌≡◌, ◌+◌, length, true}
use Rattle.gs_texts.specs.declared.parts.LinePlaces.{LinePlaces}
use Rattle.gs_texts.specs.Lines.{line_of_texts}
use Rattle.gs_texts.specs.Building.{Built, with_line}
use Rattle.gs_texts.specs.Places.{LiesInBlock, text_in}
use Rattle.gs_texts.proofs.BuildingLemmas.{holds_pushed, built_pushed}
use Rattle.gs_texts.proofs.builders.LinesBuilder.push.Goals as goal
use Rattle.gs_texts.proofs.builders.LinesBuilder.push.Goals.{then-self, else-self}

pub invariant_of-self-2 : goal.invariant_of-self-2
invariant_of-self-2 c =
    let line : LinePlaces = record { subject = c.args.subject; predicate = c.args.predicate; object = c.args.object; tail_from = c.self.inside.start; tail_count = c.tail_count.result } in
    holds_pushed c.self.inside.texts.now c.self.inside.tails c.self.inside.start c.self.inside.lines.items c.push.new.self.items line c.in_ok-push.ensures.items c.self.invariant.begun refl (c.tail_count.ensures ∙ (ap (λ (b : Built). length b.tail) (sym c.self.view_is) ∙ length-drop c.self.inside.start c.self.inside.tails))
    c.self.inside.size c.in-Some.size c.self.inside.is_sealed c.if-self.self c.self.invariant
    (subst (λ (b : Built). LiesInBlock b.blocks c.args.subject) (sym c.self.view_is) c.requires.subject)
    (subst (λ (b : Built). LiesInBlock b.blocks c.args.predicate) (sym c.self.view_is) c.requires.predicate)
    (subst (λ (b : Built). LiesInBlock b.blocks c.args.object) (sym c.self.view_is) c.requires.object)
    (subst
    (λ (b : Built). c.in-Some.size ≡ length b.items + length (line_of_texts (text_in b.blocks c.args.subject) (text_in b.blocks c.args.predicate) (text_in b.blocks c.args.object) b.tail))
    (sym c.self.view_is) c.in-Some.ensures.1)
    (elim c.if-self.branch [
      | then-self w ↦ λ (t : c.if-self.self ≡ true). (w.if-self.true, w.is_sealed_line-self-inside.ensures.0 (sym w.self-is ∙ t))
      | else-self w ↦ λ (t : c.if-self.self ≡ true). absurd (cc)
    ])

pub returns-clause-ok : goal.returns-clause-ok
returns-clause-ok c =
    let line : LinePlaces = record { subject = c.args.subject; predicate = c.args.predicate; object = c.args.object; tail_from = c.self.inside.start; tail_count = c.tail_count.result } in
    built_pushed c.self.inside.texts.now c.self.inside.tails c.self.inside.start c.self.inside.lines.items c.push.new.self.items line c.in_ok-push.ensures.items c.self.invariant.begun refl (c.tail_count.ensures ∙ (ap (λ (b : Built). length b.tail) (sym c.self.view_is) ∙ length-drop c.self.inside.start c.self.inside.tails))
    ∙ ap (λ (b : Built). with_line b (text_in b.blocks c.args.subject) (text_in b.blocks c.args.predicate) (text_in b.blocks c.args.object)) c.self.view_is
