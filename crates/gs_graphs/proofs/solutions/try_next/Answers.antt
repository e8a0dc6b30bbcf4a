use Rattle.std.proofs.Common.{◌≡◌, ◌+◌, true, refl, ap, ◌∙◌, subst, length, take, arith}
use Rattle.std.specs.List.{slice_set, slice_index_or}
use Rattle.gs_graphs.specs.declared.solutions.Place.{Place}
use Rattle.gs_graphs.specs.Solving.{Chooses, marked_by}
use Rattle.gs_graphs.proofs.StepLemmas.{Tries, passed_on, chosen_on, marked_on}
use Rattle.gs_graphs.proofs.solutions.try_next.Goals as goal

pub returns-then-not-branch : goal.returns-then-not-branch
returns-then-not-branch c =
    let old = c.args.place.now in
    let p = c.index-patterns-depth.result in
    let t = c.index-triples-chosen.result in
    let depth : c.len-depth.result ≡ length old.choices.items = omega arith in
    let h : Tries c.args.triples.now c.args.patterns.now old p t = record {
      place = c.requires.place;
      within = c.requires.next;
      pattern = c.index-patterns-depth.is ∙ ap (λ n. slice_index_or c.args.patterns.now n p) depth;
      triple = c.index-triples-chosen.is;
    } in
    let new : Place = record { choices = old.choices; bound = c.choose.new.bound; next = old.next + 1 } in
    passed_on c.args.triples.now c.args.patterns.now old new p t c.args.marks.now h (subst (Chooses old.bound.items c.choose.new.bound.items p t) c.if-not-branch.true c.in_ok-choose.ensures) refl refl

pub returns-then-depth-patterns : goal.returns-then-depth-patterns
returns-then-depth-patterns c =
    let old = c.args.place.now in
    let p = c.index-patterns-depth.result in
    let t = c.index-triples-chosen.result in
    let depth : c.len-depth.result ≡ length old.choices.items = omega arith in
    let h : Tries c.args.triples.now c.args.patterns.now old p t = record {
      place = c.requires.place;
      within = c.requires.next;
      pattern = c.index-patterns-depth.is ∙ ap (λ n. slice_index_or c.args.patterns.now n p) depth;
      triple = c.index-triples-chosen.is;
    } in
    let new : Place = record { choices = c.push.new.self; bound = c.choose.new.bound; next = 0 } in
    let chooses = subst (Chooses old.bound.items c.choose.new.bound.items p t) c.if-not-branch.false c.in_ok-choose.ensures in
    chosen_on c.args.triples.now c.args.patterns.now old new p t c.args.marks.now h (omega (arith, c.if-depth-patterns.true)) c.in_ok-push.ensures.items chooses.1 refl

pub returns : goal.returns
returns c =
    let old = c.args.place.now in
    let p = c.index-patterns-depth.result in
    let t = c.index-triples-chosen.result in
    let depth : c.len-depth.result ≡ length old.choices.items = omega arith in
    let before : c.len-before.result ≡ length old.bound.items = omega arith in
    let h : Tries c.args.triples.now c.args.patterns.now old p t = record {
      place = c.requires.place;
      within = c.requires.next;
      pattern = c.index-patterns-depth.is ∙ ap (λ n. slice_index_or c.args.patterns.now n p) depth;
      triple = c.index-triples-chosen.is;
    } in
    let new : Place = record { choices = old.choices; bound = c.truncate.new.self; next = old.next + 1 } in
    let chooses = subst (Chooses old.bound.items c.choose.new.bound.items p t) c.if-not-branch.false c.in_ok-choose.ensures in
    let marks = ap (λ ms. slice_set ms old.next true) (c.mark.ensures ∙ ap (λ is. marked_by is c.args.marks.now) c.as_slice.ensures.value) in
    marked_on c.args.triples.now c.args.patterns.now old new p t c.choose.new.bound.items c.args.marks.now _ h c.requires.sorted (omega (arith, c.if-depth-patterns.false)) chooses refl
    (c.truncate.ensures.items ∙ ap (λ n. take n c.choose.new.bound.items) before) refl marks
