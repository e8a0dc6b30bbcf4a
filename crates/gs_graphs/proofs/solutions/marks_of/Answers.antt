use Rattle.std.proofs.Common.{◌≡◌, ◌<◌, false, [], refl, ap, ◌∙◌, length}
use Rattle.std.proofs.lemmas.List.{length-replicate}
use Rattle.gs_graphs.specs.declared.solutions.Place.{Place}
use Rattle.gs_graphs.proofs.MarkLemmas.{none_marked, none_wanted}
use Rattle.gs_graphs.proofs.StepLemmas.{first_place, all_left, some_there, none_there}
use Rattle.gs_graphs.proofs.solutions.marks_of.Goals as goal

pub returns-then-is_empty : goal.returns-then-is_empty
returns-then-is_empty c = none_wanted c.args.triples.now c.args.patterns.now c.in_ok-marks.marks.items (c.in_ok-marks.ensures.items_if_clones_equal (λ y h. h)) (none_there _ c.is_empty.result c.is_empty.ensures c.if-is_empty.true)

pub steps-init : goal.steps-init
steps-init c =
    let place : Place = record { choices = c.new.result; bound = c.new-2.result; next = 0 } in
    let some : 0 < length c.args.patterns.now = some_there _ c.is_empty.result c.is_empty.ensures c.if-is_empty.false in
    let marks = c.in_ok-marks.ensures.items_if_clones_equal (λ y h. h) in
    let long : length c.in_ok-marks.marks.items ≡ length c.args.triples.now = ap length marks ∙ length-replicate (length c.args.triples.now) false in (
      first_place c.args.triples.now c.args.patterns.now place c.new.ensures.items c.new-2.ensures.items some,
      long,
      ([], none_marked c.args.triples.now c.in_ok-marks.marks.items marks, all_left c.args.triples.now c.args.patterns.now place c.new.ensures.items refl some),
    )
