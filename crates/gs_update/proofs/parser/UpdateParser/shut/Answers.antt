use Rattle.std.proofs.Common.{ℕ, sym, ap, ◌∙◌, subst}
use Rattle.std.specs.Prelude.{◌==◌, Some, None}
use Rattle.std.specs.declared.vec.Vec.{Vec}
use Rattle.std.specs.declared.alloc.Global.{Global}
use Rattle.std.proofs.lemmas.Result.{on_ok_weaker}
use Rattle.gs_term.specs.declared.patterns.Pattern.{Pattern}
use Rattle.gs_triple_lists.specs.Lists.{Listed}
use Rattle.gs_triple_values.specs.Typed.{terms, patterns}
use Rattle.gs_triple_parser.specs.Views.{scope_context, scope_numbers, numbers_now}
use Rattle.gs_update_text.specs.Requests.{Inserts, DeletesData, DeletesWhere}
use Rattle.gs_update_text.specs.Operations.{some_patterns}
use Rattle.gs_update_text.specs.States.{quiet}
use Rattle.gs_update_places.specs.Views.{scope_of, state_at, IsSoundPlace}
use Rattle.gs_update_places.specs.Places.{concluded, closed_at}
use Rattle.gs_update_places.specs.declared.places.Place.{Place}
use Rattle.gs_update_places.specs.declared.places.Place.TheVariants as place
use Rattle.gs_update.proofs.PlaceLemmas.{are_some, are_none, concluded_alike, closes, closes_nothing, led_there}
use Rattle.gs_update.proofs.parser.UpdateParser.shut.Goals as goal

pub returns-in_ok-triples-in-Inserting : goal.returns-in_ok-triples-in-Inserting
returns-in_ok-triples-in-Inserting c =
    let b = c.in-Inserting.block in
    let s = c.into_parts-scope.result.0 in
    let P = c.in_ok-triples-in-Inserting.triples.items in
    on_ok_weaker c.conclude.result
    (closes c.args.self.now c.replace.new.dest c.conclude.new.self (place.Inserting b) c.args.end (concluded (Some (Inserts P)) (scope_context s) (scope_numbers s) c.args.end)
    (concluded_alike s (scope_of terms b) (numbers_now b.parser) (Some (Inserts P)) (Some (Inserts b.triples.items)) c.args.end
    c.into_parts-scope.ensures.context c.into_parts-scope.ensures.numbers
    (ap (λ (l : Listed). Some (Inserts l.items)) (c.in_ok-triples-in-Inserting.ensures ∙ c.into_parts-scope.ensures.triples))) c.in-Inserting.ensures.value)
    c.conclude.ensures

pub returns-in_ok-triples-in-Deleting : goal.returns-in_ok-triples-in-Deleting
returns-in_ok-triples-in-Deleting c =
    let b = c.in-Deleting.block in
    let s = c.into_parts-scope-in-Deleting.result.0 in
    let P = c.in_ok-triples-in-Deleting.triples.items in
    on_ok_weaker c.conclude-in-Deleting.result
    (closes c.args.self.now c.replace.new.dest c.conclude-in-Deleting.new.self (place.Deleting b) c.args.end (concluded (Some (DeletesData P)) (scope_context s) (scope_numbers s) c.args.end)
    (concluded_alike s (scope_of terms b) (numbers_now b.parser) (Some (DeletesData P)) (Some (DeletesData b.triples.items)) c.args.end
    c.into_parts-scope-in-Deleting.ensures.context c.into_parts-scope-in-Deleting.ensures.numbers
    (ap (λ (l : Listed). Some (DeletesData l.items)) (c.in_ok-triples-in-Deleting.ensures ∙ c.into_parts-scope-in-Deleting.ensures.triples))) c.in-Deleting.ensures.value)
    c.conclude-in-Deleting.ensures

pub returns-then-is_empty : goal.returns-then-is_empty
returns-then-is_empty c =
    let b = c.in-Seeking.block in
    let s = c.into_parts-scope-in-Seeking.result.0 in
    let P = c.into_parts-scope-in-Seeking.result.1.items in
    on_ok_weaker c.stand.result
    (closes c.args.self.now c.replace.new.dest c.stand.new.self (place.Seeking b) c.args.end (concluded None (scope_context s) (scope_numbers s) c.args.end)
    (concluded_alike s (scope_of patterns b) (numbers_now b.parser) None (some_patterns b.triples.items) c.args.end c.into_parts-scope-in-Seeking.ensures.context c.into_parts-scope-in-Seeking.ensures.numbers
    (are_none P (sym (c.is_empty.ensures ∙ ap (λ (n : ℕ). n == 0) c.into_parts-scope-in-Seeking.result.1.ok.0) ∙ c.if-is_empty.true) ∙ ap (λ (v : Vec Pattern Global). some_patterns v.items) c.into_parts-scope-in-Seeking.ensures.triples)) c.in-Seeking.ensures.value)
    c.stand.ensures

pub returns-else-is_empty : goal.returns-else-is_empty
returns-else-is_empty c =
    let b = c.in-Seeking.block in
    let s = c.into_parts-scope-in-Seeking.result.0 in
    let P = c.into_parts-scope-in-Seeking.result.1.items in
    on_ok_weaker c.conclude-in-Seeking.result
    (closes c.args.self.now c.replace.new.dest c.conclude-in-Seeking.new.self (place.Seeking b) c.args.end (concluded (Some (DeletesWhere P)) (scope_context s) (scope_numbers s) c.args.end)
    (concluded_alike s (scope_of patterns b) (numbers_now b.parser) (Some (DeletesWhere P)) (some_patterns b.triples.items) c.args.end c.into_parts-scope-in-Seeking.ensures.context c.into_parts-scope-in-Seeking.ensures.numbers
    (are_some P (sym (c.is_empty.ensures ∙ ap (λ (n : ℕ). n == 0) c.into_parts-scope-in-Seeking.result.1.ok.0) ∙ c.if-is_empty.false) ∙ ap (λ (v : Vec Pattern Global). some_patterns v.items) c.into_parts-scope-in-Seeking.ensures.triples)) c.in-Seeking.ensures.value)
    c.conclude-in-Seeking.ensures

pub returns-in_default : goal.returns-in_default
returns-in_default c =
    let after = c.replace.ensures.after in
    led_there c.args.self.now c.replace.new.dest (closed_at c.args.self.now.place c.args.end)
    (record {
      state = ap (λ (p : Place). quiet (state_at p)) after ∙ closes_nothing c.replace.result c.args.end c.in_default.not-Inserting c.in_default.not-Deleting c.in_default.not-Seeking ∙ ap (λ (p : Place). closed_at p c.args.end) c.replace.ensures.value;
      sound = subst IsSoundPlace (sym after) tt;
    })
