-- The transitions of a parser of updates, from those of its place.
use Rattle.std.proofs.Common.{◌++◌, append-nil, ◌≡◌, ◌≢◌, ℕ, true, false, List, [], ◌∷◌, length, refl, sym, ap, ◌∙◌, subst}
use Rattle.std.specs.Prelude.{◌==◌, Option, Some, None}
use Rattle.std.proofs.lemmas.Bool.{false≢true}
use Rattle.std.proofs.Math.Dec.{eqb-suc-zero}
use Rattle.std.proofs.lemmas.List.{map-append}
use Rattle.gs_event.specs.declared.updates.Op.{Op}
use Rattle.gs_blank.specs.Numbers.{Numbers}
use Rattle.std.specs.declared.vec.Vec.{Vec}
use Rattle.std.specs.declared.alloc.Global.{Global}
use Rattle.gs_model.specs.Terms.{Term}
use Rattle.gs_model.specs.Triples.{RdfTriple}
use Rattle.gs_term.specs.declared.patterns.Part.{Part}
use Rattle.gs_term.specs.declared.patterns.Pattern.{Pattern}
use Rattle.gs_triple_lists.specs.Lists.{Listed}
use Rattle.gs_triple_values.specs.declared.kinds.Subject.{Subject}
use Rattle.gs_triple_values.specs.declared.kinds.Verb.{Verb}
use Rattle.gs_triple_values.specs.declared.triple_terms.Terms.{Terms}
use Rattle.gs_triple_values.specs.declared.patterns.Patterns.{Patterns}
use Rattle.gs_triple_parser.specs.Views.{scope_context, scope_numbers}
use Rattle.gs_triple_parser.specs.declared.scopes.Scope.{Scope as CodeScope}
use Rattle.gs_update_text.specs.Requests.{UpdateOperation, DeletesWhere}
use Rattle.gs_update_text.specs.Operations.{Scope, some_patterns}
use Rattle.gs_update_text.specs.States.{UpdateStep, quiet}
use Rattle.gs_update_text.specs.Machine.{syntax_fault}
use Rattle.gs_update_places.specs.Views.{state_at}
use Rattle.gs_update_places.specs.Steps.{LeadsToPlace}
use Rattle.gs_update_places.specs.Places.{concluded, closed_at}
use Rattle.gs_update.specs.Views.{update_operation_of, operations_of}
use Rattle.gs_update.specs.Steps.{Moves}
use Rattle.gs_update_places.specs.declared.blocks.Block.{Block as CodeBlock}
use Rattle.gs_update_places.specs.declared.places.Place.{Place}
use Rattle.gs_update_places.specs.declared.places.Place.TheVariants as place
use Rattle.gs_update.specs.declared.parser.UpdateParser.{UpdateParser}

-- a transition by another name, from a parser that differs in its place
pub moves_from : (p : UpdateParser) (z : Place) (q : UpdateParser) (t u : UpdateStep) → t ≡ u → Moves (record p { place = z }) q t → Moves p q u
moves_from p z q t u e h =
    let moved : Moves p q t = record { state = h.state; operations = h.operations; last = h.last; sound = h.sound } in
    subst (Moves p q) e moved

-- a parser stands where a quiet transition led it
pub led_there : (p : UpdateParser) (z : Place) (t : UpdateStep) → LeadsToPlace z t → Moves p (record p { place = z }) t
led_there p z t l =
    let here : Moves p (record p { place = z }) (quiet (state_at z)) = record { state = refl; operations = sym (append-nil (operations_of p.operations.items)); last = refl; sound = l.sound } in
    subst (Moves p (record p { place = z })) l.state here

-- an operation more, and then the place after it
pub adds_on : (p a q : UpdateParser) (s : CodeScope) (o : Op) (e : ℕ) → a.operations.items ≡ p.operations.items ++ o ∷ [] → a.last ≡ e → Moves a q (quiet (state_at (place.After s)))
    → Moves p q (concluded (Some (update_operation_of o)) (scope_context s) (scope_numbers s) e)
adds_on p a q s o e os l m = record {
  state = m.state;
  operations = m.operations ∙ append-nil (operations_of a.operations.items) ∙ ap operations_of os ∙ map-append update_operation_of p.operations.items (o ∷ []);
  last = m.last ∙ l;
  sound = m.sound;
}

-- some patterns
pub are_some : (P : List Pattern) → (length P == 0) ≡ false → Some (DeletesWhere P) ≡ some_patterns P
are_some [] h = absurd (false≢true (sym h))
are_some (p ∷ P) h = refl

-- or none
pub are_none : (P : List Pattern) → (length P == 0) ≡ true → None ≡ some_patterns P
are_none [] h = refl
are_none (p ∷ P) h = absurd (false≢true (sym (eqb-suc-zero (length P)) ∙ h))

-- a block ends with what its parts make
pub concluded_alike : (s : CodeScope) (env : Scope) (n : Numbers) (o m : Option UpdateOperation) (e : ℕ) → scope_context s ≡ env → scope_numbers s ≡ n → o ≡ m
    → concluded o (scope_context s) (scope_numbers s) e ≡ concluded m env n e
concluded_alike s env n o m e c k h = λ i. concluded (h i) (c i) (k i) e

-- and so does that of the place that a parser was at
pub closes : (p : UpdateParser) (z : Place) (q : UpdateParser) (o : Place) (e : ℕ) (t : UpdateStep) → t ≡ closed_at o e → o ≡ p.place → Moves (record p { place = z }) q t → Moves p q (closed_at p.place e)
closes p z q o e t h is m = moves_from p z q t (closed_at p.place e) (h ∙ ap (λ (x : Place). closed_at x e) is) m

-- in no block nothing ends
pub closes_nothing : (o : Place) (e : ℕ) → ((b : CodeBlock Terms Subject Verb Term RdfTriple Listed) → o ≢ place.Inserting b)
    → ((b : CodeBlock Terms Subject Verb Term RdfTriple Listed) → o ≢ place.Deleting b) → ((b : CodeBlock Patterns Part Part Part Pattern (Vec Pattern Global)) → o ≢ place.Seeking b) → quiet syntax_fault ≡ closed_at o e
closes_nothing (place.Inserting b) e i d s = absurd (i b refl)
closes_nothing (place.Deleting b) e i d s = absurd (d b refl)
closes_nothing (place.Seeking b) e i d s = absurd (s b refl)
closes_nothing o e i d s = refl
