-- A reference under an absolute base, and a string alone.
use Rattle.std.proofs.Common.{◌≡◌, ℕ, List, true, false, refl, ap, sym, ◌∙◌}
use Rattle.std.specs.Prelude.{Some, Result, Ok, Err, option_map, ◌&&◌}
use Rattle.std.specs.List.{list_all}
use Rattle.gs_model.specs.Characters.{is_iri_char}
use Rattle.gs_model.specs.declared.refusals.Refusal.{Refusal}
use Rattle.gs_model.specs.declared.refusals.Refusal.TheVariants.{NoMemory, Syntax}
use Rattle.gs_model.specs.Iris.{is_absolute}
use Rattle.gs_model.specs.Terms.{Literal, Typed, xsd_string}
use Rattle.gs_iri.specs.Resolving.{is_resolvable, resolved, ReportsReference}
use Rattle.gs_iri.proofs.SchemeLemmas.{resolved_absolute}
use Rattle.gs_escape.specs.Tokens.{iri_of, string_of}
use Rattle.gs_escape.proofs.CharacterLemmas.{iri_of-characters}
use Rattle.gs_triples.specs.Meanings.{made_of, simple}

pub resolvable : (base x r : List ℕ) → is_absolute base ≡ true → iri_of x ≡ Some r → is_resolvable base r ≡ true
resolvable base x r h e = ap (λ b. b && list_all is_iri_char r) h ∙ iri_of-characters x r e

pub absolute_still : (base x r : List ℕ) → is_absolute base ≡ true → iri_of x ≡ Some r → is_absolute (resolved base r) ≡ true
absolute_still base x r h e = resolved_absolute base r h (iri_of-characters x r e)

-- a refusal for no want of memory is that of a reference that cannot be resolved
pub unresolvable : (base r : List ℕ) (o : Result (Unit {0}) Refusal) (e : Refusal) → o ≡ Err e → (o ≡ Err NoMemory → ⊥) → ReportsReference base r o → is_resolvable base r ≡ false
unresolvable base r (Ok u) e h n p = absurd (cc)
unresolvable base r (Err NoMemory) e h n p = absurd (n refl)
unresolvable base r (Err (Syntax at)) e h n p = p.0
unresolvable base r (Err _) e h n p = absurd p

-- a string whose meaning is known
pub simple_is : (x l m : List ℕ) → string_of x ≡ Some l → m ≡ l → made_of (Some (Literal m (Typed xsd_string))) ≡ simple x
unfolding simple
simple_is x l m e s = ap (λ (y : List ℕ). made_of (Some (Literal y (Typed xsd_string)))) s ∙ sym (ap (λ o. made_of (option_map (λ (y : List ℕ). Literal y (Typed xsd_string)) o)) e)
