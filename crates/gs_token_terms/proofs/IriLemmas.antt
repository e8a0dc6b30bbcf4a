-- IRIs of names and of references, as terms.
use Rattle.std.proofs.Common.{◌≡◌, ℕ, ◌+◌, ◌≤◌, true, List, [], ◌∷◌, ◌++◌, length, sym, ap, arith, length-append}
use Rattle.std.specs.Prelude.{Option, Some, None, Err, option_map}
use Rattle.std.specs.List.{list_all}
use Rattle.std.specs.Str.{IsUtf8}
use Rattle.std.proofs.lemmas.Str.{IsUtf8-drop, IsCharBoundary-after_ascii}
use Rattle.gs_model.specs.Characters.{is_iri_char}
use Rattle.gs_model.specs.Iris.{is_absolute}
use Rattle.gs_model.specs.Limits.{max_term_bytes}
use Rattle.gs_model.specs.Terms.{Iri, text_of}
use Rattle.gs_model.specs.Texts.{IsCanonical}
use Rattle.gs_iri.specs.Resolving.{resolved}
use Rattle.gs_iri.proofs.SchemeLemmas.{resolved_absolute}
use Rattle.gs_escape.specs.Tokens.{iri_of, local_of}
use Rattle.gs_term.specs.Making.{made}
use Rattle.gs_term.proofs.MakingLemmas.{canonical}
use Rattle.gs_triples.specs.Meanings.{Syntax, made_of}
use Rattle.gs_token_terms.proofs.PlainLemmas.{plain_local}

-- a name without escapes
pub joined_is : (x y : List ℕ) → list_all is_iri_char y ≡ true → IsUtf8 y → made (Iri (x ++ y)) ≡ made_of (option_map Iri (option_map (λ l. x ++ l) (local_of y)))
unfolding made_of
joined_is x y e u = sym (ap (λ o. made_of (option_map Iri (option_map (λ (l : List ℕ). x ++ l) o))) (plain_local y e u))

-- a reference whose meaning is known
pub resolved_is : (base x iri : List ℕ) → iri_of x ≡ Some iri → made (Iri (resolved base iri)) ≡ made_of (option_map Iri (option_map (resolved base) (iri_of x)))
unfolding made_of
resolved_is base x iri e = sym (ap (λ o. made_of (option_map Iri (option_map (resolved base) o))) e)

-- no text
pub no_text : (o : Option (List ℕ)) → None ≡ o → Err Syntax ≡ made_of (option_map Iri o)
unfolding made_of
no_text o e = ap (λ p. made_of (option_map Iri p)) e

-- how long the text of an IRI is
pub iri_length : (x : List ℕ) → length (text_of (Iri x)) ≡ length x + 2
iri_length x = omega (arith, length-append x (62 ∷ []))

-- what stands after a mark of ASCII is text
pub after_mark : (x : List ℕ) → IsUtf8 (60 ∷ x) → IsUtf8 x
after_mark x u = IsUtf8-drop (60 ∷ x) 1 u (IsCharBoundary-after_ascii (60 ∷ x) 0 u (omega arith) (omega arith))

-- the bytes of a resolved reference in its marks
pub resolved_canonical : (base r bytes : List ℕ) → is_absolute base ≡ true → list_all is_iri_char r ≡ true → IsUtf8 (60 ∷ resolved base r) → bytes ≡ text_of (Iri (resolved base r))
    → length (resolved base r) + 2 ≤ max_term_bytes → IsCanonical bytes
resolved_canonical base r bytes a e u b s =
    canonical (Iri (resolved base r)) bytes b (resolved_absolute base r a e) (after_mark (resolved base r) u) (omega (arith, ap length b, iri_length (resolved base r)))
