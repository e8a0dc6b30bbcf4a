-- The same base, prefixes and request, for triples of another language.
use Rattle.std.proofs.Common.{◌≡◌, ℕ, List, refl, ap}
use Rattle.std.specs.Prelude.{Option, Some, None, option_map, option_and_then}
use Rattle.std.specs.FinMap as finite
use Rattle.gs_model.specs.Terms.{Iri, Literal, Typed}
use Rattle.gs_iri.specs.Resolving.{resolved}
use Rattle.gs_escape.specs.Tokens.{iri_of, string_of, split_at_colon}
use Rattle.gs_triples.specs.Languages.{Language}
use Rattle.gs_triples.specs.Symbols.{TermToken, Reference, Namespace, Name, Label, Plain, Variable, Symbol, ATerm}
use Rattle.gs_triples.specs.Meanings.{Context, in_language, made_of, name_text, iri_text, iri, typed}
use Rattle.gs_triples.specs.Directives.{with_prefix, with_base}

module _ {Value Triple V T : Type 0} (l : Language Value Triple) (env : Context V T) where
  -- a token has the same IRI
  pub iri_text-in_language : (w : TermToken) → iri_text (in_language l env) w ≡ iri_text env w
  unfolding name_text
  iri_text-in_language (Reference x e) = refl
  iri_text-in_language (Namespace x) = refl
  iri_text-in_language (Name x) = refl
  iri_text-in_language (Label x) = refl
  iri_text-in_language (Plain x d) = refl
  iri_text-in_language (Variable x) = refl

  -- and so the same term
  pub iri-in_language : (w : TermToken) → iri (in_language l env) w ≡ iri env w
  unfolding iri
  iri-in_language w = ap (λ o. made_of (option_map Iri o)) (iri_text-in_language w)

  -- a string with a datatype is the same literal
  pub typed-in_language : (x : List ℕ) (t : Symbol) → typed (in_language l env) x t ≡ typed env x t
  unfolding typed
  typed-in_language x (ATerm w) =
      ap (λ o. made_of (option_and_then (λ (s : List ℕ). option_map (λ (d : List ℕ). Literal s (Typed d)) o) (string_of x))) (iri_text-in_language w)
  typed-in_language x t = refl

  -- a base, where a reference has this IRI
  based_by : (o : Option (List ℕ))
      → option_map (λ (i : List ℕ). record (in_language l env) { base = resolved env.base i }) o
      ≡ option_map (λ e. in_language l e) (option_map (λ (i : List ℕ). record env { base = resolved env.base i }) o)
  based_by None = refl
  based_by (Some i) = refl

  -- a base is set alike
  pub with_base-in_language : (x : List ℕ) → with_base (in_language l env) x ≡ option_map (λ e. in_language l e) (with_base env x)
  unfolding with_base
  with_base-in_language x = based_by (iri_of x)

  -- a prefix, where a reference has this IRI
  prefixed_by : (p : List ℕ) (o : Option (List ℕ))
      → option_map (λ (i : List ℕ). record (in_language l env) { prefixes = finite.insert env.prefixes p (resolved env.base i) }) o
      ≡ option_map (λ e. in_language l e) (option_map (λ (i : List ℕ). record env { prefixes = finite.insert env.prefixes p (resolved env.base i) }) o)
  prefixed_by p None = refl
  prefixed_by p (Some i) = refl

  -- a prefix of this name
  named_by : (x : List ℕ) (q : Option (List ℕ × List ℕ))
      → option_and_then (λ (r : List ℕ × List ℕ). option_map (λ (i : List ℕ). record (in_language l env) { prefixes = finite.insert env.prefixes r.0 (resolved env.base i) }) (iri_of x)) q
      ≡ option_map (λ e. in_language l e) (option_and_then (λ (r : List ℕ × List ℕ). option_map (λ (i : List ℕ). record env { prefixes = finite.insert env.prefixes r.0 (resolved env.base i) }) (iri_of x)) q)
  named_by x None = refl
  named_by x (Some q) = prefixed_by q.0 (iri_of x)

  -- a prefix is declared alike
  pub with_prefix-in_language : (p x : List ℕ) → with_prefix (in_language l env) p x ≡ option_map (λ e. in_language l e) (with_prefix env p x)
  unfolding with_prefix
  with_prefix-in_language p x = named_by x (split_at_colon p)
