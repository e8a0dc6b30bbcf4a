-- The terms and the values of the code's tokens, in the code's context.
use Rattle.std.specs.Prelude.{◌≡◌, ℕ, Result, IfOk}
use Rattle.std.specs.Result.{result_map_both}
use Rattle.gs_blank.specs.Numbers.{Numbers}
use Rattle.gs_triples.specs.Goals.{first_is, rest_is}
use Rattle.gs_triples.specs.Meanings.{Fault, with_numbers}
use Rattle.gs_triples.specs.Meanings as meaning
use Rattle.gs_triple_values.specs.Languages.{TypedLanguage, language_of}
pub use Rattle.gs_token_terms.specs.Terms.{typed_of}
use Rattle.gs_token_terms.specs.Views.{token_at, symbol_at, context_in}
use Rattle.gs_triple_values.specs.declared.allowed.Allowed.{Allowed}
use Rattle.gs_token_terms.specs.declared.contexts.Context.{Context}
use Rattle.gs_token_terms.specs.declared.symbols.TermToken.{TermToken}
use Rattle.gs_token_terms.specs.declared.symbols.Symbol.{Symbol}

-- what an answer of the code stands for, or its fault
abbrev pub stood : {S X : Type 0} → (S → X) → Result S Fault → Result X Fault
stood f m = result_map_both f (λ e. e) m

-- it answers what stands for this value, or its fault
abbrev pub StandsFor : {S X E : Type 0} → (S → X) → Result (Result S Fault) E → Result X Fault → Type 0
StandsFor f r x = IfOk r (λ m. stood f m ≡ x)

-- it answers this value, or its fault, and leaves these numbers
abbrev pub IsNumbered : {X E : Type 0} → Result (Result X Fault) E → Numbers → Result (X × Numbers) Fault → Type 0
IsNumbered r n x = IfOk r (λ m. with_numbers n m ≡ x)

-- it answers what stands for it
abbrev pub StandsNumbered : {S X E : Type 0} → (S → X) → Result (Result S Fault) E → Numbers → Result (X × Numbers) Fault → Type 0
StandsNumbered f r n x = IfOk r (λ m. with_numbers n (stood f m) ≡ x)

-- in a language of the code
module _ {S V X T K : Type 0} (l : TypedLanguage S V X T K) where
  -- the object of a cell
  abbrev pub first_of : Context → ℕ → X → T
  first_of env m o = first_is (context_in l.grammar env) m o

  -- what stands after a cell
  abbrev pub rest_of : Context → ℕ → X → T
  rest_of env m o = rest_is (context_in l.grammar env) m o

  -- the value of an IRI
  abbrev pub iri_value : Context → Allowed → TermToken → Result X Fault
  iri_value env a w = meaning.value_of (context_in (language_of l a) env) (meaning.iri (context_in (language_of l a) env) (token_at w))

  -- the value of a verb
  abbrev pub verb_value : Context → Allowed → Symbol → Result X Fault
  verb_value env a t = meaning.verb (context_in (language_of l a) env) (symbol_at t)

  -- the value of one token
  abbrev pub word_value : Context → Allowed → Numbers → TermToken → Result (X × Numbers) Fault
  word_value env a n w = meaning.word (context_in (language_of l a) env) n (token_at w)

  -- and of a subject
  abbrev pub subject_value : Context → Allowed → Numbers → TermToken → Result (X × Numbers) Fault
  subject_value env a n w = meaning.subject (context_in (language_of l a) env) n (token_at w)
