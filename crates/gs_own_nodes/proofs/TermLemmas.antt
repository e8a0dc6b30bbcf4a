-- Terms that are made of an IRI or a literal are no blank nodes, and so every request may have them.
use Rattle.std.proofs.Common.{ℕ, List, length}
use Rattle.std.specs.Prelude.{nat_le, Option, Some, None, Result, IfOk, codes}
use Rattle.std.specs.Option.{IfSome}
use Rattle.gs_model.specs.Limits.{max_term_bytes}
use Rattle.gs_model.specs.Terms.{Term, Iri, Literal, Typed, text_of, is_term}
use Rattle.gs_escape.specs.Tokens.{rest_after, string_of}
use Rattle.gs_term.specs.Making.{made}
use Rattle.gs_triples.specs.Symbols.{TermToken, Symbol, ATerm}
use Rattle.gs_triples.specs.Meanings.{Fault, Context, made_of, simple, tagged, iri_text, iri, typed}
use Rattle.gs_own_nodes.specs.Own.{NamesOwn}
use Rattle.gs_own_nodes.proofs.AnswerLemmas.{chosen, mapped, chained}

-- making a term keeps it
pub made_own : (r : ℕ) (t : Term) → NamesOwn r t → IfOk (made t) (NamesOwn r)
made_own r t own =
    let P : Result Term Fault → Type 0 = λ q. IfOk q (NamesOwn r) in
    chosen P (is_term t) _ _ (chosen P (nat_le (length (text_of t)) max_term_bytes) _ _ own tt) tt

-- so does making one whose parts may lack their forms
made_of_own : (r : ℕ) (o : Option Term) → IfSome o (NamesOwn r) → IfOk (made_of o) (NamesOwn r)
unfolding made_of
made_of_own r None own = tt
made_of_own r (Some t) own = made_own r t own

-- a literal without a suffix
pub simple_own : (r : ℕ) (x : List ℕ) → IfOk (simple x) (NamesOwn r)
unfolding simple
simple_own r x = made_of_own r _ (mapped (NamesOwn r) _ (λ l. tt) (string_of x))

-- a literal with a language tag
pub tagged_own : (r : ℕ) (x tag : List ℕ) → IfOk (tagged x tag) (NamesOwn r)
unfolding tagged
tagged_own r x tag = made_of_own r _ (chained (NamesOwn r) _ (λ l. mapped (NamesOwn r) _ (λ t. tt) (rest_after (codes "@") tag)) (string_of x))

-- a literal with both of its parts by their texts
pub written_own : (r : ℕ) (x d : List ℕ) → IfOk (made_of (Some (Literal x (Typed d)))) (NamesOwn r)
written_own r x d = made_of_own r (Some (Literal x (Typed d))) tt

module _ {Value Triple : Type 0} where
  -- an IRI
  pub iri_own : (r : ℕ) (env : Context Value Triple) (w : TermToken) → IfOk (iri env w) (NamesOwn r)
  unfolding iri
  iri_own r env w = made_of_own r _ (mapped (NamesOwn r) Iri (λ x. tt) (iri_text env w))

  -- a literal with a datatype
  pub typed_own : (r : ℕ) (env : Context Value Triple) (x : List ℕ) (t : Symbol) → IfOk (typed env x t) (NamesOwn r)
  unfolding typed
  typed_own r env x (ATerm w) = made_of_own r _ (chained (NamesOwn r) _ (λ l. mapped (NamesOwn r) _ (λ d. tt) (iri_text env w)) (string_of x))
  typed_own r env x t = tt
