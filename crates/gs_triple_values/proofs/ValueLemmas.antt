-- The values of tokens, in a language of the code.
use Rattle.std.proofs.Common.{◌≡◌, ℕ, List, true, cond, refl, sym, ap, ◌∙◌}
use Rattle.std.specs.Prelude.{codes, Option, Some, None, option_map, Result, Ok, Err}
use Rattle.gs_model.specs.Terms.{Term, Blank}
use Rattle.gs_blank.specs.Numbers.{Numbers, label_number}
use Rattle.gs_escape.specs.Tokens.{rest_after}
use Rattle.gs_triples.specs.Meanings.{Fault, Syntax, iri, value_of, labelled, word}
use Rattle.gs_triples.specs.Symbols.{Label}
use Rattle.gs_triples.proofs.LanguageLemmas.{iri-in_language}
use Rattle.gs_triple_values.specs.Languages.{TypedLanguage, language_of}
use Rattle.gs_token_terms.specs.Views.{token_at, context_in, context_of}
use Rattle.gs_triple_values.specs.Terms.{iri_value}
use Rattle.gs_triple_values.specs.declared.allowed.Allowed.{Allowed}
use Rattle.gs_token_terms.specs.declared.contexts.Context.{Context}
use Rattle.gs_token_terms.specs.declared.symbols.TermToken.{TermToken}

module _ {S V X T K : Type 0} (l : TypedLanguage S V X T K) (a : Allowed) (c : Context) where
  -- an IRI's value, by its term
  iri_is : (w : TermToken) (m : Result Term Fault) → m ≡ iri (context_of c) (token_at w) → value_of (context_in (language_of l a) c) m ≡ iri_value l c a w
  iri_is w m h = ap (value_of (context_in (language_of l a) c)) (h ∙ sym (iri-in_language (language_of l a) (context_of c) (token_at w)))

  -- where it has one
  pub iri_ok : (w : TermToken) (t : Term) → Ok t ≡ iri (context_of c) (token_at w) → Ok (l.grammar.of_term t) ≡ iri_value l c a w
  iri_ok w t h = iri_is w (Ok t) h

  -- and where it has a fault
  pub iri_err : (w : TermToken) (e : Fault) → Err e ≡ iri (context_of c) (token_at w) → Err e ≡ iri_value l c a w
  iri_err w e h = iri_is w (Err e) h

  -- the blank node of a number, if there is one
  node_of : Option (ℕ × Numbers) → Result (X × Numbers) Fault
  node_of None = Err Syntax
  node_of (Some p) = Ok (l.grammar.of_term (Blank c.request p.0), p.1)

  -- a label's blank node, by its number
  labelled_by : (n : Numbers) (o : Option (List ℕ)) → node_of (option_map (label_number n) o) ≡ labelled (context_in (language_of l a) c) n o
  unfolding node_of
  labelled_by n None = refl
  labelled_by n (Some x) = refl

  -- where labels may stand
  word_by : (n : Numbers) (x : List ℕ) → a.nodes ≡ true → labelled (context_in (language_of l a) c) n (rest_after (codes "_:") x) ≡ word (context_in (language_of l a) c) n (Label x)
  unfolding word
  word_by n x h = sym (ap (λ b. cond b (labelled (context_in (language_of l a) c) n (rest_after (codes "_:") x)) (Err Syntax)) h)

  -- what is no label
  pub no_label : (n : Numbers) (x : List ℕ) → a.nodes ≡ true → None ≡ option_map (label_number n) (rest_after (codes "_:") x) → Err Syntax ≡ word (context_in (language_of l a) c) n (Label x)
  unfolding node_of
  no_label n x h e = ap node_of e ∙ labelled_by n (rest_after (codes "_:") x) ∙ word_by n x h

  -- the blank node of a label
  pub label_node : (n m : Numbers) (x : List ℕ) (k : ℕ) → a.nodes ≡ true → Some (k, m) ≡ option_map (label_number n) (rest_after (codes "_:") x)
      → Ok (l.grammar.of_term (Blank c.request k), m) ≡ word (context_in (language_of l a) c) n (Label x)
  unfolding node_of
  label_node n m x k h e = ap node_of e ∙ labelled_by n (rest_after (codes "_:") x) ∙ word_by n x h
