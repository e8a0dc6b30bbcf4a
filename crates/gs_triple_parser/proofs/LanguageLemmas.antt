-- Contexts of the code, for triples of another language.
use Rattle.std.proofs.Common.{◌≡◌, ℕ, List, Bool, true, false, refl, sym, ap, subst, ◌∙◌}
use Rattle.std.specs.Prelude.{Option, Some, None, option_map, if◌then◌else◌, Result, Ok, Err, string_bytes}
use Rattle.gs_model.specs.Terms.{Term}
use Rattle.gs_model.specs.Triples.{RdfTriple}
use Rattle.gs_blank.specs.Numbers.{Numbers}
use Rattle.gs_triples.specs.Languages.{Language}
use Rattle.gs_triples.specs.Meanings.{Context, Fault, in_language, typed}
use Rattle.gs_triples.specs.Symbols.{Symbol}
use Rattle.gs_triples.specs.Directives.{with_prefix, with_base}
use Rattle.gs_triples.proofs.LanguageLemmas.{typed-in_language, with_prefix-in_language, with_base-in_language}
use Rattle.gs_triple_values.specs.Languages.{TypedLanguage, language_of}
use Rattle.gs_triple_values.specs.Contexts.{ChangesContext}
use Rattle.gs_triple_parser.specs.Frames.{stack_of}
use Rattle.gs_triple_values.specs.Views.{context_in, context_of}
use Rattle.gs_triple_parser.specs.Views.{scope_context, scope_numbers, context_now, pending_triples, state_at, triples_state}
use Rattle.gs_triple_parser.specs.Machine.{Declares}
use Rattle.gs_token_terms.specs.declared.contexts.Context.{Context as Known}
use Rattle.gs_triple_parser.specs.declared.scopes.Scope.{Scope}
use Rattle.gs_triple_parser.specs.declared.parser.TripleParser.{TripleParser}

-- a string with a datatype means the same term
pub typed_in : {X T : Type 0} (l : Language X T) (c : Known) (x : List ℕ) (t : Symbol) (m : Result Term Fault) → m ≡ typed (context_of c) x t → m ≡ typed (context_in l c) x t
typed_in l c x t m e = e ∙ sym (typed-in_language l (context_of c) x t)

module _ {X T V W : Type 0} (l : Language X T) where
  -- an answer that there is a context, for another language
  answered : (b : Bool) (new : Context V W) (o : Option (Context V W)) → (if b then Some new else None) ≡ o
      → (if b then Some (in_language l new) else None) ≡ option_map (λ e. in_language l e) o
  answered true new o h = ap (option_map (λ (e : Context V W). in_language l e)) h
  answered false new o h = ap (option_map (λ (e : Context V W). in_language l e)) h

  -- a change of the context is one for each language
  pub ChangesContext-in_language : {E : Type 0} (r : Result Bool E) (old new : Context V W) (o : Option (Context V W)) → ChangesContext r old new o
      → ChangesContext r (in_language l old) (in_language l new) (option_map (λ e. in_language l e) o)
  ChangesContext-in_language (Err e) old new o h = record { changed = tt; kept = tt }
  ChangesContext-in_language (Ok b) old new o h = record { changed = answered b new o h.changed; kept = λ f. ap (λ (e : Context V W). in_language l e) (h.kept f) }

module _ {L S V X T K : Type 0} (l : TypedLanguage S V X T K) (p : TripleParser L S V X T K) (s : Scope) where
  -- a parser in another scope has the state that it has there
  moved : (env : Context X T) → context_now l (record p { scope = s }) ≡ env → (n : Numbers) → scope_numbers s ≡ n
      → triples_state l (record p { scope = s }) ≡ state_at l p.place (string_bytes p.text) env (stack_of l p.stack) (pending_triples l p) n
  moved env e n m = ap (λ (k : Context X T). state_at l p.place (string_bytes p.text) k (stack_of l p.stack) (pending_triples l p) (scope_numbers s)) e
      ∙ ap (λ k. state_at l p.place (string_bytes p.text) env (stack_of l p.stack) (pending_triples l p) k) m

  -- a change of the scope's context, at the parser
  declared : {E : Type 0} (r : Result Bool E) (o : Option (Context Term RdfTriple)) → ChangesContext r (scope_context p.scope) (scope_context s) o → scope_numbers s ≡ scope_numbers p.scope
      → Declares l r p (record p { scope = s }) (option_map (λ e. in_language (language_of l p.allowed) e) o)
  declared (Err e) o h n = record { context = record { changed = tt; kept = tt }; state = tt; numbers = n; pending = refl }
  declared (Ok b) o h n =
      let c = ChangesContext-in_language (language_of l p.allowed) (Ok b) (scope_context p.scope) (scope_context s) o h in
      record { context = c; state = λ f. moved (context_now l p) (c.kept f) (scope_numbers p.scope) n; numbers = n; pending = refl }

  -- a base is set
  pub base_declared : {E : Type 0} (x : List ℕ) (r : Result Bool E) → ChangesContext r (scope_context p.scope) (scope_context s) (with_base (scope_context p.scope) x) → scope_numbers s ≡ scope_numbers p.scope
      → Declares l r p (record p { scope = s }) (with_base (context_now l p) x)
  base_declared x r h n = subst (λ o. Declares l r p (record p { scope = s }) o) (sym (with_base-in_language (language_of l p.allowed) (scope_context p.scope) x)) (declared r _ h n)

  -- a prefix is declared
  pub prefix_declared : {E : Type 0} (q x : List ℕ) (r : Result Bool E) → ChangesContext r (scope_context p.scope) (scope_context s) (with_prefix (scope_context p.scope) q x) → scope_numbers s ≡ scope_numbers p.scope
      → Declares l r p (record p { scope = s }) (with_prefix (context_now l p) q x)
  prefix_declared q x r h n = subst (λ o. Declares l r p (record p { scope = s }) o) (sym (with_prefix-in_language (language_of l p.allowed) (scope_context p.scope) q x)) (declared r _ h n)
