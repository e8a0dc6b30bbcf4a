-- A literal whose datatype is known as a term.
use Rattle.std.proofs.Common.{◌≡◌, ℕ, ◌<◌, true, false, cond, List, length, refl, sym, ap, ◌∙◌, arith, Ok, Err}
use Rattle.std.specs.Prelude.{Option, Some, None, option_map, option_and_then, nat_le}
use Rattle.std.specs.Str.{bytes_eq}
use Rattle.std.proofs.lemmas.Bool.Decides.{nat_tests}
use Rattle.std.proofs.Common.{length-append, [], ◌∷◌}
use Rattle.gs_model.specs.Iris.{is_absolute}
use Rattle.gs_model.specs.Limits.{max_term_bytes}
use Rattle.gs_model.specs.Terms.{Term, Iri, Literal, Typed, xsd_string, suffix, text_of}
use Rattle.gs_model.specs.declared.faults.Fault.{Fault}
use Rattle.gs_model.specs.declared.faults.Fault.TheVariants as fault
use Rattle.gs_model.proofs.TextLemmas.{same_text}
use Rattle.gs_escape.specs.Tokens.{string_of}
use Rattle.gs_term.specs.Making.{made}
use Rattle.gs_term.proofs.MakingLemmas.{suffix_other, length-literal}
use Rattle.gs_triples.specs.Meanings.{Context, made_of, iri_text, iri, typed}
use Rattle.gs_triples.specs.Symbols.{TermToken, ATerm}
use Rattle.gs_token_terms.specs.Plain.{iri_name}
use Rattle.gs_token_terms.proofs.IriLemmas.{iri_length}

-- the text of a literal is too long where that of its datatype is
long_name : (form d : List ℕ) → nat_le (length (text_of (Iri d))) max_term_bytes ≡ false → nat_le (length (text_of (Literal form (Typed d)))) max_term_bytes ≡ false
long_name form d h =
    let size = iri_length d in
    let whole = length-literal form (Typed d) in
    let long : max_term_bytes < length (text_of (Iri d)) = grind (arith, nat_tests) in
    let longer : max_term_bytes < length (suffix (Typed d)) = elim (bytes_eq d xsd_string) as (λ b. b ≡ bytes_eq d xsd_string → max_term_bytes < length (suffix (Typed d))) [
      | true ↦ λ e. let n : length d ≡ 39 = ap length (same_text d xsd_string (sym e)) in absurd (omega arith)
      | false ↦ λ e. rw (suffix_other d e) (omega (arith, length-append d (62 ∷ [])))
    ] refl in
    let much : max_term_bytes < length (text_of (Literal form (Typed d))) = omega (arith, whole, longer) in
    grind (arith, nat_tests)

module _ (form : List ℕ) where
  -- where the datatype is an IRI
  named : (o : Option (List ℕ)) (t : Term) → Ok t ≡ made_of (option_map Iri o) → made (Literal form (Typed (iri_name t))) ≡ made_of (option_map (λ d. Literal form (Typed d)) o)
  unfolding made_of
  named None t h = absurd (cc)
  named (Some d) t h =
      let same : t ≡ Iri d = elim (is_absolute d) as (λ a. Ok t ≡ cond a (cond (nat_le (length (text_of (Iri d))) max_term_bytes) (Ok (Iri d)) (Err fault.TermTooLong)) (Err fault.Syntax) → t ≡ Iri d) [
        | true ↦ elim (nat_le (length (text_of (Iri d))) max_term_bytes) as (λ b. Ok t ≡ cond b (Ok (Iri d)) (Err fault.TermTooLong) → t ≡ Iri d) [ true ↦ λ k. cc | false ↦ λ k. absurd (cc) ]
        | false ↦ λ k. absurd (cc)
      ] h in
      ap (λ u. made (Literal form (Typed (iri_name u)))) same

  -- and where it has a fault
  faulty : (o : Option (List ℕ)) (e : Fault) → Err e ≡ made_of (option_map Iri o) → Err e ≡ made_of (option_map (λ d. Literal form (Typed d)) o)
  unfolding made_of
  faulty None e h = h
  faulty (Some d) e h =
      elim (is_absolute d) as (λ a. Err e ≡ cond a (cond (nat_le (length (text_of (Iri d))) max_term_bytes) (Ok (Iri d)) (Err fault.TermTooLong)) (Err fault.Syntax) → Err e ≡ cond a (cond (nat_le (length (text_of (Literal form (Typed d)))) max_term_bytes) (Ok (Literal form (Typed d))) (Err fault.TermTooLong)) (Err fault.Syntax)) [
        | true ↦ elim (nat_le (length (text_of (Iri d))) max_term_bytes) as (λ b. nat_le (length (text_of (Iri d))) max_term_bytes ≡ b → Err e ≡ cond b (Ok (Iri d)) (Err fault.TermTooLong) → Err e ≡ cond (nat_le (length (text_of (Literal form (Typed d)))) max_term_bytes) (Ok (Literal form (Typed d))) (Err fault.TermTooLong)) [
          | true ↦ λ l k. absurd (cc)
          | false ↦ λ l k. k ∙ sym (ap (λ b. cond b (Ok (Literal form (Typed d))) (Err fault.TermTooLong)) (long_name form d l))
        ] refl
        | false ↦ λ k. k
      ] h

module _ {Value Triple : Type 0} (env : Context Value Triple) (x form : List ℕ) (w : TermToken) (is : string_of x ≡ Some form) where
  pub typed_ok : (t : Term) → Ok t ≡ iri env w → made (Literal form (Typed (iri_name t))) ≡ typed env x (ATerm w)
  unfolding iri typed
  typed_ok t h = named form (iri_text env w) t h ∙ sym (ap (λ o. made_of (option_and_then (λ l. option_map (λ d. Literal l (Typed d)) (iri_text env w)) o)) is)

  pub typed_err : (e : Fault) → Err e ≡ iri env w → Err e ≡ typed env x (ATerm w)
  unfolding iri typed
  typed_err e h = faulty form (iri_text env w) e h ∙ sym (ap (λ o. made_of (option_and_then (λ l. option_map (λ d. Literal l (Typed d)) (iri_text env w)) o)) is)
