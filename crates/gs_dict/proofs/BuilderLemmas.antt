-- Lines of terms, by the numbers of their entries.
use Rattle.std.proofs.Common.{◌≡◌, ◌≢◌, ℕ, ◌<◌, List, [], ◌++◌, length, Some, ap, sym, ◌∙◌, subst}
use Rattle.std.specs.Option.{unwrap_or}
use Rattle.gs_model.specs.Terms.{Iri, text_of}
use Rattle.gs_model.specs.Texts.{term_of}
use Rattle.gs_texts.specs.Places.{text_in}
use Rattle.gs_texts.specs.Lines.{line_of_texts}
use Rattle.gs_texts.specs.Building.{Built, with_line}
use Rattle.gs_dict.specs.declared.chains.Entry.{Entry}
use Rattle.gs_dict.specs.Numbering.{term_given, term_at, HasTerm}
use Rattle.gs_dict.specs.Chains.{dict_entry_at, text_at}
use Rattle.gs_dict.specs.Kept.{terms_of}
use Rattle.gs_dict.specs.TermLines.{TermLines, lines_by_numbers, with_terms, HaveTexts}
use Rattle.gs_dict.proofs.EmptyLemmas.{given_some}
use Rattle.gs_dict.proofs.TermLemmas.{get-terms_of, has_inside, has_text}

-- a number of a term is that of an entry
pub number_within : (b : Built) (es : List Entry) (d : TermLines) (n : ℕ) → lines_by_numbers b es ≡ d → HasTerm d.terms n → n < length es
number_within b es d n is has = has_inside b.blocks es n (subst (λ (t : TermLines). HasTerm t.terms n) (sym is) has)

-- the text of the term of a number is that at its entry's place
gathered_text :
    (blocks : List (List ℕ)) (es : List Entry) (n : ℕ) → HaveTexts blocks es → HasTerm (terms_of blocks es) n
    → text_in blocks (dict_entry_at es n).place ≡ text_of (term_at (terms_of blocks es) n)
unfolding text_at
gathered_text blocks es n have has =
    let inside : n < length es = has_inside blocks es n has in
    let some : text_at blocks es n ≢ [] = has_text blocks es n has in
    let given : term_given (terms_of blocks es) n ≡ Some (term_of (text_at blocks es n)) =
    get-terms_of blocks es n inside ∙ given_some (text_at blocks es n) some in
    sym (have.canonical n inside some).canonical ∙ ap (λ o. text_of (unwrap_or o (Iri []))) (sym given)

-- a line of the texts of three entries is one of three terms
pub line_gathered :
    (b more : Built) (es : List Entry) (d : TermLines) (s p o : ℕ) → HaveTexts b.blocks es → lines_by_numbers b es ≡ d
    → HasTerm d.terms s → HasTerm d.terms p → HasTerm d.terms o
    → more ≡ with_line b (text_in b.blocks (dict_entry_at es s).place) (text_in b.blocks (dict_entry_at es p).place) (text_in b.blocks (dict_entry_at es o).place)
    → lines_by_numbers more es ≡ with_terms d (term_at d.terms s) (term_at d.terms p) (term_at d.terms o)
line_gathered b more es d s p o have is has_s has_p has_o added =
    let was : (n : ℕ) → HasTerm d.terms n → HasTerm (terms_of b.blocks es) n = λ n has. subst (λ (t : TermLines). HasTerm t.terms n) (sym is) has in
    let subject = gathered_text b.blocks es s have (was s has_s) in
    let predicate = gathered_text b.blocks es p have (was p has_p) in
    let object = gathered_text b.blocks es o have (was o has_o) in
    let P : TermLines → Type 0 = λ z. lines_by_numbers more es ≡ with_terms z (term_at z.terms s) (term_at z.terms p) (term_at z.terms o) in
    subst P is
    (ap (λ (z : Built). lines_by_numbers z es) added
    ∙ (λ i. record { terms = terms_of b.blocks es; tail = b.tail; items = b.items ++ line_of_texts (subject i) (predicate i) (object i) b.tail }))
