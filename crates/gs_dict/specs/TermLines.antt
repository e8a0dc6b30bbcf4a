-- Lines of terms that are built up by numbers.
use Rattle.std.specs.Prelude.{◌≢◌, ℕ, ◌<◌, List, [], ◌++◌, length, refl}
use Rattle.std.specs.Coded.{Coded, code_by, coded×, coded_ℕ, coded_list, coded_option}
use Rattle.gs_model.specs.Codes.{term_code}
use Rattle.gs_model.specs.Terms.{Term, text_of}
use Rattle.gs_model.specs.Texts.{IsCanonical}
use Rattle.gs_dict.specs.declared.chains.Entry.{Entry}
use Rattle.gs_dict.specs.Numbering.{Terms}
use Rattle.gs_dict.specs.Chains.{AreInBlocks, text_at}
use Rattle.gs_dict.specs.Kept.{terms_of}
use Rattle.gs_texts.specs.Building.{Built}
use Rattle.gs_texts.specs.Lines.{line_of_texts}

-- the terms by number, the tail of the lines that follow, and the bytes of the lines so far
pub record TermLines : Type 0 where
  pub terms : Terms
  pub tail : List ℕ
  pub items : List ℕ

-- it is stored as the triple of its fields
abbrev pub term_lines_code : Coded TermLines
term_lines_code =
    code_by (Terms × (List ℕ × List ℕ)) (coded× (coded_list (coded_option term_code)) (coded× (coded_list coded_ℕ) (coded_list coded_ℕ))) (λ b. (b.terms, (b.tail, b.items)))
    (λ p. record { terms = p.0; tail = p.1.0; items = p.1.1 }) (λ _. refl)

-- no lines of these terms, and an empty tail
abbrev pub lines_of_terms : Terms → TermLines
lines_of_terms terms = record { terms = terms; tail = []; items = [] }

-- the same lines, with another tail for those that follow
abbrev pub ending_with : TermLines → List ℕ → TermLines
ending_with b tail = record { terms = b.terms; tail = tail; items = b.items }

-- one line more, of three terms
abbrev pub with_terms : TermLines → Term → Term → Term → TermLines
with_terms b subject predicate object =
    record { terms = b.terms; tail = b.tail; items = b.items ++ line_of_texts (text_of subject) (text_of predicate) (text_of object) b.tail }

-- what lines of texts are by the numbers of entries
abbrev pub lines_by_numbers : Built → List Entry → TermLines
lines_by_numbers b es = record { terms = terms_of b.blocks es; tail = b.tail; items = b.items }

-- each entry has no text in the blocks, or one of a term
pub record HaveTexts (blocks : List (List ℕ)) (es : List Entry) : Type 0 where
  pub placed : AreInBlocks blocks es
  pub canonical : (i : ℕ) → i < length es → text_at blocks es i ≢ [] → IsCanonical (text_at blocks es i)
