-- A body without a fault is a document of the grammar's rules.
use Rattle.std.proofs.Common.{◌≡◌, ℕ, false, List, refl, ap, subst, ◌∙◌}
use Rattle.gs_lex.specs.Tokens as lexer
use Rattle.gs_lex.specs.Tokens.{IsCut}
use Rattle.gs_lex.specs.Cuts.{cut_of_text}
use Rattle.gs_lex.proofs.CutLemmas.{cut-from}
use Rattle.gs_body.specs.Bodies.{Whole, Faulty, Meaning, Statement}
use Rattle.gs_document.specs.Program.{document}
use Rattle.gs_document.proofs.DocumentLemmas.{document_read, document_covered}
use Rattle.gs_document.proofs.ReaderLemmas.{machine_reports}
use Rattle.gs_turtle.specs.Documents.{ended_by, meaning_by, IsBody}
use Rattle.gs_turtle.proofs.SaidLemmas.{meaning_cut}

whole-ends : (e : lexer.CutEnd) (d : Meaning) (S : List Statement) → ended_by e d ≡ (S, Whole) → (e ≡ lexer.AtEnd) × (d ≡ (S, Whole))
whole-ends lexer.AtEnd d S h = (refl, h)
whole-ends (lexer.AtFault n) (ss, Whole) S h = absurd (Prim.cc (ap (λ (t : Meaning). t.1) h))
whole-ends (lexer.AtFault n) (ss, Faulty f) S h = absurd (Prim.cc (ap (λ (t : Meaning). t.1) h))

pub body-covered : (b : List ℕ) (r : ℕ) (x : List ℕ) (S : List Statement) → meaning_by b r x ≡ (S, Whole) → IsBody b r x S
unfolding meaning_by
body-covered b r x S h =
    let c = cut_of_text false x in
    let w = whole-ends c.1 (document b r c.0) S h in
    record {
      lexemes = c.0;
      cut = subst (λ (e : lexer.CutEnd). IsCut false x c.0 e) w.0 (cut-from false lexer.Between 0 0 x);
      stated = document_covered b r c.0 S w.1;
    }

pub body-read : (b : List ℕ) (r : ℕ) (x : List ℕ) (S : List Statement) → IsBody b r x S → meaning_by b r x ≡ (S, Whole)
body-read b r x S h = meaning_cut b r x h.lexemes lexer.AtEnd h.cut ∙ machine_reports b r h.lexemes ∙ document_read b r h.lexemes S h.stated
