-- What a text says, by the tokens that it is cut into.
use Rattle.std.proofs.Common.{◌≡◌, ℕ, false, List, ◌++◌, refl, sym, ap, subst, ◌∙◌, append-nil}
use Rattle.std.specs.Prelude.{string_bytes}
use Rattle.std.proofs.lemmas.List.{map-append}
use Rattle.gs_model.specs.Triples.{RdfTriple}
use Rattle.gs_model.specs.declared.refusals.Refusal.{Refusal}
use Rattle.gs_model.specs.declared.refusals.Refusal.TheVariants as refusal
use Rattle.gs_machine.specs.Machines.{joined, rest, AreSettled, Begins}
use Rattle.gs_lex.specs.Tokens as lexer
use Rattle.gs_lex.specs.Tokens.{Lexeme, IsCut}
use Rattle.gs_lex.specs.Cuts.{cut_of_text}
use Rattle.gs_lex.specs.Lexers as lexing
use Rattle.gs_lex.specs.Lexers.{MayGoQuietly}
use Rattle.gs_lex.specs.Pieces.{left_in}
use Rattle.gs_lex.proofs.OneCutLemmas.{cut-one}
use Rattle.gs_lex.proofs.CutLemmas.{cut-from, stands-goes-on}
use Rattle.gs_blank.specs.Numbers.{no_numbers}
use Rattle.gs_body.specs.Bodies.{Whole, Faulty, Meaning, Statement, Reports, all_stated, end_after}
use Rattle.gs_body.proofs.LeadingLemmas.{led-meaning, triples_of-append, end_after-append}
use Rattle.gs_triples.specs.Symbols.{Symbol, symbol_of, symbols_of}
use Rattle.gs_document.specs.Documents.{start}
use Rattle.gs_document.specs.Program.{document}
use Rattle.gs_document.specs.States.{Between}
use Rattle.gs_document.specs.Machine.{turtle}
use Rattle.gs_document.proofs.ReaderLemmas.{machine_reports}
use Rattle.gs_parse.specs.Views.{state_of}
use Rattle.gs_turtle.specs.Documents.{ended_by, meaning_by}
use Rattle.gs_turtle.specs.Portions.{end_of, ReportsAfter}
use Rattle.gs_turtle.specs.Readers.{unread, IsLedBy, meaning_for}
use Rattle.gs_turtle.specs.declared.readers.TurtleReader.{TurtleReader}
use Rattle.gs_turtle.proofs.PortionLemmas.{ended-joined}
use Rattle.gs_turtle.proofs.QuietLemmas.{quiet_end}

-- the end of a text changes nothing of what it states
pub ended-states : (e : lexer.CutEnd) (t : Meaning) → (ended_by e t).0 ≡ t.0
ended-states lexer.AtEnd t = refl
ended-states (lexer.AtFault n) (rs, Whole) = refl
ended-states (lexer.AtFault n) (rs, Faulty f) = refl

-- a text that is cut so
pub meaning_cut : (b : List ℕ) (r : ℕ) (x : List ℕ) (ts : List Lexeme) (e : lexer.CutEnd) → IsCut false x ts e
    → meaning_by b r x ≡ ended_by e (rest turtle (Between (start b r) no_numbers) (symbols_of ts))
unfolding meaning_by
meaning_cut b r x ts e c =
    let same = cut-one false lexer.Between 0 0 x (cut_of_text false x).0 ts (cut_of_text false x).1 e (cut-from false lexer.Between 0 0 x) c in
    ap (λ (z : List Lexeme). ended_by (cut_of_text false x).1 (document b r z)) same.0
    ∙ ap (λ (z : lexer.CutEnd). ended_by z (document b r ts)) same.1
    ∙ ap (ended_by e) (sym (machine_reports b r ts))

-- after the tokens that a reader took
pub meaning_on : (a : TurtleReader) (x : List ℕ) (ts : List RdfTriple) (l : IsLedBy a x ts) (z : List ℕ) (us : List Lexeme) (e : lexer.CutEnd) → IsCut false z (l.lexemes ++ us) e
    → meaning_for a z ≡ joined l.parsed.statements (ended_by e (end_of a.parser us))
meaning_on a x ts l z us e c =
    meaning_cut (string_bytes a.base) a.request z (l.lexemes ++ us) e c
    ∙ ap (λ (s : List Symbol). ended_by e (rest turtle (unread a) s)) (map-append symbol_of l.lexemes us)
    ∙ ap (ended_by e) (led-meaning turtle (unread a) (state_of a.parser) a.parser.last (symbols_of l.lexemes) (symbols_of us) ts l.parsed)
    ∙ ended-joined e l.parsed.statements (end_of a.parser us)

-- what a refusal reports of the rest of a text it reports of the whole
pub reports_joined : (e : Refusal) (last : ℕ) (ss : List Statement) (t s : Meaning) → last ≡ end_after 0 ss → s ≡ joined ss t → ReportsAfter last e t → Reports e s
reports_joined (refusal.Syntax at) last ss t s p q h = record {
  broken = ap (λ (u : Meaning). u.1) q ∙ h.0;
  place = h.1 ∙ ap (λ n. end_after n t.0) p ∙ sym (end_after-append 0 ss t.0) ∙ ap (λ (u : Meaning). end_after 0 u.0) (sym q);
}
reports_joined refusal.TermTooLong last ss t s p q h = ap (λ (u : Meaning). u.1) q ∙ h
reports_joined refusal.NoMemory last ss t s p q h = tt
reports_joined refusal.Closed last ss t s p q h = tt
reports_joined refusal.WrongPhase last ss t s p q h = h
reports_joined refusal.BadSeat last ss t s p q h = h
reports_joined refusal.LastNumber last ss t s p q h = h
reports_joined refusal.StoreFull last ss t s p q h = h
reports_joined refusal.NotInProfile last ss t s p q h = h

-- what was given is a front of what is said
pub begun : (a : TurtleReader) (x : List ℕ) (ts : List RdfTriple) → IsLedBy a x ts → (y : List ℕ) → Begins (all_stated (meaning_for a (x ++ y)).0) ts
begun a x ts l y =
    let g = stands-goes-on false a.lexer.at (left_in a.lexer) x l.lexemes l.lexed y in
    let t = ended_by g.1 (end_of a.parser g.0) in (
      all_stated t.0,
      ap (λ (s : Meaning). all_stated s.0) (meaning_on a x ts l (x ++ y) g.0 g.1 g.2) ∙ triples_of-append l.parsed.statements t.0 ∙ ap (λ z. z ++ all_stated t.0) (sym l.parsed.given),
    )

-- And all that is settled by a front of the text, where the tokens are settled by it, and it may go on quietly.
pub all-settled : (a : TurtleReader) (x front : List ℕ) (ts : List RdfTriple) (l : IsLedBy a x ts) → lexing.AreSettledTokens false front l.lexemes → MayGoQuietly false front l.lexemes
    → AreSettled (λ z. all_stated (meaning_for a z).0) front ts
all-settled a x front ts l h q = record {
  stay = λ y.
      let e = (cut_of_text false (front ++ y)).1 in
      let c = cut-from false lexer.Between 0 0 (front ++ y) in
      let g = h.stay y (cut_of_text false (front ++ y)).0 e c in
      let t = ended_by e (end_of a.parser g.0) in (
        all_stated t.0,
        ap (λ (s : Meaning). all_stated s.0) (meaning_on a x ts l (front ++ y) g.0 e (subst (λ z. IsCut false (front ++ y) z e) g.1 c))
            ∙ triples_of-append l.parsed.statements t.0 ∙ ap (λ z. z ++ all_stated t.0) (sym l.parsed.given),
      );
  are_all = λ more f.
      let e : all_stated (meaning_for a (front ++ q.onward)).0 ≡ ts =
      ap (λ (s : Meaning). all_stated s.0) (meaning_on a x ts l (front ++ q.onward) q.last q.ending q.cut)
      ∙ triples_of-append l.parsed.statements (ended_by q.ending (end_of a.parser q.last)).0
      ∙ ap (λ z. all_stated l.parsed.statements ++ z) (ap all_stated (ended-states q.ending (end_of a.parser q.last)) ∙ quiet_end (state_of a.parser) q.last q.quiet)
      ∙ append-nil (all_stated l.parsed.statements) ∙ sym l.parsed.given in
      subst (λ z. Begins z more) e (f q.onward);
}
