-- What the steps of a reader say of its history.
use Rattle.std.proofs.Common.{◌≡◌, ℕ, false, true, List, [], ◌++◌, refl, sym, ap, subst, ◌∙◌, append_assoc, append-nil}
use Rattle.std.specs.Prelude.{string_bytes}
use Rattle.std.proofs.lemmas.List.{map-append}
use Rattle.gs_model.specs.Triples.{RdfTriple}
use Rattle.gs_model.specs.declared.refusals.Refusal.{Refusal}
use Rattle.gs_machine.specs.Machines.{joined, AreSettled}
use Rattle.gs_lex.specs.Tokens as lexer
use Rattle.gs_lex.specs.Tokens.{Lexeme, IsCut}
use Rattle.gs_lex.specs.Pieces.{LeadsPieces, Holds, left_in}
use Rattle.gs_lex.specs.declared.pieces.PieceLexer.{PieceLexer}
use Rattle.gs_automaton.proofs.BecomeLemmas.{no_end}
use Rattle.gs_lex.proofs.CutLemmas.{stands-goes-on}
use Rattle.gs_lex.proofs.StandingLemmas.{stands-last}
use Rattle.gs_blank.specs.Numbers.{no_numbers}
use Rattle.gs_body.specs.Bodies.{Meaning, Whole, all_stated}
use Rattle.gs_body.specs.Feeding.{Finishes}
use Rattle.gs_body.specs.Leading.{IsLed}
use Rattle.gs_body.proofs.LeadingLemmas.{led-on, triples_of-append}
use Rattle.gs_triples.specs.Symbols.{Symbol, symbol_of, symbols_of}
use Rattle.gs_document.specs.Documents.{start}
use Rattle.gs_document.specs.States.{DocumentState, Between}
use Rattle.gs_document.specs.Machine.{turtle}
use Rattle.gs_parse.specs.Views.{state_of}
use Rattle.gs_parse.specs.declared.parser.Parser.{Parser}
use Rattle.gs_turtle.specs.Documents.{ended_by, meaning_by}
use Rattle.gs_turtle.specs.Portions.{transition_of, end_of, Takes, TakesAll, IsAllRead, ReportsAfter}
use Rattle.gs_turtle.specs.declared.portions.Stop.TheVariants as stop
use Rattle.gs_turtle.specs.Readers.{unread, IsLedBy, meaning_for, KeepsReader, Reads, IsRefused, IsRefusedAtEnd}
use Rattle.gs_turtle.specs.declared.readers.TurtleReader.{TurtleReader}
use Rattle.gs_turtle.proofs.PortionLemmas.{reports-ended, reports-taken, reports-last, ends-taken}
use Rattle.gs_turtle.proofs.SaidLemmas.{meaning_on, reports_joined, all-settled}

-- a step keeps what a reader says, and where it began
pub meaning_of-same : (a b : TurtleReader) → KeepsReader a b → (x : List ℕ) → meaning_for b x ≡ meaning_for a x
meaning_of-same a b k x = ap (λ (z : List ℕ). meaning_by z b.request x) k.base ∙ ap (λ n. meaning_by (string_bytes a.base) n x) k.request

unread-same : (a b : TurtleReader) → KeepsReader a b → unread b ≡ unread a
unread-same a b k = ap (λ (z : List ℕ). Between (start z b.request) no_numbers) k.base ∙ ap (λ n. Between (start (string_bytes a.base) n) no_numbers) k.request

-- one step after another
pub keeps-then : (a b c : TurtleReader) → KeepsReader a b → KeepsReader b c → KeepsReader a c
keeps-then a b c k m = record { base = m.base ∙ k.base; request = m.request ∙ k.request; closed = m.closed ∙ k.closed }

-- a piece leads the lexer of one reader to that of another, with these tokens more, and the text is awaited there
abbrev pub Lexes : TurtleReader → TurtleReader → List ℕ → List Lexeme → Type 0
Lexes a b piece us = (x : List ℕ) (ts : List Lexeme) → LeadsPieces false false a.lexer x ts → IsAllRead false b.lexer (x ++ piece) (ts ++ us)

-- a piece was held, and its tokens taken
pub lexes-held : (a b : TurtleReader) (l : PieceLexer) (p q : Parser) (piece : List ℕ) (o1 o2 : List RdfTriple) → Holds a.lexer l piece → (t : TakesAll false l b.lexer p q o1 o2 stop.Read)
    → Lexes a b piece t.lexemes
lexes-held a b l p q piece o1 o2 h t x ts k = t.stops (x ++ piece) ts (h false x ts k)

-- tokens that the parser took too
abbrev leads-to : (a b : TurtleReader) (piece : List ℕ) (us : List Lexeme) (o1 o2 : List RdfTriple) → KeepsReader a b → Lexes a b piece us → Takes a.parser b.parser us o1 o2
    → (x : List ℕ) (ts : List RdfTriple) → IsLedBy a x ts → IsLedBy b (x ++ piece) (ts ++ all_stated (transition_of a.parser us).1)
leads-to a b piece us o1 o2 k f h x ts l =
    let transition = transition_of a.parser us in
    let on = led-on turtle (unread a) (state_of a.parser) (state_of b.parser) a.parser.last b.parser.last (symbols_of l.lexemes) (symbols_of us) ts transition.1 l.parsed
    (ap (λ (s : DocumentState). (s, transition.1)) (sym h.state)) h.last in
    record {
      lexemes = l.lexemes ++ us;
      lexed = (f x l.lexemes l.lexed).0;
      parsed = subst (λ (s : DocumentState). IsLed turtle s (state_of b.parser) b.parser.last (symbols_of (l.lexemes ++ us)) (ts ++ all_stated transition.1)) (sym (unread-same a b k))
          (subst (λ (z : List Symbol). IsLed turtle (unread a) (state_of b.parser) b.parser.last z (ts ++ all_stated transition.1)) (sym (map-append symbol_of l.lexemes us)) on);
    }

-- a portion was read
pub reads-portion : (a b : TurtleReader) (piece : List ℕ) (us : List Lexeme) (o1 o2 : List RdfTriple) → KeepsReader a b → Lexes a b piece us → Takes a.parser b.parser us o1 o2 → Reads a b piece o1 o2
reads-portion a b piece us o1 o2 k f h =
    let given : List RdfTriple = all_stated (transition_of a.parser us).1 in
    record {
      goes = record { given = given; grown = h.given; leads = leads-to a b piece us o1 o2 k f h };
      settled = λ x ts l front i.
          let waits = (f x l.lexemes l.lexed).1 in
          subst (λ (g : List ℕ → List RdfTriple). AreSettled g front (ts ++ given)) (λ j z. all_stated (meaning_of-same a b k z j).0)
          (all-settled b (x ++ piece) front (ts ++ given) (leads-to a b piece us o1 o2 k f h x ts l) (waits.settled front i) (waits.quiet front i));
    }

-- its tokens have a fault
pub refused-portion : (e : Refusal) (a b : TurtleReader) (piece : List ℕ) (us : List Lexeme) (o1 o2 : List RdfTriple) → Lexes a b piece us → Takes a.parser b.parser us o1 o2
    → ((vs : List Lexeme) → ReportsAfter b.parser.last e (end_of b.parser vs)) → IsRefused a piece e
refused-portion e a b piece us o1 o2 f h k = λ x ts l y.
    let g = stands-goes-on false b.lexer.at (left_in b.lexer) (x ++ piece) (l.lexemes ++ us) (f x l.lexemes l.lexed).0 y in
    let cut : IsCut false ((x ++ piece) ++ y) (l.lexemes ++ (us ++ g.0)) g.1 = subst (λ z. IsCut false ((x ++ piece) ++ y) z g.1) (append_assoc l.lexemes us g.0) g.2 in
    reports_joined e a.parser.last l.parsed.statements (ended_by g.1 (end_of a.parser (us ++ g.0))) (meaning_for a ((x ++ piece) ++ y)) l.parsed.place
    (meaning_on a x ts l ((x ++ piece) ++ y) (us ++ g.0) g.1 cut)
    (reports-taken e a.parser b.parser us g.0 o1 o2 g.1 h (reports-ended e b.parser.last g.1 (end_of b.parser g.0) (k g.0)))

-- after its tokens stands something that is none
pub broken-portion : (e : Refusal) (a : TurtleReader) (l m : PieceLexer) (q : Parser) (piece : List ℕ) (o1 o2 : List RdfTriple) → Holds a.lexer l piece → TakesAll false l m a.parser q o1 o2 stop.Fault
    → ((n : ℕ) → ReportsAfter q.last e (ended_by (lexer.AtFault n) (end_of q []))) → IsRefused a piece e
broken-portion e a l m q piece o1 o2 f t k = λ x ts h y.
    let b = t.stops (x ++ piece) h.lexemes (f false x h.lexemes h.lexed) in
    let end = lexer.AtFault b.place in
    reports_joined e a.parser.last h.parsed.statements (ended_by end (end_of a.parser t.lexemes)) (meaning_for a ((x ++ piece) ++ y)) h.parsed.place
    (meaning_on a x ts h ((x ++ piece) ++ y) t.lexemes end (b.cut y (no_end y))) (reports-last e a.parser q t.lexemes o1 o2 end t.taken (k b.place))

-- the text that led to a reader ends
at-end : (a : TurtleReader) (x : List ℕ) (ts : List RdfTriple) (l : IsLedBy a x ts) → LeadsPieces true false a.lexer x l.lexemes
at-end a x ts l = stands-last false a.lexer.at (left_in a.lexer) x l.lexemes l.lexed

-- and its last tokens have a fault
pub refused-at-end : (e : Refusal) (a : TurtleReader) (m : PieceLexer) (q : Parser) (o1 o2 : List RdfTriple) → TakesAll true a.lexer m a.parser q o1 o2 stop.Read → ReportsAfter q.last e (end_of q [])
    → IsRefusedAtEnd a e
refused-at-end e a m q o1 o2 t h = λ x ts l.
    reports_joined e a.parser.last l.parsed.statements (end_of a.parser t.lexemes) (meaning_for a x) l.parsed.place
    (meaning_on a x ts l x t.lexemes lexer.AtEnd (t.stops x l.lexemes (at-end a x ts l))) (reports-last e a.parser q t.lexemes o1 o2 lexer.AtEnd t.taken h)

-- or something stands after them that is none
pub broken-at-end : (e : Refusal) (a : TurtleReader) (m : PieceLexer) (q : Parser) (o1 o2 : List RdfTriple) → TakesAll true a.lexer m a.parser q o1 o2 stop.Fault
    → ((n : ℕ) → ReportsAfter q.last e (ended_by (lexer.AtFault n) (end_of q []))) → IsRefusedAtEnd a e
broken-at-end e a m q o1 o2 t k = λ x ts l.
    let b = t.stops x l.lexemes (at-end a x ts l) in
    let end = lexer.AtFault b.place in
    let cut : IsCut false x (l.lexemes ++ t.lexemes) end = subst (λ z. IsCut false z (l.lexemes ++ t.lexemes) end) (append-nil x) (b.cut [] (λ _. refl)) in
    reports_joined e a.parser.last l.parsed.statements (ended_by end (end_of a.parser t.lexemes)) (meaning_for a x) l.parsed.place
    (meaning_on a x ts l x t.lexemes end cut) (reports-last e a.parser q t.lexemes o1 o2 end t.taken (k b.place))

-- or the text has no fault
pub ends-whole : (a : TurtleReader) (m : PieceLexer) (q : Parser) (o1 o2 : List RdfTriple) → TakesAll true a.lexer m a.parser q o1 o2 stop.Read → end_of q [] ≡ ([], Whole) → Finishes meaning_for IsLedBy a o1 o2
ends-whole a m q o1 o2 t e =
    let us = t.lexemes in
    let stated = (transition_of a.parser us).1 in
    let said : (x : List ℕ) (ts : List RdfTriple) (l : IsLedBy a x ts) → meaning_for a x ≡ joined l.parsed.statements (stated, Whole) =
    λ x ts l. meaning_on a x ts l x us lexer.AtEnd (t.stops x l.lexemes (at-end a x ts l)) ∙ ap (joined l.parsed.statements) (ends-taken a.parser q us o1 o2 t.taken e) in
    record {
      given = all_stated stated;
      grown = t.taken.given;
      whole = λ x ts l. ap (λ (s : Meaning). s.1) (said x ts l);
      all = λ x ts l. ap (λ (s : Meaning). all_stated s.0) (said x ts l) ∙ triples_of-append l.parsed.statements stated ∙ ap (λ z. z ++ all_stated stated) (sym l.parsed.given);
    }
