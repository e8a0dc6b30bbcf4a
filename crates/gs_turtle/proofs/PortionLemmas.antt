-- The tokens of a portion, one after another.
use Rattle.std.proofs.Common.{◌≡◌, ◌≢◌, ℕ, Bool, true, false, List, [], ◌∷◌, ◌++◌, refl, sym, ap, subst, ◌∙◌, append_assoc, append-nil}
use Rattle.std.specs.Prelude.{Result, Ok, Err, OnOk, OnErr, IfErr, IsOk}
use Rattle.std.proofs.lemmas.List.{map-append}
use Rattle.gs_model.specs.Triples.{RdfTriple}
use Rattle.gs_model.specs.declared.refusals.Refusal.{Refusal}
use Rattle.gs_model.specs.declared.refusals.Refusal.TheVariants as refusal
use Rattle.gs_machine.specs.Machines.{Begins, joined, steps, rest}
use Rattle.gs_machine.proofs.MachineLemmas.{steps-append, steps-one, rest-append}
use Rattle.gs_lex.specs.Tokens as lexer
use Rattle.gs_lex.specs.Tokens.{Lexeme, IsCut}
use Rattle.gs_lex.specs.Standing.{Awaits}
use Rattle.gs_lex.specs.Pieces.{LeadsPieces, AdvancesPieces, token_of}
use Rattle.gs_lex.specs.declared.pieces.Advance.TheVariants as next
use Rattle.gs_lex.specs.declared.pieces.PieceLexer.{PieceLexer}
use Rattle.gs_model.specs.declared.faults.Fault.{Fault}
use Rattle.gs_model.specs.declared.faults.Fault.TheVariants as fault
use Rattle.gs_body.specs.Bodies.{Whole, Faulty, Meaning, Statement, all_stated, end_after}
use Rattle.gs_body.proofs.LeadingLemmas.{triples_of-append, end_after-append}
use Rattle.gs_triples.specs.Symbols.{symbol_of, symbols_of}
use Rattle.gs_document.specs.States.{DocumentState, lost}
use Rattle.gs_document.specs.Machine.{step, ended, turtle}
use Rattle.gs_document.proofs.ReaderLemmas.{lost_rest}
use Rattle.gs_parse.specs.Views.{state_of, ending_at}
use Rattle.gs_parse.specs.declared.parser.Parser.{Parser}
use Rattle.gs_turtle.specs.Documents.{ended_by}
use Rattle.gs_turtle.specs.Portions.{transition_of, end_of, Takes, TakesAll, IsAllRead, refusal_of_fault, ReportsAfter}
use Rattle.gs_turtle.specs.declared.portions.Stop.TheVariants as stop

-- no tokens
pub takes-none : (p : Parser) (before : List RdfTriple) → Takes p p [] before before
unfolding steps
takes-none p before = record { state = refl; given = sym (append-nil before); last = refl }

-- after a call that left the list, it begins with what was there before the tokens
pub begins-taken : {X E : Type 0} (r : Result X E) (a b : Parser) (ts : List Lexeme) (before after last : List RdfTriple) → Takes a b ts before after → last ≡ after → OnErr r (Begins last before)
begins-taken (Ok x) a b ts before after last h e = tt
begins-taken (Err x) a b ts before after last h e = (all_stated (transition_of a ts).1, e ∙ h.given)

-- the state after tokens and more tokens
transition-append : (p : Parser) (s : DocumentState) (ts us : List Lexeme) → s ≡ (transition_of p ts).0 → transition_of p (ts ++ us) ≡ ((steps turtle s (symbols_of us)).0, (transition_of p ts).1 ++ (steps turtle s (symbols_of us)).1)
transition-append p s ts us e =
    ap (steps turtle (state_of p)) (map-append symbol_of ts us) ∙ steps-append turtle (state_of p) (symbols_of ts) (symbols_of us)
    ∙ ap (λ (z : DocumentState). ((steps turtle z (symbols_of us)).0, (transition_of p ts).1 ++ (steps turtle z (symbols_of us)).1)) (sym e)

-- one token more
pub takes-more : (a b c : Parser) (ts : List Lexeme) (t : Lexeme) (o1 o2 o3 : List RdfTriple) → Takes a b ts o1 o2
    → state_of c ≡ (step (state_of b) (symbol_of t)).0 → o3 ≡ o2 ++ all_stated (step (state_of b) (symbol_of t)).1 → c.last ≡ end_after b.last (step (state_of b) (symbol_of t)).1
    → Takes a c (ts ++ t ∷ []) o1 o3
takes-more a b c ts t o1 o2 o3 h p q r =
    let u = step (state_of b) (symbol_of t) in
    let old = (transition_of a ts).1 in
    let e : transition_of a (ts ++ t ∷ []) ≡ (u.0, old ++ u.1) =
    transition-append a (state_of b) ts (t ∷ []) h.state ∙ ap (λ (z : DocumentState × List Statement). (z.0, old ++ z.1)) (steps-one turtle (state_of b) (symbol_of t)) in
    record {
      state = p ∙ ap (λ (z : DocumentState × List Statement). z.0) (sym e);
      given = q ∙ ap (λ z. z ++ all_stated u.1) h.given ∙ append_assoc o1 (all_stated old) (all_stated u.1) ∙ ap (λ z. o1 ++ z) (sym (triples_of-append old u.1)) ∙ ap (λ (z : DocumentState × List Statement). o1 ++ all_stated z.1) (sym e);
      last = r ∙ ap (λ z. end_after z u.1) h.last ∙ sym (end_after-append a.last old u.1) ∙ ap (λ (z : DocumentState × List Statement). end_after a.last z.1) (sym e);
    }

-- Some tokens were cut and taken so far; each text that led to the lexer leads on, with those more.
pub record TakesFront (is_end : Bool) (l m : PieceLexer) (p q : Parser) (before after : List RdfTriple) : Type 0 where
  pub lexemes : List Lexeme
  pub taken : Takes p q lexemes before after
  pub leads : (x : List ℕ) (ts : List Lexeme) → LeadsPieces is_end false l x ts → LeadsPieces is_end false m x (ts ++ lexemes)

-- none so far
pub front-none : (is_end : Bool) (l : PieceLexer) (p : Parser) (before : List RdfTriple) → TakesFront is_end l l p p before before
front-none is_end l p before = record { lexemes = []; taken = takes-none p before; leads = λ x ts h. subst (LeadsPieces is_end false l x) (sym (append-nil ts)) h }

-- the lexer cut one more, which the parser took
pub front-more : (is_end : Bool) (l m n : PieceLexer) (p q r : Parser) (t : Lexeme) (o1 o2 o3 : List RdfTriple) → TakesFront is_end l m p q o1 o2 → AdvancesPieces is_end m n next.Token → t ≡ token_of n
    → state_of r ≡ (step (state_of q) (symbol_of t)).0 → o3 ≡ o2 ++ all_stated (step (state_of q) (symbol_of t)).1 → r.last ≡ end_after q.last (step (state_of q) (symbol_of t)).1
    → TakesFront is_end l n p r o1 o3
front-more is_end l m n p q r t o1 o2 o3 h f e a b c = record {
  lexemes = h.lexemes ++ t ∷ [];
  taken = takes-more p q r h.lexemes t o1 o2 o3 h.taken a b c;
  leads = λ x ts k.
      subst (LeadsPieces is_end false n x) (append_assoc ts h.lexemes (t ∷ []))
      (subst (λ (u : Lexeme). LeadsPieces is_end false n x ((ts ++ h.lexemes) ++ u ∷ [])) (sym e) (f false x (ts ++ h.lexemes) (h.leads x ts k)));
}

-- no token comes more, since something stands there that is none
pub all-broken : (is_end : Bool) (l m n : PieceLexer) (p q : Parser) (at : ℕ) (o1 o2 : List RdfTriple) → TakesFront is_end l m p q o1 o2 → AdvancesPieces is_end m n (next.Fault at) → TakesAll is_end l n p q o1 o2 stop.Fault
all-broken is_end l m n p q at o1 o2 h f = record {
  lexemes = h.lexemes;
  taken = h.taken;
  stops = λ x ts k. record { place = at; cut = f false x (ts ++ h.lexemes) (h.leads x ts k) };
}

-- or since the text goes on
pub all-waits : (is_end : Bool) (l m n : PieceLexer) (p q : Parser) (o1 o2 : List RdfTriple) → TakesFront is_end l m p q o1 o2 → AdvancesPieces is_end m n next.Wait → TakesAll is_end l n p q o1 o2 stop.Read
all-waits is_end l m n p q o1 o2 h f = record {
  lexemes = h.lexemes;
  taken = h.taken;
  stops = λ x ts k. let g = f false x (ts ++ h.lexemes) (h.leads x ts k) in read_open is_end x (ts ++ h.lexemes) g.0 g.1;
}
  where
    read_open : (b : Bool) (x : List ℕ) (us : List Lexeme) → b ≡ false → LeadsPieces b false n x us × Awaits false x us → IsAllRead b n x us
    read_open false x us e g = g
    read_open true x us e g = absurd (Prim.cc e)

-- or since it ends
pub all-ends : (is_end : Bool) (l m n : PieceLexer) (p q : Parser) (o1 o2 : List RdfTriple) → TakesFront is_end l m p q o1 o2 → AdvancesPieces is_end m n next.End → TakesAll is_end l n p q o1 o2 stop.Read
all-ends is_end l m n p q o1 o2 h f = record {
  lexemes = h.lexemes;
  taken = h.taken;
  stops = λ x ts k. let g = f false x (ts ++ h.lexemes) (h.leads x ts k) in read_end is_end x (ts ++ h.lexemes) g.0 g.1;
}
  where
    read_end : (b : Bool) (x : List ℕ) (us : List Lexeme) → b ≡ true → IsCut false x us lexer.AtEnd → IsAllRead b n x us
    read_end true x us e g = g
    read_end false x us e g = absurd (Prim.cc e)

-- a fault by its refusal
pub reports-fault : (f : Fault) (last n : ℕ) (t : Meaning) → t.1 ≡ Faulty f → n ≡ end_after last t.0 → ReportsAfter last (refusal_of_fault n f) t
reports-fault fault.Syntax last n t p q = (p, q)
reports-fault fault.TermTooLong last n t p q = p

-- what tokens and more tokens state, and how the text ends
taken-end : (a b : Parser) (ts us : List Lexeme) (o1 o2 : List RdfTriple) → Takes a b ts o1 o2 → end_of a (ts ++ us) ≡ joined (transition_of a ts).1 (end_of b us)
taken-end a b ts us o1 o2 h =
    ap (rest turtle (state_of a)) (map-append symbol_of ts us) ∙ rest-append turtle (state_of a) (symbols_of ts) (symbols_of us)
    ∙ ap (λ (z : DocumentState). joined (transition_of a ts).1 (rest turtle z (symbols_of us))) (sym h.state)

-- what was stated before does not change how a text ends
pub ended-joined : (e : lexer.CutEnd) (ss : List Statement) (t : Meaning) → ended_by e (joined ss t) ≡ joined ss (ended_by e t)
ended-joined lexer.AtEnd ss t = refl
ended-joined (lexer.AtFault n) ss (rs, Whole) = refl
ended-joined (lexer.AtFault n) ss (rs, Faulty f) = refl

reports-after : (e : Refusal) (last later : ℕ) (ss : List Statement) (t : Meaning) → later ≡ end_after last ss → ReportsAfter later e t → ReportsAfter last e (joined ss t)
reports-after (refusal.Syntax at) last later ss t p h = (h.0, h.1 ∙ ap (λ n. end_after n t.0) p ∙ sym (end_after-append last ss t.0))
reports-after refusal.TermTooLong last later ss t p h = h
reports-after refusal.NoMemory last later ss t p h = h
reports-after refusal.Closed last later ss t p h = h
reports-after refusal.WrongPhase last later ss t p h = h
reports-after refusal.BadSeat last later ss t p h = h
reports-after refusal.LastNumber last later ss t p h = h
reports-after refusal.StoreFull last later ss t p h = h
reports-after refusal.NotInProfile last later ss t p h = h

-- what a refusal reports after some tokens it reports of them and the others
pub reports-taken : (e : Refusal) (a b : Parser) (ts us : List Lexeme) (o1 o2 : List RdfTriple) (end : lexer.CutEnd) → Takes a b ts o1 o2 → ReportsAfter b.last e (ended_by end (end_of b us))
    → ReportsAfter a.last e (ended_by end (end_of a (ts ++ us)))
reports-taken e a b ts us o1 o2 end h r =
    let ss = (transition_of a ts).1 in
    let all : ended_by end (end_of a (ts ++ us)) ≡ joined ss (ended_by end (end_of b us)) = ap (ended_by end) (taken-end a b ts us o1 o2 h) ∙ ended-joined end ss (end_of b us) in
    subst (ReportsAfter a.last e) (sym all) (reports-after e a.last b.last ss (ended_by end (end_of b us)) h.last r)

-- so it does where no other comes
pub reports-last : (e : Refusal) (a b : Parser) (ts : List Lexeme) (o1 o2 : List RdfTriple) (end : lexer.CutEnd) → Takes a b ts o1 o2 → ReportsAfter b.last e (ended_by end (end_of b []))
    → ReportsAfter a.last e (ended_by end (end_of a ts))
reports-last e a b ts o1 o2 end h r = subst (λ z. ReportsAfter a.last e (ended_by end (end_of a z))) (append-nil ts) (reports-taken e a b ts [] o1 o2 end h r)

-- the text ends after some tokens, and has no fault
pub ends-taken : (a b : Parser) (ts : List Lexeme) (o1 o2 : List RdfTriple) → Takes a b ts o1 o2 → end_of b [] ≡ ([], Whole) → end_of a ts ≡ ((transition_of a ts).1, Whole)
ends-taken a b ts o1 o2 h e =
    let old = (transition_of a ts).1 in
    ap (end_of a) (sym (append-nil ts)) ∙ taken-end a b ts [] o1 o2 h ∙ ap (joined old) e ∙ ap (λ z. (z, Whole)) (append-nil old)

-- where the parser is lost, whatever follows says nothing more
pub lost-reports : (p : Parser) (us : List Lexeme) (f : Fault) → state_of p ≡ lost f → ReportsAfter p.last (refusal_of_fault p.last f) (end_of p us)
lost-reports p us f e =
    let all : end_of p us ≡ ([], Faulty f) = ap (λ (z : DocumentState). rest turtle z (symbols_of us)) e ∙ lost_rest f (symbols_of us) in
    reports-fault f p.last p.last (end_of p us) (ap (λ (z : Meaning). z.1) all) (ap (λ (z : Meaning). end_after p.last z.0) (sym all))

-- the text ends there
pub ends-here : (p : Parser) → end_of p [] ≡ ([], ended (state_of p))
unfolding rest
ends-here p = refl

-- with a fault
pub ends-faulty : (p : Parser) (f : Fault) → Faulty f ≡ ended (state_of p) → ReportsAfter p.last (refusal_of_fault p.last f) (end_of p [])
ends-faulty p f e =
    let all = ends-here p in
    reports-fault f p.last p.last (end_of p []) (ap (λ (z : Meaning). z.1) all ∙ sym e) (ap (λ (z : Meaning). end_after p.last z.0) (sym all))

-- where nothing is reported of the end, the text has no fault
pub ends-well : (p : Parser) (end : Result (Unit {0}) Fault) (r : Result (Unit {0}) Refusal) → ending_at end ≡ ended (state_of p) → IfErr end (λ f. r ≡ Err (refusal_of_fault p.last f)) → OnOk r (end_of p [] ≡ ([], Whole))
ends-well p (Ok u) (Ok v) e h = ends-here p ∙ ap (λ x. ([], x)) (sym e)
ends-well p (Ok u) (Err x) e h = tt
ends-well p (Err f) r e h = subst (λ (y : Result (Unit {0}) Refusal). OnOk y (end_of p [] ≡ ([], Whole))) (sym h) tt

-- and what is reported is the fault that it has
pub ends-reported : (p : Parser) (end : Result (Unit {0}) Fault) (r : Result (Unit {0}) Refusal) → ending_at end ≡ ended (state_of p) → OnOk end (IsOk r) → IfErr end (λ f. r ≡ Err (refusal_of_fault p.last f))
    → IfErr r (λ x. ReportsAfter p.last x (end_of p []))
ends-reported p (Ok u) (Ok v) e ok h = tt
ends-reported p (Ok u) (Err x) e ok h = absurd (Prim.cc ok)
ends-reported p (Err f) r e ok h = subst (λ (y : Result (Unit {0}) Refusal). IfErr y (λ x. ReportsAfter p.last x (end_of p []))) (sym h) (ends-faulty p f e)

-- the first fault of all is that of the tokens, where they have one
pub reports-ended : (e : Refusal) (last : ℕ) (end : lexer.CutEnd) (t : Meaning) → ReportsAfter last e t → ReportsAfter last e (ended_by end t)
reports-ended e last lexer.AtEnd t h = h
reports-ended e last (lexer.AtFault n) (ss, Faulty f) h = h
reports-ended (refusal.Syntax at) last (lexer.AtFault n) (ss, Whole) h = absurd (Prim.cc (h.0))
reports-ended refusal.TermTooLong last (lexer.AtFault n) (ss, Whole) h = absurd (Prim.cc h)
reports-ended refusal.NoMemory last (lexer.AtFault n) (ss, Whole) h = h
reports-ended refusal.WrongPhase last (lexer.AtFault n) (ss, Whole) h = h
reports-ended refusal.BadSeat last (lexer.AtFault n) (ss, Whole) h = h
reports-ended refusal.LastNumber last (lexer.AtFault n) (ss, Whole) h = h
reports-ended refusal.StoreFull last (lexer.AtFault n) (ss, Whole) h = h
reports-ended refusal.NotInProfile last (lexer.AtFault n) (ss, Whole) h = h
reports-ended refusal.Closed last (lexer.AtFault n) (ss, Whole) h = h

-- and else that after them
pub reports-broken : (last n : ℕ) (t : Meaning) → t ≡ ([], Whole) → ReportsAfter last (refusal.Syntax last) (ended_by (lexer.AtFault n) t)
reports-broken last n t e = subst (λ (z : Meaning). ReportsAfter last (refusal.Syntax last) (ended_by (lexer.AtFault n) z)) (sym e) (refl, refl)

-- what reports a fault is not that an earlier call was refused
pub reports-open : (e : Refusal) (last : ℕ) (t : Meaning) → ReportsAfter last e t → e ≢ refusal.Closed
reports-open e last t h = λ p. subst (λ r. ReportsAfter last r t) p h
