-- What the tokens of a whole text do, as far as they are taken.
use Rattle.std.proofs.Common.{◌≡◌, ℕ, true, List, [], ◌∷◌, ◌++◌, refl, sym, ap, subst, ◌∙◌, append_assoc, append-nil}
use Rattle.std.specs.Prelude.{Some, None}
use Rattle.std.proofs.lemmas.List.{map-append}
use Rattle.gs_model.specs.declared.refusals.Refusal.{Refusal}
use Rattle.gs_model.specs.declared.refusals.Refusal.TheVariants as refusal
use Rattle.gs_machine.specs.Machines.{joined, rest}
use Rattle.gs_machine.proofs.MachineLemmas.{rest-append}
use Rattle.gs_blank.specs.Numbers.{no_numbers}
use Rattle.gs_lex.specs.Tokens as lexer
use Rattle.gs_lex.specs.Tokens.{Lexeme, IsCut}
use Rattle.gs_lex.specs.Lexemes.{lexeme_of_borrowed}
use Rattle.gs_lex.specs.Cutting.{HasCutOff}
use Rattle.gs_lex.specs.Texts.{HasGivenTokens, Continues}
use Rattle.gs_lex.specs.declared.tokens.BorrowedToken.{BorrowedToken}
use Rattle.gs_lex.specs.declared.texts.TextLexer.{TextLexer}
use Rattle.gs_lex.specs.declared.texts.Next.TheVariants as next
use Rattle.gs_lex.proofs.TextLemmas.{cut-goes-on}
use Rattle.gs_triples.specs.Symbols.{symbol_of, symbols_of}
use Rattle.gs_update_text.specs.Requests.{Written, UpdateRequest, end_of_last}
use Rattle.gs_update_text.specs.Grammar.{first_scope}
use Rattle.gs_update_text.specs.States.{UpdateState, Between}
use Rattle.gs_update_text.specs.Machine.{updates}
use Rattle.gs_update_text.specs.Texts.{request_ended_by, request_by}
use Rattle.gs_update_text.proofs.TextLemmas.{text_cut}
use Rattle.gs_update_places.specs.Views.{IsSoundPlace}
use Rattle.gs_update.specs.Views.{update_state_of, operations_of}
use Rattle.gs_update.specs.Answers.{AreOperationsOf, Refuses}
use Rattle.gs_update.specs.Steps.{Starts}
use Rattle.gs_update.specs.Tokens.{operations_in, update_transition_of, request_end, TakesTokens, Concludes, ReportsAfterOperation}
use Rattle.gs_update.specs.Readers.{ReadsText, IsUpdateRefused}
use Rattle.gs_update.specs.declared.parser.UpdateParser.{UpdateParser}
use Rattle.gs_update.proofs.TokenLemmas.{operations_in-append, end_of_last-append, reports_ended, takes_none, takes_then}

-- what was said before does not change how a text ends
ended_joined : (e : lexer.CutEnd) (os : List Written) (q : UpdateRequest) → request_ended_by e (joined os q) ≡ joined os (request_ended_by e q)
ended_joined lexer.AtEnd os q = refl
ended_joined (lexer.AtFault n) os (us, None) = refl
ended_joined (lexer.AtFault n) os (us, Some f) = refl

-- what the tokens say after those that were taken
said_on : (a b : UpdateParser) (ts us : List Lexeme) → TakesTokens a b ts → request_end a (ts ++ us) ≡ joined (update_transition_of a ts).1 (request_end b us)
said_on a b ts us h =
    ap (rest updates (update_state_of a)) (map-append symbol_of ts us) ∙ rest-append updates (update_state_of a) (symbols_of ts) (symbols_of us)
    ∙ ap (λ (s : UpdateState). joined (update_transition_of a ts).1 (rest updates s (symbols_of us))) (sym h.state)

-- what a refusal reports of the rest of a text it reports of the whole
reports_on : (e : Refusal) (first last : ℕ) (os : List Written) (q : UpdateRequest) → last ≡ end_of_last first os → ReportsAfterOperation last e q → ReportsAfterOperation first e (joined os q)
reports_on (refusal.Syntax at) first last os q p h = (h.0, h.1 ∙ ap (λ n. end_of_last n q.0) p ∙ sym (end_of_last-append first os q.0))
reports_on refusal.TermTooLong first last os q p h = h
reports_on refusal.NotInProfile first last os q p h = h
reports_on refusal.NoMemory first last os q p h = tt
reports_on refusal.Closed first last os q p h = h
reports_on refusal.WrongPhase first last os q p h = h
reports_on refusal.BadSeat first last os q p h = h
reports_on refusal.LastNumber first last os q p h = h
reports_on refusal.StoreFull first last os q p h = h

-- a text is refused after tokens that were taken
refused_after : (e : Refusal) (a b : UpdateParser) (x : List ℕ) (ts us : List Lexeme) (end : lexer.CutEnd) → TakesTokens a b ts → IsCut true x (ts ++ us) end → ReportsAfterOperation b.last e (request_ended_by end (request_end b us)) → IsUpdateRefused a x e
refused_after e a b x ts us end h c r =
    let os = (update_transition_of a ts).1 in
    record {
      lexemes = ts ++ us;
      ending = end;
      cut = c;
      reported = subst (ReportsAfterOperation a.last e) (sym (ap (request_ended_by end) (said_on a b ts us h) ∙ ended_joined end os (request_end b us))) (reports_on e a.last b.last os (request_ended_by end (request_end b us)) h.last r);
    }

-- a lexer has given the first tokens of the text x, and a parser has taken them
pub record Walks (old now : UpdateParser) (l : TextLexer) (x : List ℕ) : Type 0 where
  pub text : l.text.now ≡ x
  pub lexemes : List Lexeme
  pub given : HasGivenTokens true l lexemes
  pub took : TakesTokens old now lexemes

-- nothing yet
pub walks_none : (p : UpdateParser) (l : TextLexer) (x : List ℕ) → IsSoundPlace p.place → l.text.now ≡ x → HasGivenTokens true l [] → Walks p p l x
walks_none p l x s e g = record { text = e; lexemes = []; given = g; took = takes_none p s }

-- what a lexer gives is given of the same text
given_on : (l m : TextLexer) (t : BorrowedToken) (ts : List Lexeme) → m.text ≡ l.text → Continues l m (next.Token t) → HasGivenTokens true l ts → HasGivenTokens true m (ts ++ lexeme_of_borrowed t ∷ [])
given_on l m t ts e k g = subst (λ z. HasCutOff true m.at z.now (ts ++ lexeme_of_borrowed t ∷ [])) (sym e) (k.0 true ts g)

-- one token more
pub walks_more : (a b c : UpdateParser) (l m : TextLexer) (x : List ℕ) (t : BorrowedToken) → Walks a b l x → m.text ≡ l.text → Continues l m (next.Token t) → TakesTokens b c (lexeme_of_borrowed t ∷ []) → Walks a c m x
walks_more a b c l m x t w e k h = record {
  text = ap (λ z. z.now) e ∙ w.text;
  lexemes = w.lexemes ++ lexeme_of_borrowed t ∷ [];
  given = given_on l m t w.lexemes e k w.given;
  took = takes_then a b c w.lexemes (lexeme_of_borrowed t ∷ []) w.took h;
}

-- a token is refused, and so is the text
pub walks_refused : (e : Refusal) (a b : UpdateParser) (l m : TextLexer) (x : List ℕ) (t : BorrowedToken) → Walks a b l x → m.text ≡ l.text → Continues l m (next.Token t)
    → ((us : List Lexeme) → ReportsAfterOperation b.last e (request_end b (lexeme_of_borrowed t ∷ us))) → IsUpdateRefused a x e
walks_refused e a b l m x t w i k h =
    let first = lexeme_of_borrowed t in
    let g = cut-goes-on true m.at m.text.now (w.lexemes ++ first ∷ []) (given_on l m t w.lexemes i k w.given) in
    let us = first ∷ g.0 in
    let cut : IsCut true x (w.lexemes ++ us) g.1.0 =
    subst (λ z. IsCut true z (w.lexemes ++ us) g.1.0) (ap (λ z. z.now) i ∙ w.text) (subst (λ z. IsCut true m.text.now z g.1.0) (append_assoc w.lexemes (first ∷ []) g.0) g.1.1) in
    refused_after e a b x w.lexemes us g.1.0 w.took cut (reports_ended e b.last g.1.0 (request_end b us) (h g.0))

-- no token comes more, and the text is refused where it ends
stopped : (e : Refusal) (a b : UpdateParser) (l : TextLexer) (x : List ℕ) (end : lexer.CutEnd) → (w : Walks a b l x) → IsCut true l.text.now w.lexemes end → ReportsAfterOperation b.last e (request_ended_by end (request_end b [])) → IsUpdateRefused a x e
stopped e a b l x end w c h =
    refused_after e a b x w.lexemes [] end w.took (subst (λ z. IsCut true z (w.lexemes ++ []) end) w.text (subst (λ z. IsCut true l.text.now z end) (sym (append-nil w.lexemes)) c)) h

-- since something stands there that is none
pub walks_fault : (e : Refusal) (a b : UpdateParser) (l m : TextLexer) (x : List ℕ) (n : ℕ) → Walks a b l x → Continues l m (next.Fault n) → ((k : ℕ) → ReportsAfterOperation b.last e (request_ended_by (lexer.AtFault k) (request_end b []))) → IsUpdateRefused a x e
walks_fault e a b l m x n w k h = stopped e a b l x (lexer.AtFault n) w (k.0 true w.lexemes w.given).1 (h n)

-- or since it breaks off
pub walks_end_refused : (e : Refusal) (a b : UpdateParser) (l m : TextLexer) (x : List ℕ) → Walks a b l x → Continues l m next.End → ReportsAfterOperation b.last e (request_end b []) → IsUpdateRefused a x e
walks_end_refused e a b l m x w k h = stopped e a b l x lexer.AtEnd w (k.0 true w.lexemes w.given).1 h

-- or it ends without a departure
pub walks_ended : (a b c : UpdateParser) (l m : TextLexer) (x : List ℕ) → Walks a b l x → Continues l m next.End → Concludes b c [] → ReadsText a c x
walks_ended a b c l m x w k h =
    let os = (update_transition_of a w.lexemes).1 in
    let q = request_end b [] in
    let all : request_end a w.lexemes ≡ joined os q = ap (request_end a) (sym (append-nil w.lexemes)) ∙ said_on a b w.lexemes [] w.took in
    record {
      lexemes = w.lexemes;
      cut = subst (λ z. IsCut true z w.lexemes lexer.AtEnd) w.text (k.0 true w.lexemes w.given).1;
      concluded = record {
        whole = ap (λ (z : UpdateRequest). z.1) all ∙ h.whole;
        operations = h.operations ∙ ap (λ z. z ++ operations_in q.0) w.took.operations ∙ append_assoc (operations_of a.operations.items) (operations_in os) (operations_in q.0)
            ∙ ap (λ z. operations_of a.operations.items ++ z) (sym (operations_in-append os q.0)) ∙ ap (λ (z : UpdateRequest). operations_of a.operations.items ++ operations_in z.0) (sym all);
        last = h.last ∙ ap (λ n. end_of_last n q.0) w.took.last ∙ sym (end_of_last-append a.last os q.0) ∙ ap (λ (z : UpdateRequest). end_of_last a.last z.0) (sym all);
      };
    }

-- what the text says is what its tokens say to a parser at the start
said_whole : (b : List ℕ) (r : ℕ) (p : UpdateParser) (x : List ℕ) (ts : List Lexeme) (end : lexer.CutEnd) → Starts p (Between (first_scope b r) no_numbers) → IsCut true x ts end → request_by b r x ≡ request_ended_by end (request_end p ts)
said_whole b r p x ts end s c = text_cut b r x ts end c ∙ ap (λ z. request_ended_by end (rest updates z (symbols_of ts))) (sym s.state)

-- what a refusal reports from the start on it says of the text
refuses_whole : (e : Refusal) (q s : UpdateRequest) → s ≡ q → ReportsAfterOperation 0 e q → Refuses e s
refuses_whole (refusal.Syntax at) q s w h = record { broken = ap (λ (u : UpdateRequest). u.1) w ∙ h.0; place = h.1 ∙ ap (λ (u : UpdateRequest). end_of_last 0 u.0) (sym w) }
refuses_whole refusal.TermTooLong q s w h = ap (λ (u : UpdateRequest). u.1) w ∙ h
refuses_whole refusal.NotInProfile q s w h = ap (λ (u : UpdateRequest). u.1) w ∙ h
refuses_whole refusal.NoMemory q s w h = tt
refuses_whole refusal.Closed q s w h = h
refuses_whole refusal.WrongPhase q s w h = h
refuses_whole refusal.BadSeat q s w h = h
refuses_whole refusal.LastNumber q s w h = h
refuses_whole refusal.StoreFull q s w h = h

-- the refusal of a text
pub refused_whole : (e : Refusal) (b : List ℕ) (r : ℕ) (p : UpdateParser) (x : List ℕ) → Starts p (Between (first_scope b r) no_numbers) → IsUpdateRefused p x e → Refuses e (request_by b r x)
refused_whole e b r p x s h =
    let q = request_ended_by h.ending (request_end p h.lexemes) in
    refuses_whole e q (request_by b r x) (said_whole b r p x h.lexemes h.ending s h.cut) (subst (λ n. ReportsAfterOperation n e q) s.last h.reported)

-- its operations
pub read_whole : (b : List ℕ) (r : ℕ) (p c : UpdateParser) (x : List ℕ) → Starts p (Between (first_scope b r) no_numbers) → ReadsText p c x → AreOperationsOf c.operations.items (request_by b r x)
read_whole b r p c x s h =
    let q = request_end p h.lexemes in
    let said = said_whole b r p x h.lexemes lexer.AtEnd s h.cut in (
      ap (λ (u : UpdateRequest). u.1) said ∙ h.concluded.whole,
      h.concluded.operations ∙ ap (λ z. operations_of z ++ operations_in q.0) s.operations ∙ ap (λ (u : UpdateRequest). operations_in u.0) (sym said),
    )
