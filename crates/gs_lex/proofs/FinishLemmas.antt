-- How a text ends.
use Rattle.std.proofs.Common.{◌≡◌, ℕ, Bool, true, false, List, [], ◌++◌, refl, sym, ap, ◌∙◌, subst, append-nil, drop}
use Rattle.std.proofs.lemmas.Str.{IsUtf8-nil}
use Rattle.gs_lex.specs.Tokens.{CutEnd, AtEnd, AtFault, Lexeme, IsCut}
use Rattle.gs_lex.specs.Readings.{CutFrom, Fails, HasRead, Went, HasHalted, reading_at_start}
use Rattle.gs_lex.specs.Lexers.{LeadsLexer, FinishesLexer}
use Rattle.gs_lex.specs.declared.lexers.Lexer.{Lexer}
use Rattle.gs_lex.specs.declared.readings.Halt.{Halt}
use Rattle.gs_lex.specs.declared.readings.Halt.TheVariants as halt
use Rattle.gs_lex.specs.declared.steps.Reading.{Reading}
use Rattle.gs_lex.specs.declared.tokens.Token.{Token}
use Rattle.gs_automaton.specs.Scans.{MayBecome}
use Rattle.gs_automaton.proofs.BecomeLemmas.{becomes-self}
use Rattle.gs_lex.proofs.BarrenLemmas.{read-end, read-fresh}

-- what is held is read from its start
pub held-read : (u : Bool) (l : Lexer) (x : List ℕ) (ts : List Lexeme) → LeadsLexer u l x ts → l.at.cut ≡ 0 → HasRead true l.at (drop l.at.cut l.held.items)
held-read u l x ts h k = subst (λ n. HasRead true l.at (drop n l.held.items)) (sym k) (read-end l.at l.held.items h.read)

pub finish-as : (u : Bool) (l : Lexer) (x : List ℕ) (ts : List Lexeme) (r : Reading) (old new : List Token) (e : CutEnd) → LeadsLexer u l x ts → l.at.cut ≡ 0
    → Went true l.held.items l.at r old new → CutFrom r (drop r.cut l.held.items) [] e → FinishesLexer u x ts e old new
finish-as u l x ts r old new e h k w f =
    let rest = drop r.cut l.held.items in
    let t : CutFrom l.at (w.before ++ rest) (w.added ++ []) e = w.cut rest [] e (becomes-self true rest) f in
    let whole : l.held.items ≡ w.before ++ rest = subst (λ n. drop n l.held.items ≡ w.before ++ rest) k w.parts in
    let text : h.before ++ (w.before ++ rest) ≡ x = ap (λ z. h.before ++ z) (sym whole) ∙ sym h.parts in
    let c : IsCut u (h.before ++ (w.before ++ rest)) (ts ++ (w.added ++ [])) e =
    h.rest (w.before ++ rest) (w.added ++ []) e (subst (λ z. MayBecome false l.held.items z) whole (becomes-self false l.held.items)) t in
    record {
      added = w.added;
      given = w.given;
      cut = subst (λ z. IsCut u x (ts ++ z) e) (append-nil w.added) (subst (λ z. IsCut u z (ts ++ (w.added ++ [])) e) text c);
    }

pub fails-at : (r : Reading) (x : List ℕ) → Fails true r x → CutFrom r x [] (AtFault r.last)
fails-at r x f = subst (λ z. CutFrom r z [] (AtFault r.last)) (append-nil x) (f.cut [] (λ _. refl))

pub halted-fault : (x : List ℕ) (r : Reading) (h : Halt) → h ≡ halt.Fault → HasHalted true x r h → CutFrom r (drop r.cut x) [] (AtFault r.last)
halted-fault x r h e k = fails-at r (drop r.cut x) (subst (HasHalted true x r) e k)

pub halted-end : (x : List ℕ) (r : Reading) (h : Halt) → (h ≡ halt.Fault → ⊥) → HasHalted true x r h → CutFrom r (drop r.cut x) [] AtEnd
halted-end x r halt.Fault n k = absurd (n refl)
halted-end x r halt.End n k = k.1
halted-end x r halt.Wait n k = Prim.cc (k.0)

-- of the text that is held
pub of-held : (l : Lexer) (text : List ℕ) (r : Reading) (h : Halt) (old new : List Token) → text ≡ l.held.items
    → (HasRead true l.at (drop l.at.cut text) → Went true text l.at r old new × HasHalted true text r h)
    → HasRead true l.at (drop l.at.cut l.held.items) → Went true l.held.items l.at r old new × HasHalted true l.held.items r h
of-held l text r h old new e f =
    let P : List ℕ → Type 0 = λ z. HasRead true l.at (drop l.at.cut z) → Went true z l.at r old new × HasHalted true z r h in
    subst P e f

-- a lexer at the start of a text
pub leads-fresh : (u : Bool) (l : Lexer) → l.is_closed ≡ false → l.held.items ≡ [] → l.at ≡ reading_at_start u → LeadsLexer u l [] []
leads-fresh u l h k e = record {
  open_ = h;
  reads = ap (λ (r : Reading). r.updates) e;
  read = subst (λ (r : Reading). HasRead false r l.held.items) (sym e) (read-fresh u l.held.items);
  before = [];
  parts = sym k;
  characters = IsUtf8-nil;
  rest = λ z us end b t. subst (λ (r : Reading). CutFrom r z us end) e t;
}
