-- What a piece leads to.
use Rattle.std.proofs.Common.{◌≡◌, ℕ, Bool, false, List, [], ◌++◌, refl, sym, ap, ◌∙◌, subst, append_assoc, append-nil, drop}
use Rattle.gs_lex.specs.Tokens.{CutEnd, AtFault, Lexeme, IsCut}
use Rattle.gs_lex.specs.Readings.{CutFrom, Fails, HasRead, Waits, Went, HasHalted}
use Rattle.gs_lex.specs.Lexers.{LeadsLexer, FeedsLexer, Breaks, CutsHeld}
use Rattle.gs_lex.specs.declared.lexers.Lexer.{Lexer}
use Rattle.gs_lex.specs.declared.readings.Halt.{Halt}
use Rattle.gs_lex.specs.declared.readings.Halt.TheVariants as halt
use Rattle.gs_lex.specs.declared.steps.Reading.{Reading}
use Rattle.gs_lex.specs.declared.tokens.Token.{Token}
use Rattle.gs_automaton.specs.Scans.{MayBecome}
use Rattle.gs_automaton.proofs.BecomeLemmas.{no_end, becomes-on, becomes-before, becomes-more}
use Rattle.gs_lex.proofs.BarrenLemmas.{read-more}
use Rattle.gs_lex.proofs.CutLemmas.{leads-stands}
use Rattle.gs_lex.proofs.SettledLemmas.{awaits-at}
use Rattle.gs_lex.specs.Standing.{Awaits}
use Rattle.std.proofs.lemmas.Str.{IsUtf8-append}

waiting : (x : List ℕ) (r : Reading) (h : Halt) → (h ≡ halt.Fault → ⊥) → HasHalted false x r h → Waits r.in_comment (drop r.cut x) r.scan
waiting x r halt.Fault n k = absurd (n refl)
waiting x r halt.End n k = Prim.cc (k.0)
waiting x r halt.Wait n k = k.1

-- what was read of the text that is held, where what is left is held from then on
pub takes-as : (l m : Lexer) (text : List ℕ) (r : Reading) (h : Halt) (old new : List Token) → text ≡ l.held.items → l.at.cut ≡ 0 → m.at ≡ record r { cut = 0 } → m.held.items ≡ drop r.cut l.held.items
    → (HasRead false l.at (drop l.at.cut text) → Went false text l.at r old new × HasHalted false text r h) → HasRead false l.at l.held.items → CutsHeld l m old new h
takes-as l m text r h old new e k a d f g =
    let x = l.held.items in
    let w = subst (λ z. HasRead false l.at (drop l.at.cut z) → Went false z l.at r old new × HasHalted false z r h) e f (subst (λ n. HasRead false l.at (drop n x)) (sym k) g) in
    let left : (q : Reading) → q ≡ record r { cut = 0 } → HasRead false q (drop r.cut x) =
    λ q p. subst (λ s. HasRead false s (drop r.cut x)) (sym p) (record { scanned = w.0.read.scanned; barren = w.0.read.barren }) in
    let failed : (q : Reading) → q ≡ record r { cut = 0 } → Fails false r (drop r.cut x) → Fails false q (drop r.cut x) =
    λ q p i. subst (λ s. Fails false s (drop r.cut x)) (sym p) (record { cut = i.cut }) in
    record {
      added = w.0.added;
      given = w.0.given;
      reads = ap (λ (s : Reading). s.updates) a ∙ w.0.mode;
      read = subst (HasRead false m.at) (sym d) (left m.at a);
      before = w.0.before;
      parts = subst (λ n. drop n x ≡ w.0.before ++ m.held.items) k (w.0.parts ∙ ap (λ z. w.0.before ++ z) (sym d));
      characters = w.0.characters;
      cut = λ z ts end b t. w.0.cut z ts end (subst (λ y. MayBecome false y z) d b) (subst (λ s. CutFrom s z ts end) a t);
      fails = λ p. subst (Fails false m.at) (sym d) (failed m.at a (subst (HasHalted false x r) p w.1));
      waits = λ p. subst (λ z. Waits m.at.in_comment z m.at.scan) (sym d) (subst (λ (s : Reading). Waits s.in_comment (drop r.cut x) s.scan) (sym a) (waiting x r h p w.1));
    }

read_piece : (u : Bool) (l m : Lexer) (x piece : List ℕ) (ts : List Lexeme) → LeadsLexer u l x ts → m.at ≡ l.at → m.held.items ≡ l.held.items ++ piece → HasRead false m.at m.held.items
read_piece u l m x piece ts h a d = subst (λ q. HasRead false q m.held.items) (sym a) (subst (HasRead false l.at) (sym d) (read-more l.at l.held.items piece h.read))

-- the tokens of the text are those given before, those of the piece, and those of what becomes of the bytes that are held
cut_piece : (u : Bool) (l m n : Lexer) (x piece : List ℕ) (ts : List Lexeme) (old new : List Token) (k : Halt) → (h : LeadsLexer u l x ts) → m.at ≡ l.at → m.held.items ≡ l.held.items ++ piece
    → (t : CutsHeld m n old new k) → (z : List ℕ) (us : List Lexeme) (e : CutEnd) → MayBecome false n.held.items z → CutFrom n.at z us e → IsCut u ((h.before ++ t.before) ++ z) ((ts ++ t.added) ++ us) e
cut_piece u l m n x piece ts old new k h a d t z us e b c =
    let all : CutFrom l.at (t.before ++ z) (t.added ++ us) e = subst (λ q. CutFrom q (t.before ++ z) (t.added ++ us) e) a (t.cut z us e b c) in
    let held : MayBecome false l.held.items (t.before ++ z) =
    becomes-more l.held.items piece (t.before ++ z) (subst (λ y. MayBecome false y (t.before ++ z)) (sym t.parts ∙ d) (becomes-before false t.before n.held.items z t.characters b)) in
    subst (λ y. IsCut u y ((ts ++ t.added) ++ us) e) (sym (append_assoc h.before t.before z))
    (subst (λ y. IsCut u (h.before ++ (t.before ++ z)) y e) (sym (append_assoc ts t.added us)) (h.rest (t.before ++ z) (t.added ++ us) e held all))

-- the text up to the end of the piece: what is cut, and what is held
piece_parts : (u : Bool) (l m n : Lexer) (x piece : List ℕ) (ts : List Lexeme) (old new : List Token) (k : Halt) → (h : LeadsLexer u l x ts) → m.held.items ≡ l.held.items ++ piece
    → (t : CutsHeld m n old new k) → x ++ piece ≡ (h.before ++ t.before) ++ n.held.items
piece_parts u l m n x piece ts old new k h d t =
    ap (λ z. z ++ piece) h.parts ∙ append_assoc h.before l.held.items piece ∙ ap (λ z. h.before ++ z) (sym d ∙ t.parts) ∙ sym (append_assoc h.before t.before n.held.items)

pub feeds-as : (u : Bool) (l m n : Lexer) (x piece : List ℕ) (ts : List Lexeme) (old new : List Token) (k : Halt) → LeadsLexer u l x ts → m.at ≡ l.at → m.held.items ≡ l.held.items ++ piece
    → n.is_closed ≡ false → (k ≡ halt.Fault → ⊥) → (HasRead false m.at m.held.items → CutsHeld m n old new k) → FeedsLexer u n (x ++ piece) ts old new
feeds-as u l m n x piece ts old new k h a d o g f =
    let t = f (read_piece u l m x piece ts h a d) in
    let leads : LeadsLexer u n (x ++ piece) (ts ++ t.added) = record {
      open_ = o;
      reads = t.reads ∙ ap (λ (q : Reading). q.updates) a ∙ h.reads;
      read = t.read;
      before = h.before ++ t.before;
      parts = piece_parts u l m n x piece ts old new k h d t;
      characters = IsUtf8-append h.before t.before h.characters t.characters;
      rest = cut_piece u l m n x piece ts old new k h a d t;
    } in
    let waits : Awaits u (x ++ piece) (ts ++ t.added) = awaits-at u n.at n.held.items (x ++ piece) (ts ++ t.added) (leads-stands u n (x ++ piece) (ts ++ t.added) leads) (t.waits g) in
    record { added = t.added; given = t.given; leads = leads; settled = waits.settled; quiet = waits.quiet }

pub breaks-as : (u : Bool) (l m n : Lexer) (x piece : List ℕ) (ts : List Lexeme) (old new : List Token) (k : Halt) → LeadsLexer u l x ts → m.at ≡ l.at → m.held.items ≡ l.held.items ++ piece
    → k ≡ halt.Fault → (HasRead false m.at m.held.items → CutsHeld m n old new k) → Breaks u (x ++ piece) ts n.at.last old new
breaks-as u l m n x piece ts old new k h a d p f =
    let t = f (read_piece u l m x piece ts h a d) in
    record {
      added = t.added;
      given = t.given;
      fault = λ y.
          let text : (h.before ++ t.before) ++ (n.held.items ++ y) ≡ (x ++ piece) ++ y =
          sym (append_assoc (h.before ++ t.before) n.held.items y) ∙ ap (λ z. z ++ y) (sym (piece_parts u l m n x piece ts old new k h d t)) in
          subst (λ z. IsCut u z (ts ++ t.added) (AtFault n.at.last)) text
          (subst (λ z. IsCut u ((h.before ++ t.before) ++ (n.held.items ++ y)) z (AtFault n.at.last)) (append-nil (ts ++ t.added))
          (cut_piece u l m n x piece ts old new k h a d t (n.held.items ++ y) [] (AtFault n.at.last) (becomes-on false n.held.items y (no_end y)) ((t.fails p).cut y (no_end y))));
    }
