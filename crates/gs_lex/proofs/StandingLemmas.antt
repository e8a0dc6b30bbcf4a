-- What the steps of a lexer of a text that comes in pieces lead to.
use Rattle.std.proofs.Common.{◌≡◌, ℕ, ◌+◌, Bool, true, false, List, [], ◌∷◌, ◌++◌, refl, sym, ap, ◌∙◌, subst, append_assoc, append-nil, take, drop}
use Rattle.std.proofs.Math.ListN.{take-append-drop}
use Rattle.std.proofs.lemmas.List.{drop-drop}
use Rattle.std.proofs.lemmas.Str.{IsUtf8-nil, IsUtf8-append}
use Rattle.gs_lex.specs.Tokens.{IsCut, CutEnd, AtEnd, AtFault, Lexeme, lexeme_at}
use Rattle.gs_automaton.specs.Scans.{MayFollow, IsScanned}
use Rattle.gs_lex.specs.Readings.{CutFrom, Passes, FindsToken, Fails, Waits, passed_of, found_of, reading_at_start}
use Rattle.gs_lex.specs.Standing.{StandsAfter, Awaits}
use Rattle.gs_lex.specs.declared.kinds.TokenKind.{TokenKind}
use Rattle.gs_automaton.specs.declared.scans.Scan.{Scan}
use Rattle.gs_lex.specs.declared.steps.Reading.{Reading}
use Rattle.gs_lex.proofs.BarrenLemmas.{barren-none, read-more, read-end, read-fresh}
use Rattle.gs_automaton.proofs.BecomeLemmas.{becomes-on, becomes-more, becomes-open}
use Rattle.gs_lex.proofs.ReadLemmas.{becomes-front}
use Rattle.gs_automaton.proofs.ScanLemmas.{scan-fresh}
use Rattle.gs_lex.proofs.SettledLemmas.{awaits-at}

-- at the start of a text
pub stands-first : (u : Bool) (r : Reading) (held : List ℕ) → r ≡ reading_at_start u → held ≡ [] → StandsAfter false u r (drop r.cut held) [] []
stands-first u r held e k = subst (λ (s : Reading). StandsAfter false u s (drop s.cut held) [] []) (sym e) (record {
  reads = refl;
  read = read-fresh u held;
  before = [];
  parts = sym k;
  characters = IsUtf8-nil;
  rest = λ z us end b t. t;
})

-- the same, where the place of the cut in the bytes at hand is another
pub stands-moved : (is_end u : Bool) (r : Reading) (n : ℕ) (left x : List ℕ) (ts : List Lexeme) → StandsAfter is_end u r left x ts → StandsAfter is_end u (record r { cut = n }) left x ts
stands-moved is_end u r n left x ts h = record {
  reads = h.reads;
  read = record { scanned = h.read.scanned; barren = h.read.barren };
  before = h.before;
  parts = h.parts;
  characters = h.characters;
  rest = h.rest;
}

-- one piece more
pub stands-more : (u : Bool) (r : Reading) (left piece x : List ℕ) (ts : List Lexeme) → StandsAfter false u r left x ts → StandsAfter false u r (left ++ piece) (x ++ piece) ts
stands-more u r left piece x ts h = record {
  reads = h.reads;
  read = read-more r left piece h.read;
  before = h.before;
  parts = ap (λ z. z ++ piece) h.parts ∙ append_assoc h.before left piece;
  characters = h.characters;
  rest = λ z us e m t. h.rest z us e (becomes-more left piece z m) t;
}

-- where the bytes that are cut are dropped, and a piece is held after the others
pub stands-held : (u : Bool) (r s : Reading) (old held piece x : List ℕ) (ts : List Lexeme) → s ≡ record r { cut = 0 } → held ≡ drop r.cut old ++ piece → StandsAfter false u r (drop r.cut old) x ts
    → StandsAfter false u s (drop s.cut held) (x ++ piece) ts
stands-held u r s old held piece x ts e k h =
    subst (λ (q : Reading). StandsAfter false u q (drop q.cut held) (x ++ piece) ts) (sym e)
    (subst (λ z. StandsAfter false u (record r { cut = 0 }) z (x ++ piece) ts) (sym k)
    (stands-moved false u r 0 (drop r.cut old ++ piece) (x ++ piece) ts (stands-more u r (drop r.cut old) piece x ts h)))

-- no piece comes more
pub stands-last : (u : Bool) (r : Reading) (left x : List ℕ) (ts : List Lexeme) → StandsAfter false u r left x ts → StandsAfter true u r left x ts
stands-last u r left x ts h = record {
  reads = h.reads;
  read = read-end r left h.read;
  before = h.before;
  parts = h.parts;
  characters = h.characters;
  rest = λ z us e m t. h.rest z us e (becomes-open left z m) t;
}

-- the text after so many bytes more
parts_more : (x before left : List ℕ) (count : ℕ) → x ≡ before ++ left → x ≡ (before ++ take count left) ++ drop count left
parts_more x before left count p = p ∙ ap (λ z. before ++ z) (sym (take-append-drop count left)) ∙ sym (append_assoc before (take count left) (drop count left))

-- after bytes that are no part of a token
pub stands-passed : (is_end u : Bool) (r : Reading) (at_hand x : List ℕ) (ts : List Lexeme) (count : ℕ) (c : Bool) → StandsAfter is_end u r (drop r.cut at_hand) x ts
    → Passes is_end r (drop r.cut at_hand) count c → StandsAfter is_end u (passed_of r count c) (drop (r.cut + count) at_hand) x ts
stands-passed is_end u r at_hand x ts count c h p =
    let left = drop r.cut at_hand in
    let front = take count left in
    subst (λ z. StandsAfter is_end u (passed_of r count c) z x ts) (drop-drop count r.cut at_hand) (record {
      reads = h.reads;
      read = record { scanned = scan-fresh r.updates (drop count left); barren = barren-none is_end r.updates (drop count left) };
      before = h.before ++ front;
      parts = parts_more x h.before left count h.parts;
      characters = IsUtf8-append h.before front h.characters p.characters;
      rest = λ z us e m t.
          subst (λ y. IsCut u y (ts ++ us) e) (sym (append_assoc h.before front z))
          (h.rest (front ++ z) us e (becomes-front is_end left z count p.characters m) (p.cut z us e m t));
    })

-- after a token
pub stands-found : (is_end u : Bool) (r : Reading) (at_hand x : List ℕ) (ts : List Lexeme) (k : TokenKind) (count b : ℕ) → StandsAfter is_end u r (drop r.cut at_hand) x ts
    → FindsToken is_end r (drop r.cut at_hand) k count b
    → StandsAfter is_end u (found_of r count b) (drop (r.cut + count) at_hand) x (ts ++ lexeme_at k r.place (take count (drop r.cut at_hand)) ∷ [])
stands-found is_end u r at_hand x ts k count b h f =
    let left = drop r.cut at_hand in
    let front = take count left in
    let t = lexeme_at k r.place front in
    subst (λ z. StandsAfter is_end u (found_of r count b) z x (ts ++ t ∷ [])) (drop-drop count r.cut at_hand) (record {
      reads = h.reads;
      read = record { scanned = scan-fresh r.updates (drop count left); barren = f.stays };
      before = h.before ++ front;
      parts = parts_more x h.before left count h.parts;
      characters = IsUtf8-append h.before front h.characters f.characters;
      rest = λ z us e m c.
          subst (λ y. IsCut u y ((ts ++ t ∷ []) ++ us) e) (sym (append_assoc h.before front z))
          (subst (λ y. IsCut u (h.before ++ (front ++ z)) y e) (sym (append_assoc ts (t ∷ []) us))
          (h.rest (front ++ z) (t ∷ us) e (becomes-front is_end left z count f.characters m) (f.cut z us e m c)));
    })

-- where a token has begun that may go on
pub stands-scanned : (is_end u : Bool) (r : Reading) (left x : List ℕ) (ts : List Lexeme) (s : Scan) → StandsAfter is_end u r left x ts → IsScanned r.updates left s → StandsAfter is_end u (record r { scan = s }) left x ts
stands-scanned is_end u r left x ts s h k = record {
  reads = h.reads;
  read = record { scanned = k; barren = h.read.barren };
  before = h.before;
  parts = h.parts;
  characters = h.characters;
  rest = h.rest;
}

-- there the text is awaited
pub stands-waits : (is_end u : Bool) (r : Reading) (left x : List ℕ) (ts : List Lexeme) → is_end ≡ false → StandsAfter is_end u r left x ts → Waits r.in_comment left r.scan → Awaits u x ts
stands-waits is_end u r left x ts e h w = awaits-at u r left x ts (subst (λ b. StandsAfter b u r left x ts) e h) w

-- what is left becomes so, and has no token more
stands-becomes : (is_end u : Bool) (r : Reading) (left x y : List ℕ) (ts : List Lexeme) (e : CutEnd) → StandsAfter is_end u r left x ts → MayFollow is_end y → CutFrom r (left ++ y) [] e → IsCut u (x ++ y) ts e
stands-becomes is_end u r left x y ts e h m c =
    subst (λ z. IsCut u z ts e) (sym (append_assoc h.before left y) ∙ ap (λ z. z ++ y) (sym h.parts))
    (subst (λ z. IsCut u (h.before ++ (left ++ y)) z e) (append-nil ts) (h.rest (left ++ y) [] e (becomes-on is_end left y m) c))

-- something that is no token comes
pub stands-fails : (is_end u : Bool) (r : Reading) (left x : List ℕ) (ts : List Lexeme) → StandsAfter is_end u r left x ts → Fails is_end r left → (y : List ℕ) → MayFollow is_end y → IsCut u (x ++ y) ts (AtFault r.last)
stands-fails is_end u r left x ts h f y m = stands-becomes is_end u r left x y ts (AtFault r.last) h m (f.cut y m)

-- no token comes more
pub stands-ends : (is_end u : Bool) (r : Reading) (left x : List ℕ) (ts : List Lexeme) → StandsAfter is_end u r left x ts → CutFrom r left [] AtEnd → IsCut u x ts AtEnd
stands-ends is_end u r left x ts h c =
    subst (λ z. IsCut u z ts AtEnd) (append-nil x)
    (stands-becomes is_end u r left x [] ts AtEnd h (λ _. refl) (subst (λ z. CutFrom r z [] AtEnd) (sym (append-nil left)) c))
