-- What a step passes, finds or refuses.
use Rattle.std.proofs.Common.{◌≡◌, ◌≢◌, ℕ, ◌-◌, ◌^◌, ◌<◌, ◌≤◌, max, ◌⊎◌, inl, inr, Bool, true, false, List, [], ◌∷◌, ◌++◌, refl, sym, ap, ◌∙◌, arith, subst, append-nil, length, Option, Some, None, take, drop, get_or, MatchBool, encode_utf8_all}
use Rattle.std.proofs.Math.ListN.{take-append-drop}
use Rattle.std.proofs.lemmas.List.{length-take-le, append_cancel_left}
use Rattle.std.proofs.lemmas.Bool.Decides.{nat_tests}
use Rattle.std.proofs.str.Laws.{one}
use Rattle.std.proofs.lemmas.Str.{IsUtf8-nil, IsUtf8-encode}
use Rattle.std.specs.Str.{StartsWithNoChar, IsUtf8}
use Rattle.gs_machine.proofs.Encodings.{scalar_from}
use Rattle.gs_automaton.specs.Classes.{is_ws, is_line_end}
use Rattle.gs_automaton.specs.Scans.{MayFollow, MayBecome, IsScanned, IsBarren, IsBarrenTo}
use Rattle.gs_automaton.specs.Symbols.{BeginsWith}
use Rattle.gs_lex.specs.Tokens.{Cut, Between, InComment, AtEnd, AtFault, Lexeme, lexeme_at, place_after, token_kind, NoTerminal, EndsLine, ended, hash, comment, line_end, bad_comment, token, no_kind, no_token}
use Rattle.gs_lex.specs.Readings.{Passes, FindsToken, Fails, CutFrom, gap_of, BeginsToken}
use Rattle.gs_lex.specs.declared.kinds.TokenKind.{TokenKind}
use Rattle.gs_automaton.specs.declared.terminals.Terminal.{Terminal}
use Rattle.gs_automaton.specs.declared.terminals.Terminal.TheVariants as kind
use Rattle.gs_automaton.specs.declared.scans.Scan.{Scan}
use Rattle.gs_lex.specs.declared.steps.Reading.{Reading}
use Rattle.gs_automaton.proofs.BecomeLemmas.{becomes-self, becomes-on, becomes-before, becomes-end}
use Rattle.gs_automaton.proofs.ScanLemmas.{scan-after, scan-becomes, begins-become, begins-some}
use Rattle.gs_lex.proofs.BarrenLemmas.{barren-after, barren-max, barren-word}
use Rattle.gs_lex.proofs.LongestLemmas.{IsAll, Finds, stuck-all, scan-finds, scan-none}

-- in the mode that the reading has
pub between : (r : Reading) (x : List ℕ) (ts : List Lexeme) (e : _) → r.in_comment ≡ false → Cut r.updates Between r.place r.last x ts e → CutFrom r x ts e
between r x ts e k h = subst (λ b. Cut r.updates (gap_of b) r.place r.last x ts e) (sym k) h

pub within : (r : Reading) (x : List ℕ) (ts : List Lexeme) (e : _) → r.in_comment ≡ true → Cut r.updates InComment r.place r.last x ts e → CutFrom r x ts e
within r x ts e k h = subst (λ b. Cut r.updates (gap_of b) r.place r.last x ts e) (sym k) h

-- a byte that is a character of its own
pub low_utf8 : (c : ℕ) → c < 128 → IsUtf8 (c ∷ [])
low_utf8 c l = subst IsUtf8 (one c l) (IsUtf8-encode c (scalar_from c (inl (omega (arith, l)))))

pub space_low : (c : ℕ) → is_ws c ≡ true → c < 128
space_low c h = grind (arith, nat_tests)

pub pass-hash : (is_end : Bool) (r : Reading) (x : List ℕ) → r.in_comment ≡ false → 0 < length x → get_or x 0 0 ≡ 35 → Passes is_end r x 1 true
pass-hash is_end r [] k l h = absurd (omega arith)
pass-hash is_end r (c ∷ x) k l h = record { characters = low_utf8 c (omega (arith, h)); cut = λ z ts e m t. between r (c ∷ z) ts e k (hash z (ap (λ d. d ∷ z) h) t) }

pub pass-comment : (is_end : Bool) (r : Reading) (x : List ℕ) (c n : ℕ) → r.in_comment ≡ true → BeginsWith c n x → is_line_end c ≡ false → Passes is_end r x n true
pass-comment is_end r x c n k b h = record {
  characters = subst IsUtf8 (sym b.spelled) (IsUtf8-encode c b.scalar);
  cut = λ z ts e m t.
      let size = (begins-some c n x b).0 in
      within r (take n x ++ z) ts e k (comment c z (ap (λ y. y ++ z) b.spelled) b.scalar h (subst (λ y. Cut r.updates InComment (place_after r.place y) r.last z ts e) size t));
}

after_nothing : (r : Reading) → r.place < 2 ^ 64 → place_after r.place 0 ≡ r.place
after_nothing r h = omega arith

pub line_end_low : (c : ℕ) → is_line_end c ≡ true → c < 128
line_end_low c h = grind (arith, nat_tests)

-- a line ends before the character that ends it, and where the text ends
pub ends_line : (is_end : Bool) (c n : ℕ) (x z : List ℕ) → BeginsWith c n x → is_line_end c ≡ true → MayBecome is_end x z → EndsLine z
ends_line is_end c n x z b h m =
    let g = begins-become is_end c n x z b m in
    subst EndsLine (ap (λ y. y ++ g.rest) (sym (one c (line_end_low c h))) ∙ sym g.text) h

pub ends_text : (is_end : Bool) (x z : List ℕ) → is_end ≡ true → length x ≤ 0 → MayBecome is_end x z → EndsLine z
ends_text is_end [] z e l m = subst EndsLine (sym (becomes-end is_end [] z e m)) tt
ends_text is_end (c ∷ x) z e l m = absurd (omega arith)

-- bytes that begin no character, whatever follows, are some
pub bad-some : (x : List ℕ) → ((y : List ℕ) → StartsWithNoChar (x ++ y)) → x ≢ []
bad-some x h e = h (65 ∷ []) 65 [] refl (ap (λ z. z ++ 65 ∷ []) e ∙ ap (λ z. z ++ []) (sym (one 65 (omega arith))))

pub pass-line-end : (is_end : Bool) (r : Reading) (x : List ℕ) → r.in_comment ≡ true → r.place < 2 ^ 64 → ((z : List ℕ) → MayBecome is_end x z → EndsLine z) → Passes is_end r x 0 false
pass-line-end is_end r x k l h = record {
  characters = IsUtf8-nil;
  cut = λ z ts e m t. within r z ts e k (line_end (h z m) (subst (λ n. Cut r.updates Between n r.last z ts e) (after_nothing r l) t));
}

pub some-front : (x y : List ℕ) → x ≢ [] → x ++ y ≢ []
some-front [] y h e = h refl
some-front (c ∷ x) y h e = Prim.cc e

pub some-length : (x : List ℕ) → 0 < length x → x ≢ []
some-length x h e = let k : length x ≡ 0 = ap length e in omega arith

pub short-end : (is_end : Bool) (x y : List ℕ) → is_end ≡ true → StartsWithNoChar x → MayFollow is_end y → StartsWithNoChar (x ++ y)
short-end is_end x y e h m = subst StartsWithNoChar (sym (append-nil x) ∙ ap (λ z. x ++ z) (sym (m e))) h

pub fail-comment : (is_end : Bool) (r : Reading) (x : List ℕ) → r.in_comment ≡ true → ((y : List ℕ) → MayFollow is_end y → (x ++ y ≢ []) × StartsWithNoChar (x ++ y)) → Fails is_end r x
fail-comment is_end r x k h = record { cut = λ y m. within r (x ++ y) [] (AtFault r.last) k (bad_comment (h y m).0 (h y m).1) }

-- the token that a scan has found
pub find-token : (is_end : Bool) (r : Reading) (x : List ℕ) (t : Terminal) (n b : ℕ) (k : TokenKind) → r.in_comment ≡ false → ((text : List ℕ) → MayBecome is_end x text → Finds r.updates x text t n)
    → token_kind r.updates t (take n x) ≡ Some k → n ≤ length x → IsBarrenTo is_end r.updates (drop n x) b → FindsToken is_end r x k n b
find-token is_end r x t n b k c f e l a = record {
  characters = characters;
  stays = a;
  cut = λ z ts en m d.
      let g = f (take n x ++ z) (subst (λ y. MayBecome is_end y (take n x ++ z)) (take-append-drop n x) (becomes-before is_end (take n x) (drop n x) z characters m)) in
      let w = encode_utf8_all g.chars in
      let size : length w ≡ n = ap length (sym g.bytes) ∙ length-take-le n x l in
      let back : z ≡ g.rest = append_cancel_left w z g.rest (ap (λ y. y ++ z) (sym g.bytes) ∙ g.longest.parts) in
      subst (λ y. CutFrom r (take n x ++ z) (lexeme_at k r.place y ∷ ts) en) (sym g.bytes)
      (between r (take n x ++ z) (lexeme_at k r.place w ∷ ts) en c
      (token t g.chars g.rest k g.longest (ap (token_kind r.updates t) (sym g.bytes) ∙ e)
      (subst (λ y. Cut r.updates Between (place_after r.place (length w)) (place_after r.place (length w)) y ts en) back (subst (λ j. Cut r.updates Between (place_after r.place j) (place_after r.place j) z ts en) (sym size) d))));
}
  where
    characters : IsUtf8 (take n x)
    characters = let g = f x (becomes-self is_end x) in (g.chars, (g.longest.characters, sym g.bytes))

pub fail-kind : (is_end : Bool) (r : Reading) (x : List ℕ) (t : Terminal) (n : ℕ) → r.in_comment ≡ false → ((text : List ℕ) → MayBecome is_end x text → Finds r.updates x text t n)
    → token_kind r.updates t (take n x) ≡ None → Fails is_end r x
fail-kind is_end r x t n b f e = record {
  cut = λ y m.
      let g = f (x ++ y) (becomes-on is_end x y m) in
      between r (x ++ y) [] (AtFault r.last) b (no_kind t g.chars g.rest g.longest (ap (token_kind r.updates t) (sym g.bytes) ∙ e));
}

pub fail-token : (is_end : Bool) (r : Reading) (x : List ℕ) → r.in_comment ≡ false → BeginsToken x → ((text : List ℕ) → MayBecome is_end x text → NoTerminal r.updates text) → Fails is_end r x
fail-token is_end r x b h f = record {
  cut = λ y m.
      between r (x ++ y) [] (AtFault r.last) b (no_token h.first (h.others ++ y) (ap (λ z. z ++ y) h.parts) h.no_space h.no_hash (f (x ++ y) (becomes-on is_end x y m)));
}

-- a scan that no character goes on with, or none that is there
abbrev pub IsStuckAt : Bool → Bool → List ℕ → Scan → Type 0
IsStuckAt is_end u x s = (z : List ℕ) → MayBecome is_end (drop s.len x) z → IsBarren u s.state z

-- then no token goes beyond the characters that were read
pub all-read : (is_end u : Bool) (x : List ℕ) (s : Scan) → (h : IsScanned u x s) → IsStuckAt is_end u x s → (z : List ℕ) → MayBecome is_end h.after z → IsAll u h.chars z
all-read is_end u x s h k z m = stuck-all u h.chars z s.state h.stands (k z (subst (λ y. MayBecome is_end y z) (sym (scan-after u x s h)) m))

pub stuck-finds : (is_end u : Bool) (x : List ℕ) (s : Scan) (t : Terminal) → IsScanned u x s → IsStuckAt is_end u x s → s.best ≡ Some t → (text : List ℕ) → MayBecome is_end x text → Finds u x text t s.best_len
stuck-finds is_end u x s t h k e text m =
    let g = scan-becomes is_end u x text s h m in
    scan-finds u x text g.rest s t h g.text (all-read is_end u x s h k g.rest g.becomes) e

pub stuck-none : (is_end u : Bool) (x : List ℕ) (s : Scan) → IsScanned u x s → IsStuckAt is_end u x s → s.best ≡ None → (text : List ℕ) → MayBecome is_end x text → NoTerminal u text
stuck-none is_end u x s h k e text m =
    let g = scan-becomes is_end u x text s h m in
    scan-none u x text g.rest s h g.text (all-read is_end u x s h k g.rest g.becomes) e

pub stuck-at : (is_stuck is_end u : Bool) (x : List ℕ) (s : Scan)
    → MatchBool is_stuck ((z : List ℕ) → MayBecome is_end (drop s.len x) z → IsBarren u s.state z) (IsBarren u s.state (drop s.len x))
    → (is_stuck ≡ false → is_end ≡ false → ⊥) → IsStuckAt is_end u x s
stuck-at true is_end u x s h n z m = h z m
stuck-at false true u x s h n z m = subst (IsBarren u s.state) (sym (becomes-end true (drop s.len x) z refl m)) h
stuck-at false false u x s h n z m = absurd (n refl refl)

pub begins-token : (x : List ℕ) → 0 < length x → is_ws (get_or x 0 0) ≡ false → get_or x 0 0 ≢ 35 → BeginsToken x
begins-token [] l h k = absurd (omega arith)
begins-token (c ∷ x) l h k = record { first = c; others = x; parts = refl; no_space = h; no_hash = k }

-- a scan with a token has some bytes of it
pub fail-empty : (is_end : Bool) (r : Reading) (x : List ℕ) (s : Scan) → r.in_comment ≡ false → BeginsToken x → IsScanned r.updates x s → IsStuckAt is_end r.updates x s → s.best_len ≡ 0 → Fails is_end r x
fail-empty is_end r x s b h g k e = by_best s.best refl
  where
    by_best : (t : Option Terminal) → s.best ≡ t → Fails is_end r x
    by_best None p = fail-token is_end r x b h (stuck-none is_end r.updates x s g k p)
    by_best (Some t) p = record { cut = λ y m. let f = stuck-finds is_end r.updates x s t g k p x (becomes-self is_end x) in absurd (omega (arith, f.some, e)) }

-- at the end nothing is left
pub end-nothing : (r : Reading) (x : List ℕ) → r.in_comment ≡ false → length x ≤ 0 → CutFrom r x [] AtEnd
end-nothing r [] k l = between r [] [] AtEnd k (ended refl)
end-nothing r (c ∷ x) k l = absurd (omega arith)

-- what is barren after the token that a scan has found
pub found-barren : (is_end u : Bool) (x : List ℕ) (s : Scan) (b : ℕ) (t : Terminal) (n : ℕ) → IsScanned u x s → IsStuckAt is_end u x s → s.best ≡ Some t → s.best_len ≤ length x → IsBarrenTo is_end u x b
    → (n ≡ b - s.best_len) ⊎ ((t ≡ kind.Word) × (n ≡ max (s.len - s.best_len) (b - s.best_len))) → IsBarrenTo is_end u (drop s.best_len x) n
found-barren is_end u x s b t n h k e l a c = elim c [
  | inl p ↦ subst (IsBarrenTo is_end u (drop s.best_len x)) (sym p) old
  | inr p ↦ subst (IsBarrenTo is_end u (drop s.best_len x)) (sym p.1)
      (barren-max is_end u (drop s.best_len x) (s.len - s.best_len) (b - s.best_len) (barren-word is_end u x s h (e ∙ ap Some p.0) (all-read is_end u x s h k)) old)
]
  where
    old : IsBarrenTo is_end u (drop s.best_len x) (b - s.best_len)
    old = let f = stuck-finds is_end u x s t h k e x (becomes-self is_end x) in barren-after is_end u x s.best_len b f.chars f.bytes f.longest.characters l a
