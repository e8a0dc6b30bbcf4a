-- What a decoder reports of the front of bytes.
use Rattle.std.proofs.Common.{◌≡◌, ◌≢◌, ℕ, zero, suc, ◌+◌, ◌-◌, ◌*◌, ◌<◌, ◌≤◌, Bool, true, false, cond, List, [], ◌∷◌, ◌++◌, refl, sym, ap, ◌∙◌, inl, arith, subst, append_assoc, append-nil, length, take, drop, get_or}
use Rattle.std.proofs.Math.ListN.{take-append-drop}
use Rattle.std.proofs.str.Laws.{one}
use Rattle.std.specs.Prelude.{nat_lt, ◌==◌, encode_utf8}
use Rattle.std.specs.Char.{IsScalar}
use Rattle.std.specs.Str.{StartsWithNoChar}
use Rattle.gs_machine.specs.Machines.{steps, rest}
use Rattle.gs_machine.specs.Utf8.{bad, Spells, nothing, char, fault, Decoding, Ready, Within, Lost, character_goes_on, decode_step, decode_end, utf8}
use Rattle.gs_machine.proofs.MachineLemmas.{rest-append, steps-snoc}
use Rattle.gs_machine.proofs.Utf8Lemmas.{walk, Stands, ready, within, stands-on, completes}
use Rattle.gs_machine.proofs.Encodings.{scalar_from}
use Rattle.gs_automaton.specs.Symbols.{BeginsWith, IsShort}
use Rattle.gs_automaton.proofs.BecomeLemmas.{short-nothing}

-- a character is given between two characters alone
abbrev Quiet : Decoding × List ℕ → Type 0
Quiet r = (c : ℕ) → r.1 ≡ c ∷ [] → decode_end r.0 ≡ []

quiet_if : (t : Bool) (x y : Decoding × List ℕ) → Quiet x → Quiet y → Quiet (cond t x y)
quiet_if true x y p q = p
quiet_if false x y p q = q

quiet_on : (n v : ℕ) → Quiet (character_goes_on n v)
quiet_on zero v c e = refl
quiet_on (suc n) v c e = Prim.cc e

given : (s : Decoding) (os : List ℕ) → decode_end s ≡ [] → Quiet (s, os)
given s os e c k = e

silent : (s : Decoding) → Quiet (s, [])
silent s c e = Prim.cc e

quiet : (s : Decoding) (b : ℕ) → Quiet (decode_step s b)
quiet Ready b =
    quiet_if (nat_lt b 128) _ _ (given Ready (b ∷ []) refl)
    (quiet_if (nat_lt b 194) _ _ (given Lost (bad ∷ []) refl)
    (quiet_if (nat_lt b 224) _ _ (silent (Within 0 (b - 192) 128 191))
    (quiet_if (nat_lt b 240) _ _ (silent (Within 1 (b - 224) (cond (b == 224) 160 128) (cond (b == 237) 159 191)))
    (quiet_if (nat_lt b 245) _ _ (silent (Within 2 (b - 240) (cond (b == 240) 144 128) (cond (b == 244) 143 191))) (given Lost (bad ∷ []) refl)))))
quiet (Within n v low high) b =
    quiet_if (nat_lt b low) _ _ (given Lost (bad ∷ []) refl)
    (quiet_if (nat_lt high b) _ _ (given Lost (bad ∷ []) refl) (quiet_on n (v * 64 + (b - 128))))
quiet Lost b = silent Lost

-- what is reported of a text that leads to a state
spelled_at : (x y : List ℕ) (s : Decoding) (os : List ℕ) → steps utf8 Ready x ≡ (s, os) → Spells (x ++ y) (os ++ (rest utf8 s y).0)
spelled_at x y s os e =
    subst (Spells (x ++ y)) (ap (λ r. r.0) (rest-append utf8 Ready x y) ∙ ap (λ t. t.1 ++ (rest utf8 t.0 y).0) e) (walk Ready [] (x ++ y) ready)

ended : (s : Decoding) → (rest utf8 s []).0 ≡ decode_end s
unfolding rest
ended s = refl

spelled_of : (x : List ℕ) (s : Decoding) (os : List ℕ) → steps utf8 Ready x ≡ (s, os) → Spells x (os ++ decode_end s)
spelled_of x s os e = subst (λ z. Spells z (os ++ decode_end s)) (append-nil x) (subst (λ z. Spells (x ++ []) (os ++ z)) (ended s) (spelled_at x [] s os e))

only_one : (x : List ℕ) (c : ℕ) → Spells x (c ∷ []) → IsScalar c → c ≢ bad → x ≡ encode_utf8 c
only_one x _ (char c o _ s e nothing) k n = e ∙ append-nil (encode_utf8 c)
only_one x _ (fault m h) k n = absurd (n refl)

no_scalar : (c : ℕ) → IsScalar c → c ≢ bad
no_scalar c k e = let h : IsScalar bad = subst IsScalar e k in Prim.cc h

-- the bytes up to the one that gives a character are its bytes
pub front-character : (x : List ℕ) (n : ℕ) (s d : Decoding) (b c : ℕ) → steps utf8 Ready (take n x) ≡ (s, []) → n < length x → b ≡ get_or x n 0
    → (d, c ∷ []) ≡ decode_step s b → IsScalar c → BeginsWith c (n + 1) x
front-character x n s d b c e l i g k =
    let t : steps utf8 Ready (take (n + 1) x) ≡ (d, c ∷ []) =
    steps-snoc utf8 Ready x n 0 l ∙ ap (λ z. ((decode_step z.0 (get_or x n 0)).0, z.1 ++ (decode_step z.0 (get_or x n 0)).1)) e
    ∙ ap (λ z. ((decode_step s z).0, (decode_step s z).1)) (sym i) ∙ sym g in
    let q : decode_end d ≡ [] = subst Quiet (sym g) (quiet s b) c refl in
    record {
      scalar = k;
      within = omega arith;
      spelled = only_one (take (n + 1) x) c (subst (λ z. Spells (take (n + 1) x) (c ∷ z)) q (spelled_of (take (n + 1) x) d (c ∷ []) t)) k (no_scalar c k);
    }

no_front : (x : List ℕ) (c : ℕ) (cs : List ℕ) → Spells x (c ∷ cs) → (IsScalar c → ⊥) → StartsWithNoChar x
no_front x _ _ (char c o cs s e k) n = absurd (n s)
no_front x _ _ (fault m h) n = h

-- and where it gives no character, none begins there
pub front-bad : (x : List ℕ) (n : ℕ) (s d : Decoding) (b c : ℕ) → steps utf8 Ready (take n x) ≡ (s, []) → n < length x → b ≡ get_or x n 0
    → (d, c ∷ []) ≡ decode_step s b → (IsScalar c → ⊥) → (y : List ℕ) → StartsWithNoChar (x ++ y)
front-bad x n s d b c e l i g k y =
    let t : steps utf8 Ready (take (n + 1) x) ≡ (d, c ∷ []) =
    steps-snoc utf8 Ready x n 0 l ∙ ap (λ z. ((decode_step z.0 (get_or x n 0)).0, z.1 ++ (decode_step z.0 (get_or x n 0)).1)) e
    ∙ ap (λ z. ((decode_step s z).0, (decode_step s z).1)) (sym i) ∙ sym g in
    subst StartsWithNoChar (sym (append_assoc (take (n + 1) x) (drop (n + 1) x) y) ∙ ap (λ z. z ++ y) (take-append-drop (n + 1) x))
    (no_front (take (n + 1) x ++ (drop (n + 1) x ++ y)) c _ (spelled_at (take (n + 1) x) (drop (n + 1) x ++ y) d (c ∷ []) t) k)

-- the bytes for which a decoder stands are the first of a character
short_of : (s : Decoding) (x : List ℕ) → Stands s x → IsShort x
short_of _ _ ready = short-nothing
short_of _ _ (within k v low high a p o h) =
    let q = completes k v low high (a ∷ p) o h in
    record { character = q.character; others = q.others; scalar = q.scalar; some = q.some; parts = q.parts }

-- a text that gives nothing is the first bytes of a character
pub front-short : (x : List ℕ) (s : Decoding) → steps utf8 Ready x ≡ (s, []) → IsShort x
front-short x s e = short_of (steps utf8 Ready x).0 x (stands-on x Ready [] ready (ap (λ (t : Decoding × List ℕ). t.1) e))

-- one byte of ASCII
pub front-ascii : (x : List ℕ) (b : ℕ) → b ≡ get_or x 0 b → 0 < length x → b < 128 → BeginsWith b 1 x
front-ascii [] b e l h = absurd (omega arith)
front-ascii (d ∷ x) b e l h = record {
  scalar = scalar_from b (inl (omega arith));
  within = omega arith;
  spelled = ap (λ z. z ∷ []) (sym e) ∙ sym (one b h);
}

pub front-nothing : (x : List ℕ) → length x ≤ 0 → IsShort x
front-nothing [] h = short-nothing
front-nothing (c ∷ x) h = absurd (omega arith)

-- one byte more, which gives nothing
pub front-more : (x : List ℕ) (n : ℕ) (s d : Decoding) (b : ℕ) → steps utf8 Ready (take n x) ≡ (s, []) → n < length x → b ≡ get_or x n 0
    → (d, []) ≡ decode_step s b → steps utf8 Ready (take (n + 1) x) ≡ (d, [])
front-more x n s d b e l i g =
    steps-snoc utf8 Ready x n 0 l ∙ ap (λ z. ((decode_step z.0 (get_or x n 0)).0, z.1 ++ (decode_step z.0 (get_or x n 0)).1)) e
    ∙ ap (λ z. ((decode_step s z).0, (decode_step s z).1)) (sym i) ∙ sym g
