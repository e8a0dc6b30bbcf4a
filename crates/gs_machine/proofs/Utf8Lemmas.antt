-- The decoder spells the characters of its text.
use Rattle.std.proofs.Common.{◌≡◌, ◌≢◌, ℕ, zero, suc, ◌+◌, ◌-◌, ◌*◌, ◌<◌, ◌≤◌, true, false, cond, List, [], ◌∷◌, ◌++◌, refl, sym, ap, ◌∙◌, ◌⊎◌, inl, inr, arith, subst, append_assoc, append-nil, length, length-append}
use Rattle.std.proofs.lemmas.Bool.Decides.{nat_tests}
use Rattle.std.specs.Prelude.{◌==◌, nat_lt}
use Rattle.std.specs.Char.{IsScalar}
use Rattle.std.specs.Str.{StartsWithNoChar}
use lib.Utf8.{encode}
use Rattle.std.proofs.lemmas.Str.{encode_same, len_utf8_bounds, length-encode}
use Rattle.std.proofs.str.Laws.{order, one}
use Rattle.gs_machine.specs.Machines.{steps, rest}
use Rattle.gs_machine.specs.Utf8.{bad, Spells, nothing, char, fault, Decoding, Ready, Within, Lost, utf8, symbols}
use Rattle.gs_machine.proofs.Encodings.{After, after_two, after_three, after_four, lead_low, lead_high, scalar_from}

-- the bytes for which a state stands; within a character some byte may be next
pub data Stands : Decoding → List ℕ → Type 0 where
  ready : Stands Ready []
  within : (k v low high : ℕ) (a : ℕ) (p : List ℕ) → low ≤ high → After k v low high (a ∷ p) → Stands (Within k v low high) (a ∷ p)

pub lost : (y : List ℕ) → (rest utf8 Lost y).0 ≡ []
unfolding rest
lost [] = refl
lost (b ∷ y) = lost y

-- what a step gave, and what comes after it
abbrev outputs : Decoding × List ℕ → List ℕ → List ℕ
outputs t y = t.1 ++ (rest utf8 t.0 y).0

-- a test of two numbers, either way
if_less : (P : Decoding × List ℕ → Type 0) (m n : ℕ) (x y : Decoding × List ℕ) → (m < n → P x) → (n ≤ m → P y) → P (cond (nat_lt m n) x y)
if_less P m n x y f g = elim (order m n) [
  | inl l ↦ let e : nat_lt m n ≡ true = grind (arith, nat_tests) in rw e (f l)
  | inr l ↦ let e : nat_lt m n ≡ false = grind (arith, nat_tests) in rw e (g l)
]

ends_all : (k v low high : ℕ) (p : List ℕ) → After k v low high p → StartsWithNoChar p
ends_all zero v low high p h = h.ends
ends_all (suc k) v low high p h = h.ends

below_all : (k v low high : ℕ) (p : List ℕ) → After k v low high p → (b : ℕ) (z : List ℕ) → b < low → StartsWithNoChar (p ++ b ∷ z)
below_all zero v low high p h = h.below
below_all (suc k) v low high p h = h.below

above_all : (k v low high : ℕ) (p : List ℕ) → After k v low high p → (b : ℕ) (z : List ℕ) → high < b → StartsWithNoChar (p ++ b ∷ z)
above_all zero v low high p h = h.above
above_all (suc k) v low high p h = h.above

some : (a : ℕ) (p : List ℕ) → a ∷ p ≢ []
some a p e = Prim.cc

pub some_encode : (c : ℕ) (o : List ℕ) → IsScalar c → encode c ++ o ≡ [] → ⊥
some_encode c o s e = let h = len_utf8_bounds c in
    let k : length (encode c ++ o) ≡ 0 = ap length e in
    omega (arith, length-append (encode c) o, length-encode c, h.0, k)

-- the bytes are at fault here
at_fault : (a : ℕ) (p y : List ℕ) → StartsWithNoChar (a ∷ p) → Spells (a ∷ p) (outputs (Lost, bad ∷ []) y)
at_fault a p y h = subst (λ cs. Spells (a ∷ p) (bad ∷ cs)) (sym (lost y)) (fault (some a p) h)

-- the tests that give a first byte's least and greatest second byte
either : (a n x y : ℕ) → ((a ≡ n) × (cond (a == n) x y ≡ x)) ⊎ ((a ≢ n) × (cond (a == n) x y ≡ y))
either a n x y = grind (arith, nat_tests)

-- of two first bytes that narrow the second, at most one stands there
room : (a low high m n l h : ℕ) → m < n → l ≤ 191 → 128 ≤ h → ((a ≡ m) × (low ≡ l)) ⊎ ((a ≢ m) × (low ≡ 128)) → ((a ≡ n) × (high ≡ h)) ⊎ ((a ≢ n) × (high ≡ 191)) → low ≤ high
room a low high m n l h b c d e f = elim e [
  | inl p ↦ elim f [ inl q ↦ omega (arith, p.0, q.0) | inr q ↦ omega (arith, p.1, q.1) ]
  | inr p ↦ elim f [ inl q ↦ omega (arith, p.1, q.1) | inr q ↦ omega (arith, p.1, q.1) ]
]

-- what the decoder gives from a state spells the bytes for which it stands, and those that follow
pub walk : (s : Decoding) (p y : List ℕ) → Stands s p → Spells (p ++ y) (rest utf8 s y).0
unfolding rest
walk _ _ [] ready = nothing
walk _ _ [] (within k v low high a p o h) = subst (λ z. Spells z (bad ∷ [])) (sym (append-nil (a ∷ p))) (fault (some a p) (ends_all k v low high (a ∷ p) h))
walk _ _ (b ∷ y) ready =
    if_less (λ t. Spells (b ∷ y) (outputs t y)) b 128 _ _
    (λ l. char b y (rest utf8 Ready y).0 (scalar_from b (inl (omega arith))) (ap (λ z. z ++ y) (sym (one b l))) (walk Ready [] y ready)) (λ g.
    if_less (λ t. Spells (b ∷ y) (outputs t y)) b 194 _ _ (λ l. at_fault b y y (lead_low b y g l)) (λ g2.
    if_less (λ t. Spells (b ∷ y) (outputs t y)) b 224 _ _ (λ l. walk _ _ y (within 0 (b - 192) 128 191 b [] (omega arith) (after_two b g2 l))) (λ g3.
    if_less (λ t. Spells (b ∷ y) (outputs t y)) b 240 _ _ (λ l. walk _ _ y (within 1 (b - 224) _ _ b [] (room b _ _ 224 237 160 159 (omega arith) (omega arith) (omega arith) (either b 224 160 128) (either b 237 159 191)) (after_three b _ _ g3 l (either b 224 160 128) (either b 237 159 191)))) (λ g4.
    if_less (λ t. Spells (b ∷ y) (outputs t y)) b 245 _ _ (λ l. walk _ _ y (within 2 (b - 240) _ _ b [] (room b _ _ 240 244 144 143 (omega arith) (omega arith) (omega arith) (either b 240 144 128) (either b 244 143 191)) (after_four b _ _ g4 l (either b 240 144 128) (either b 244 143 191)))) (λ g5.
    at_fault b y y (lead_high b y g5))))))
walk _ _ (b ∷ y) (within zero v low high a p o h) =
    if_less (λ t. Spells (a ∷ p ++ b ∷ y) (outputs t y)) b low _ _ (λ l. at_fault a (p ++ b ∷ y) y (h.below b y l)) (λ g.
    if_less (λ t. Spells (a ∷ p ++ b ∷ y) (outputs t y)) high b _ _ (λ l. at_fault a (p ++ b ∷ y) y (h.above b y l)) (λ g2.
    let e = h.fits b g g2 in
    char (v * 64 + (b - 128)) y (rest utf8 Ready y).0 e.0 (sym (append_assoc (a ∷ p) (b ∷ []) y) ∙ ap (λ z. z ++ y) (sym e.1)) (walk Ready [] y ready)))
walk _ _ (b ∷ y) (within (suc k) v low high a p o h) =
    if_less (λ t. Spells (a ∷ p ++ b ∷ y) (outputs t y)) b low _ _ (λ l. at_fault a (p ++ b ∷ y) y (h.below b y l)) (λ g.
    if_less (λ t. Spells (a ∷ p ++ b ∷ y) (outputs t y)) high b _ _ (λ l. at_fault a (p ++ b ∷ y) y (h.above b y l)) (λ g2.
    subst (λ z. Spells z (rest utf8 (Within k (v * 64 + (b - 128)) 128 191) y).0) (append_assoc (a ∷ p) (b ∷ []) y)
    (walk _ _ y (within k (v * 64 + (b - 128)) 128 191 a (p ++ b ∷ []) (omega arith) (h.fits b g g2)))))

-- the decoder gives the characters of a text
pub spelt : (x : List ℕ) → Spells x (symbols x)
unfolding symbols
spelt x = walk Ready [] x ready

-- a text has one spelling
pub one_spelling : (x cs ds : List ℕ) → Spells x cs → Spells x ds → cs ≡ ds
one_spelling x _ _ nothing nothing = refl
one_spelling x _ _ nothing (char c o ds s e q) = absurd (some_encode c o s (sym e))
one_spelling x _ _ nothing (fault n h) = absurd (n refl)
one_spelling x _ _ (char c o cs s e q) nothing = absurd (some_encode c o s (sym e))
one_spelling x _ _ (char c o cs s e q) (char c2 o2 ds s2 e2 q2) =
    let k = encode_same c c2 o o2 (sym e ∙ e2) in
    ap (λ z. z ∷ cs) k.0 ∙ ap (λ z. c2 ∷ z) (one_spelling o cs ds q (subst (λ z. Spells z ds) (sym k.1) q2))
one_spelling x _ _ (char c o cs s e q) (fault n h) = absurd (h c o s e)
one_spelling x _ _ (fault n h) nothing = absurd (n refl)
one_spelling x _ _ (fault n h) (char c o ds s e q) = absurd (h c o s e)
one_spelling x _ _ (fault n h) (fault m k) = refl

-- over bytes that give nothing the decoder goes on to stand for them
pub stands-on : (y : List ℕ) (s : Decoding) (p : List ℕ) → Stands s p → (steps utf8 s y).1 ≡ [] → Stands (steps utf8 s y).0 (p ++ y)
unfolding steps
stands-on [] _ _ ready e = ready
stands-on [] _ _ (within k v low high a p o h) e = subst (Stands (Within k v low high)) (sym (append-nil (a ∷ p))) (within k v low high a p o h)
stands-on (b ∷ y) _ _ ready e =
    let P : Decoding × List ℕ → Type 0 = λ t. t.1 ++ (steps utf8 t.0 y).1 ≡ [] → Stands (steps utf8 t.0 y).0 (b ∷ y) in
    let given : (s : Decoding) (c : ℕ) → P (s, c ∷ []) = λ s c k. absurd (Prim.cc k) in
    if_less P b 128 _ _ (λ _. given Ready b) (λ g.
    if_less P b 194 _ _ (λ _. given Lost bad) (λ g2.
    if_less P b 224 _ _ (λ l. stands-on y _ _ (within 0 (b - 192) 128 191 b [] (omega arith) (after_two b g2 l))) (λ g3.
    if_less P b 240 _ _ (λ l. stands-on y _ _ (within 1 (b - 224) _ _ b [] (room b _ _ 224 237 160 159 (omega arith) (omega arith) (omega arith) (either b 224 160 128) (either b 237 159 191)) (after_three b _ _ g3 l (either b 224 160 128) (either b 237 159 191)))) (λ g4.
    if_less P b 245 _ _ (λ l. stands-on y _ _ (within 2 (b - 240) _ _ b [] (room b _ _ 240 244 144 143 (omega arith) (omega arith) (omega arith) (either b 240 144 128) (either b 244 143 191)) (after_four b _ _ g4 l (either b 240 144 128) (either b 244 143 191)))) (λ g5.
    given Lost bad))))) e
stands-on (b ∷ y) _ _ (within zero v low high a p o h) e =
    let P : Decoding × List ℕ → Type 0 = λ t. t.1 ++ (steps utf8 t.0 y).1 ≡ [] → Stands (steps utf8 t.0 y).0 (a ∷ p ++ b ∷ y) in
    let given : (s : Decoding) (c : ℕ) → P (s, c ∷ []) = λ s c k. absurd (Prim.cc k) in
    if_less P b low _ _ (λ _. given Lost bad) (λ g. if_less P high b _ _ (λ _. given Lost bad) (λ g2. given Ready (v * 64 + (b - 128)))) e
stands-on (b ∷ y) _ _ (within (suc k) v low high a p o h) e =
    let P : Decoding × List ℕ → Type 0 = λ t. t.1 ++ (steps utf8 t.0 y).1 ≡ [] → Stands (steps utf8 t.0 y).0 (a ∷ p ++ b ∷ y) in
    let given : (s : Decoding) (c : ℕ) → P (s, c ∷ []) = λ s c k. absurd (Prim.cc k) in
    if_less P b low _ _ (λ _. given Lost bad) (λ g. if_less P high b _ _ (λ _. given Lost bad) (λ g2 k2.
    subst (Stands (steps utf8 (Within k (v * 64 + (b - 128)) 128 191) y).0) (append_assoc (a ∷ p) (b ∷ []) y)
    (stands-on y _ _ (within k (v * 64 + (b - 128)) 128 191 a (p ++ b ∷ []) (omega arith) (h.fits b g g2)) k2))) e

-- the bytes of a character that is not complete, and those that may follow
pub record Completes (p : List ℕ) : Type 0 where
  pub character : ℕ
  pub others : List ℕ
  pub scalar : IsScalar character
  pub some : others ≢ []
  pub parts : encode character ≡ p ++ others

pub completes : (k v low high : ℕ) (p : List ℕ) → low ≤ high → After k v low high p → Completes p
completes zero v low high p l h =
    let e = h.fits low (omega arith) l in
    record { character = v * 64 + (low - 128); others = low ∷ []; scalar = e.0; some = some low []; parts = e.1 }
completes (suc k) v low high p l h =
    let q = completes k (v * 64 + (low - 128)) 128 191 (p ++ low ∷ []) (omega arith) (h.fits low (omega arith) l) in
    record { character = q.character; others = low ∷ q.others; scalar = q.scalar; some = some low q.others; parts = q.parts ∙ append_assoc p (low ∷ []) q.others }
