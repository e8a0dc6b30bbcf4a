-- The longest front of a text that ends between two characters, and the decoder there.
use Rattle.std.proofs.Common.{◌≡◌, ℕ, Bool, true, false, List, [], ◌∷◌, ◌++◌, refl, sym, ap, subst, ◌∙◌, ◌⊎◌, inl, inr, arith, append_assoc, append-nil, length, length-append}
use Rattle.std.specs.Str.{IsUtf8, StartsWithNoChar}
use lib.Utf8.{encode, encodes, scalar, scalars}
use Rattle.std.proofs.lemmas.Bool.{and_parts}
use Rattle.std.proofs.lemmas.Str.{IsUtf8-append, IsUtf8-encode, IsUtf8-nil, IsUtf8-past_char}
use Rattle.gs_machine.specs.Machines.{Machine, steps, rest, composed}
use Rattle.gs_machine.specs.Utf8.{bad, Spells, nothing, char, fault, Decoding, Ready, Within, Lost, decode_end, utf8, symbols, IsLongestFront}
use Rattle.gs_machine.proofs.MachineLemmas.{rest-append, steps-append, steps-composed}
use Rattle.gs_machine.proofs.Utf8Lemmas.{lost, some_encode, spelt, one_spelling}

-- of two fronts of a text one begins the other
pub one_begins : (a ra b rb : List ℕ) → a ++ ra ≡ b ++ rb
    → ((m : List ℕ) × (b ≡ a ++ m) × (ra ≡ m ++ rb)) ⊎ ((m : List ℕ) × (a ≡ b ++ m) × (rb ≡ m ++ ra))
one_begins [] ra b rb e = inl (b, refl, e)
one_begins (c ∷ a) ra [] rb e = inr (c ∷ a, refl, sym e)
one_begins (c ∷ a) ra (d ∷ b) rb e =
    let same : c ≡ d = Prim.cc in
    let tails : a ++ ra ≡ b ++ rb = Prim.cc in
    elim (one_begins a ra b rb tails) [
      | inl h ↦ inl (h.0, sym (ap (λ z. z ∷ b) same) ∙ ap (λ z. c ∷ z) h.1, h.2)
      | inr h ↦ inr (h.0, ap (λ z. z ∷ a) same ∙ ap (λ z. d ∷ z) h.1, h.2)
    ]

-- a text that begins with no character has no front of characters but the empty one
pub none_of_characters : (more others : List ℕ) → IsUtf8 more → StartsWithNoChar (more ++ others) → more ≡ []
none_of_characters more others ([], (s, e)) h = sym e
none_of_characters more others (c ∷ cs, (s, e)) h =
    absurd (h c (encodes cs ++ others) (and_parts (scalar c) (scalars cs) s).0 (ap (λ z. z ++ others) (sym e) ∙ append_assoc (encode c) (encodes cs) others))

-- what comes after characters in a text of characters is characters
pub IsUtf8-past : (front more : List ℕ) → IsUtf8 front → IsUtf8 (front ++ more) → IsUtf8 more
IsUtf8-past front more (cs, (s, e)) u = past cs s (subst (λ z. IsUtf8 (z ++ more)) (sym e) u)
  where
    past : (ds : List ℕ) → scalars ds ≡ true → IsUtf8 (encodes ds ++ more) → IsUtf8 more
    past [] k v = v
    past (d ∷ ds) k v = past ds (and_parts (scalar d) (scalars ds) k).1
        (IsUtf8-past_char (encodes (d ∷ ds) ++ more) (encodes ds ++ more) d v (append_assoc (encode d) (encodes ds) more))

-- characters, and then bytes that begin no character
pub front_of_parts : (x front after : List ℕ) → x ≡ front ++ after → IsUtf8 front → StartsWithNoChar after → IsLongestFront x front
front_of_parts x front after e u h = record {
  after = after;
  parts = e;
  characters = u;
  longest = λ more others k v. none_of_characters more others (IsUtf8-past front more u v) (subst StartsWithNoChar k h);
}

-- what comes after the longest front begins no character
pub front_is_longest : (x front : List ℕ) → (h : IsLongestFront x front) → StartsWithNoChar h.after
front_is_longest x front h c r s e =
    some_encode c [] s (append-nil (encode c) ∙ h.longest (encode c) r e (IsUtf8-append front (encode c) h.characters (IsUtf8-encode c s)))

-- the longest front, by the characters of the text
front_by : (x cs : List ℕ) → Spells x cs → (front : List ℕ) × IsLongestFront x front
front_by x _ nothing = ([], front_of_parts [] [] [] refl IsUtf8-nil (λ c r s e. some_encode c r s (sym e)))
front_by x _ (char c others cs s e q) =
    let k = front_by others cs q in (
      encode c ++ k.0,
      front_of_parts x (encode c ++ k.0) k.1.after (e ∙ ap (λ z. encode c ++ z) k.1.parts ∙ sym (append_assoc (encode c) k.0 k.1.after))
          (IsUtf8-append (encode c) k.0 (IsUtf8-encode c s) k.1.characters) (front_is_longest others k.0 k.1),
    )
front_by x _ (fault n h) = ([], front_of_parts x [] x refl IsUtf8-nil h)

-- each text has a longest front
pub some_front : (x : List ℕ) → (front : List ℕ) × IsLongestFront x front
some_front x = front_by x (symbols x) (spelt x)

-- and only one
pub one_front : (x a b : List ℕ) → IsLongestFront x a → IsLongestFront x b → a ≡ b
one_front x a b h k = elim (one_begins a h.after b k.after (sym h.parts ∙ k.parts)) [
  | inl m ↦ sym (append-nil a) ∙ ap (λ z. a ++ z) (sym (h.longest m.0 k.after m.2 (subst IsUtf8 m.1 k.characters))) ∙ sym m.1
  | inr m ↦ m.1 ∙ ap (λ z. b ++ z) (k.longest m.0 h.after m.2 (subst IsUtf8 m.1 h.characters)) ∙ append-nil b
]

-- characters, and then a text, have the characters of both
spells_after : (cs : List ℕ) → scalars cs ≡ true → (y ds : List ℕ) → Spells y ds → Spells (encodes cs ++ y) (cs ++ ds)
spells_after [] h y ds k = k
spells_after (c ∷ cs) h y ds k =
    char c (encodes cs ++ y) (cs ++ ds) (and_parts (scalar c) (scalars cs) h).0 (append_assoc (encode c) (encodes cs) y) (spells_after cs (and_parts (scalar c) (scalars cs) h).1 y ds k)

-- the letter A
letter : Spells (65 ∷ []) (65 ∷ [])
unfolding encode
letter = char 65 [] [] refl refl nothing

-- the mark is no character
no_mark : (os : List ℕ) → scalars (os ++ bad ∷ []) ≡ true → ⊥
no_mark [] h = Prim.cc
no_mark (c ∷ os) h = no_mark os (and_parts (scalar c) (scalars (os ++ bad ∷ [])) h).1

-- nothing comes after the mark
mark_is_last : (x : List ℕ) (d : ℕ) (ds : List ℕ) → Spells x (bad ∷ d ∷ ds) → ⊥
mark_is_last x d ds (char _ others _ s e q) = no_mark [] s

-- the characters of a text that goes on: those that its front has given, and those of the rest from there
symbols_more : (x y : List ℕ) → symbols (x ++ y) ≡ (steps utf8 Ready x).1 ++ (rest utf8 (steps utf8 Ready x).0 y).0
unfolding symbols
symbols_more x y = ap (λ z. z.0) (rest-append utf8 Ready x y)

-- the characters of a text: those that were given, and the mark where the last is not complete
symbols_split : (x : List ℕ) → symbols x ≡ (steps utf8 Ready x).1 ++ decode_end (steps utf8 Ready x).0
unfolding rest
symbols_split x = ap symbols (sym (append-nil x)) ∙ symbols_more x []

-- a decoder's state, and what it has given
abbrev Given : Type 0
Given = Decoding × List ℕ

-- after characters the decoder has given them, and stands between two
pub after_characters : (cs : List ℕ) → scalars cs ≡ true → ◌≡◌ {A = Given} (steps utf8 Ready (encodes cs)) (Ready, cs)
after_characters cs h = by_state (steps utf8 Ready (encodes cs)).0 (steps utf8 Ready (encodes cs)).1
    (sym (symbols_split (encodes cs)) ∙ one_spelling (encodes cs) _ cs (spelt (encodes cs)) (subst (λ z. Spells (encodes cs) z) (append-nil cs) (subst (λ z. Spells z (cs ++ [])) (append-nil (encodes cs)) (spells_after cs h [] [] nothing))))
    (sym (symbols_more (encodes cs) (65 ∷ [])) ∙ one_spelling (encodes cs ++ 65 ∷ []) _ (cs ++ 65 ∷ []) (spelt (encodes cs ++ 65 ∷ [])) (spells_after cs h (65 ∷ []) (65 ∷ []) letter))
  where
    by_state : (d : Decoding) (os : List ℕ) → os ++ decode_end d ≡ cs → os ++ (rest utf8 d (65 ∷ [])).0 ≡ cs ++ 65 ∷ [] → ◌≡◌ {A = Given} (d, os) (Ready, cs)
    by_state Ready os e k = ap (λ z. (Ready, z)) (sym (append-nil os) ∙ e)
    by_state (Within n v low high) os e k = absurd (no_mark os (ap scalars e ∙ h))
    by_state Lost os e k =
        let same : cs ≡ cs ++ 65 ∷ [] = sym e ∙ ap (λ z. os ++ z) (sym (lost (65 ∷ []))) ∙ k in
        absurd (omega (arith, ap length same, length-append cs (65 ∷ [])))

-- over bytes that begin no character the decoder gives nothing, or the mark, and is lost then
pub after_no_character : (r : List ℕ) → StartsWithNoChar r → ((steps utf8 Ready r).1 ≡ []) ⊎ (steps utf8 Ready r ≡ (Lost, bad ∷ []))
unfolding steps rest
after_no_character [] h = inl refl
after_no_character (b ∷ bs) h = by_state (steps utf8 Ready (b ∷ bs)).0 (steps utf8 Ready (b ∷ bs)).1
    (sym (symbols_split (b ∷ bs)) ∙ one_spelling (b ∷ bs) _ (bad ∷ []) (spelt (b ∷ bs)) (fault (λ e. Prim.cc) h))
    (subst (λ z. Spells (b ∷ bs ++ 65 ∷ []) z) (symbols_more (b ∷ bs) (65 ∷ [])) (spelt (b ∷ bs ++ 65 ∷ [])))
  where
    by_state : (d : Decoding) (os : List ℕ) → os ++ decode_end d ≡ bad ∷ [] → Spells (b ∷ bs ++ 65 ∷ []) (os ++ (rest utf8 d (65 ∷ [])).0)
        → (os ≡ []) ⊎ (◌≡◌ {A = Given} (d, os) (Lost, bad ∷ []))
    by_state Ready os e k =
        let mark : os ≡ bad ∷ [] = sym (append-nil os) ∙ e in
        absurd (mark_is_last (b ∷ bs ++ 65 ∷ []) 65 [] (subst (λ z. Spells (b ∷ bs ++ 65 ∷ []) (z ++ 65 ∷ [])) mark k))
    by_state (Within n v low high) [] e k = inl refl
    by_state (Within n v low high) (o ∷ os) e k = absurd (omega (arith, ap length e, length-append os (bad ∷ [])))
    by_state Lost os e k = inr (ap (λ z. (Lost, z)) (sym (append-nil os) ∙ e))

-- A decoder that is not lost has given at the longest front of its text all that it gave, and stands there between two characters.
pub at_front : (x front : List ℕ) → IsLongestFront x front → ((steps utf8 Ready x).0 ≡ Lost → ⊥) → steps utf8 Ready front ≡ (Ready, (steps utf8 Ready x).1)
at_front x front h n =
    let u = h.characters in
    let here : steps utf8 Ready front ≡ (Ready, u.0) = ap (steps utf8 Ready) (sym u.1.1) ∙ after_characters u.0 u.1.0 in
    let there : steps utf8 Ready x ≡ ((steps utf8 Ready h.after).0, u.0 ++ (steps utf8 Ready h.after).1) =
    ap (steps utf8 Ready) h.parts ∙ steps-append utf8 Ready front h.after ∙ ap (λ (t : Decoding × List ℕ). ((steps utf8 t.0 h.after).0, t.1 ++ (steps utf8 t.0 h.after).1)) here in
    elim (after_no_character h.after (front_is_longest x front h)) [
      | inl e ↦ here ∙ ap (λ z. (Ready, z)) (sym (append-nil u.0) ∙ ap (λ z. u.0 ++ z) (sym e) ∙ ap (λ t. t.1) (sym there))
      | inr e ↦ absurd (n (ap (λ t. t.0) there ∙ ap (λ t. t.0) e))
    ]

-- So has each machine that takes what the decoder gives: the bytes of a character that is not complete change nothing in it.
pub composed-at_front : {T O F : Type 0} (b : Machine T ℕ O F) (t : T) (x front : List ℕ) → IsLongestFront x front → ((steps utf8 Ready x).0 ≡ Lost → ⊥)
    → steps (composed utf8 b) (Ready, t) front ≡ ((Ready, (steps (composed utf8 b) (Ready, t) x).0.1), (steps (composed utf8 b) (Ready, t) x).1)
composed-at_front b t x front h n =
    let here = steps-composed utf8 b Ready t front in
    let there = steps-composed utf8 b Ready t x in
    here
    ∙ ap (λ s. ((s.0, (steps b t s.1).0), (steps b t s.1).1)) (at_front x front h n)
    ∙ ap (λ s. ((Ready, s.0.1), s.1)) (sym there)

-- a text of characters is its own longest front
pub whole_is_front : (x : List ℕ) → IsUtf8 x → IsLongestFront x x
whole_is_front x u = front_of_parts x x [] (sym (append-nil x)) u (λ c r s e. some_encode c r s (sym e))
