-- Numbers are given by first appearance.
use Rattle.std.proofs.Common.{◌≡◌, ℕ, ◌+◌, Bool, true, false, cond, List, [], ◌∷◌, refl, sym, ap, ◌∙◌, Option, Some, None}
use Rattle.std.specs.Prelude.{◌||◌}
use Rattle.std.specs.Ordering.{nat_cmp}
use Rattle.std.specs.Cmp.Lexicographic.{slice_cmp, nat_list_cmp_total}
use Rattle.std.specs.Str.{bytes_eq}
use Rattle.std.specs.FinMap.{get-insert, get-empty}
use Rattle.std.proofs.lemmas.Map.Text.{is_eq-slice_cmp}
use Rattle.gs_model.proofs.TextLemmas.{same_text}
use Rattle.gs_blank.specs.Numbers.{Numbers, with_label, known, label_number}
use Rattle.gs_blank.specs.Appearances.{Node, Named, Nameless, node_numbers, appears, count_of, before}
use Rattle.gs_blank.proofs.NumbersLemmas.{number-known, number-new}

-- the place of a label that appears
abbrev place : List ℕ → List Node → Option ℕ
place label nodes = cond (appears label nodes) (Some (count_of (before label nodes) + 1)) None

-- what the numbers know after some nodes
abbrev Facts : List Node → Type 0
Facts nodes = ((node_numbers nodes).1 ≡ count_of nodes) × ((label : List ℕ) → known (node_numbers nodes) label ≡ place label nodes)

nameless_place : (a : Bool) (xs ys : List Node) → cond a (Some (count_of xs + 1)) None ≡ cond a (Some (count_of (cond a xs ys) + 1)) None
nameless_place true xs ys = refl
nameless_place false xs ys = refl

-- a label of which another one, that has appeared, is the same
same_appears : (l k : List ℕ) (xs : List Node) (v w : Bool) → bytes_eq l k ≡ true → appears l xs ≡ v → appears k xs ≡ w → v ≡ w
same_appears l k xs v w e p q = sym p ∙ ap (λ z. appears z xs) (same_text l k e) ∙ q

seen_place : (l k : List ℕ) (xs : List Node) (a t : Bool) → appears l xs ≡ a → bytes_eq l k ≡ t → appears k xs ≡ true
    → cond a (Some (count_of (before l xs) + 1)) None ≡ cond (t || a) (Some (count_of (cond a (before l xs) (cond t xs (Named k ∷ xs))) + 1)) None
seen_place l k xs true true p q e = refl
seen_place l k xs true false p q e = refl
seen_place l k xs false false p q e = refl
seen_place l k xs false true p q e = let c = same_appears l k xs false true q p e in absurd (Prim.cc)

new_place : (l k : List ℕ) (xs : List Node) (a t : Bool) → appears l xs ≡ a → bytes_eq l k ≡ t → appears k xs ≡ false
    → cond t (Some (count_of xs + 1)) (cond a (Some (count_of (before l xs) + 1)) None) ≡ cond (t || a) (Some (count_of (cond a (before l xs) (cond t xs (Named k ∷ xs))) + 1)) None
new_place l k xs false true p q e = refl
new_place l k xs true false p q e = refl
new_place l k xs false false p q e = refl
new_place l k xs true true p q e = let c = same_appears l k xs true false q p e in absurd (Prim.cc)

known-with_label : (n : Numbers) (k l : List ℕ) → known (with_label n k) l ≡ cond (bytes_eq l k) (Some (n.1 + 1)) (known n l)
known-with_label n k l = get-insert nat_list_cmp_total n.0 k (n.1 + 1) l ∙ ap (λ b. cond b (Some (n.1 + 1)) (known n l)) (is_eq-slice_cmp l k)

-- the answer for a label, where it has appeared and where not
answer_seen : (k : List ℕ) (xs : List Node) → Facts xs → appears k xs ≡ true → label_number (node_numbers xs) k ≡ (count_of (before k xs) + 1, node_numbers xs)
answer_seen k xs h e = number-known (node_numbers xs) k (count_of (before k xs) + 1) (h.1 k ∙ ap (λ b. cond b (Some (count_of (before k xs) + 1)) None) e)

answer_new : (k : List ℕ) (xs : List Node) → Facts xs → appears k xs ≡ false → label_number (node_numbers xs) k ≡ ((node_numbers xs).1 + 1, with_label (node_numbers xs) k)
answer_new k xs h e = number-new (node_numbers xs) k (h.1 k ∙ ap (λ b. cond b (Some (count_of (before k xs) + 1)) None) e)

named_seen : (k : List ℕ) (xs : List Node) → Facts xs → appears k xs ≡ true → Facts (Named k ∷ xs)
named_seen k xs h e =
    let s = answer_seen k xs h e in (
      ap (λ (u : ℕ × Numbers). u.1.1) s ∙ h.0 ∙ sym (ap (λ b. cond b (count_of xs) (count_of xs + 1)) e),
      λ l. ap (λ (u : ℕ × Numbers). known u.1 l) s ∙ h.1 l ∙ seen_place l k xs (appears l xs) (bytes_eq l k) refl refl e,
    )

named_new : (k : List ℕ) (xs : List Node) → Facts xs → appears k xs ≡ false → Facts (Named k ∷ xs)
named_new k xs h e =
    let n = node_numbers xs in
    let s = answer_new k xs h e in (
      ap (λ (u : ℕ × Numbers). u.1.1) s ∙ ap (λ z. z + 1) h.0 ∙ sym (ap (λ b. cond b (count_of xs) (count_of xs + 1)) e),
      λ l. ap (λ (u : ℕ × Numbers). known u.1 l) s ∙ known-with_label n k l
          ∙ ap (λ z. cond (bytes_eq l k) (Some (z + 1)) (known n l)) h.0
          ∙ ap (λ z. cond (bytes_eq l k) (Some (count_of xs + 1)) z) (h.1 l)
          ∙ new_place l k xs (appears l xs) (bytes_eq l k) refl refl e,
    )

named_facts : (k : List ℕ) (xs : List Node) (a : Bool) → appears k xs ≡ a → Facts xs → Facts (Named k ∷ xs)
named_facts k xs true e h = named_seen k xs h e
named_facts k xs false e h = named_new k xs h e

facts : (nodes : List Node) → Facts nodes
facts [] = (refl, λ l. get-empty (slice_cmp nat_cmp) l)
facts (Nameless ∷ xs) = let h = facts xs in (ap (λ z. z + 1) h.0, λ l. h.1 l ∙ nameless_place (appears l xs) (before l xs) (Nameless ∷ xs))
facts (Named k ∷ xs) = named_facts k xs (appears k xs) refl (facts xs)

none_before : (l : List ℕ) (t a : Bool) (k : List ℕ) (xs : List Node) → (t || a) ≡ false → cond a (before l xs) (cond t xs (Named k ∷ xs)) ≡ Named k ∷ xs
none_before l true a k xs e = absurd (Prim.cc)
none_before l false true k xs e = absurd (Prim.cc)
none_before l false false k xs e = refl

-- where a label does not appear, all are before it
all_before : (l : List ℕ) (nodes : List Node) → appears l nodes ≡ false → before l nodes ≡ nodes
all_before l [] e = refl
all_before l (Named k ∷ xs) e = none_before l (bytes_eq l k) (appears l xs) k xs e
all_before l (Nameless ∷ xs) e = ap (λ a. cond a (before l xs) (Nameless ∷ xs)) e

answer : (l : List ℕ) (nodes : List Node) (a : Bool) → appears l nodes ≡ a → (label_number (node_numbers nodes) l).0 ≡ count_of (before l nodes) + 1
answer l nodes true e = ap (λ (u : ℕ × Numbers). u.0) (answer_seen l nodes (facts nodes) e)
answer l nodes false e =
    ap (λ (u : ℕ × Numbers). u.0) (answer_new l nodes (facts nodes) e) ∙ ap (λ z. z + 1) (facts nodes).0
    ∙ ap (λ (xs : List Node). count_of xs + 1) (sym (all_before l nodes e))

pub label_place : (nodes : List Node) (label : List ℕ) → (label_number (node_numbers nodes) label).0 ≡ count_of (before label nodes) + 1
label_place nodes label = answer label nodes (appears label nodes) refl

pub last_place : (nodes : List Node) → (node_numbers nodes).1 ≡ count_of nodes
last_place nodes = (facts nodes).0
