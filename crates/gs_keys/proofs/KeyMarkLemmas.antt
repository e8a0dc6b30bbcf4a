-- What marking a number does, and the three of a key.
use Rattle.std.proofs.Common.{◌≡◌, ◌⊎◌, ℕ, zero, suc, Bool, true, false, List, [], ◌∷◌, set, refl, ap, ◌∙◌, inl, inr, arith}
use Rattle.std.proofs.lemmas.List.{length-set, get_or-set_same}
use Rattle.gs_pool.specs.declared.nodes.Key.{Key}
use Rattle.gs_dict.specs.Sweeping.{is_marked}
use Rattle.gs_keys.specs.Marks.{KeepsMarked, IsMarkedWithin, IsMarkedKey, MarksOnlyKey}

-- the marks with that of a key's subject, with that of its predicate too, and with all three
abbrev with_subject : List Bool → Key → List Bool
with_subject marks k = set marks k.subject true

abbrev with_predicate : List Bool → Key → List Bool
with_predicate marks k = set (with_subject marks k) k.predicate true

abbrev pub with_key : List Bool → Key → List Bool
with_key marks k = set (with_predicate marks k) k.object true

-- what was marked is
number_still : (marks : List Bool) (n m : ℕ) → is_marked marks m ≡ true → is_marked (set marks n true) m ≡ true
number_still [] n m h = h
number_still (x ∷ marks) zero zero h = refl
number_still (x ∷ marks) zero (suc m) h = h
number_still (x ∷ marks) (suc n) zero h = h
number_still (x ∷ marks) (suc n) (suc m) h = number_still marks n m h

-- no other number is marked anew
number_only : (marks : List Bool) (n m : ℕ) → is_marked (set marks n true) m ≡ true → (is_marked marks m ≡ true) ⊎ (m ≡ n)
number_only [] n m h = inl h
number_only (x ∷ marks) zero zero h = inr refl
number_only (x ∷ marks) zero (suc m) h = inl h
number_only (x ∷ marks) (suc n) zero h = inl h
number_only (x ∷ marks) (suc n) (suc m) h = elim (number_only marks n m h) [ inl was ↦ inl was | inr same ↦ inr (ap suc same) ]

-- marking a number keeps the marks
number_kept : (marks : List Bool) (n : ℕ) → KeepsMarked marks (set marks n true)
number_kept marks n = record { count = length-set marks n true; marked = number_still marks n }

-- the number is marked, if there is a mark for it
number_within : (marks : List Bool) (n : ℕ) → IsMarkedWithin (set marks n true) n
number_within marks n below = get_or-set_same marks n true false (omega (arith, length-set marks n true))

-- marks that are kept twice are kept
pub kept_both : (old mid new : List Bool) → KeepsMarked old mid → KeepsMarked mid new → KeepsMarked old new
kept_both old mid new first then = record { count = then.count ∙ first.count; marked = λ n h. then.marked n (first.marked n h) }

-- a number that is marked where there is a mark for it still is
within_still : (old new : List Bool) (n : ℕ) → KeepsMarked old new → IsMarkedWithin old n → IsMarkedWithin new n
within_still old new n kept h below = kept.marked n (h (omega (arith, kept.count)))

-- a key that is marked still is
pub key_still : (old new : List Bool) (k : Key) → KeepsMarked old new → IsMarkedKey old k → IsMarkedKey new k
key_still old new k kept h = record {
  subject = within_still old new k.subject kept h.subject;
  predicate = within_still old new k.predicate kept h.predicate;
  object = within_still old new k.object kept h.object;
}

module _ (marks : List Bool) (k : Key) where
  -- marking the rest of a key keeps the marks
  object_kept : KeepsMarked (with_predicate marks k) (with_key marks k)
  object_kept = number_kept (with_predicate marks k) k.object

  predicate_kept : KeepsMarked (with_subject marks k) (with_key marks k)
  predicate_kept = kept_both (with_subject marks k) (with_predicate marks k) (with_key marks k) (number_kept (with_subject marks k) k.predicate) object_kept

  -- marking a key keeps the marks
  pub key_kept : KeepsMarked marks (with_key marks k)
  key_kept = kept_both marks (with_subject marks k) (with_key marks k) (number_kept marks k.subject) predicate_kept

  -- it marks each of the three numbers
  pub key_marked : IsMarkedKey (with_key marks k) k
  key_marked = record {
    subject = within_still (with_subject marks k) (with_key marks k) k.subject predicate_kept (number_within marks k.subject);
    predicate = within_still (with_predicate marks k) (with_key marks k) k.predicate object_kept (number_within (with_subject marks k) k.predicate);
    object = number_within (with_predicate marks k) k.object;
  }

  -- it marks no other
  pub key_only : MarksOnlyKey k marks (with_key marks k)
  key_only n h = elim (number_only (with_predicate marks k) k.object n h) [
    | inr object ↦ inr (inr (inr object))
    | inl before ↦ elim (number_only (with_subject marks k) k.predicate n before) [
      | inr predicate ↦ inr (inr (inl predicate))
      | inl first ↦ elim (number_only marks k.subject n first) [ inr subject ↦ inr (inl subject) | inl was ↦ inl was ]
    ]
  ]
