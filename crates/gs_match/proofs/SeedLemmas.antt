-- Instances that are listed by the numbers that an earlier list leaves for a variable.
use Rattle.std.proofs.Common.{◌≡◌, ◌≤◌, ◌<◌, ℕ, true, nat_eq, List, [], ◌∷◌, ◌++◌, length, take, get_or, Option, Some, None, refl, sym, ap, ◌∙◌, subst, inl, inr, arith}
use Rattle.std.specs.List.{Contains}
use Rattle.std.specs.List.Sorted.{IsPermutation}
use Rattle.std.proofs.lemmas.Bool.Decides.{nat_tests}
use Rattle.std.proofs.lemmas.List.{take_all}
use Rattle.std.proofs.lemmas.List.Elements.{All-get_or, Contains-append_left, Contains-append_right, Contains-append_cases, Contains-push_cases}
use Rattle.std.proofs.lemmas.List.Sorted.{Contains-permutation}
use Rattle.gs_pool.specs.declared.nodes.Key.{Key}
use Rattle.gs_joins.specs.declared.sought.Sought.{Sought}
use Rattle.gs_joins.specs.declared.weights.Turn.{Turn}
use Rattle.gs_joins.specs.declared.bindings.Bound.{Bound}
use Rattle.gs_joins.specs.declared.lots.Lot.{Lot}
use Rattle.gs_joins.specs.Numbers.{BoundNumbers, numbers_of, bind_key}
use Rattle.gs_joins.specs.Lots.{first_of}
use Rattle.gs_joins.specs.Values.{key_of, Has}
use Rattle.gs_joins.proofs.ListLemmas.{contains_none}
use Rattle.gs_joins.proofs.ValueLemmas.{Holds, holds_none, holds_more, key_complete}
use Rattle.gs_match.specs.Candidates.{instances_in, Sifts, ListsBy, ListsThem, HasNoSolution}
use Rattle.gs_match.specs.Seeds.{IsTurnOf}
use Rattle.gs_match.proofs.SiftLemmas.{instance_there, instance_has}

-- all instances with this number for the variable are there
abbrev pub Covered : List Key → Sought → List ℕ → ℕ → List Key → Type 0
Covered ks s x n found = (k : Key) (c : BoundNumbers) → Contains ks k → bind_key ((x, n) ∷ []) s k ≡ Some c → Contains found k

-- all with the numbers that were seen are there, and with the last one
pub record Seen (ks : List Key) (s : Sought) (x : List ℕ) (t : Turn) (seen : List Key) (last : Option ℕ) (found : List Key) : Type 0 where
  pub sound : (k : Key) → Contains found k → Contains ks k
  pub last_done : (n : ℕ) → last ≡ Some n → Covered ks s x n found
  pub done : (z : Key) → Contains seen z → Covered ks s x (first_of t z) found

-- nothing yet
pub seen_none : (ks : List Key) (s : Sought) (x : List ℕ) (t : Turn) (found : List Key) → found ≡ [] → Seen ks s x t [] None found
seen_none ks s x t found none = record {
  sound = λ k there. absurd (contains_none k (subst (λ zs. Contains zs k) none there));
  last_done = λ n e. absurd (cc);
  done = λ z there. absurd (contains_none z there);
}

-- the last number once more
pub seen_same : (ks : List Key) (s : Sought) (x : List ℕ) (t : Turn) (seen : List Key) (last after : Option ℕ) (from to : List Key) (z : Key) → Seen ks s x t seen last from → last ≡ Some (first_of t z) → after ≡ last → to ≡ from → Seen ks s x t (seen ++ z ∷ []) after to
seen_same ks s x t seen last after from to z h is same_last same = subst (λ found. Seen ks s x t (seen ++ z ∷ []) after found) (sym same) (subst (λ o. Seen ks s x t (seen ++ z ∷ []) o from) (sym same_last) (record {
  sound = h.sound;
  last_done = h.last_done;
  done = λ y there. elim (Contains-push_cases seen z y there) [
    | inl before ↦ h.done y before
    | inr here ↦ subst (λ w. Covered ks s x (first_of t w) from) here (h.last_done (first_of t z) is)
  ];
}))

-- another number
pub seen_more : (ks : List Key) (s : Sought) (x : List ℕ) (t : Turn) (seen : List Key) (last after : Option ℕ) (from to : List Key) (z : Key) (old new : List Bound)
    → Seen ks s x t seen last from → Sifts old new s ks from to → numbers_of old ≡ (x, first_of t z) ∷ [] → after ≡ Some (first_of t z) → Seen ks s x t (seen ++ z ∷ []) after to
seen_more ks s x t seen last after from to z old new h sifts bound is = record {
  sound = λ k there. elim (Contains-append_cases from (instances_in (numbers_of old) s ks) k (subst (λ zs. Contains zs k) sifts.more there)) [
    | inl before ↦ h.sound k before
    | inr now ↦ instance_there (numbers_of old) s ks k now
  ];
  last_done = λ n e k c there f. let same : first_of t z ≡ n = some_is (first_of t z) n (sym is ∙ e) in here k c there (subst (λ m. bind_key ((x, m) ∷ []) s k ≡ Some c) (sym same) f);
  done = λ y there. elim (Contains-push_cases seen z y there) [
    | inl before ↦ (λ k c inside f. more k (h.done y before k c inside f))
    | inr same ↦ subst (λ w. Covered ks s x (first_of t w) to) same here
  ];
}
  where
    some_is : (a b : ℕ) → Some a ≡ Some b → a ≡ b
    some_is a b e = cc

    more : (k : Key) → Contains from k → Contains to k
    more k there = subst (λ zs. Contains zs k) (sym sifts.more) (Contains-append_left from (instances_in (numbers_of old) s ks) k there)

    here : Covered ks s x (first_of t z) to
    here k c there e = subst (λ zs. Contains zs k) (sym sifts.more)
        (Contains-append_right from (instances_in (numbers_of old) s ks) k (instance_has (numbers_of old) c s ks k there (ap (λ b. bind_key b s k) bound ∙ e)))

-- all numbers were seen
pub seen_all : (ks : List Key) (s : Sought) (x : List ℕ) (t : Turn) (keys table : List Key) (i : ℕ) (last : Option ℕ) (found : List Key) → IsPermutation keys table → length table ≤ i → Seen ks s x t (take i table) last found → ListsBy ks s t x keys found
seen_all ks s x t keys table i last found same all h = record {
  sound = h.sound;
  all = λ z k c there inside e. h.done z (subst (λ zs. Contains zs z) (sym (take_all i table all)) (Contains-permutation keys table z same there)) k c inside e;
}

-- lists by the numbers of a list that is solved
pub lists_by : (ks : List Key) (ls : List Lot) (s : Sought) (at : ℕ) (l : Lot) (x : List ℕ) (t : Turn) (found : List Key) → at < length ls → l ≡ get_or ls at l → IsTurnOf l.sought x t → ListsBy ks s t x l.keys.items found → ListsThem ks ls s found
lists_by ks ls s at l x t found within is turns lists = record {
  sound = lists.sound;
  all = λ v solves there.
      let z : Key = key_of v l.sought in
      let has : Contains l.keys.items z = subst (Has v) (sym is) (All-get_or (Has v) ls at l within solves) in
      let own : Holds v ((x, first_of t z) ∷ []) = holds_more v [] x (first_of t z) (holds_none v) (sym (turns v)) in
      let (c, e, hc) = key_complete v ((x, first_of t z) ∷ []) s own in
      lists.all z (key_of v s) c has there e;
}

-- and all instances
pub lists_all : (ks : List Key) (ls : List Lot) (s : Sought) (found : List Key) → found ≡ instances_in [] s ks → ListsThem ks ls s found
lists_all ks ls s found is = record {
  sound = λ k there. instance_there [] s ks k (subst (λ zs. Contains zs k) is there);
  all = λ v solves there. let (c, e, hc) = key_complete v [] s (holds_none v) in subst (λ zs. Contains zs (key_of v s)) (sym is) (instance_has [] c s ks (key_of v s) there e);
}

-- a list without elements
pub no_keys : (ks : List Key) → true ≡ nat_eq (length ks) 0 → ks ≡ []
no_keys [] e = refl
no_keys (k ∷ ks) e = absurd (grind (arith, nat_tests))

-- an empty list has no instance
pub none_solve : (ls : List Lot) (i : ℕ) (l : Lot) → i < length ls → l ≡ get_or ls i l → l.keys.items ≡ [] → HasNoSolution ls
none_solve ls i l within is none v solves =
    contains_none (key_of v l.sought) (subst (λ zs. Contains zs (key_of v l.sought)) none (subst (Has v) (sym is) (All-get_or (Has v) ls i l within solves)))

-- then no list is too short
pub lists_none : (ks : List Key) (ls : List Lot) (s : Sought) (found : List Key) → found ≡ [] → HasNoSolution ls → ListsThem ks ls s found
lists_none ks ls s found none never = record {
  sound = λ k there. absurd (contains_none k (subst (λ zs. Contains zs k) none there));
  all = λ v solves there. absurd (never v solves);
}
