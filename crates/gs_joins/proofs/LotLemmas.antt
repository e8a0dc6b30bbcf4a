-- Lists by their numbers, keys that have no partner, and lists that lose them.
use Rattle.std.proofs.Common.{◌≡◌, ◌≢◌, ◌≤◌, ◌<◌, ◌+◌, ℕ, zero, suc, Bool, true, false, nat_eq, List, [], ◌∷◌, ◌++◌, length, take, get_or, set, slice_get, Option, Some, None, MatchOption, refl, sym, ap, ◌∙◌, subst, inl, inr, length-set, arith}
use Rattle.std.specs.List.{list_any, swap, All, Contains}
use Rattle.std.proofs.lemmas.Bool.Decides.{nat_tests}
use Rattle.std.proofs.lemmas.List.{length-map, take_more, take_all, get_or-set_same, get_or-set_other}
use Rattle.std.proofs.lemmas.List.Elements.{All-get_or, All-set, Contains-append_left, Contains-push, Contains-push_cases}
use Rattle.std.proofs.lemmas.Option.{slice_get_read}
use Rattle.std.proofs.Math.Seq.{map-set_same}
use Rattle.gs_pool.specs.declared.nodes.Key.{Key}
use Rattle.gs_joins.specs.declared.sought.Sought.{Sought}
use Rattle.gs_joins.specs.declared.bindings.Bound.{Bound}
use Rattle.gs_joins.specs.declared.lots.Lot.{Lot}
use Rattle.gs_joins.specs.Numbers.{BoundNumbers, numbers_of, bind_key, Chooses}
use Rattle.gs_joins.specs.Lots.{IsLot, MakesLot, Serves}
use Rattle.gs_joins.specs.Values.{Values, key_of, Has, Solves}
use Rattle.gs_joins.specs.Reductions.{HasNone, HasNoneAt, Keeps, Reduces}
use Rattle.gs_joins.proofs.ListLemmas.{get_or_any, any_has}
use Rattle.gs_joins.proofs.ValueLemmas.{Holds, holds_none, key_complete}

-- what holds of a list holds of the list of its number
pub at_is : (P : Lot → Type 0) (ls : List Lot) (i : ℕ) (l : Lot) → i < length ls → l ≡ get_or ls i l → P l → MatchOption (slice_get ls i) (Unit {0}) P
at_is P ls i l within is h = subst (λ o. MatchOption o (Unit {0}) P) (sym (slice_get_read ls (length ls) i l refl within is)) h

-- and the other way round
pub at_has : (P : Lot → Type 0) (ls : List Lot) (i : ℕ) (l : Lot) → i < length ls → l ≡ get_or ls i l → MatchOption (slice_get ls i) (Unit {0}) P → P l
at_has P ls i l within is h = subst (λ o. MatchOption o (Unit {0}) P) (slice_get_read ls (length ls) i l refl within is) h

-- the first stays where later ones change places
pub swap_first : (xs : List ℕ) (a b : ℕ) → 0 < a → 0 < b → take 1 (swap xs a b) ≡ take 1 xs
swap_first [] a b h k = refl
swap_first (x ∷ xs) zero b h k = absurd (omega arith)
swap_first (x ∷ xs) (suc a) zero h k = absurd (omega arith)
swap_first (x ∷ xs) (suc a) (suc b) h k = refl

-- one that is not bound to any number has no instance
pub none_chosen : (ls : List Lot) (s : Sought) (k : Key) (old new : List Bound) → old ≡ [] → Chooses old new s k false → HasNone ls s k
none_chosen ls s k old new empty h v solves is =
    let (c, e, hc) = key_complete v [] s (holds_none v) in
    let bad : None ≡ Some c = sym h.1 ∙ ap (λ bs. bind_key (numbers_of bs) s k) empty ∙ ap (bind_key [] s) (sym is) ∙ e in
    absurd (cc)

-- whether there are bindings
abbrev pub some_bound : Option BoundNumbers → Bool
some_bound None = false
some_bound (Some b) = true

-- nor has one for which another list has no key
pub none_near : (ls : List Lot) (s : Sought) (k : Key) (old new : List Bound) (i : ℕ) (l : Lot) (near : List Key) → old ≡ [] → Chooses old new s k true
    → i < length ls → l ≡ get_or ls i l → Serves (numbers_of new) l near → near ≡ [] → HasNone ls s k
none_near ls s k old new i l near empty h within at serves none v solves is =
    let (c, e, hc) = key_complete v [] s (holds_none v) in
    let same : Some (numbers_of new) ≡ Some c = sym h.1 ∙ ap (λ bs. bind_key (numbers_of bs) s k) empty ∙ ap (bind_key [] s) (sym is) ∙ e in
    let own : Holds v (numbers_of new) = subst (Holds v) (sym (some_is (numbers_of new) c same)) hc in
    let (d, f, hd) = key_complete v (numbers_of new) l.sought own in
    let there : Contains l.keys.items (key_of v l.sought) = subst (Has v) (sym at) (All-get_or (Has v) ls i l within solves) in
    let p : Key → Bool = λ z. some_bound (bind_key (numbers_of new) l.sought z) in
    let bad : true ≡ false = sym (any_has p l.keys.items (key_of v l.sought) there (ap some_bound f)) ∙ sym (serves p (λ z e. ap some_bound e)) ∙ ap (list_any p) none in
    absurd (cc)
  where
    some_is : (a b : BoundNumbers) → Some a ≡ Some b → a ≡ b
    some_is a b e = cc

-- nothing was tried
pub keeps_nothing : (ls : List Lot) (s : Sought) → Keeps ls s [] []
keeps_nothing ls s = record { among = λ k there. there; all = λ v solves there. there }

-- one key more is kept
pub keeps_more : (ls : List Lot) (s : Sought) (seen kept : List Key) (k : Key) → Keeps ls s seen kept → Keeps ls s (seen ++ k ∷ []) (kept ++ k ∷ [])
keeps_more ls s seen kept k h = record {
  among = λ z there. elim (Contains-push_cases kept k z there) [
    | inl old ↦ Contains-append_left seen (k ∷ []) z (h.among z old)
    | inr is ↦ subst (Contains (seen ++ k ∷ [])) is (Contains-push seen k)
  ];
  all = λ v solves there. elim (Contains-push_cases seen k (key_of v s) there) [
    | inl old ↦ Contains-append_left kept (k ∷ []) (key_of v s) (h.all v solves old)
    | inr is ↦ subst (Contains (kept ++ k ∷ [])) is (Contains-push kept k)
  ];
}

-- one that no solution has is not
pub keeps_none : (ls : List Lot) (s : Sought) (seen kept : List Key) (k : Key) → HasNone ls s k → Keeps ls s seen kept → Keeps ls s (seen ++ k ∷ []) kept
keeps_none ls s seen kept k none h = record {
  among = λ z there. Contains-append_left seen (k ∷ []) z (h.among z there);
  all = λ v solves there. elim (Contains-push_cases seen k (key_of v s) there) [
    | inl old ↦ h.all v solves old
    | inr is ↦ absurd (none v solves (sym is))
  ];
}

-- one key more that is kept, of the list of a number
pub part_more : (ls : List Lot) (at : ℕ) (l : Lot) (ks kept after : List Key) (i : ℕ) (d : Key) → at < length ls → l ≡ get_or ls at l → i < length ks → after ≡ kept ++ get_or ks i d ∷ []
    → MatchOption (slice_get ls at) (Unit {0}) (λ (z : Lot). Keeps ls z.sought (take i ks) kept) → MatchOption (slice_get ls at) (Unit {0}) (λ (z : Lot). Keeps ls z.sought (take (i + 1) ks) after)
part_more ls at l ks kept after i d within is inside grown h =
    at_is (λ (z : Lot). Keeps ls z.sought (take (i + 1) ks) after) ls at l within is
    (subst (λ seen. Keeps ls l.sought seen after) (sym (take_more ks i d inside))
    (subst (λ ks'. Keeps ls l.sought (take i ks ++ get_or ks i d ∷ []) ks') (sym grown)
    (keeps_more ls l.sought (take i ks) kept (get_or ks i d) (at_has (λ (z : Lot). Keeps ls z.sought (take i ks) kept) ls at l within is h))))

-- and one that is not
pub part_none : (ls : List Lot) (at : ℕ) (l : Lot) (ks kept after : List Key) (i : ℕ) (d : Key) → at < length ls → l ≡ get_or ls at l → i < length ks → after ≡ kept → HasNoneAt ls at (get_or ks i d)
    → MatchOption (slice_get ls at) (Unit {0}) (λ (z : Lot). Keeps ls z.sought (take i ks) kept) → MatchOption (slice_get ls at) (Unit {0}) (λ (z : Lot). Keeps ls z.sought (take (i + 1) ks) after)
part_none ls at l ks kept after i d within is inside same none h =
    at_is (λ (z : Lot). Keeps ls z.sought (take (i + 1) ks) after) ls at l within is
    (subst (λ seen. Keeps ls l.sought seen after) (sym (take_more ks i d inside))
    (subst (λ ks'. Keeps ls l.sought (take i ks ++ get_or ks i d ∷ []) ks') (sym same)
    (keeps_none ls l.sought (take i ks) kept (get_or ks i d) (at_has (λ (z : Lot). HasNone ls z.sought (get_or ks i d)) ls at l within is none)
    (at_has (λ (z : Lot). Keeps ls z.sought (take i ks) kept) ls at l within is h))))

-- all were tried
pub part_all : (ls : List Lot) (at : ℕ) (l : Lot) (ks kept : List Key) (i : ℕ) → at < length ls → l ≡ get_or ls at l → ks ≡ l.keys.items → length ks ≤ i
    → MatchOption (slice_get ls at) (Unit {0}) (λ (z : Lot). Keeps ls z.sought (take i ks) kept) → MatchOption (slice_get ls at) (Unit {0}) (λ (z : Lot). Keeps ls z.sought z.keys.items kept)
part_all ls at l ks kept i within is own all h =
    at_is (λ (z : Lot). Keeps ls z.sought z.keys.items kept) ls at l within is
    (subst (λ seen. Keeps ls l.sought seen kept) (take_all i ks all ∙ own) (at_has (λ (z : Lot). Keeps ls z.sought (take i ks) kept) ls at l within is h))

-- nothing changes
pub reduces_same : (ls : List Lot) → All IsLot ls → Reduces ls ls
reduces_same ls h = record { lots = h; sought = refl; forth = λ v s. s; back = λ v s. s }

-- one change after the other
pub reduces_then : (a b c : List Lot) → Reduces a b → Reduces b c → Reduces a c
reduces_then a b c g h = record {
  lots = h.lots;
  sought = h.sought ∙ g.sought;
  forth = λ v s. h.forth v (g.forth v s);
  back = λ v s. g.back v (h.back v s);
}

-- there are as many lists
pub reduces_length : (a b : List Lot) → Reduces a b → length b ≡ length a
reduces_length a b h = let e = ap length h.sought in simp length-map at e

-- one list loses keys that no solution has
pub reduces_at : (ls : List Lot) (i : ℕ) (l m : Lot) (kept : List Key) → All IsLot ls → i < length ls → l ≡ get_or ls i l → Keeps ls l.sought l.keys.items kept → MakesLot l.sought kept m → Reduces ls (set ls i m)
reduces_at ls i l m kept lots within is keeps makes = record {
  lots = All-set IsLot ls i m makes.lot lots;
  sought = map-set_same (λ (l : Lot). l.sought) ls i m l (makes.sought ∙ ap (λ (l : Lot). l.sought) is);
  forth = λ v s. All-set (Has v) ls i m (has_new v s) s;
  back = λ v s k d inside. by_place v s k d inside (nat_eq k i) refl;
}
  where
    has_old : (v : Values) → Solves v ls → Contains l.keys.items (key_of v l.sought)
    has_old v s = subst (Has v) (sym is) (All-get_or (Has v) ls i l within s)

    has_new : (v : Values) → Solves v ls → Has v m
    has_new v s = subst (λ ks. Contains ks (key_of v m.sought)) (sym makes.keys) (subst (λ (z : Sought). Contains kept (key_of v z)) (sym makes.sought) (keeps.all v s (has_old v s)))

    has_back : (v : Values) → Has v m → Has v l
    has_back v h = keeps.among (key_of v l.sought) (subst (λ (z : Sought). Contains kept (key_of v z)) makes.sought (subst (λ ks. Contains ks (key_of v m.sought)) makes.keys h))

    one_number : (a b : ℕ) → nat_eq a b ≡ true → a ≡ b
    one_number a b e = grind (arith, nat_tests)

    other_number : (a b : ℕ) → nat_eq a b ≡ false → a ≢ b
    other_number a b e is = absurd (grind (arith, nat_tests))

    by_place : (v : Values) → Solves v (set ls i m) → (k : ℕ) (d : Lot) → k < length ls → (r : Bool) → nat_eq k i ≡ r → Has v (get_or ls k d)
    by_place v s k d inside true e =
        let same : k ≡ i = one_number k i e in
        let own : Has v m = subst (Has v) (get_or-set_same ls i m d within) (s i d (omega (arith, length-set ls i m))) in
        subst (λ n. Has v (get_or ls n d)) (sym same) (subst (Has v) (is ∙ get_or_any ls i l d within) (has_back v own))
    by_place v s k d inside false e = subst (Has v) (get_or-set_other ls i k m d (other_number k i e)) (s k d (omega (arith, length-set ls i m)))
