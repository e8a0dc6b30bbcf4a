-- How the tails of nodes on lists change.
use Rattle.std.proofs.Common.{◌≡◌, ℕ, ◌+◌, ◌<◌, true, false, cond, List, map, length, get_or, set, Option, Some, None, is_some, IsSome, refl, sym, ap, subst, ◌∙◌, arith, true≢false}
use Rattle.std.specs.Prelude.{is_none}
use Rattle.std.proofs.lemmas.List.{get_or-map, length-map, get_or_past}
use Rattle.gs_pool.specs.declared.tails.Entry.{Entry}
use Rattle.gs_pool.specs.declared.tails.Tail.{Tail}
use Rattle.gs_pool.specs.Tails.{TailList, tail_at, used_tails, SetsTail, tail_in, is_free_entry}
use Rattle.gs_pool.proofs.ListLemmas.{count-set}
use Rattle.gs_pool.proofs.MapLemmas.{at_itself, some_not_none, count_shown, shown_here, shown_else}

-- what a contract sees of entries
abbrev pub seen : List Entry → ℕ → TailList
seen entries capacity = record { items = map tail_in entries; capacity = capacity }

-- an entry is written
pub record Wrote (entries : List Entry) (capacity number : ℕ) (e d : Entry) (t : Option Tail) : Type 0 where
  pub was : tail_at (seen entries capacity) number ≡ tail_in d
  pub sets : SetsTail (seen entries capacity) (seen (set entries number e) capacity) number t
  pub used : used_tails (seen (set entries number e) capacity) + cond (is_some (tail_in d)) 1 0 ≡ used_tails (seen entries capacity) + cond (is_some t) 1 0

pub wrote : (entries : List Entry) (capacity number : ℕ) (e d : Entry) (t : Option Tail) → tail_in e ≡ t → number < length entries → d ≡ get_or entries number d → Wrote entries capacity number e d t
wrote entries capacity number e d t is within read = record {
  was = get_or-map tail_in entries number d None within ∙ ap tail_in (sym read);
  sets = record {
    now = shown_here tail_in None entries number e within ∙ is;
    others = λ x ne. shown_else tail_in None entries number x e ne;
    capacity = refl;
  };
  used = omega (arith, ap (λ o. cond {A = ℕ} (is_some o) 1 0) is, count_shown is_some tail_in entries, count_shown is_some tail_in (set entries number e), count-set (λ p. is_some (tail_in p)) entries number e d within read);
}

-- an entry that is used
pub record IsUsed (entries : List Entry) (number : ℕ) (d : Entry) : Type 0 where
  pub within : number < length entries
  pub read : d ≡ get_or entries number d
  pub some : is_some (tail_in d) ≡ true
  pub not_free : is_free_entry d ≡ false

pub is_used : (entries : List Entry) (capacity number : ℕ) (e : Entry) → IsSome (tail_at (seen entries capacity) number) → IsUsed entries number (get_or entries number e)
is_used entries capacity number e some =
    let inside : number < length (map tail_in entries) = grind (arith, get_or_past) in
    let within : number < length entries = omega (arith, length-map entries tail_in) in
    let d = get_or entries number e in
    let read = at_itself entries number e in
    let is : IsSome (tail_in d) = subst IsSome (wrote entries capacity number d d (tail_in d) refl within read).was some in
    record { within = within; read = read; some = is; not_free = some_not_none (tail_in d) is }

-- nothing is none
pub none_is : {A : Type 0} (o : Option A) → is_none o ≡ true → o ≡ None
none_is None h = refl
none_is (Some t) h = absurd (true≢false (sym h))
