-- What is listed, and what a version has of it, as they are stored.
use Rattle.std.proofs.Common.{◌≡◌, ℕ, ◌<◌, Bool, true, false, cond, ◌&&◌, ◌||◌, ◌==◌, List, [], ◌∷◌, length, Option, Some, None, refl, sym, ap, ◌∙◌}
use Rattle.std.proofs.Math.ListN.{get_or-map}
use Rattle.std.specs.Ordering.{ordering_then, nat_cmp}
use Rattle.std.specs.List.{AllByRecursion}
use Rattle.std.specs.List.Sorted.{IsStrictlySortedBy}
use Rattle.std.specs.declared.cmp.Ordering.TheVariants.{Less}
use Rattle.gs_pool.specs.declared.nodes.Node.{Node}
use Rattle.gs_pool.specs.Pool.{Nodes, NodeMark, plain, aside, retired, node_at, mark_at}
use Rattle.gs_index.specs.declared.entries.Entry.{Entry}
use Rattle.gs_index.specs.Ages.{Age, blank_entry, age_of, age_in, age_cmp, aged_number_cmp}
use Rattle.gs_index.specs.Indexes.{Indexed, entry_at, is_listed, IsIndexed}
use Rattle.gs_records.specs.Records.{kept, record_at, has_at, is_kept}
use Rattle.gs_records.specs.Order.{entry_of, has_number, age_at, AreListed}
use Rattle.gs_records.specs.Stored.{is_made, bare_of, record_by, records_by, IsStored}
use Rattle.gs_records.proofs.Ordering.{kept_is}
use Rattle.gs_records.proofs.Storing.{records_at}
use Rattle.gs_records.proofs.Listing.{same_number}
use Rattle.gs_records.proofs.Seeking.{kept_at, entry_is, kept_within}

bare_not : (o : Option Node) (m : NodeMark) → is_kept (bare_of o m) ≡ false
bare_not None m = refl
bare_not (Some n) plain = refl
bare_not (Some n) (aside d w) = refl
bare_not (Some n) (retired d w) = refl

state_kept : (o : Option Node) (m : NodeMark) (e : Entry) → is_kept (record_by o m e) ≡ is_made e
state_kept o m e = go (is_made e)
  where
    go : (b : Bool) → is_kept (cond b (kept e) (bare_of o m)) ≡ b
    go true = refl
    go false = bare_not o m

state_has : (v : ℕ) (o : Option Node) (m : NodeMark) (e : Entry) → (is_kept (record_by o m e) && has_at v (entry_of (record_by o m e))) ≡ (is_made e && has_at v e)
state_has v o m e = go (is_made e)
  where
    go : (b : Bool) → (is_kept (cond b (kept e) (bare_of o m)) && has_at v (entry_of (cond b (kept e) (bare_of o m)))) ≡ (b && has_at v e)
    go true = refl
    go false = ap (λ b. b && has_at v (entry_of (bare_of o m))) (bare_not o m)

or_later : (a b : Bool) → b ≡ true → (a || b) ≡ true
or_later true b e = refl
or_later false b e = e

all_same : (f g : ℕ → Age) (k : ℕ) (ns : List ℕ) → f k ≡ g k → ((n : ℕ) → is_listed n ns ≡ true → f n ≡ g n) → AllByRecursion (λ n. aged_number_cmp f k n ≡ Less) ns → AllByRecursion (λ n. aged_number_cmp g k n ≡ Less) ns
all_same f g k [] at same h = tt
all_same f g k (n ∷ ns) at same h =
    let here : f n ≡ g n = same n (ap (λ b. b || is_listed n ns) (same_number n)) in
    let eq : aged_number_cmp f k n ≡ aged_number_cmp g k n = λ i. ordering_then (age_cmp (at i) (here i)) (nat_cmp n k) in
    (sym eq ∙ h.0, all_same f g k ns at (λ m is. same m (or_later (n == m) (is_listed m ns) is)) h.1)

sorted_same : (f g : ℕ → Age) (ns : List ℕ) → ((n : ℕ) → is_listed n ns ≡ true → f n ≡ g n) → IsStrictlySortedBy (aged_number_cmp f) ns → IsStrictlySortedBy (aged_number_cmp g) ns
unfolding IsStrictlySortedBy
sorted_same f g [] same h = tt
sorted_same f g (n ∷ ns) same h =
    let later : (m : ℕ) → is_listed m ns ≡ true → f m ≡ g m = λ m is. same m (or_later (n == m) (is_listed m ns) is) in
    (all_same f g n ns (same n (ap (λ b. b || is_listed n ns) (same_number n))) later h.0, sorted_same f g ns later h.1)

module _ (x : Indexed) (p : Nodes) (opens latest : ℕ) (s : IsStored x p opens latest) where
  -- a version has what is made, and lies between its birth and its death
  pub has_is : (v n : ℕ) → has_number v (records_by x p) n ≡ (is_made (entry_at x.entries n) && has_at v (entry_at x.entries n))
  has_is v n = ap (λ r. is_kept r && has_at v (entry_of r)) (records_at x.entries p.nodes p.marks n s.many) ∙ state_has v (node_at p n) (mark_at p n) (entry_at x.entries n)

  pub kept_made : (n : ℕ) → is_kept (record_at (records_by x p) n) ≡ is_made (entry_at x.entries n)
  kept_made n = ap is_kept (records_at x.entries p.nodes p.marks n s.many) ∙ state_kept (node_at p n) (mark_at p n) (entry_at x.entries n)

  -- what is listed is in order
  pub listed_stored : IsIndexed x → AreListed (records_by x p) x.listed
  listed_stored indexed = record {
    members = λ n. s.lists n ∙ sym (kept_made n);
    rising = sorted_same (age_in x.entries) (age_at (records_by x p)) x.listed
        (λ n is. get_or-map age_of x.entries n blank_entry ∙ sym (ap (λ r. age_of (entry_of r)) (kept_at x p opens latest s n is)))
        indexed.rising;
  }

  -- a number that stands for a version of a graph has its entry
  pub record_within : (n : ℕ) → is_kept (record_at (records_by x p) n) ≡ true → n < length x.entries
  record_within n h = kept_within x p opens latest s n (entry_of (record_at (records_by x p) n)) (kept_is (record_at (records_by x p) n) h)

  pub record_is : (n : ℕ) → is_kept (record_at (records_by x p) n) ≡ true → record_at (records_by x p) n ≡ kept (entry_at x.entries n)
  record_is n h =
      let at = kept_is (record_at (records_by x p) n) h in
      at ∙ ap kept (sym (entry_is x p opens latest s n (entry_of (record_at (records_by x p) n)) at))
