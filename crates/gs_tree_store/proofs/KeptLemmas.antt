-- What a seat's action keeps of the whole store.
use Rattle.std.proofs.Common.{◌≡◌, ℕ, ◌<◌, ◌≤◌, List, [], ◌∷◌, map, length, get_or, set, Option, Some, None, is_some, refl, sym, ap, ◌∙◌, subst, inl, inr, arith}
use Rattle.std.specs.List.{All}
use Rattle.std.proofs.lemmas.Bool.{cases_eq}
use Rattle.std.proofs.lemmas.List.{length-map, length-set, get_or_default, get_or-map, map-set, set-set, get_or-set_same, get_or-set_other}
use Rattle.std.proofs.lemmas.List.Elements.{All-set, All-tail, Contains-get_or}
use Rattle.gs_event.specs.declared.events.Action.{Action}
use Rattle.gs_event.specs.declared.answers.Answer.{Answer}
use Rattle.gs_event.specs.Steps.{pin_after}
use Rattle.gs_tree.specs.Tree.{Tree, leaf}
use Rattle.gs_ledger.specs.Entries.{Dead}
use Rattle.gs_ledger.specs.Marks.{dead_at}
use Rattle.gs_ledger.specs.Ledger.{IsReadAt}
use Rattle.gs_ledger.specs.Changes.{AreSameTrees, AreSameDead}
use Rattle.gs_ledger.proofs.Orders.{reorder_ledger}
use Rattle.gs_ledger.proofs.Marked.{same_trees}
use Rattle.gs_datasets.specs.Standing.{graph_trees}
use Rattle.gs_datasets.specs.Trees.{IsMeant, IsPlainTree}
use Rattle.gs_datasets.proofs.Lists.{out_of_place, into_place}
use Rattle.gs_datasets.proofs.Keeping.{ledger_keeps}
use Rattle.gs_records.specs.Order.{AreListed}
use Rattle.gs_tree_store.specs.declared.books.Books.{Books}
use Rattle.gs_tree_store.specs.declared.books.Seat.{Seat}
use Rattle.gs_tree_store.specs.declared.books.Seat.TheVariants.{Idle}
use Rattle.gs_tree_store.specs.declared.stores.TreeStore.TheInside.{Inside}
use Rattle.gs_tree_store.specs.Books.{graphs_of, totals_of, seat_view_by, upload_tree, read_trees, is_reading, IsSeat, HasItsVersion, IsReady, HasLedger, HasLedgerAt}
use Rattle.gs_tree_store.specs.Opened.{HasRecord, KeepsRecords, HaveRecords}
use Rattle.gs_tree_store.specs.Actions.{Acts, GoesOn}
use Rattle.gs_tree_store.specs.Kept.{IsKept}
use Rattle.gs_tree_store.proofs.PlaceLemmas.{map_beside, pins_long, pin_at, some_of}
use Rattle.gs_tree_store.proofs.OpenedLemmas.{own_open, have_after}
use Rattle.gs_tree_store.proofs.ShownLemmas.{Outlives, outlives_kept, reads_same, KeepsSeat, same_upload, same_read, keeps_seat, seat_stays, shown_stays, pin_is}

same_dead : (ds : List Dead) → AreSameDead ds ds
same_dead ds = record { sums = λ f. refl; each = λ k d h. Contains-get_or ds k d h }

-- a ledger with its uploads in another order
turned : (b : Books) (us vs : List Tree) (rs : List (List Tree)) → AreSameTrees us vs → HasLedger b us rs → HasLedger b vs rs
turned b us vs rs same l =
    let gs = graph_trees b.pool (graphs_of b) in
    reorder_ledger b.pool b.versions gs gs us vs rs (dead_at b.pool) (dead_at b.pool) (same_trees gs) same (same_dead (dead_at b.pool)) l

-- the trees of the uploads of a store, and those that its seats read
abbrev pub uploads_of : Inside → List Tree
uploads_of a = map (upload_tree a.books.pool) a.seats.items

abbrev pub reads_of : Inside → List (List Tree)
reads_of a = map (read_trees a.books.pool a.books.records) a.seats.items

module _ (a : Inside) (s : ℕ) (was : Seat) (kept : IsKept a) (within : s < length a.seats.items) (is : was ≡ get_or a.seats.items s was) where
  -- the upload of a seat stands before those of the others
  ledger_at : HasLedgerAt a.books s was (set (uploads_of a) s leaf) (reads_of a)
  ledger_at =
      let p = a.books.pool in
      let own : get_or (uploads_of a) s leaf ≡ upload_tree p was = get_or-map (upload_tree p) a.seats.items s was leaf within ∙ sym (ap (upload_tree p) is) in
      let long : length (reads_of a) ≡ length a.seats.items = length-map a.seats.items (read_trees p a.books.records) in
      let apart : AreSameTrees (uploads_of a) (upload_tree p was ∷ set (uploads_of a) s leaf) =
      subst (λ t. AreSameTrees (uploads_of a) (t ∷ set (uploads_of a) s leaf)) own (out_of_place (uploads_of a) s) in
      record {
        ledger = turned a.books (uploads_of a) (upload_tree p was ∷ set (uploads_of a) s leaf) (reads_of a) apart kept.ledger;
        there = omega arith;
        read = get_or-map (read_trees p a.books.records) a.seats.items s was [] within ∙ sym (ap (read_trees p a.books.records) is);
      }

  -- the books are ready for it
  pub ready_at : IsReady a.books s was
  ready_at =
      let long = pins_long a.books.versions.seats a.seats.items kept.pinned in
      record {
        sound = kept.sound;
        known = subst (IsSeat a.books.dict.terms a.books.pool a.books.records) (sym is) (kept.known s was within);
        there = omega arith;
        pinned = pin_at a.books.versions.seats a.seats.items s was kept.pinned within ∙ sym (ap is_reading is);
        version = subst (HasItsVersion (get_or a.books.versions.seats s None)) (get_or_default a.seats.items s Idle was within ∙ sym is) (kept.versions s);
        ledger = record { uploads = set (uploads_of a) s leaf; reads = reads_of a; ledger = ledger_at };
      }

  -- and its record is open
  pub opened_here : HasRecord a.books was
  opened_here = own_open a.books a.books a.seats.items s was was within is kept.records

-- what a seat has pinned is no later than the last commit
pub pinned_by : (a : Inside) → IsKept a → (k v : ℕ) → get_or a.books.versions.seats k None ≡ Some v → v ≤ a.books.versions.commit
pinned_by a kept k v pin =
    let b = a.books in
    (subst (λ o. IsReadAt b.pool b.versions.commit (graph_trees b.pool (graphs_of b)) (dead_at b.pool) o (get_or (reads_of a) k [])) pin (kept.ledger.read k)).0

module _ (a b : Inside) (s : ℕ) (was now : Seat) (action : Action) (answer : Answer) (kept : IsKept a) (within : s < length a.seats.items) (is : was ≡ get_or a.seats.items s was) (seats : b.seats.items ≡ set a.seats.items s now) (acts : Acts a.books b.books s was now action answer) (keeps : KeepsRecords a.books b.books was now action answer)
    (al : AreListed a.books.records.records a.books.records.listed) (al_new : AreListed b.books.records.records b.books.records.listed) where
  -- the ledger goes on with the trees of the other seats
  pub goes_on : GoesOn a.books b.books s was now action answer (set (uploads_of a) s leaf) (reads_of a)
  goes_on = acts.ledgers (set (uploads_of a) s leaf) (reads_of a) (ledger_at a s was kept within is)

  -- each number that has a term keeps it
  outlives : Outlives a.books.dict.terms b.books.dict.terms
  outlives = outlives_kept a.books.dict.terms b.books.dict.terms acts.grows.terms

  -- so the other seats keep their trees, with an idle seat in the place of the one that acted,
  beside_at : (k : ℕ) (d : Seat) → k < length (set a.seats.items s Idle) → KeepsSeat a.books.pool b.books.pool a.books.records b.books.records (get_or (set a.seats.items s Idle) k d)
  beside_at k d lt =
      let p = a.books.pool in
      let q = b.books.pool in
      let x = a.books.records in
      let y = b.books.records in
      let xs = a.seats.items in
      let idle = set xs s Idle in
      let own = read_trees q y now in
      let trees = ledger_keeps q b.books.versions (graph_trees q (graphs_of b.books)) (upload_tree q now ∷ set (uploads_of a) s leaf) (set (reads_of a) s own) (dead_at q) goes_on.ledger.ledger in
      let staged : All (IsPlainTree q) (map (upload_tree p) idle) = subst (All (IsPlainTree q)) (sym (map-set (upload_tree p) xs s Idle)) (All-tail (IsPlainTree q) (upload_tree q now) (set (uploads_of a) s leaf) trees.staged) in
      let long : length idle ≡ length xs = length-set xs s Idle in
      let there : length (map (upload_tree p) idle) ≡ length idle = length-map idle (upload_tree p) in
      let plain_tree : IsPlainTree q (upload_tree p (get_or idle k d)) = subst (IsPlainTree q) (get_or-map (upload_tree p) idle k d leaf lt) (staged k leaf (omega arith)) in
      elim (cases_eq k s) [
        | inl same ↦ subst (KeepsSeat p q x y) (sym (ap (λ j. get_or idle j d) same ∙ get_or-set_same xs s Idle d within)) tt
        | inr other ↦
            let inside : k < length xs = omega arith in
            let here : get_or idle k d ≡ get_or xs k d = get_or-set_other xs s k Idle d other in
            let pins = a.books.versions.seats in
            let pin : get_or b.books.versions.seats k None ≡ get_or pins k None = ap (λ ps. get_or ps k None) acts.pins ∙ get_or-set_other pins s k (pin_after a.books.versions.commit (get_or pins s None) action answer) None other in
            let read : get_or (set (reads_of a) s own) k [] ≡ read_trees p x (get_or idle k d) = get_or-set_other (reads_of a) s k own [] other ∙ get_or-map (read_trees p x) xs k d [] inside ∙ sym (ap (read_trees p x) here) in
            let version = subst (HasItsVersion (get_or pins k None)) (get_or_default xs k Idle d inside ∙ sym here) (kept.versions k) in
            keeps_seat p q x y al al_new a.books.dict.terms (get_or idle k d) (subst (IsSeat a.books.dict.terms p x) (sym here) (kept.known k d inside)) plain_tree
            (λ reads.
            let some = some_of (get_or b.books.versions.seats k None) (ap (λ (o : Option ℕ). is_some o) pin ∙ pin_at pins xs k d kept.pinned inside ∙ sym (ap is_reading here) ∙ reads) in
            subst (All (IsMeant q)) read (trees.read k some.0 some.1))
            (reads_same x y (get_or pins k None) (get_or idle k d) version (λ v pinned. keeps.same v (pinned_by a kept k v pinned)))
      ]

  -- which were seats, and are,
  others_known : All (IsSeat a.books.dict.terms a.books.pool a.books.records) (set a.seats.items s Idle)
  others_known = All-set (IsSeat a.books.dict.terms a.books.pool a.books.records) a.seats.items s Idle tt kept.known

  others_stay : All (IsSeat b.books.dict.terms b.books.pool b.books.records) (set a.seats.items s Idle)
  others_stay = λ k d lt. seat_stays a.books.dict.terms b.books.dict.terms outlives a.books.pool b.books.pool a.books.records b.books.records al al_new (get_or (set a.seats.items s Idle) k d) (others_known k d lt) (beside_at k d lt)

  -- and show what they showed
  pub others_shown : map (seat_view_by b.books) b.seats.items ≡ set (map (seat_view_by a.books) a.seats.items) s (seat_view_by b.books now)
  others_shown =
      let same : All (λ x. seat_view_by b.books x ≡ seat_view_by a.books x) (set a.seats.items s Idle) =
      λ k d lt. shown_stays a.books.dict.terms b.books.dict.terms outlives a.books.pool b.books.pool a.books.records b.books.records al al_new (get_or (set a.seats.items s Idle) k d) (others_known k d lt) (beside_at k d lt) in
      ap (map (seat_view_by b.books)) seats ∙ map_beside (seat_view_by a.books) (seat_view_by b.books) a.seats.items s now same

  -- the uploads after it: one may be another
  pub uploads_after : set (uploads_of a) s (upload_tree b.books.pool now) ≡ uploads_of b
  uploads_after =
      let p = a.books.pool in
      let q = b.books.pool in
      let same : All (λ x. upload_tree q x ≡ upload_tree p x) (set a.seats.items s Idle) = λ k d lt. same_upload p q a.books.records b.books.records (get_or (set a.seats.items s Idle) k d) (beside_at k d lt) in
      sym (map_beside (upload_tree p) (upload_tree q) a.seats.items s now same) ∙ sym (ap (map (upload_tree q)) seats)

  reads_after : set (reads_of a) s (read_trees b.books.pool b.books.records now) ≡ reads_of b
  reads_after =
      let p = a.books.pool in
      let q = b.books.pool in
      let x = a.books.records in
      let y = b.books.records in
      let same : All (λ z. read_trees q y z ≡ read_trees p x z) (set a.seats.items s Idle) = λ k d lt. same_read p q x y (get_or (set a.seats.items s Idle) k d) (beside_at k d lt) in
      sym (map_beside (read_trees p x) (read_trees q y) a.seats.items s now same) ∙ sym (ap (map (read_trees q y)) seats)

  ledger_after : HasLedger b.books (uploads_of b) (reads_of b)
  ledger_after =
      let top = upload_tree b.books.pool now in
      let long : length (uploads_of a) ≡ length a.seats.items = length-map a.seats.items (upload_tree a.books.pool) in
      let there : s < length (uploads_of a) = omega arith in
      let placed : HasLedger b.books (set (uploads_of a) s top) (set (reads_of a) s (read_trees b.books.pool b.books.records now)) =
      turned b.books (top ∷ set (uploads_of a) s leaf) (set (uploads_of a) s top) (set (reads_of a) s (read_trees b.books.pool b.books.records now)) (into_place (uploads_of a) s top there) goes_on.ledger.ledger in
      subst (λ rs. HasLedger b.books (uploads_of b) rs) reads_after
      (subst (λ us. HasLedger b.books us (set (reads_of a) s (read_trees b.books.pool b.books.records now))) uploads_after placed)

  pinned_after : map is_some b.books.versions.seats ≡ map is_reading b.seats.items
  pinned_after =
      let pins = a.books.versions.seats in
      let pin = pin_after a.books.versions.commit (get_or pins s None) action answer in
      let flag : is_some (get_or pins s None) ≡ is_reading was = (ready_at a s was kept within is).pinned in
      let own : is_some pin ≡ is_reading now = pin_is (totals_of a.books) a.books.versions.commit (get_or pins s None) a.books.dict.terms b.books.dict.terms a.books.pool b.books.pool a.books.records b.books.records was now action answer acts.fits flag acts.seat in
      ap (map is_some) acts.pins
      ∙ map-set (λ (o : Option ℕ). is_some o) pins s pin
      ∙ ap (set (map is_some pins) s) own
      ∙ ap (λ bs. set bs s (is_reading now)) kept.pinned
      ∙ sym (map-set is_reading a.seats.items s now)
      ∙ sym (ap (map is_reading) seats)

  -- a read of all graphs is of the version that its seat has pinned
  versions_after : (k : ℕ) → HasItsVersion (get_or b.books.versions.seats k None) (get_or b.seats.items k Idle)
  versions_after k =
      let pins = a.books.versions.seats in
      let xs = a.seats.items in
      let pin = pin_after a.books.versions.commit (get_or pins s None) action answer in
      let is_at : (j : ℕ) (o : Option ℕ) (x : Seat) → get_or (set pins s pin) j None ≡ o → get_or (set xs s now) j Idle ≡ x → HasItsVersion o x → HasItsVersion (get_or b.books.versions.seats j None) (get_or b.seats.items j Idle) =
      λ j o x here there is.
      subst (λ y. HasItsVersion (get_or b.books.versions.seats j None) y) (sym (ap (λ ys. get_or ys j Idle) seats ∙ there))
      (subst (λ y. HasItsVersion y x) (sym (ap (λ ps. get_or ps j None) acts.pins ∙ here)) is) in
      elim (cases_eq k s) [
        | inl same ↦ subst (λ j. HasItsVersion (get_or b.books.versions.seats j None) (get_or b.seats.items j Idle)) (sym same)
            (is_at s pin now (get_or-set_same pins s pin None (ready_at a s was kept within is).there) (get_or-set_same xs s now Idle within) acts.version)
        | inr other ↦ is_at k (get_or pins k None) (get_or xs k Idle) (get_or-set_other pins s k pin None other) (get_or-set_other xs s k now Idle other) (kept.versions k)
      ]

  -- What holds of every store still holds.
  pub kept_after : IsKept b
  kept_after =
      let xs = a.seats.items in
      record {
        sound = acts.sound;
        known = subst (All (IsSeat b.books.dict.terms b.books.pool b.books.records)) (set-set xs s Idle now ∙ sym seats) (All-set (IsSeat b.books.dict.terms b.books.pool b.books.records) (set xs s Idle) s now acts.known others_stay);
        pinned = pinned_after;
        versions = versions_after;
        records = subst (HaveRecords b.books) (sym seats) (have_after a.books b.books xs s was now within is kept.records action answer keeps);
        ledger = ledger_after;
      }
