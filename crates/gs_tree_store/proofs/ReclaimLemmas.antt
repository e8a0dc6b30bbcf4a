-- What a Reclaim keeps of the whole store.
use Rattle.std.proofs.Common.{◌≡◌, ℕ, ◌+◌, ◌-◌, ◌<◌, Bool, ◌||◌, List, [], map, length, get_or, Option, None, refl, sym, ap, ◌∙◌, subst, inl, inr, arith, true≢false}
use Rattle.std.specs.List.{All}
use Rattle.std.proofs.lemmas.List.{length-map, get_or_default, get_or-map}
use Rattle.gs_event.specs.declared.events.Event.TheVariants.{Reclaim}
use Rattle.gs_event.specs.declared.answers.Answer.TheVariants.{Reclaimed}
use Rattle.gs_event.specs.Births.{births_at, staged_births}
use Rattle.gs_event.specs.Born.{HasSameBirths}
use Rattle.gs_event.specs.Waste.{Lifetime, Shown}
use Rattle.gs_event.specs.Steps.{Frees, Steps}
use Rattle.gs_dict.proofs.NumberLemmas.{keep_same}
use Rattle.gs_pool.specs.Pool.{Nodes, aside_count}
use Rattle.gs_tree.specs.Tree.{leaf}
use Rattle.gs_ledger.specs.Entries.{tree_births}
use Rattle.gs_ledger.specs.Marks.{dead_at, waste_at}
use Rattle.gs_ledger.specs.Ledger.{IsLedger}
use Rattle.gs_reclaim.specs.Reclaims.{KeepsLedgers}
use Rattle.gs_records.specs.Records.{Record, opened, Recorded, record_at}
use Rattle.gs_records.specs.Waste.{lifetimes, waste_in, is_opened}
use Rattle.gs_records.specs.Graphs.{current}
use Rattle.gs_records.specs.Order.{AreListed}
use Rattle.gs_quads.proofs.Calls.{calls_keep}
use Rattle.gs_records.specs.Reclaims.{StaysOrGoes, ReclaimsRecords}
use Rattle.gs_datasets.specs.Standing.{dataset_at, all_versions, graph_trees, IsVersion}
use Rattle.gs_datasets.specs.Trees.{IsMeant, IsPlainTree}
use Rattle.gs_datasets.specs.Writes.{KeepsDataset}
use Rattle.gs_datasets.proofs.Keeping.{ledger_keeps, graphs_stay}
use Rattle.gs_datasets.proofs.Writing.{all_stay}
use Rattle.gs_tree_store.specs.declared.books.Seat.{Seat}
use Rattle.gs_tree_store.specs.declared.books.Seat.TheVariants.{Idle}
use Rattle.gs_tree_store.specs.declared.stores.TreeStore.TheInside.{Inside}
use Rattle.gs_tree_store.specs.Books.{graphs_of, seat_view_by, upload_tree, read_trees, IsSeat, HasItsVersion, IsSound}
use Rattle.gs_tree_store.specs.Opened.{IsOpened}
use Rattle.gs_tree_store.specs.Kept.{shown_of, IsKept}
use Rattle.gs_tree_store.proofs.AlikeLemmas.{SameNow, alike_dataset, alike_writes, alike_sound}
use Rattle.gs_tree_store.proofs.PlaceLemmas.{same_map, pin_at, some_of}
use Rattle.gs_tree_store.proofs.ShownLemmas.{outlives_same, reads_same, KeepsSeat, same_upload, same_read, keeps_seat, seat_stays, shown_stays}
use Rattle.gs_tree_store.proofs.BornLemmas.{equal_births, trees_bear}
use Rattle.gs_tree_store.proofs.BirthLemmas.{map_or, births_at-is, staged_births-is, few_births}
use Rattle.gs_tree_store.proofs.KeptLemmas.{uploads_of, reads_of}
use Rattle.gs_tree_store.proofs.JoinLemmas.{frees_both}

-- the store with another pool
abbrev with_pool : Inside → Nodes → Inside
with_pool a q = record a { books = record a.books { pool = q } }

-- and with other records too
abbrev pub reclaimed : Inside → Nodes → Recorded → Inside
reclaimed a q r = record a { books = record a.books { pool = q; records = r } }

-- what is open has no lifetime, so it stays
opened_stays : (pins : List (Option ℕ)) (old new : Record) → old ≡ opened → StaysOrGoes pins old new → new ≡ opened
opened_stays pins old new open_now (inl same) = same ∙ open_now
opened_stays pins old new open_now (inr (gone, none)) = absurd (omega (arith, ap (λ (ls : List Lifetime). length ls) (sym (ap lifetimes open_now) ∙ none.only)))

-- and what is open now was open
opened_was : (pins : List (Option ℕ)) (old new : Record) → new ≡ opened → StaysOrGoes pins old new → old ≡ opened
opened_was pins old new open_now (inl same) = sym same ∙ open_now
opened_was pins old new open_now (inr (gone, none)) = absurd (true≢false (sym (ap is_opened (sym gone ∙ open_now))))

module _ (a : Inside) (q : Nodes) (kept : IsKept a) (ledgers : KeepsLedgers a.books.versions a.books.pool q) where
  gone_on : IsLedger q a.books.versions (graph_trees a.books.pool (graphs_of a.books)) (uploads_of a) (reads_of a) (dead_at q)
  gone_on = ledgers (graph_trees a.books.pool (graphs_of a.books)) (uploads_of a) (reads_of a) kept.ledger

  -- versions have the trees that they had
  graphs_kept : KeepsDataset a.books.dict.terms a.books.dict.terms a.books.pool q (graphs_of a.books)
  graphs_kept =
      let terms = a.books.dict.terms in
      let p = a.books.pool in
      let g = graphs_of a.books in
      all_stay terms terms (keep_same terms) p q g kept.sound.versions (graphs_stay terms p q g a.books.versions (uploads_of a) (reads_of a) (dead_at q) kept.sound.versions gone_on)

  versions_kept : All (IsVersion a.books.dict.terms q) (all_versions (graphs_of a.books))
  versions_kept = graphs_kept.versions

  dataset_kept : dataset_at a.books.dict.terms q (graphs_of a.books) ≡ dataset_at a.books.dict.terms a.books.pool (graphs_of a.books)
  dataset_kept = graphs_kept.dataset

  -- the books are sound with the other pool
  sound_kept : aside_count q ≡ 0 → IsSound (with_pool a q).books
  sound_kept none = record { versions = versions_kept; none_aside = none; commit = kept.sound.commit; latest = kept.sound.latest; numbers = kept.sound.numbers; base = kept.sound.base; written = kept.sound.written }

  -- Records go too, at most so many as are left of the count once nodes went.
  module _ (r : Recorded) (n freed gone : ℕ) (left rest : Bool) (reclaims : ReclaimsRecords a.books.versions.seats (n - freed) gone rest a.books.records r)
      (al : AreListed a.books.records.records a.books.records.listed) (al_new : AreListed r.records r.listed) where
    -- seats keep their trees
    seats_kept : (k : ℕ) (d : Seat) → k < length a.seats.items → KeepsSeat a.books.pool q a.books.records r (get_or a.seats.items k d)
    seats_kept k d lt =
        let p = a.books.pool in
        let x = a.books.records in
        let xs = a.seats.items in
        let pins = a.books.versions.seats in
        let trees = ledger_keeps q a.books.versions (graph_trees p (graphs_of a.books)) (uploads_of a) (reads_of a) (dead_at q) gone_on in
        let long : length (uploads_of a) ≡ length xs = length-map xs (upload_tree p) in
        let staged : IsPlainTree q (upload_tree p (get_or xs k d)) = subst (IsPlainTree q) (get_or-map (upload_tree p) xs k d leaf lt) (trees.staged k leaf (omega arith)) in
        let version = subst (HasItsVersion (get_or pins k None)) (get_or_default xs k Idle d lt) (kept.versions k) in
        keeps_seat p q x r al al_new a.books.dict.terms (get_or xs k d) (kept.known k d lt) staged
        (λ reads.
        let some = some_of (get_or pins k None) (pin_at pins xs k d kept.pinned lt ∙ reads) in
        subst (All (IsMeant q)) (get_or-map (read_trees p x) xs k d [] lt) (trees.read k some.0 some.1))
        (reads_same x r (get_or pins k None) (get_or xs k d) version (λ v pinned. (calls_keep v).reclaims x r pins k (n - freed) gone rest pinned reclaims))

    seats_known : All (IsSeat a.books.dict.terms q r) a.seats.items
    seats_known = λ k d lt. seat_stays a.books.dict.terms a.books.dict.terms (outlives_same a.books.dict.terms) a.books.pool q a.books.records r al al_new (get_or a.seats.items k d) (kept.known k d lt) (seats_kept k d lt)

    seats_shown : map (seat_view_by (reclaimed a q r).books) a.seats.items ≡ map (seat_view_by a.books) a.seats.items
    seats_shown = same_map (seat_view_by a.books) (seat_view_by (reclaimed a q r).books) a.seats.items
        (λ k d lt. shown_stays a.books.dict.terms a.books.dict.terms (outlives_same a.books.dict.terms) a.books.pool q a.books.records r al al_new (get_or a.seats.items k d) (kept.known k d lt) (seats_kept k d lt))

    -- the graphs of now are the same
    now_same : SameNow a.books.records r
    now_same = record { graphs = reclaims.now; latest = reclaims.latest; limit = reclaims.limit; births = reclaims.births }

    -- and so are their trees, and those of uploads
    graphs_same : graph_trees q (current r.records) ≡ graph_trees a.books.pool (graphs_of a.books)
    graphs_same = ap (graph_trees q) now_same.graphs ∙ graphs_kept.trees

    uploads_same : uploads_of (reclaimed a q r) ≡ uploads_of a
    uploads_same = same_map (upload_tree a.books.pool) (upload_tree q) a.seats.items (λ k d lt. same_upload a.books.pool q a.books.records r (get_or a.seats.items k d) (seats_kept k d lt))

    births_same : HasSameBirths (shown_of a) (shown_of (reclaimed a q r))
    births_same =
        let b = reclaimed a q r in
        record {
          graphs = λ u. equal_births (births_at (shown_of a).births u) (births_at (shown_of b).births u) (births_at-is b u ∙ trees_bear a.books b.books now_same.graphs graphs_same u ∙ sym (births_at-is a u));
          staged = λ k. equal_births (staged_births (shown_of a).births k) (staged_births (shown_of b).births k)
              (staged_births-is b k ∙ ap tree_births (sym (map_or (upload_tree q) a.seats.items k Idle) ∙ ap (λ us. get_or us k leaf) uploads_same ∙ map_or (upload_tree a.books.pool) a.seats.items k Idle) ∙ sym (staged_births-is a k));
        }

    ledger_kept : IsLedger q a.books.versions (graph_trees q (current r.records)) (uploads_of (reclaimed a q r)) (reads_of (reclaimed a q r)) (dead_at q)
    ledger_kept =
        let p = a.books.pool in
        let x = a.books.records in
        let xs = a.seats.items in
        let b = reclaimed a q r in
        let rs : reads_of b ≡ reads_of a = same_map (read_trees p x) (read_trees q r) xs (λ k d lt. same_read p q x r (get_or xs k d) (seats_kept k d lt)) in
        subst (λ ts. IsLedger q a.books.versions ts (uploads_of b) (reads_of b) (dead_at q)) (sym graphs_same)
        (subst (λ ts. IsLedger q a.books.versions (graph_trees p (graphs_of a.books)) ts (reads_of b) (dead_at q)) (sym uploads_same)
        (subst (λ ts. IsLedger q a.books.versions (graph_trees p (graphs_of a.books)) (uploads_of a) ts (dead_at q)) (sym rs) gone_on))

    still_open : (k : ℕ) → IsOpened a.books k → IsOpened (reclaimed a q r).books k
    still_open k open_now = opened_stays a.books.versions.seats (record_at a.books.records.records k) (record_at r.records k) open_now (reclaims.each k)

    was_open : (k : ℕ) → IsOpened (reclaimed a q r).books k → IsOpened a.books k
    was_open k open_now = opened_was a.books.versions.seats (record_at a.books.records.records k) (record_at r.records k) open_now (reclaims.each k)

    -- What holds of every store still holds,
    pub kept_reclaimed : aside_count q ≡ 0 → IsKept (reclaimed a q r)
    kept_reclaimed none = record {
      sound = alike_sound (with_pool a q).books r now_same (sound_kept none);
      known = seats_known;
      pinned = kept.pinned;
      versions = kept.versions;
      records = record { open_now = λ k m e. still_open m (kept.records.open_now k m e); apart = kept.records.apart; all = λ m h. kept.records.all m (was_open m h); many = reclaims.opens ∙ kept.records.many };
      ledger = ledger_kept;
    }

    own_reclaim : IsKept (reclaimed a q r) → Frees a.books.versions.seats n freed left (waste_at a.books.pool) (waste_at q) → Steps (shown_of a) (Reclaim n) (Reclaimed (freed + gone) (left || rest)) (shown_of (reclaimed a q r))
    own_reclaim after frees =
        let dataset = alike_dataset (with_pool a q).books r now_same ∙ dataset_kept in
        let writes = alike_writes (with_pool a q).books r now_same in
        let view : (shown_of (reclaimed a q r)).view ≡ (shown_of a).view =
        λ i. record { totals = record { setting = (shown_of a).view.totals.setting; dataset = dataset i; request = a.books.request; commit = a.books.versions.commit; last_writes = writes i }; seats = seats_shown i } in
        record {
          fits = tt;
          view = view;
          pinned = refl;
          waste = (
            frees_both a.books.versions.seats n freed gone left rest (waste_at a.books.pool) (waste_at q) (waste_in a.books.records.records) (waste_in r.records) frees reclaims.waste,
            births_same,
          );
          few = λ h. few_births (reclaimed a q r) after;
        }

    -- and it is a step.
    pub steps_reclaimed : (old : Shown) (more : Bool) → IsKept (reclaimed a q r) → shown_of a ≡ old → more ≡ (left || rest) → Frees a.books.versions.seats n freed left (waste_at a.books.pool) (waste_at q) → Steps old (Reclaim n) (Reclaimed (freed + gone) more) (shown_of (reclaimed a q r))
    steps_reclaimed old more after view is frees =
        subst (λ y. Steps old (Reclaim n) (Reclaimed (freed + gone) y) (shown_of (reclaimed a q r))) (sym is)
        (subst (λ (x : Shown). Steps x (Reclaim n) (Reclaimed (freed + gone) (left || rest)) (shown_of (reclaimed a q r))) view (own_reclaim after frees))
