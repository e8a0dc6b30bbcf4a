-- The births that a store shows are those of its trees.
use Rattle.std.proofs.Common.{◌≡◌, ℕ, List, [], map, length, get_or, Option, Some, None, option_map, unwrap_or, refl, sym, ap, ◌∙◌, inl, inr, arith}
use Rattle.std.proofs.lemmas.Bool.{cases_lt}
use Rattle.std.proofs.lemmas.List.{length-map, get_or-map, get_or_past}
use Rattle.gs_term.specs.declared.names.Target.{Target}
use Rattle.gs_term.specs.declared.names.Target.TheVariants.{Default, Named}
use Rattle.gs_pool.specs.Pool.{Nodes}
use Rattle.gs_tree.specs.Tree.{Tree, leaf, keys, tree_at}
use Rattle.gs_keys.specs.Texts.{Terms, triple_at}
use Rattle.gs_keys.proofs.KeyLemmas.{triples_of_keys}
use Rattle.gs_event.specs.Views.{SeatView}
use Rattle.gs_event.specs.Births.{births_at, staged_births}
use Rattle.gs_event.specs.Born.{staged_at, HasFewBirths}
use Rattle.gs_ledger.specs.Entries.{tree_births}
use Rattle.gs_ledger.proofs.Births.{tree_births_long}
use Rattle.gs_catalogue.specs.declared.versions.GraphVersion.{GraphVersion}
use Rattle.gs_records.specs.Records.{Recorded}
use Rattle.gs_datasets.specs.Standing.{version_tree, target_tree}
use Rattle.gs_datasets.proofs.Values.{get-with_values}
use Rattle.gs_tree_store.specs.declared.books.Seat.{Seat}
use Rattle.gs_tree_store.specs.declared.books.Seat.TheVariants.{Idle, Writing, Patching, Reading, ReadingAll}
use Rattle.gs_tree_store.specs.declared.stores.TreeStore.TheInside.{Inside}
use Rattle.gs_tree_store.specs.Books.{graphs_of, seat_shown, seat_view_by, upload_tree, IsSeat}
use Rattle.gs_tree_store.specs.Births.{graph_births, upload_births}
use Rattle.gs_tree_store.specs.Kept.{shown_of, IsKept}
use Rattle.gs_tree_store.proofs.CommitLemmas.{tree_of_target, keys_of_target}

-- what f makes of the values at a place, where it makes the one default of the other
pub map_or : {X Y : Type 0} (f : X → Y) (xs : List X) (k : ℕ) (d : X) → get_or (map f xs) k (f d) ≡ f (get_or xs k d)
map_or f xs k d = elim (cases_lt k (length xs)) [
  | inl within ↦ get_or-map f xs k d (f d) within
  | inr past ↦ get_or_past (map f xs) k (f d) (omega (arith, length-map xs f)) ∙ sym (ap f (get_or_past xs k d past))
]

births_if : (p : Nodes) (o : Option GraphVersion) → unwrap_or (option_map (λ v. tree_births (version_tree p v)) o) [] ≡ tree_births (unwrap_or (option_map (version_tree p) o) leaf)
births_if p None = refl
births_if p (Some v) = refl

module _ (a : Inside) where
  -- of a graph
  pub births_at-is : (t : Target) → births_at (shown_of a).births t ≡ graph_births a.books t
  births_at-is Default = refl
  births_at-is (Named n) =
      ap (λ o. unwrap_or o []) (get-with_values (λ v. tree_births (version_tree a.books.pool v)) (graphs_of a.books).named n) ∙ births_if a.books.pool _

  -- and of the upload of a seat
  pub staged_births-is : (k : ℕ) → staged_births (shown_of a).births k ≡ upload_births a.books (get_or a.seats.items k Idle)
  staged_births-is k = map_or (upload_births a.books) a.seats.items k Idle

-- a birth for each triple that a seat staged
seat_births : (terms : Terms) (p : Nodes) (rs : Recorded) (s : Seat) → IsSeat terms p rs s → length (tree_births (upload_tree p s)) ≡ staged_at (seat_shown terms p rs s)
seat_births terms p rs Idle is = refl
seat_births terms p rs (Writing k r v o since) is =
    let ks = keys (tree_at p v.root) in
    tree_births_long (tree_at p v.root) ∙ sym (ap length (triples_of_keys terms ks is.keyed.rising is.keyed.given) ∙ length-map ks (triple_at terms))
seat_births terms p rs (Patching t r o since) is = refl
seat_births terms p rs (Reading root last) is = refl
seat_births terms p rs (ReadingAll v last) is = refl

-- Each birth is of a triple of a current graph or an open upload.
pub few_births : (a : Inside) → IsKept a → HasFewBirths (shown_of a)
few_births a kept =
    let b = a.books in
    let terms = b.dict.terms in
    let g = graphs_of b in
    let xs = a.seats.items in
    record {
      graphs = λ t. omega (
        arith,
        ap length (births_at-is a t),
        tree_births_long (target_tree b.pool g t),
        ap (λ (x : Tree). length (keys x)) (tree_of_target b.pool g t),
        keys_of_target terms b.pool g t kept.sound.versions,
      );
      staged = λ k. elim (cases_lt k (length xs)) [
        | inl within ↦ omega (
          arith,
          ap length (staged_births-is a k),
          seat_births terms b.pool b.records (get_or xs k Idle) (kept.known k Idle within),
          ap (λ (x : SeatView). staged_at x) (map_or (seat_view_by b) xs k Idle),
        )
        | inr past ↦ omega (arith, ap length (staged_births-is a k), ap (λ x. length (upload_births b x)) (get_or_past xs k Idle past))
      ];
    }
