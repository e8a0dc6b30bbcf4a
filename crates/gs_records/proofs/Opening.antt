-- A number that was free is open.
use Rattle.std.proofs.Common.{◌≡◌, ◌⊎◌, ℕ, zero, suc, ◌+◌, ◌<◌, ◌≤◌, cond, List, [], ◌∷◌, ◌++◌, length, get_or, None, refl, sym, ap, subst, ◌∙◌, inl, inr, arith, length-append}
use Rattle.gs_model.specs.Limits.{last_node}
use Rattle.gs_pool.specs.declared.nodes.Node.{Node}
use Rattle.gs_pool.specs.Pool.{Nodes, plain, node_at, mark_at, free_count, room, Fills}
use Rattle.gs_index.specs.declared.entries.Entry.{Entry}
use Rattle.gs_index.specs.Ages.{blank_entry}
use Rattle.gs_index.specs.Indexes.{Indexed, entry_at}
use Rattle.gs_records.specs.Records.{is_kept, free, opened, Recorded, record_at, Turns}
use Rattle.gs_records.specs.Graphs.{current}
use Rattle.gs_records.specs.Waste.{is_opened, is_in_use}
use Rattle.gs_records.specs.Kept.{AreSingle}
use Rattle.gs_records.specs.Calls.{Opens}
use Rattle.gs_records.specs.Stored.{records_by, IsStored, ChangesOneNumber, GrowsByEntry}
use Rattle.gs_records.proofs.Sums.{waste_same, count_turned}
use Rattle.gs_records.proofs.Keeping.{free_without, free_birth, keeps_graphs, turns, stored_bare}

zero_or : (n : ℕ) → (n ≡ 0) ⊎ (0 < n)
zero_or zero = inl refl
zero_or (suc n) = inr (omega arith)

-- a blank entry more is under each number past the last
pub entry_pushed : (es : List Entry) (m : ℕ) → entry_at (es ++ blank_entry ∷ []) m ≡ entry_at es m
entry_pushed [] zero = refl
entry_pushed [] (suc m) = refl
entry_pushed (e ∷ es) zero = refl
entry_pushed (e ∷ es) (suc m) = entry_pushed es m

-- an index and a pool with the same nodes, marks and entries
pub record IsAlike (x y : Indexed) (p q : Nodes) : Type 0 where
  pub entries : (m : ℕ) → entry_at y.entries m ≡ entry_at x.entries m
  pub listed : y.listed ≡ x.listed
  pub nodes : q.nodes ≡ p.nodes
  pub marks : q.marks ≡ p.marks

-- a number is filled, and there is an entry for it
module _ (x y : Indexed) (p q r : Nodes) (opens latest n : ℕ) (node : Node) (s : IsStored x p opens latest) (alike : IsAlike x y p q) (fills : Fills q r n node) (birth : node.birth ≡ 0) (many : length r.nodes ≡ length y.entries) (room : opens + 1 ≤ y.spare) (few : length y.entries ≤ last_node + 1) where
  was_none : node_at p n ≡ None
  was_none = sym (ap (λ ns. get_or ns n None) alike.nodes) ∙ fills.was_free

  pub was_free : record_at (records_by x p) n ≡ free
  was_free = free_without (record_at (records_by x p) n) (node_at p n) (mark_at p n) (entry_at x.entries n) (s.stand n) was_none

  opens_changes : ChangesOneNumber x y p r n opened
  opens_changes = record {
    many = many;
    stands = (
      ap (λ (e : Entry). e.birth) (alike.entries n) ∙ free_birth (record_at (records_by x p) n) (node_at p n) (mark_at p n) (entry_at x.entries n) (s.stand n) was_free,
      record { node = node; found = fills.updates.changed; birth_is = birth },
      fills.plain_now,
    );
    nodes = λ m ne. fills.updates.others m ne ∙ ap (λ ns. get_or ns m None) alike.nodes;
    marks = λ m ne. fills.marks m ∙ ap (λ ms. get_or ms m plain) alike.marks;
    entries = λ m ne. alike.entries m;
  }

  pub opened_turns : Turns (records_by x p) (records_by y r) n opened
  opened_turns = turns x y p r opens (opens + 1) latest n opened s opens_changes

  pub opened_stored : IsStored y r (opens + 1) latest
  opened_stored = stored_bare x y p r opens (opens + 1) latest n opened s opens_changes refl alike.listed (alike.entries n) s.counted
      (omega (arith, s.counted, count_turned is_opened (records_by x p) (records_by y r) n opened refl opened_turns, ap (λ z. cond {A = ℕ} (is_opened z) 1 0) was_free))
      room few

  pub opened_current : current (records_by y r) ≡ current (records_by x p)
  opened_current = (keeps_graphs (records_by x p) (records_by y r) n opened s.single opened_turns (ap is_kept was_free) refl).now

  pub opened_now : (a b : Recorded) → a.records ≡ records_by x p → b.records ≡ records_by y r → b.listed ≡ a.listed → b.latest ≡ a.latest → b.limit ≡ a.limit → n < b.limit → Opens a b n
  opened_now a b from to listed same limit below =
      let turn : Turns a.records b.records n opened = subst (λ rs. Turns rs b.records n opened) (sym from) (subst (λ rs. Turns (records_by x p) rs n opened) (sym to) opened_turns) in
      let single : AreSingle a.records = subst AreSingle (sym from) s.single in
      let was : record_at a.records n ≡ free = ap (λ rs. record_at rs n) from ∙ was_free in
      record {
        below = below;
        was = was;
        turns = turn;
        graphs = keeps_graphs a.records b.records n opened single turn (ap is_kept was) refl;
        waste = waste_same a.records b.records n opened free was refl refl turn;
        used = omega (arith, count_turned is_in_use a.records b.records n opened refl turn, ap (λ z. cond {A = ℕ} (is_in_use z) 1 0) was);
        opens = omega (arith, count_turned is_opened a.records b.records n opened refl turn, ap (λ z. cond {A = ℕ} (is_opened z) 1 0) was);
        listed = listed;
        latest = same;
        limit = limit;
      }

-- an entry more is there just where the pool is longer
pub grown_many : (x y : Indexed) (p r : Nodes) (n : ℕ) (node : Node) → GrowsByEntry x y p → Fills p r n node → length r.nodes ≡ length y.entries
grown_many x y p r n node g f = elim (zero_or (free_count p)) [
  | inl none ↦ f.grows none ∙ sym (g.none_free none)
  | inr some ↦ f.reuses some ∙ sym (g.free_left some)
]

pub grown_few : (x y : Indexed) (p : Nodes) → GrowsByEntry x y p → 1 ≤ room p → length p.nodes + p.spare ≤ p.limit → p.limit ≤ last_node + 1 → length y.entries ≤ last_node + 1
grown_few x y p g room fits small = elim (zero_or (free_count p)) [
  | inl none ↦ omega (arith, g.none_free none, room, none, fits, small)
  | inr some ↦ omega (arith, g.free_left some, fits, small)
]

-- no entry is wanted where a number is free, and one is where none is
pub grows_none : (x : Indexed) (p : Nodes) → length p.nodes ≡ length x.entries → 0 < free_count p → GrowsByEntry x x p
grows_none x p many some = record { entries = λ m. refl; listed = refl; spare = refl; free_left = λ h. sym many; none_free = λ h. absurd (omega arith) }

pub grows_one : (x y : Indexed) (p : Nodes) → length p.nodes ≡ length x.entries → free_count p ≡ 0 → y.entries ≡ x.entries ++ blank_entry ∷ [] → y.listed ≡ x.listed → y.spare ≡ x.spare → GrowsByEntry x y p
grows_one x y p many none entries listed spare = record {
  entries = λ m. ap (λ es. entry_at es m) entries ∙ entry_pushed x.entries m;
  listed = listed;
  spare = spare;
  free_left = λ h. absurd (omega arith);
  none_free = λ h. omega (arith, ap length entries, length-append x.entries (blank_entry ∷ []), many);
}

pub alike_grown : (x w y : Indexed) (p q : Nodes) → w.entries ≡ x.entries → w.listed ≡ x.listed → GrowsByEntry w y q → q.nodes ≡ p.nodes → q.marks ≡ p.marks → IsAlike x y p q
alike_grown x w y p q entries listed g nodes marks = record {
  entries = λ m. g.entries m ∙ ap (λ es. entry_at es m) entries;
  listed = g.listed ∙ listed;
  nodes = nodes;
  marks = marks;
}
