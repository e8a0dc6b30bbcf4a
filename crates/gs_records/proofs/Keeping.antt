-- What a number must have to stand for a record, and what is true of all records after one has changed.
use Rattle.std.proofs.Common.{◌≡◌, ℕ, suc, ◌+◌, ◌-◌, ◌<◌, ◌≤◌, false, List, [], ◌∷◌, length, drop, get_or, Option, Some, None, refl, sym, ap, subst, ◌∙◌, arith}
use Rattle.std.proofs.lemmas.Bool.{cases_eq, cases_lt}
use Rattle.std.proofs.lemmas.List.{get_or_past}
use Rattle.std.proofs.Common.{inl, inr}
use Rattle.gs_model.specs.Limits.{last_node}
use Rattle.gs_pool.specs.declared.nodes.Node.{Node}
use Rattle.gs_pool.specs.Pool.{Nodes, NodeMark, retired, node_at, mark_at, Marks}
use Rattle.gs_ledger.specs.Marks.{death_of}
use Rattle.gs_index.specs.declared.entries.Entry.{Entry}
use Rattle.gs_index.specs.Indexes.{Indexed, entry_at, is_listed}
use Rattle.gs_records.specs.Records.{is_kept, Record, free, opened, unused, kept, Recorded, record_at, has_at, is_current, Turns}
use Rattle.gs_records.specs.Graphs.{current}
use Rattle.gs_records.specs.Waste.{is_opened, open_count}
use Rattle.gs_records.specs.Kept.{AreSingle}
use Rattle.gs_records.specs.Calls.{KeepsGraphs, GivesUp}
use Rattle.std.proofs.lemmas.List.Sums.{count_by-le-length}
use Rattle.gs_records.specs.Stored.{is_made, records_of, records_by, HasNode, StandsForRecord, IsStored, ChangesOneNumber}
use Rattle.gs_records.proofs.Lifetimes.{once_at, once_current}
use Rattle.gs_records.proofs.Turning.{none_bare, graphs_turned, births_turned, single_turned, dated_turned}
use Rattle.gs_records.proofs.Sums.{gains_turned, uses_one}
use Rattle.gs_records.proofs.Storing.{turns_stored, all_stand}

some_not_none : (n : Node) (o : Option Node) → o ≡ Some n → o ≡ None → ⊥
some_not_none n o is none = absurd (let bad : Some n ≡ None = sym is ∙ none in cc)

-- a number with no node is free
pub free_without : (r : Record) (o : Option Node) (m : NodeMark) (e : Entry) → StandsForRecord r o m e → o ≡ None → r ≡ free
free_without free o m e s none = refl
free_without opened o m e s none = absurd (some_not_none s.1.node o s.1.found none)
free_without unused o m e s none = absurd (some_not_none s.1.node o s.1.found none)
free_without (kept k) o m e s none = absurd (some_not_none s.1.node o s.1.found none)

pub free_birth : (r : Record) (o : Option Node) (m : NodeMark) (e : Entry) → StandsForRecord r o m e → r ≡ free → e.birth ≡ 0
free_birth r o m e s is = (subst (λ x. StandsForRecord x o m e) is s).0

module _ (x : Indexed) (p : Nodes) (opens latest n : ℕ) (r : Record) (s : IsStored x p opens latest) (is : record_at (records_by x p) n ≡ r) where
  -- what a number has that stands for this
  pub stands_at : StandsForRecord r (node_at p n) (mark_at p n) (entry_at x.entries n)
  stands_at = subst (λ y. StandsForRecord y (node_at p n) (mark_at p n) (entry_at x.entries n)) is (s.stand n)

-- what has a node is within
pub used_within : (p : Nodes) (x : Indexed) (n b : ℕ) → length p.nodes ≡ length x.entries → HasNode (node_at p n) b → n < length x.entries
used_within p x n b many h = elim (cases_lt n (length p.nodes)) [
  | inl lt ↦ omega (arith, lt, many)
  | inr past ↦ absurd (some_not_none h.node (node_at p n) h.found (get_or_past p.nodes n None past))
]

-- where neither was a record, no version of the dataset is another
pub keeps_graphs : (old new : List Record) (n : ℕ) (r : Record) → AreSingle old → Turns old new n r → is_kept (record_at old n) ≡ false → is_kept r ≡ false → KeepsGraphs old new
keeps_graphs old new n r single turn was is = record {
  versions = λ v. graphs_turned (has_at v) old new n r (once_at v old single) turn (λ t. none_bare (has_at v) t (record_at old n) was) (λ t. none_bare (has_at v) t r is);
  now = graphs_turned is_current old new n r (once_current old single) turn (λ t. none_bare is_current t (record_at old n) was) (λ t. none_bare is_current t r is);
  births = births_turned old new n r (once_current old single) turn (λ t. none_bare is_current t (record_at old n) was) (λ t. none_bare is_current t r is);
}

module _ (x y : Indexed) (p q : Nodes) (opens now latest n : ℕ) (r : Record) (s : IsStored x p opens latest) (c : ChangesOneNumber x y p q n r) where
  pub turns : Turns (records_by x p) (records_by y q) n r
  turns = turns_stored x y p q n r s.many s.stand c

  -- where a number stands for what is no record, all is stored as it was
  pub stored_bare : is_kept r ≡ false → y.listed ≡ x.listed → entry_at y.entries n ≡ entry_at x.entries n → opens ≡ open_count (records_by x p) → now ≡ open_count (records_by y q) → now ≤ y.spare → length y.entries ≤ last_node + 1 → IsStored y q now latest
  stored_bare bare listed same was counted room few = record {
    many = c.many;
    stand = all_stand x y p q n r s.many s.stand c;
    lists = λ m. ap (is_listed m) listed ∙ s.lists m ∙ ap is_made (sym (entry_same m));
    counted = counted;
    room = room;
    single = single_turned (records_by x p) (records_by y q) n r turns bare s.single;
    dated = dated_turned latest (records_by x p) (records_by y q) n r turns bare s.dated;
    few = few;
  }
    where
      entry_same : (m : ℕ) → entry_at y.entries m ≡ entry_at x.entries m
      entry_same m = elim (cases_eq m n) [ inl here ↦ ap (entry_at y.entries) here ∙ same ∙ sym (ap (entry_at x.entries) here) | inr ne ↦ c.entries m ne ]

-- an open record is given up
module _ (x : Indexed) (p q : Nodes) (opens latest n : ℕ) (s : IsStored x p opens latest) (is : record_at (records_by x p) n ≡ opened) (marks : Marks p q n (retired 0 false)) where
  gives_changes : ChangesOneNumber x x p q n unused
  gives_changes =
      let at = stands_at x p opens latest n opened s is in
      record {
        many = ap length marks.nodes ∙ s.many;
        stands = (at.0, subst (λ o. HasNode o 0) (sym (ap (λ ns. get_or ns n None) marks.nodes)) at.1, ap death_of marks.changed);
        nodes = λ m ne. ap (λ ns. get_or ns m None) marks.nodes;
        marks = marks.others;
        entries = λ m ne. refl;
      }

  pub given_turns : Turns (records_by x p) (records_by x q) n unused
  given_turns = turns x x p q opens (opens - 1) latest n unused s gives_changes

  given_open : open_count (records_by x q) + 1 ≡ open_count (records_by x p)
  given_open = (uses_one (records_by x p) (records_by x q) n unused is refl refl given_turns).opens

  pub given_current : current (records_by x q) ≡ current (records_by x p)
  given_current = (keeps_graphs (records_by x p) (records_by x q) n unused s.single given_turns (ap is_kept is) refl).now

  pub given_some : 0 < opens
  given_some = omega (arith, given_open, s.counted)

  pub given_stored : IsStored x q (opens - 1) latest
  given_stored = stored_bare x x p q opens (opens - 1) latest n unused s gives_changes refl refl refl s.counted (omega (arith, given_open, s.counted)) (omega (arith, s.room)) s.few

  pub given_up : (a b : Recorded) → a.records ≡ records_by x p → b.records ≡ records_by x q → b.listed ≡ a.listed → b.latest ≡ a.latest → b.limit ≡ a.limit → GivesUp a b n
  given_up a b from to listed same limit =
      let turn : Turns a.records b.records n unused = subst (λ rs. Turns rs b.records n unused) (sym from) (subst (λ rs. Turns (records_by x p) rs n unused) (sym to) given_turns) in
      let single : AreSingle a.records = subst AreSingle (sym from) s.single in
      let was : record_at a.records n ≡ opened = ap (λ rs. record_at rs n) from ∙ is in
      record {
        turns = turn;
        graphs = keeps_graphs a.records b.records n unused single turn (ap is_kept was) refl;
        waste = gains_turned a.records b.records n unused opened was refl turn;
        counts = uses_one a.records b.records n unused was refl refl turn;
        listed = listed;
        latest = same;
        limit = limit;
      }

pub length-records_of : (es : List Entry) (ns : List (Option Node)) (ms : List NodeMark) → length (records_of es ns ms) ≡ length es
length-records_of [] ns ms = refl
length-records_of (e ∷ es) ns ms = ap suc (length-records_of es (drop 1 ns) (drop 1 ms))

-- no more are open than there are numbers
pub open_few : (x : Indexed) (p : Nodes) (opens latest : ℕ) → IsStored x p opens latest → opens ≤ last_node + 1
open_few x p opens latest s = omega (arith, s.counted, s.few, count_by-le-length is_opened (records_by x p), length-records_of x.entries p.nodes p.marks)
