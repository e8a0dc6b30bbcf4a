-- An open record is that of a graph.
use Rattle.std.proofs.Common.{◌≡◌, ◌≢◌, ℕ, ◌+◌, ◌-◌, ◌<◌, ◌≤◌, false, ◌||◌, ◌==◌, length, get_or, slice_set, Some, None, is_some, IsSome, refl, sym, ap, subst, ◌∙◌, inl, inr, arith, get_or-set_same, get_or-set_other}
use Rattle.std.proofs.lemmas.Bool.{cases_eq, lt-ltb, le-ltb, ne_eqb}
use Rattle.std.proofs.lemmas.List.{length-set}
use Rattle.gs_term.specs.declared.names.Target.{Target}
use Rattle.gs_catalogue.specs.declared.versions.GraphVersion.{GraphVersion}
use Rattle.gs_pool.specs.declared.nodes.Node.{Node}
use Rattle.gs_pool.specs.Pool.{Nodes, plain, node_at, mark_at, Updates}
use Rattle.gs_ledger.specs.Marks.{death_of}
use Rattle.gs_index.specs.declared.entries.Entry.{Entry}
use Rattle.gs_index.specs.Indexes.{Indexed, entry_at, is_listed, with_number}
use Rattle.gs_records.specs.Records.{is_kept, opened, kept, Recorded, record_at, Turns}
use Rattle.gs_catalogue.specs.Catalogues.{with_version}
use Rattle.gs_records.specs.Graphs.{current}
use Rattle.gs_records.specs.Waste.{open_count}
use Rattle.gs_records.specs.Kept.{AreSingle, AreDated, HasNoCurrent}
use Rattle.gs_records.specs.Calls.{Places}
use Rattle.gs_records.specs.Stored.{is_made, records_by, StandsForRecord, IsStored, ChangesOneNumber}
use Rattle.gs_records.proofs.Sums.{gains_turned, uses_one}
use Rattle.gs_records.proofs.Storing.{turns_stored, all_stand}
use Rattle.gs_records.proofs.Placing.{graphs_at-placed, single_placed, dated_placed, current-placed, births-placed}
use Rattle.gs_records.proofs.Listing.{listed_with, same_number}
use Rattle.gs_records.proofs.Keeping.{stands_at, used_within}

-- a graph's record, made by this commit
abbrev pub made_entry : Target → GraphVersion → ℕ → Entry
made_entry t v latest = record { target = t; version = v; birth = latest; death = None }

-- an open record
module _ (x : Indexed) (p : Nodes) (opens latest n : ℕ) (s : IsStored x p opens latest) (is : record_at (records_by x p) n ≡ opened) where
  open_stands : StandsForRecord opened (node_at p n) (mark_at p n) (entry_at x.entries n)
  open_stands = stands_at x p opens latest n opened s is

  pub open_within : n < length x.entries
  open_within = used_within p x n 0 s.many open_stands.1

  pub open_has_node : IsSome (node_at p n)
  open_has_node = ap is_some open_stands.1.found

  pub open_is_plain : mark_at p n ≡ plain
  open_is_plain = open_stands.2

  pub open_unlisted : is_listed n x.listed ≡ false
  open_unlisted = s.lists n ∙ le-ltb 0 (entry_at x.entries n).birth (omega (arith, open_stands.0))

  module _ (y : Indexed) (q : Nodes) (t : Target) (v : GraphVersion) (node : Node) (none : HasNoCurrent (records_by x p) t) (after : 0 < latest) (updates : Updates p q n (Some node)) (marks : q.marks ≡ p.marks) (numbers : length q.nodes ≡ length p.nodes) (birth : node.birth ≡ latest) (entries : y.entries ≡ slice_set x.entries n (made_entry t v latest)) (listed : y.listed ≡ with_number y.entries n x.listed) (spare : x.spare ≤ y.spare + 1) where
    made : Entry
    made = made_entry t v latest

    entry_now : entry_at y.entries n ≡ made_entry t v latest
    entry_now = ap (λ es. entry_at es n) entries ∙ (let lt : n < length x.entries = open_within in rw get_or-set_same refl)

    entry_other : (m : ℕ) → m ≢ n → entry_at y.entries m ≡ entry_at x.entries m
    entry_other m ne = ap (λ es. entry_at es m) entries ∙ rw get_or-set_other refl

    made_changes : ChangesOneNumber x y p q n (kept (made_entry t v latest))
    made_changes = record {
      many = numbers ∙ s.many ∙ sym (ap length entries ∙ length-set x.entries n (made_entry t v latest));
      stands = (entry_now, record { node = node; found = updates.changed; birth_is = birth }, ap death_of (ap (λ ms. get_or ms n plain) marks ∙ open_is_plain), after);
      nodes = updates.others;
      marks = λ m ne. ap (λ ms. get_or ms m plain) marks;
      entries = entry_other;
    }

    pub made_turns : Turns (records_by x p) (records_by y q) n (kept (made_entry t v latest))
    made_turns = turns_stored x y p q n (kept (made_entry t v latest)) s.many s.stand made_changes

    lists_made : (m : ℕ) → is_listed m y.listed ≡ is_made (entry_at y.entries m)
    lists_made m = ap (is_listed m) listed ∙ listed_with y.entries n m x.listed ∙ elim (cases_eq m n) [
      | inl here ↦ ap (λ b. b || is_listed m x.listed) (ap (λ k. n == k) here ∙ same_number n) ∙ sym (ap (λ k. is_made (entry_at y.entries k)) here ∙ ap is_made entry_now ∙ lt-ltb 0 latest after)
      | inr ne ↦ ap (λ b. b || is_listed m x.listed) (ne_eqb n m (λ e. ne (sym e))) ∙ s.lists m ∙ sym (ap is_made (entry_other m ne))
    ]

    was_bare : is_kept (record_at (records_by x p) n) ≡ false
    was_bare = ap is_kept is

    made_open : open_count (records_by y q) + 1 ≡ open_count (records_by x p)
    made_open = (uses_one (records_by x p) (records_by y q) n (kept (made_entry t v latest)) is refl refl made_turns).opens

    pub made_some : 0 < opens
    made_some = omega (arith, made_open, s.counted)

    pub made_stored : IsStored y q (opens - 1) latest
    made_stored = record {
      many = made_changes.many;
      stand = all_stand x y p q n (kept (made_entry t v latest)) s.many s.stand made_changes;
      lists = lists_made;
      counted = omega (arith, made_open, s.counted);
      room = omega (arith, s.room, spare);
      single = single_placed (records_by x p) (records_by y q) n (made_entry t v latest) made_turns was_bare s.single s.dated refl none;
      dated = dated_placed (records_by x p) (records_by y q) n (made_entry t v latest) made_turns was_bare s.single s.dated refl none after;
      few = omega (arith, s.few, made_changes.many, numbers, s.many);
    }

    pub made_current : current (records_by y q) ≡ with_version (current (records_by x p)) t v
    made_current = current-placed (records_by x p) (records_by y q) n (made_entry t v latest) made_turns was_bare s.single s.dated refl none

    pub made_places : (a b : Recorded) → a.records ≡ records_by x p → b.records ≡ records_by y q → a.latest ≡ latest → b.latest ≡ a.latest → b.limit ≡ a.limit → Places a b n t v
    made_places a b from to was same limit =
        let e : Entry = made_entry t v a.latest in
        let turn : Turns a.records b.records n (kept e) = subst (λ l. Turns a.records b.records n (kept (made_entry t v l))) (sym was) (subst (λ rs. Turns rs b.records n (kept (made_entry t v latest))) (sym from) (subst (λ rs. Turns (records_by x p) rs n (kept (made_entry t v latest))) (sym to) made_turns)) in
        let at : record_at a.records n ≡ opened = ap (λ rs. record_at rs n) from ∙ is in
        let single : AreSingle a.records = subst AreSingle (sym from) s.single in
        let dated : AreDated a.latest a.records = subst (λ l. AreDated l a.records) (sym was) (subst (AreDated latest) (sym from) s.dated) in
        let no_current : HasNoCurrent a.records t = subst (λ rs. HasNoCurrent rs t) (sym from) none in
        record {
          turns = turn;
          versions = λ w lt. graphs_at-placed a.records b.records n e turn (ap is_kept at) single dated refl no_current w lt;
          now = current-placed a.records b.records n e turn (ap is_kept at) single dated refl no_current;
          births = births-placed a.records b.records n e turn (ap is_kept at) single dated refl no_current;
          waste = gains_turned a.records b.records n (kept e) opened at refl turn;
          counts = uses_one a.records b.records n (kept e) at refl refl turn;
          latest = same;
          limit = limit;
        }
