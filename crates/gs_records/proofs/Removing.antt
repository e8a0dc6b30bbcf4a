-- The current record of a graph ends.
use Rattle.std.proofs.Common.{is_some, nat_lt, ◌≡◌, ◌≢◌, ℕ, ◌<◌, true, false, List, length, get_or, slice_set, Option, Some, None, is_none, IsSome, refl, sym, ap, subst, ◌∙◌, inl, inr, arith, get_or-set_same, get_or-set_other, true≢false}
use Rattle.std.proofs.lemmas.Bool.{cases_eq}
use Rattle.std.proofs.lemmas.List.{length-set}
use Rattle.gs_term.specs.declared.names.Target.{Target}
use Rattle.gs_pool.specs.Pool.{Nodes, NodeMark, plain, aside, retired, node_at, mark_at, Marks}
use Rattle.gs_ledger.specs.Marks.{death_of}
use Rattle.gs_index.specs.declared.entries.Entry.{Entry}
use Rattle.gs_index.specs.Indexes.{Indexed, entry_at, is_listed, with_death as died}
use Rattle.gs_records.specs.Records.{Record, free, opened, unused, kept, Recorded, record_at, is_current, ended_entry, ended, Turns, Ends}
use Rattle.gs_records.specs.Graphs.{current, without_version}
use Rattle.gs_records.specs.Kept.{AreSingle, HasNoCurrent}
use Rattle.gs_records.specs.Calls.{EndsCurrent, RemovesVersion}
use Rattle.gs_records.specs.Stored.{records_by, HasNode, said_of, StandsForRecord, IsStored, ChangesOneNumber}
use Rattle.gs_records.proofs.Lifetimes.{EndedCases, ends, stays, ended_cases, once_current}
use Rattle.gs_records.proofs.Ending.{graphs_at-ended, current-ended_records, births-ended, none_current, single_ended, dated_ended}
use Rattle.gs_records.proofs.Sums.{gains_ended, counts_ended}
use Rattle.gs_records.proofs.Storing.{turns_stored, all_stand}
use Rattle.gs_records.proofs.Keeping.{stands_at, used_within}

no_death : (o : Option ℕ) → is_none o ≡ true → o ≡ None
no_death None e = refl
no_death (Some d) e = absurd (true≢false (sym e))

pub ended_itself : (t : Target) (death : ℕ) (e : Entry) → e.target ≡ t → e.death ≡ None → ended_entry t death e ≡ died e death
ended_itself t death e same none = go (ended_cases t death e)
  where
    go : EndedCases t death e → ended_entry t death e ≡ died e death
    go (ends s n is) = is
    go (stays not is) = absurd (not same (ap is_none none))

-- what is no current record of the graph stays
pub ended_other : (t : Target) (death : ℕ) (r : Record) → ((e : Entry) → r ≡ kept e → e.target ≡ t → is_current e ≡ true → ⊥) → ended t death r ≡ r
ended_other t death free h = refl
ended_other t death opened h = refl
ended_other t death unused h = refl
ended_other t death (kept e) h = ap kept (go (ended_cases t death e))
  where
    go : EndedCases t death e → ended_entry t death e ≡ e
    go (ends s n is) = absurd (h e refl s n)
    go (stays not is) = is

-- where no record of the graph is current, none ends
pub ends_none : (rs : List Record) (t : Target) (death : ℕ) → HasNoCurrent rs t → Ends rs rs t death
ends_none rs t death none m = sym (ended_other t death (record_at rs m) (none m))

-- where one is, it ends
pub ends_one : (old new : List Record) (t : Target) (death n : ℕ) (e : Entry) → AreSingle old → record_at old n ≡ kept e → e.target ≡ t → e.death ≡ None → Turns old new n (kept (died e death)) → Ends old new t death
ends_one old new t death n e single at same none turn m = elim (cases_eq m n) [
  | inl here ↦ ap (record_at new) here ∙ turn.changed ∙ sym (ap kept (ended_itself t death e same none)) ∙ sym (ap (ended t death) (ap (record_at old) here ∙ at))
  | inr ne ↦ turn.others m ne ∙ sym (ended_other t death (record_at old m) (λ f is of now.
      ne (once_current old single t (record { number = m; entry = f; at = is; passes = now; same = of }) (record { number = n; entry = e; at = at; passes = ap is_none none; same = same }))))
]

-- what follows from that alone
pub removed : (a b : Recorded) (t : Target) (commit : ℕ) → AreSingle a.records → EndsCurrent a.records t commit → Ends a.records b.records t commit → b.listed ≡ a.listed → b.latest ≡ commit → b.limit ≡ a.limit → RemovesVersion a b t commit
removed a b t commit single last is listed latest limit = record {
  ends = is;
  versions = λ v lt. graphs_at-ended a.records b.records t commit is v single lt;
  now = current-ended_records a.records b.records t commit is single;
  births = births-ended a.records b.records t commit is single;
  none = none_current a.records b.records t commit is;
  waste = gains_ended a.records b.records t commit is;
  last = last;
  counts = counts_ended a.records b.records t commit is;
  listed = listed;
  latest = latest;
  limit = limit;
}

-- nothing is current
pub stored_later : (x : Indexed) (p : Nodes) (opens latest commit : ℕ) (t : Target) → IsStored x p opens latest → HasNoCurrent (records_by x p) t → latest < commit → IsStored x p opens commit
stored_later x p opens latest commit t s none lt = record {
  many = s.many;
  stand = s.stand;
  lists = s.lists;
  counted = s.counted;
  room = s.room;
  single = s.single;
  dated = dated_ended (records_by x p) (records_by x p) t commit (ends_none (records_by x p) t commit none) latest lt s.dated;
  few = s.few;
}

-- a mark that says no death is plain
pub plain_undead : (m : NodeMark) → death_of m ≡ None → m ≡ plain
plain_undead plain e = refl
plain_undead (aside death whole) e = absurd (cc)
plain_undead (retired death whole) e = absurd (cc)

-- the current record of a number ends
module _ (x y : Indexed) (p q : Nodes) (opens latest commit n : ℕ) (t : Target) (e : Entry) (s : IsStored x p opens latest) (at : record_at (records_by x p) n ≡ kept e) (same : e.target ≡ t) (none : e.death ≡ None) where
  here : StandsForRecord (kept e) (node_at p n) (mark_at p n) (entry_at x.entries n)
  here = stands_at x p opens latest n (kept e) s at

  pub end_within : n < length x.entries
  end_within = used_within p x n e.birth s.many here.1

  pub end_used : IsSome (node_at p n)
  end_used = ap is_some here.1.found

  pub end_plain : mark_at p n ≡ plain
  end_plain = plain_undead (mark_at p n) (here.2 ∙ ap said_of none)

  module _ (entries : y.entries ≡ slice_set x.entries n (died (entry_at x.entries n) commit)) (listed : y.listed ≡ x.listed) (spare : y.spare ≡ x.spare) (marks : Marks p q n (retired commit false)) where
    entry_now : entry_at y.entries n ≡ died e commit
    entry_now = ap (λ es. entry_at es n) entries ∙ (let lt : n < length x.entries = end_within in rw get_or-set_same refl) ∙ ap (λ d. died d commit) here.0

    entry_other : (m : ℕ) → m ≢ n → entry_at y.entries m ≡ entry_at x.entries m
    entry_other m ne = ap (λ es. entry_at es m) entries ∙ rw get_or-set_other refl

    end_changes : ChangesOneNumber x y p q n (kept (died e commit))
    end_changes = record {
      many = ap length marks.nodes ∙ s.many ∙ sym (ap length entries ∙ length-set x.entries n (died (entry_at x.entries n) commit));
      stands = (entry_now, subst (λ o. HasNode o e.birth) (sym (ap (λ ns. get_or ns n None) marks.nodes)) here.1, ap death_of marks.changed, here.3);
      nodes = λ m ne. ap (λ ns. get_or ns m None) marks.nodes;
      marks = marks.others;
      entries = entry_other;
    }

    end_turns : Turns (records_by x p) (records_by y q) n (kept (died e commit))
    end_turns = turns_stored x y p q n (kept (died e commit)) s.many s.stand end_changes

    pub end_ends : Ends (records_by x p) (records_by y q) t commit
    end_ends = ends_one (records_by x p) (records_by y q) t commit n e s.single at same none end_turns

    birth_same : (m : ℕ) → (entry_at y.entries m).birth ≡ (entry_at x.entries m).birth
    birth_same m = elim (cases_eq m n) [
      | inl is ↦ ap (λ k. (entry_at y.entries k).birth) is ∙ ap (λ (d : Entry). d.birth) entry_now ∙ sym (ap (λ (d : Entry). d.birth) here.0) ∙ sym (ap (λ k. (entry_at x.entries k).birth) is)
      | inr ne ↦ ap (λ (d : Entry). d.birth) (entry_other m ne)
    ]

    pub end_current : current (records_by y q) ≡ without_version (current (records_by x p)) t
    end_current = current-ended_records (records_by x p) (records_by y q) t commit end_ends s.single

    pub end_stored : latest < commit → IsStored y q opens commit
    end_stored lt = record {
      many = end_changes.many;
      stand = all_stand x y p q n (kept (died e commit)) s.many s.stand end_changes;
      lists = λ m. ap (is_listed m) listed ∙ s.lists m ∙ ap (nat_lt 0) (sym (birth_same m));
      counted = s.counted ∙ sym (counts_ended (records_by x p) (records_by y q) t commit end_ends).opens;
      room = omega (arith, s.room, spare);
      single = single_ended (records_by x p) (records_by y q) t commit end_ends s.single;
      dated = dated_ended (records_by x p) (records_by y q) t commit end_ends latest lt s.dated;
      few = omega (arith, s.few, end_changes.many, ap length marks.nodes, s.many);
    }
