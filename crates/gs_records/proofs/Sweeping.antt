-- One retired node after another is freed, or kept where a pin needs it.
use Rattle.std.proofs.Common.{◌≡◌, ℕ, suc, ◌+◌, Bool, true, false, cond, List, [], ◌∷◌, length, drop, get_or, Option, Some, None, refl, sym, ap, subst, ◌∙◌, inl, inr, arith, true≢false}
use Rattle.std.proofs.lemmas.Bool.{cases_eq}
use Rattle.gs_pool.specs.declared.nodes.Node.{Node}
use Rattle.gs_pool.specs.declared.nodes.Retired.{Retired}
use Rattle.gs_pool.specs.Pool.{Nodes, NodeMark, plain, aside, retired, is_aside, node_at, mark_at, aside_count, Marks, Unlists}
use Rattle.gs_versions.specs.Pins.{Pins, IsPinned}
use Rattle.gs_event.specs.Waste.{Lifetime}
use Rattle.gs_ledger.specs.Marks.{death_of}
use Rattle.gs_ledger.proofs.Retiring.{none_aside}
use Rattle.gs_reclaim.specs.Reclaims.{IsNeededFor}
use Rattle.gs_reclaim.specs.Holders.{KeepsDead}
use Rattle.gs_reclaim.proofs.Reclaiming.{seat_pinned}
use Rattle.gs_reclaim.proofs.Ending.{dead_same, dead_marked}
use Rattle.gs_index.specs.declared.entries.Entry.{Entry}
use Rattle.gs_index.specs.Indexes.{Indexed, entry_at}
use Rattle.gs_records.specs.Records.{Record, free, opened, unused, kept, record_at, Turns}
use Rattle.gs_records.specs.Waste.{lifetime_of, lifetimes, is_opened, open_count}
use Rattle.gs_records.specs.Kept.{AreSingle, AreDated}
use Rattle.gs_records.specs.Stored.{is_made, bare_of, record_by, records_of, records_by, said_of, StandsForRecord, IsStored, ChangesOneNumber}
use Rattle.gs_records.specs.Reclaims.{IsUnneeded}
use Rattle.gs_records.specs.Sweeps.{AreStored, Lets, Stays, SettlesNumber, Drops, Sweeps}
use Rattle.gs_records.proofs.Storing.{get_or_drop, turns_stored, all_stand}
use Rattle.gs_records.proofs.Turning.{single_turned, dated_turned}
use Rattle.gs_records.proofs.Sums.{count_turned}
use Rattle.gs_records.proofs.Removing.{plain_undead}
use Rattle.gs_records.proofs.Dropping.{not_pinned, drops_none, drops_more}

-- what a number stands for does not tell retired nodes from those that are set aside
bare_same : (o : Option Node) (m k : NodeMark) → death_of k ≡ death_of m → bare_of o k ≡ bare_of o m
bare_same None m k e = refl
bare_same (Some n) plain plain e = refl
bare_same (Some n) plain (aside d w) e = absurd (cc)
bare_same (Some n) plain (retired d w) e = absurd (cc)
bare_same (Some n) (aside a b) plain e = absurd (cc)
bare_same (Some n) (aside a b) (aside d w) e = refl
bare_same (Some n) (aside a b) (retired d w) e = refl
bare_same (Some n) (retired a b) plain e = absurd (cc)
bare_same (Some n) (retired a b) (aside d w) e = refl
bare_same (Some n) (retired a b) (retired d w) e = refl

records_same : (es : List Entry) (ns : List (Option Node)) (ms ks : List NodeMark) → ((m : ℕ) → death_of (get_or ks m plain) ≡ death_of (get_or ms m plain)) → records_of es ns ks ≡ records_of es ns ms
records_same [] ns ms ks e = refl
records_same (x ∷ es) ns ms ks e =
    let first = bare_same (get_or ns 0 None) (get_or ms 0 plain) (get_or ks 0 plain) (e 0) in
    let here : record_by (get_or ns 0 None) (get_or ks 0 plain) x ≡ record_by (get_or ns 0 None) (get_or ms 0 plain) x = ap (λ r. cond (is_made x) (kept x) r) first in
    let rest = records_same es (drop 1 ns) (drop 1 ms) (drop 1 ks) (λ m. ap death_of (get_or_drop ks m plain) ∙ e (suc m) ∙ sym (ap death_of (get_or_drop ms m plain))) in
    λ i. here i ∷ rest i

stands_same : (r : Record) (o : Option Node) (m k : NodeMark) (e : Entry) → death_of k ≡ death_of m → StandsForRecord r o m e → StandsForRecord r o k e
stands_same free o m k e d s = s
stands_same opened o m k e d s = (s.0, s.1, plain_undead k (d ∙ ap death_of s.2))
stands_same unused o m k e d s = (s.0, s.1, d ∙ s.2)
stands_same (kept f) o m k e d s = (s.0, s.1, d ∙ s.2, s.3)

module _ (x : Indexed) (p q : Nodes) (k : KeepsDead p q) where
  pub dead_records : records_by x q ≡ records_by x p
  dead_records = records_same x.entries q.nodes p.marks q.marks k.deaths ∙ ap (λ ns. records_of x.entries ns p.marks) k.nodes

  -- so all is stored as it was
  pub dead_stored : (opens latest : ℕ) → IsStored x p opens latest → IsStored x q opens latest
  dead_stored opens latest s = record {
    many = ap length k.nodes ∙ s.many;
    stand = λ n.
        let old = record_at (records_by x p) n in
        let marked : StandsForRecord old (node_at p n) (mark_at q n) (entry_at x.entries n) = stands_same old (node_at p n) (mark_at p n) (mark_at q n) (entry_at x.entries n) (k.deaths n) (s.stand n) in
        subst (λ r. StandsForRecord r (node_at q n) (mark_at q n) (entry_at x.entries n)) (sym (ap (λ rs. record_at rs n) dead_records)) (subst (λ o. StandsForRecord old o (mark_at q n) (entry_at x.entries n)) (sym (ap (λ ns. get_or ns n None) k.nodes)) marked);
    lists = s.lists;
    counted = s.counted ∙ sym (ap open_count dead_records);
    room = s.room;
    single = subst AreSingle (sym dead_records) s.single;
    dated = subst (AreDated latest) (sym dead_records) s.dated;
    few = s.few;
  }

some_node : (a b : Node) → Some a ≡ Some b → a ≡ b
some_node a b e = cc

some_pair : (a b : ℕ × Bool) → Some a ≡ Some b → a ≡ b
some_pair a b e = cc

no_pair : (a : ℕ × Bool) → None ≡ Some a → ⊥
no_pair a e = absurd (cc)

no_node : (a : Node) → None ≡ Some a → ⊥
no_node a e = absurd (cc)

kept_life : (birth b : ℕ) (o : Option ℕ) (death : ℕ) (whole : Bool) → said_of o ≡ Some (death, whole) → birth ≡ b → lifetime_of birth o ≡ record { birth = b; death = death } ∷ []
kept_life birth b None death whole said born = absurd (no_pair (death, whole) said)
kept_life birth b (Some d) death whole said born = let same = some_pair (d, false) (death, whole) said in λ i. record { birth = born i; death = (same i).0 } ∷ []

-- a record whose mark says a death has the lifetime from its node's birth until then
pub dead_life : (r : Record) (o : Option Node) (m : NodeMark) (e : Entry) (death : ℕ) (whole : Bool) (n : Node) → StandsForRecord r o m e → death_of m ≡ Some (death, whole) → o ≡ Some n → lifetimes r ≡ record { birth = n.birth; death = death } ∷ []
dead_life free o m e death whole n s said found = absurd (no_node n (sym s.1 ∙ found))
dead_life opened o m e death whole n s said found = absurd (no_pair (death, whole) (sym (ap death_of s.2) ∙ said))
dead_life unused o m e death whole n s said found =
    let same = some_pair (0, false) (death, whole) (sym s.2 ∙ said) in
    let born : 0 ≡ n.birth = sym s.1.birth_is ∙ ap (λ (k : Node). k.birth) (some_node s.1.node n (sym s.1.found ∙ found)) in
    λ i. record { birth = born i; death = (same i).0 } ∷ []
dead_life (kept f) o m e death whole n s said found =
    kept_life f.birth n.birth f.death death whole (sym s.2 ∙ said) (sym s.1.birth_is ∙ ap (λ (k : Node). k.birth) (some_node s.1.node n (sym s.1.found ∙ found)))

pub not_opened : (r : Record) (l : Lifetime) → lifetimes r ≡ l ∷ [] → is_opened r ≡ false
not_opened free l e = refl
not_opened opened l e = absurd (cc)
not_opened unused l e = refl
not_opened (kept f) l e = refl

-- a number is freed whose node was taken off the list
module _ (x y : Indexed) (p p1 q : Nodes) (r : Retired) (n : Node) (u : Unlists p p1 r.id (retired r.death r.whole)) (found : node_at p1 r.id ≡ Some n) (l : Lets x y p1 q r.id) (opens latest : ℕ) (s : IsStored x p opens latest) where
  freed_changes : ChangesOneNumber x y p q r.id free
  freed_changes = record {
    many = l.numbers ∙ ap length u.marks.nodes ∙ s.many ∙ sym l.blanks.many;
    stands = (l.blanks.blank, l.updates.changed);
    nodes = λ m ne. l.updates.others m ne ∙ ap (λ ns. get_or ns m None) u.marks.nodes;
    marks = λ m ne. l.marks m ∙ u.marks.others m ne;
    entries = l.blanks.others;
  }

  pub freed_turns : Turns (records_by x p) (records_by y q) r.id free
  freed_turns = turns_stored x y p q r.id free s.many s.stand freed_changes

  freed_life : lifetimes (record_at (records_by x p) r.id) ≡ record { birth = n.birth; death = r.death } ∷ []
  freed_life = dead_life (record_at (records_by x p) r.id) (node_at p r.id) (mark_at p r.id) (entry_at x.entries r.id) r.death r.whole n (s.stand r.id) (ap death_of u.was) (sym (ap (λ ns. get_or ns r.id None) u.marks.nodes) ∙ found)

  pub freed_unneeded : (pins : List (Option ℕ)) → (IsPinned pins n.birth r.death → ⊥) → IsUnneeded pins (record_at (records_by x p) r.id)
  freed_unneeded pins none = record {
    life = record { birth = n.birth; death = r.death };
    only = freed_life;
    not_needed = not_pinned pins (record { birth = n.birth; death = r.death }) none;
  }

  pub freed_stored : IsStored y q opens latest
  freed_stored = record {
    many = freed_changes.many;
    stand = all_stand x y p q r.id free s.many s.stand freed_changes;
    lists = l.blanks.lists;
    counted = omega (arith, s.counted, count_turned is_opened (records_by x p) (records_by y q) r.id free refl freed_turns, ap (λ b. cond {A = ℕ} b 1 0) (not_opened (record_at (records_by x p) r.id) (record { birth = n.birth; death = r.death }) freed_life));
    room = omega (arith, s.room, l.blanks.spare);
    single = single_turned (records_by x p) (records_by y q) r.id free freed_turns refl s.single;
    dated = dated_turned latest (records_by x p) (records_by y q) r.id free freed_turns refl s.dated;
    few = omega (arith, s.few, l.blanks.many);
  }

not_aside : (m : NodeMark) (death : ℕ) (whole : Bool) → is_aside m ≡ false → m ≡ aside death whole → ⊥
not_aside m death whole off is = true≢false (sym (ap is_aside is) ∙ off)

-- at first none went
pub sweeps_none : (pins : List (Option ℕ)) (x : Indexed) (p : Nodes) → aside_count p ≡ 0 → Sweeps pins 0 x x p p
sweeps_none pins x p none = record {
  stored = λ opens latest s. s;
  drops = drops_none pins (records_by x p);
  aside = λ m death whole n is found. absurd (not_aside (mark_at p m) death whole (none_aside p none m) is);
}

-- one that a pin needs stayed
pub sweeps_kept : (pins : List (Option ℕ)) (k : ℕ) (x0 x : Indexed) (p0 p p1 q : Nodes) (r : Retired) → Sweeps pins k x0 x p0 p → Unlists p p1 r.id (retired r.death r.whole) → Stays pins p1 q r → Sweeps pins k x0 x p0 q
sweeps_kept pins k x0 x p0 p p1 q r w u s =
    let dead : KeepsDead p q = dead_marked p p p1 q r (retired r.death r.whole) s.mark (dead_same p) u s.marks s.dead in
    record {
      stored = λ opens latest h. dead_stored x p q dead opens latest (w.stored opens latest h);
      drops = subst (Drops pins k (records_by x0 p0)) (sym (dead_records x p q dead)) w.drops;
      aside = λ m death whole n is found. elim (cases_eq m r.id) [
        | inl here ↦
            let mark_is : s.mark ≡ aside death whole = sym s.marks.changed ∙ ap (mark_at q) (sym here) ∙ is in
            let death_is : r.death ≡ death = λ i. (some_pair (r.death, r.whole) (death, whole) (sym s.dead ∙ ap death_of mark_is) i).0 in
            let node_is : s.node ≡ n = some_node s.node n (sym s.found ∙ sym (ap (λ ns. get_or ns r.id None) s.marks.nodes) ∙ ap (node_at q) (sym here) ∙ found) in
            subst (λ (a : Node). IsPinned pins a.birth death) node_is (subst (IsPinned pins s.node.birth) death_is s.pinned)
        | inr ne ↦ w.aside m death whole n (sym (s.marks.others m ne ∙ u.marks.others m ne) ∙ is) (sym (ap (λ ns. get_or ns m None) dead.nodes) ∙ found)
      ];
    }

-- one that no pin needs went
pub sweeps_freed : (pins : List (Option ℕ)) (k : ℕ) (x0 x y : Indexed) (p0 p p1 q : Nodes) (r : Retired) (n : Node) → AreStored x0 p0 → Sweeps pins k x0 x p0 p → Unlists p p1 r.id (retired r.death r.whole) → node_at p1 r.id ≡ Some n → (IsPinned pins n.birth r.death → ⊥) → Lets x y p1 q r.id → Sweeps pins (k + 1) x0 y p0 q
sweeps_freed pins k x0 x y p0 p p1 q r n h w u found none l =
    let now = w.stored h.opens h.latest h.stored in
    record {
      stored = λ opens latest s. freed_stored x y p p1 q r n u found l opens latest (w.stored opens latest s);
      drops = drops_more pins k (records_by x0 p0) (records_by x p) (records_by y q) r.id w.drops now.single (freed_turns x y p p1 q r n u found l h.opens h.latest now) (freed_unneeded x y p p1 q r n u found l h.opens h.latest now pins none);
      aside = λ m death whole a is at. elim (cases_eq m r.id) [
        | inl here ↦ absurd (not_aside (mark_at q m) death whole (ap (λ j. is_aside (mark_at q j)) here ∙ ap is_aside (l.marks r.id ∙ u.marks.changed)) is)
        | inr ne ↦ w.aside m death whole a (sym (l.marks m ∙ u.marks.others m ne) ∙ is) (sym (l.updates.others m ne ∙ ap (λ ns. get_or ns m None) u.marks.nodes) ∙ at)
      ];
    }

-- the node that the pin of a seat needs stays, whether it is held or set aside
pub stays : (v : Pins) (p q : Nodes) (seat : ℕ) (r : Retired) (m : NodeMark) → IsNeededFor v p seat r → Marks p q r.id m → death_of m ≡ Some (r.death, r.whole) → Stays v.seats p q r
stays v p q seat r m n marks dead = record {
  node = n.node;
  found = n.found;
  pinned = record { seat = seat; version = n.pinned.version; pinned = seat_pinned v seat n.pinned.version n.pinned.pinned; lies = n.pinned.lies };
  mark = m;
  dead = dead;
  marks = marks;
}

-- what the loop made of it
pub sweeps_settled : (pins : List (Option ℕ)) (k : ℕ) (x0 x y : Indexed) (p0 p p1 q : Nodes) (r : Retired) → AreStored x0 p0 → Sweeps pins k x0 x p0 p → Unlists p p1 r.id (retired r.death r.whole) → SettlesNumber pins x y p1 q r true → Sweeps pins (k + 1) x0 y p0 q
sweeps_settled pins k x0 x y p0 p p1 q r h w u s = sweeps_freed pins k x0 x y p0 p p1 q r s.0 h w u s.1 s.2 s.3

pub sweeps_stayed : (pins : List (Option ℕ)) (k : ℕ) (x0 x y : Indexed) (p0 p p1 q : Nodes) (r : Retired) → Sweeps pins k x0 x p0 p → Unlists p p1 r.id (retired r.death r.whole) → SettlesNumber pins x y p1 q r false → Sweeps pins k x0 y p0 q
sweeps_stayed pins k x0 x y p0 p p1 q r w u s = subst (λ z. Sweeps pins k x0 z p0 q) (sym s.0) (sweeps_kept pins k x0 x p0 p p1 q r w u s.1)
