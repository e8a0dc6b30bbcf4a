-- The end of a reclaim: what it says of the waste.
use Rattle.std.proofs.Common.{◌≡◌, ◌≢◌, ◌⊎◌, ◌↔◌, ℕ, zero, suc, ◌+◌, ◌<◌, ◌≤◌, min, Bool, true, false, cond, IsTrue, List, [], ◌∷◌, length, length-append, get_or, count_by, Option, Some, None, refl, sym, ap, subst, ◌∙◌, inl, inr, arith, true≢false}
use Rattle.std.proofs.lemmas.Bool.{cases_lt}
use Rattle.std.proofs.lemmas.List.Sums.{sum_by-cons}
use Rattle.std.specs.Bool.{Decides}
use Rattle.std.proofs.lemmas.List.Elements.{All-head, All-tail}
use Rattle.std.specs.List.{All, sum_by}
use Rattle.gs_pool.specs.declared.nodes.Node.{Node}
use Rattle.gs_pool.specs.Pool.{Nodes, NodeMark, plain, aside, retired, is_aside, is_retired, node_at, mark_at, aside_count, retired_count, IsParted}
use Rattle.gs_pool.specs.Held.{IsHeld, AreHeld}
use Rattle.gs_pool.proofs.FollowLemmas.{pin_within}
use Rattle.gs_versions.specs.Pins.{Pins, IsPinned}
use Rattle.gs_event.specs.Waste.{Lifetime, is_needed, unneeded}
use Rattle.gs_event.specs.Steps.{Frees}
use Rattle.gs_ledger.specs.Marks.{death_of}
use Rattle.gs_ledger.proofs.Retiring.{none_aside}
use Rattle.gs_reclaim.specs.Holders.{KeepsDead, Agrees}
use Rattle.gs_reclaim.proofs.Reclaiming.{seat_pinned, unneeded_one, none_retired}
use Rattle.gs_index.specs.declared.entries.Entry.{Entry}
use Rattle.gs_index.specs.Indexes.{Indexed, entry_at}
use Rattle.gs_records.specs.Records.{Record, free, opened, unused, kept, Recorded, record_at}
use Rattle.gs_records.specs.Waste.{lifetime_of, lifetimes, waste_in, is_opened, open_count}
use Rattle.gs_records.specs.Stored.{records_by, said_of, StandsForRecord, IsStored}
use Rattle.gs_records.specs.Reclaims.{StaysOrGoes, ReclaimsRecords}
use Rattle.gs_records.specs.Sweeps.{AreStored, KeepsStored, Drops, AsideIsNeeded, Sweeps, Swept}
use Rattle.gs_records.proofs.Sums.{sum_agrees, wasted, waste_is, count_agrees}
use Rattle.gs_records.proofs.Keeping.{free_without}
use Rattle.gs_records.proofs.Dropping.{pinned_needed}
use Rattle.gs_records.proofs.Sweeping.{dead_life, dead_records, dead_stored, not_opened}

-- whether a mark says a death
data Said (m : NodeMark) : Type 0 where
  dead : (death : ℕ) (whole : Bool) → death_of m ≡ Some (death, whole) → Said m
  alive : death_of m ≡ None → Said m

said : (m : NodeMark) → Said m
said plain = alive refl
said (aside death whole) = dead death whole refl
said (retired death whole) = dead death whole refl

none_said : (o : Option ℕ) → None ≡ said_of o → o ≡ None
none_said None e = refl
none_said (Some d) e = absurd (cc)

-- what has no death has no lifetime
alive_life : (r : Record) (o : Option Node) (m : NodeMark) (e : Entry) → StandsForRecord r o m e → death_of m ≡ None → lifetimes r ≡ []
alive_life free o m e s none = refl
alive_life opened o m e s none = refl
alive_life unused o m e s none = absurd (let bad : None ≡ Some (0, false) = sym none ∙ s.2 in cc)
alive_life (kept f) o m e s none = ap (λ d. lifetime_of f.birth d) (none_said f.death (sym none ∙ s.2))

-- what is free has none either
free_life : (r : Record) (o : Option Node) (m : NodeMark) (e : Entry) → StandsForRecord r o m e → o ≡ None → lifetimes r ≡ []
free_life r o m e s none = ap lifetimes (free_without r o m e s none)

-- where f is 0 for what each dead node is of, the waste comes to 0
module _ (x : Indexed) (p : Nodes) (opens latest : ℕ) (s : IsStored x p opens latest) where
  one_wasted : (f : Lifetime → ℕ) → ((m death : ℕ) (whole : Bool) (n : Node) → death_of (mark_at p m) ≡ Some (death, whole) → node_at p m ≡ Some n → f (record { birth = n.birth; death = death }) ≡ 0) → (m : ℕ) → wasted f (record_at (records_by x p) m) ≡ 0
  one_wasted f none m = by_mark (said (mark_at p m)) (node_at p m) refl
    where
      by_mark : Said (mark_at p m) → (o : Option Node) → node_at p m ≡ o → wasted f (record_at (records_by x p) m) ≡ 0
      by_mark (alive e) o at = ap (sum_by f) (alive_life (record_at (records_by x p) m) (node_at p m) (mark_at p m) (entry_at x.entries m) (s.stand m) e)
      by_mark (dead death whole e) None at = ap (sum_by f) (free_life (record_at (records_by x p) m) (node_at p m) (mark_at p m) (entry_at x.entries m) (s.stand m) at)
      by_mark (dead death whole e) (Some n) at = omega (arith, ap (sum_by f) (dead_life (record_at (records_by x p) m) (node_at p m) (mark_at p m) (entry_at x.entries m) death whole n (s.stand m) e at), none m death whole n e at)

  none_wasted : (f : Lifetime → ℕ) → ((m death : ℕ) (whole : Bool) (n : Node) → death_of (mark_at p m) ≡ Some (death, whole) → node_at p m ≡ Some n → f (record { birth = n.birth; death = death }) ≡ 0) → sum_by f (waste_in (records_by x p)) ≡ 0
  none_wasted f none = waste_is f (records_by x p) ∙ sum_agrees (wasted f) (wasted f) [] (records_by x p) refl refl (λ m. one_wasted f none m)

-- where each retired node is held, and what is set aside is needed, all waste that is left is needed
held_pinned : (v : Pins) (p : Nodes) → Agrees p v → AreHeld p → AsideIsNeeded v.seats p → (m death : ℕ) (whole : Bool) (n : Node) → death_of (mark_at p m) ≡ Some (death, whole) → node_at p m ≡ Some n → IsPinned v.seats n.birth death
held_pinned v p agrees held asides m death whole n e at = by_mark (mark_at p m) refl
  where
    some_node : (a b : Node) → Some a ≡ Some b → a ≡ b
    some_node a b g = cc

    some_pair : (a b : ℕ × Bool) → Some a ≡ Some b → a ≡ b
    some_pair a b g = cc

    from_list : IsHeld p m → IsPinned v.seats n.birth death
    from_list h =
        let need = h.needed in
        let same : need.node ≡ n = some_node need.node n (sym need.found ∙ at) in
        let death_is : h.death ≡ death = λ i. (some_pair (h.death, h.whole) (death, whole) (sym (ap death_of h.marked) ∙ e) i).0 in
        record {
          seat = h.list;
          version = need.version;
          pinned = seat_pinned v h.list need.version (sym (agrees h.list (pin_within p.pins h.list need.version need.pinned)) ∙ need.pinned);
          lies = (omega (arith, need.lies.0, ap (λ (k : Node). k.birth) same), omega (arith, need.lies.1, death_is));
        }

    by_mark : (k : NodeMark) → mark_at p m ≡ k → IsPinned v.seats n.birth death
    by_mark plain is = absurd (let bad : None ≡ Some (death, whole) = sym (ap death_of is) ∙ e in cc)
    by_mark (aside d w) is =
        let same = some_pair (d, w) (death, whole) (sym (ap death_of is) ∙ e) in
        subst (λ k. IsPinned v.seats n.birth k) (λ i. (same i).0) (asides m d w n is at)
    by_mark (retired d w) is = from_list (held m (ap is_retired is))

-- so none of it counts
rest_needed : (v : Pins) (x : Indexed) (p : Nodes) (opens latest : ℕ) → IsStored x p opens latest → Agrees p v → AreHeld p → AsideIsNeeded v.seats p → sum_by (unneeded_one v.seats) (waste_in (records_by x p)) ≡ 0
rest_needed v x p opens latest s agrees held asides = none_wasted x p opens latest s (unneeded_one v.seats) (λ m death whole n e at.
    let l : Lifetime = record { birth = n.birth; death = death } in
    ap (λ b. cond {A = ℕ} b 0 1) (pinned_needed v.seats l (held_pinned v p agrees held asides m death whole n e at)))

-- what no pin needs counts in full
all_unneeded : (pins : List (Option ℕ)) (ls : List Lifetime) → All (λ l. is_needed pins l ≡ false) ls → sum_by (unneeded_one pins) ls ≡ length ls
all_unneeded pins [] a = refl
all_unneeded pins (l ∷ ls) a = omega (
  arith,
  sum_by-cons (unneeded_one pins) l ls,
  ap (λ b. cond {A = ℕ} b 0 1) (All-head (λ m. is_needed pins m ≡ false) l ls a),
  all_unneeded pins ls (All-tail (λ m. is_needed pins m ≡ false) l ls a),
)

-- how many went
freed_exact : (v : Pins) (x y : Indexed) (p q : Nodes) (n freed opens latest : ℕ) → IsStored y q opens latest → Drops v.seats freed (records_by x p) (records_by y q) → AsideIsNeeded v.seats q → freed ≤ n → (freed ≡ n) ⊎ AreHeld q → Agrees q v → freed ≡ min n (unneeded v.seats (waste_in (records_by x p)))
freed_exact v x y p q n freed opens latest s d asides most all agrees =
    let parts : sum_by (unneeded_one v.seats) (waste_in (records_by y q)) + freed ≡ unneeded v.seats (waste_in (records_by x p)) = omega (arith, d.same (unneeded_one v.seats), all_unneeded v.seats d.gone d.none_needed, d.many) in
    elim all [
      | inl full ↦ omega (arith, parts)
      | inr held ↦ omega (arith, parts, rest_needed v y q opens latest s agrees held asides)
    ]

-- a record with no lifetime where there is no waste
no_lifetimes : (rs : List Record) (m : ℕ) → length (waste_in rs) ≡ 0 → length (lifetimes (record_at rs m)) ≡ 0
no_lifetimes [] m e = refl
no_lifetimes (r ∷ rs) zero e = omega (arith, length-append (lifetimes r) (waste_in rs))
no_lifetimes (r ∷ rs) (suc m) e = no_lifetimes rs m (omega (arith, length-append (lifetimes r) (waste_in rs)))

none_counted : (ms : List NodeMark) → ((x : ℕ) → is_retired (get_or ms x plain) ≡ false) → count_by is_retired ms ≡ 0
none_counted [] off = refl
none_counted (m ∷ ms) off = omega (arith, sum_by-cons (λ (k : NodeMark). cond {A = ℕ} (is_retired k) 1 0) m ms, ap (λ b. cond {A = ℕ} b 1 0) (off 0), none_counted ms (λ x. off (suc x)))

length_is : (ls : List Lifetime) → sum_by (λ l. 1) ls ≡ 0 → ls ≡ []
length_is [] e = refl
length_is (l ∷ ls) e = absurd (omega (arith, sum_by-cons (λ (k : Lifetime). 1) l ls))

not_dead : (m : NodeMark) (d : ℕ × Bool) → is_aside m ≡ false → is_retired m ≡ false → death_of m ≡ Some d → ⊥
not_dead plain d a r e = absurd (cc)
not_dead (aside death whole) d a r e = true≢false a
not_dead (retired death whole) d a r e = true≢false r

no_zero : (n : ℕ) → 0 < n → n ≡ 0 → ⊥
no_zero n some none = absurd (omega (arith, some, none))

no_more : (n : ℕ) → Decides false (0 < n) → n ≡ 0
no_more n none = elim (cases_lt 0 n) [
  | inl some ↦ absurd (true≢false (sym (none.1 some)))
  | inr few ↦ omega (arith, few)
]

module _ (x : Indexed) (p : Nodes) (opens latest : ℕ) (s : IsStored x p opens latest) (parted : IsParted p) where
  -- where there is no waste, nothing is retired
  waste_none : waste_in (records_by x p) ≡ [] → retired_count p ≡ 0
  waste_none none = none_counted p.marks (λ m. by_mark m (mark_at p m) refl)
    where
      has_life : (m death : ℕ) (whole : Bool) → mark_at p m ≡ retired death whole → (o : Option Node) → node_at p m ≡ o → ⊥
      has_life m death whole is None at = true≢false (sym (ap is_retired is) ∙ ap is_retired (parted m at))
      has_life m death whole is (Some n) at = absurd (omega (arith, no_lifetimes (records_by x p) m (ap length none), ap length (dead_life (record_at (records_by x p) m) (node_at p m) (mark_at p m) (entry_at x.entries m) death whole n (s.stand m) (ap death_of is) at)))

      by_mark : (m : ℕ) (k : NodeMark) → mark_at p m ≡ k → is_retired (mark_at p m) ≡ false
      by_mark m plain is = ap is_retired is
      by_mark m (aside d w) is = ap is_retired is
      by_mark m (retired d w) is = absurd (has_life m d w is (node_at p m) refl)

  -- and where nothing is retired or set aside, there is none
  none_waste : aside_count p ≡ 0 → retired_count p ≡ 0 → waste_in (records_by x p) ≡ []
  none_waste none zero_left = length_is (waste_in (records_by x p)) (none_wasted x p opens latest s (λ l. 1) (λ m death whole n e at. absurd (not_dead (mark_at p m) (death, whole) (none_aside p none m) (none_retired p zero_left m) e)))

  pub left_is : (left : Bool) → aside_count p ≡ 0 → Decides left (0 < retired_count p) → IsTrue left ↔ (waste_in (records_by x p) ≢ [])
  left_is true none some = (λ t. λ e. no_zero (retired_count p) (some.0 refl) (waste_none e), λ e. refl)
  left_is false none zero_left = (λ t. absurd (cc), λ e. absurd (e (none_waste none (no_more (retired_count p) zero_left))))

-- A whole reclaim, from what its parts did.
module _ (v : Pins) (x y : Indexed) (p0 p p1 q : Nodes) (n freed : ℕ) (left : Bool) (h : AreStored x p0) (first : KeepsDead p0 p) (w : Sweeps v.seats freed x y p p1) (most : freed ≤ n) (all : (freed ≡ n) ⊎ AreHeld p1) (agrees : Agrees p1 v) (last : KeepsDead p1 q) (none : aside_count q ≡ 0) (parted : IsParted q) (answer : Decides left (0 < retired_count q)) where
  swept_stored : KeepsStored x y p0 q
  swept_stored opens latest s = dead_stored y p1 q last opens latest (w.stored opens latest (dead_stored x p0 p first opens latest s))

  swept_drops : Drops v.seats freed (records_by x p0) (records_by y q)
  swept_drops = subst (Drops v.seats freed (records_by x p0)) (sym (dead_records y p1 q last)) (subst (λ rs. Drops v.seats freed rs (records_by y p1)) (dead_records x p0 p first) w.drops)

  pub swept : Swept v.seats n freed left x y p0 q
  swept = record {
    stored = swept_stored;
    drops = swept_drops;
    waste = record {
      exact = freed_exact v x y p p1 n freed h.opens h.latest (w.stored h.opens h.latest (dead_stored x p0 p first h.opens h.latest h.stored)) w.drops w.aside most all agrees ∙ ap (λ rs. min n (unneeded v.seats (waste_in rs))) (dead_records x p0 p first);
      gone = swept_drops.gone;
      many = swept_drops.many;
      same = swept_drops.same;
      none_needed = swept_drops.none_needed;
      left_is = left_is y q h.opens h.latest (swept_stored h.opens h.latest h.stored) parted left none answer;
    };
    none_aside = none;
  }

-- what is free now was not open
opens_dropped : (pins : List (Option ℕ)) (old new : List Record) → ((m : ℕ) → StaysOrGoes pins (record_at old m) (record_at new m)) → open_count new ≡ open_count old
opens_dropped pins old new each = count_agrees is_opened old new refl (λ m. go (record_at old m) (record_at new m) (each m))
  where
    go : (r s : Record) → StaysOrGoes pins r s → is_opened s ≡ is_opened r
    go r s (inl same) = ap is_opened same
    go r s (inr gone) = ap is_opened gone.0 ∙ sym (not_opened r gone.1.life gone.1.only)

-- what the contract says of it
pub reclaimed : (pins : List (Option ℕ)) (n freed : ℕ) (left : Bool) (x y : Indexed) (p q : Nodes) → Swept pins n freed left x y p q → (a b : Recorded) → a.records ≡ records_by x p → b.records ≡ records_by y q → b.latest ≡ a.latest → b.limit ≡ a.limit → ReclaimsRecords pins n freed left a b
reclaimed pins n freed left x y p q w a b from to latest limit =
    let drops : Drops pins freed a.records b.records = subst (λ rs. Drops pins freed rs b.records) (sym from) (subst (Drops pins freed (records_by x p)) (sym to) w.drops) in
    record {
      waste = subst (λ rs. Frees pins n freed left (waste_in rs) (waste_in b.records)) (sym from) (subst (λ rs. Frees pins n freed left (waste_in (records_by x p)) (waste_in rs)) (sym to) w.waste);
      each = drops.each;
      versions = drops.versions;
      now = drops.now;
      births = drops.births;
      opens = opens_dropped pins a.records b.records drops.each;
      latest = latest;
      limit = limit;
    }
