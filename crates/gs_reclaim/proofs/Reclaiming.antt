-- What the loop of a reclaim keeps, and what follows at its end.
use Rattle.std.proofs.Common.{◌≡◌, ◌⊎◌, ℕ, ◌+◌, ◌<◌, ◌≤◌, min, Bool, true, false, cond, List, [], ◌∷◌, ◌++◌, length, get_or, slice_index_or, slice_get, Option, Some, None, refl, sym, ap, subst, ◌∙◌, inl, inr, arith, true≢false, count_by, is_some}
use Rattle.std.proofs.lemmas.Bool.{cases_eq, cases_lt}
use Rattle.std.proofs.lemmas.List.{get_or_past}
use Rattle.std.proofs.lemmas.List.Elements.{All-nil, All-cons, All-head, All-tail}
use Rattle.std.proofs.lemmas.List.Sums.{sum_by-cons, sum_by-append}
use Rattle.std.proofs.lemmas.Option.{slice_get-get_or}
use Rattle.std.specs.List.{All, sum_by}
use Rattle.gs_pool.specs.declared.nodes.Node.{Node}
use Rattle.gs_pool.specs.declared.nodes.Retired.{Retired}
use Rattle.gs_pool.specs.Pool.{Nodes, NodeMark, plain, aside, retired, is_aside, is_retired, node_at, mark_at, in_use, aside_count, retired_count, KeepsNodes, Marks, Unlists}
use Rattle.gs_pool.specs.Held.{IsNeededBy, IsHeld, AreHeld}
use Rattle.gs_pool.proofs.FollowLemmas.{pin_within}
use Rattle.gs_tree.specs.Tree.{Tree, leaf, fork, BirthAtMost, Descends}
use Rattle.gs_versions.specs.Pins.{Pins, IsPinned, IsNeeded}
use Rattle.gs_event.specs.Waste.{Lifetime, is_needed, unneeded}
use Rattle.gs_ledger.specs.Entries.{Dead, tree_lives, entry_lives, lives}
use Rattle.gs_ledger.specs.Marks.{death_of, dead_at, waste_at}
use Rattle.gs_ledger.specs.Ledger.{IsDead}
use Rattle.gs_ledger.proofs.Sums.{sum_at}
use Rattle.gs_ledger.proofs.Marked.{ledger_of_marks}
use Rattle.gs_ledger.proofs.Counts.{nodes_counted, waste_is, length_sum}
use Rattle.gs_ledger.proofs.Retiring.{marks_nodes, none_aside, first_ledger, remark_ledger}
use Rattle.gs_ledger.proofs.Needing.{needed_by_pin, older_needed}
use Rattle.gs_reclaim.specs.Reclaims.{HasMarkedLedger, KeepsLedgers, IsNeededFor, NodeStays, SettlesNode, Reclaims}
use Rattle.gs_reclaim.specs.Holders.{KeepsDead, Agrees, HasLists}
use Rattle.gs_reclaim.proofs.Freeing.{frees_one}

-- at first nothing went
pub reclaims_none : (v : Pins) (p : Nodes) → aside_count p ≡ 0 → Reclaims v p p 0
reclaims_none v p h = record {
  ledgers = λ gs us rs l. l;
  gone = [];
  many = refl;
  same = λ f. omega arith;
  none_needed = All-nil (λ l. is_needed v.seats l ≡ false);
  needed = λ x death whole n e f. absurd (let bad : true ≡ false = sym (ap is_aside e) ∙ none_aside p h x in cc);
}

-- ledgers do not tell retired nodes from those that are set aside, nor does the waste
pub same_ledgers : (v : Pins) (p q : Nodes) → KeepsNodes p q → ((x : ℕ) → death_of (mark_at q x) ≡ death_of (mark_at p x)) → KeepsLedgers v p q
same_ledgers v p q nodes deaths gs us rs l = ledger_of_marks q v gs us rs (dead_at p) (remark_ledger p q v gs us rs (dead_at p) nodes deaths l)

pub same_waste : (v : Pins) (p q : Nodes) → HasMarkedLedger p v → KeepsNodes p q → ((x : ℕ) → death_of (mark_at q x) ≡ death_of (mark_at p x)) → (f : Lifetime → ℕ) → sum_by f (waste_at q) ≡ sum_by f (waste_at p)
same_waste v p q h nodes deaths f = waste_is q v h.graphs h.uploads h.reads (dead_at p) (remark_ledger p q v h.graphs h.uploads h.reads (dead_at p) nodes deaths h.ledger) f

-- a ledger of the pool as it is now
pub ledger_now : (v : Pins) (p q : Nodes) → HasMarkedLedger p v → KeepsLedgers v p q → HasMarkedLedger q v
ledger_now v p q h keeps = record { graphs = h.graphs; uploads = h.uploads; reads = h.reads; ledger = keeps h.graphs h.uploads h.reads h.ledger }

some_node : (a b : Node) → Some a ≡ Some b → a ≡ b
some_node a b e = cc

same_dead : (a b : ℕ × Bool) → Some a ≡ Some b → a ≡ b
same_dead a b e = cc

-- a node that is needed stayed
pub reclaims_kept : (v : Pins) (p0 p p1 q : Nodes) (freed : ℕ) (r : Retired) → HasMarkedLedger p0 v → Reclaims v p0 p freed → Unlists p p1 r.id (retired r.death r.whole) → NodeStays v p1 q r → Reclaims v p0 q freed
reclaims_kept v p0 p p1 q freed r h k u s =
    let nodes : KeepsNodes p q = λ x. marks_nodes p1 q r.id s.mark s.marks x ∙ marks_nodes p p1 r.id plain u.marks x in
    let deaths : (x : ℕ) → death_of (mark_at q x) ≡ death_of (mark_at p x) = λ x. elim (cases_eq x r.id) [
      | inl here ↦ subst (λ y. death_of (mark_at q y) ≡ death_of (mark_at p y)) (sym here) (ap death_of s.marks.changed ∙ s.dead ∙ sym (ap death_of u.was))
      | inr ne ↦ ap death_of (s.marks.others x ne ∙ u.marks.others x ne)
    ] in
    record {
      ledgers = λ gs us rs l. same_ledgers v p q nodes deaths gs us rs (k.ledgers gs us rs l);
      gone = k.gone;
      many = k.many;
      same = λ f. omega (arith, k.same f, same_waste v p q (ledger_now v p0 p h k.ledgers) nodes deaths f);
      none_needed = k.none_needed;
      needed = λ x death whole n e f. elim (cases_eq x r.id) [
        | inl here ↦
            let is : s.mark ≡ aside death whole = sym s.marks.changed ∙ ap (mark_at q) (sym here) ∙ e in
            let death_is : r.death ≡ death = λ i. (same_dead (r.death, r.whole) (death, whole) (sym s.dead ∙ ap death_of is) i).0 in
            let node_is : s.node ≡ n = some_node s.node n (sym s.found ∙ sym (marks_nodes p1 q r.id s.mark s.marks r.id) ∙ ap (node_at q) (sym here) ∙ f) in
            subst (λ (m : Node). IsNeeded v m.birth death) node_is (subst (IsNeeded v s.node.birth) death_is s.needed)
        | inr ne ↦ k.needed x death whole n (sym (s.marks.others x ne ∙ u.marks.others x ne) ∙ e) (sym (nodes x) ∙ f)
      ];
    }

-- what is retired or set aside died by the last commit
pub died_before : (p : Nodes) (v : Pins) (id death : ℕ) (whole : Bool) → HasMarkedLedger p v → mark_at p id ≡ retired death whole → death ≤ v.commit
died_before p v id death whole h is =
    let b = first_ledger p v h.graphs h.uploads h.reads (dead_at p) id death whole h.ledger (ap death_of is) in
    let e : IsDead p v.commit b.first = All-head (IsDead p v.commit) b.first b.rest b.ledger.waste in
    omega (arith, e.died, b.death_is)

-- a pool with the same nodes and deaths has a ledger too
pub ledger_after : (v : Pins) (p q : Nodes) → HasMarkedLedger p v → KeepsDead p q → HasMarkedLedger q v
ledger_after v p q h dead = ledger_now v p q h (same_ledgers v p q (λ x. ap (λ ns. get_or ns x None) dead.nodes) dead.deaths)

-- what went on from a pool with the same nodes and deaths
pub reclaims_after : (v : Pins) (p0 p q : Nodes) (freed : ℕ) → HasMarkedLedger p0 v → KeepsDead p0 p → Reclaims v p q freed → Reclaims v p0 q freed
reclaims_after v p0 p q freed h dead k =
    let nodes : KeepsNodes p0 p = λ x. ap (λ ns. get_or ns x None) dead.nodes in
    record {
      ledgers = λ gs us rs l. k.ledgers gs us rs (same_ledgers v p0 p nodes dead.deaths gs us rs l);
      gone = k.gone;
      many = k.many;
      same = λ f. omega (arith, k.same f, same_waste v p0 p h nodes dead.deaths f);
      none_needed = k.none_needed;
      needed = k.needed;
    }

-- one that no version needs was freed
pub reclaims_freed : (v : Pins) (p0 p p1 q : Nodes) (freed : ℕ) (r : Retired) → HasMarkedLedger p0 v → Reclaims v p0 p freed → Unlists p p1 r.id (retired r.death r.whole) → SettlesNode v p1 q r true → Reclaims v p0 q (freed + 1)
reclaims_freed v p0 p p1 q freed r h k u s =
    let now = ledger_now v p0 p h k.ledgers in
    let one = frees_one p p1 q v now.graphs now.uploads now.reads r now.ledger u s in
    record {
      ledgers = λ gs us rs l. (frees_one p p1 q v gs us rs r (k.ledgers gs us rs l) u s).ledger;
      gone = one.gone ∷ k.gone;
      many = omega (arith, k.many);
      same = λ f. omega (arith, k.same f, one.waste f, sum_by-cons f one.gone k.gone);
      none_needed = All-cons (λ l. is_needed v.seats l ≡ false) one.gone k.gone one.not_needed k.none_needed;
      needed = λ x death whole n e f. let was = one.asides x death whole n e f in k.needed x death whole n was.0 was.1;
    }

-- 1 for a lifetime that no pin needs
abbrev pub unneeded_one : List (Option ℕ) → Lifetime → ℕ
unneeded_one pins l = cond {A = ℕ} (is_needed pins l) 0 1

one_needed : (pins : List (Option ℕ)) (l : Lifetime) → is_needed pins l ≡ true → unneeded_one pins l ≡ 0
one_needed pins l e = ap (λ b. cond {A = ℕ} b 0 1) e

one_not : (pins : List (Option ℕ)) (l : Lifetime) → is_needed pins l ≡ false → unneeded_one pins l ≡ 1
one_not pins l e = ap (λ b. cond {A = ℕ} b 0 1) e

-- what no pin needs, counted
unneeded_is : (pins : List (Option ℕ)) (ls : List Lifetime) → unneeded pins ls ≡ sum_by (unneeded_one pins) ls
unneeded_is pins ls = refl

-- what no pin needs counts in full
all_unneeded : (pins : List (Option ℕ)) (ls : List Lifetime) → All (λ l. is_needed pins l ≡ false) ls → sum_by (unneeded_one pins) ls ≡ length ls
all_unneeded pins [] a = refl
all_unneeded pins (l ∷ ls) a = omega (arith, sum_by-cons (unneeded_one pins) l ls, one_not pins l (All-head (λ m. is_needed pins m ≡ false) l ls a), all_unneeded pins ls (All-tail (λ m. is_needed pins m ≡ false) l ls a))

-- a tree that died with a node that is needed counts for nothing
tree_needed : (v : Pins) (birth death : ℕ) (t : Tree) → death ≤ v.commit → IsNeeded v birth death → BirthAtMost birth t → Descends t → sum_by (unneeded_one v.seats) (tree_lives death t) ≡ 0
tree_needed v birth death leaf died need low down = refl
tree_needed v birth death (fork id b l k r) died need low down =
    let here = older_needed v birth b death low need in
    let mine : Lifetime = record { birth = b; death = death } in
    omega (
      arith,
      sum_by-cons (unneeded_one v.seats) mine (tree_lives death l ++ tree_lives death r),
      sum_by-append (unneeded_one v.seats) (tree_lives death l) (tree_lives death r),
      one_needed v.seats mine (needed_by_pin v mine here died),
      tree_needed v b death l died here down.0 down.2,
      tree_needed v b death r died here down.1 down.3,
    )

-- dead nodes that are needed count for nothing, nor does what went with them
dead_needed : (v : Pins) (p : Nodes) (ds : List Dead) → All (IsDead p v.commit) ds → ((d : Dead) → IsDead p v.commit d → IsNeeded v d.birth d.death) → sum_by (unneeded_one v.seats) (lives ds) ≡ 0
dead_needed v p [] a need = refl
dead_needed v p (d ∷ ds) a need =
    let e : IsDead p v.commit d = All-head (IsDead p v.commit) d ds a in
    let here = need d e in
    let mine : Lifetime = record { birth = d.birth; death = d.death } in
    let ll = tree_lives d.death d.left in
    let lr = tree_lives d.death d.right in
    omega (
      arith,
      sum_by-append (unneeded_one v.seats) (entry_lives d) (lives ds),
      sum_by-cons (unneeded_one v.seats) mine (ll ++ lr),
      sum_by-append (unneeded_one v.seats) ll lr,
      one_needed v.seats mine (needed_by_pin v mine here e.died),
      tree_needed v d.birth d.death d.left e.died here e.left_tree.born e.left_tree.descends,
      tree_needed v d.birth d.death d.right e.died here e.right_tree.born e.right_tree.descends,
      dead_needed v p ds (All-tail (IsDead p v.commit) d ds a) need,
    )

-- where none is retired, no mark says so
pub none_retired : (p : Nodes) → retired_count p ≡ 0 → (x : ℕ) → is_retired (mark_at p x) ≡ false
none_retired p h x = elim (cases_lt x (length p.marks)) [
  | inl within ↦ off (is_retired (mark_at p x)) (omega (arith, sum_at (λ m. cond {A = ℕ} (is_retired m) 1 0) p.marks x plain within))
  | inr past ↦ ap is_retired (get_or_past p.marks x plain past)
]
  where
    off : (b : Bool) → cond {A = ℕ} b 1 0 ≤ 0 → b ≡ false
    off true h = absurd (omega arith)
    off false h = refl

-- a mark that says a death, and is not retired, is aside
dead_aside : (m : NodeMark) (death : ℕ) (whole : Bool) → death_of m ≡ Some (death, whole) → is_retired m ≡ false → m ≡ aside death whole
dead_aside plain death whole e f = absurd (cc)
dead_aside (aside d w) death whole e f = let same : (d, w) ≡ (death, whole) = some_pair (d, w) (death, whole) e in λ i. aside (same i).0 (same i).1
  where
    some_pair : (a b : ℕ × Bool) → Some a ≡ Some b → a ≡ b
    some_pair a b g = cc
dead_aside (retired d w) death whole e f = absurd (true≢false f)

-- what a seat has pinned, as the law of needs says it
pub seat_pinned : (v : Pins) (seat version : ℕ) → slice_index_or v.seats seat None ≡ Some version → slice_get v.seats seat ≡ Some (Some version)
seat_pinned v seat version is = slice_get-get_or v.seats seat None (pin_within v.seats seat version is) ∙ ap Some is

-- the node that the pin of a seat needs stays, whether it is held or set aside
pub stays : (v : Pins) (p q : Nodes) (seat : ℕ) (r : Retired) (m : NodeMark) → IsNeededFor v p seat r → Marks p q r.id m → death_of m ≡ Some (r.death, r.whole) → NodeStays v p q r
stays v p q seat r m n marks dead = record {
  node = n.node;
  found = n.found;
  needed = inr (record { seat = seat; version = n.pinned.version; pinned = seat_pinned v seat n.pinned.version n.pinned.pinned; lies = n.pinned.lies });
  mark = m;
  dead = dead;
  marks = marks;
}

-- and the list of that seat may hold it
pub needed_by_list : (v : Pins) (p : Nodes) (seat : ℕ) (r : Retired) → Agrees p v → seat < length p.pins → IsNeededFor v p seat r → IsNeededBy p seat r.id r.death
needed_by_list v p seat r agrees lt n = record {
  version = n.pinned.version;
  node = n.node;
  pinned = agrees seat lt ∙ n.pinned.pinned;
  found = n.found;
  lies = n.pinned.lies;
}

-- lists stay kept for the same pins
pub agrees_still : (v : Pins) (p q : Nodes) → q.pins ≡ p.pins → Agrees p v → Agrees q v
agrees_still v p q same h = subst (λ pins. (s : ℕ) → s < length pins → slice_index_or pins s None ≡ slice_index_or v.seats s None) (sym same) h

pub lists_still : (v : Pins) (p q : Nodes) → q.pins ≡ p.pins → HasLists p v → HasLists q v
lists_still v p q same h = omega (arith, h, ap length same)

-- to take a node off a list frees none
pub unlisted_use : (p q : Nodes) (r : Retired) → Unlists p q r.id (retired r.death r.whole) → in_use q ≡ in_use p
unlisted_use p q r u = ap (λ ns. count_by is_some ns) u.marks.nodes

-- what died and no seat has pinned, nobody needs
pub nobody_needs : (v : Pins) (birth death : ℕ) → death ≤ v.commit → (IsPinned v.seats birth death → ⊥) → IsNeeded v birth death → ⊥
nobody_needs v birth death died none (inl current) = absurd (omega (arith, current.1))
nobody_needs v birth death died none (inr pin) = none pin

-- a held node is needed
held_needed : (v : Pins) (p : Nodes) (d : Dead) → Agrees p v → IsDead p v.commit d → IsHeld p d.id → IsNeeded v d.birth d.death
held_needed v p d agrees e held =
    let n = held.needed in
    let same : n.node ≡ e.top = some_node n.node e.top (sym n.found ∙ e.found) in
    let death_is : held.death ≡ d.death = λ i. (same_dead (held.death, held.whole) (d.death, d.whole) (sym (ap death_of held.marked) ∙ e.marked) i).0 in
    inr (record {
      seat = held.list;
      version = n.version;
      pinned = seat_pinned v held.list n.version (sym (agrees held.list (pin_within p.pins held.list n.version n.pinned)) ∙ n.pinned);
      lies = (omega (arith, n.lies.0, ap (λ (m : Node). m.birth) same, e.birth_is), omega (arith, n.lies.1, death_is));
    })

-- where each retired node is held, all waste that is left is needed
rest_needed : (v : Pins) (p0 p : Nodes) (freed : ℕ) → HasMarkedLedger p0 v → Reclaims v p0 p freed → Agrees p v → AreHeld p → sum_by (unneeded_one v.seats) (waste_at p) ≡ 0
rest_needed v p0 p freed h k agrees held =
    dead_needed v p (dead_at p) (ledger_now v p0 p h k.ledgers).ledger.waste (λ d e. by_mark d e (is_retired (mark_at p d.id)) refl)
  where
    by_mark : (d : Dead) → IsDead p v.commit d → (b : Bool) → is_retired (mark_at p d.id) ≡ b → IsNeeded v d.birth d.death
    by_mark d e true is = held_needed v p d agrees e (held d.id is)
    by_mark d e false off = subst (λ b. IsNeeded v b d.death) e.birth_is (k.needed d.id d.death d.whole e.top (dead_aside (mark_at p d.id) d.death d.whole e.marked off) e.found)

-- how many were freed
pub freed_exact : (v : Pins) (p0 p : Nodes) (n freed : ℕ) → HasMarkedLedger p0 v → Reclaims v p0 p freed → freed ≤ n → (freed ≡ n) ⊎ AreHeld p → Agrees p v → freed ≡ min n (unneeded v.seats (waste_at p0))
freed_exact v p0 p n freed h k most all agrees =
    let parts : sum_by (unneeded_one v.seats) (waste_at p) + freed ≡ unneeded v.seats (waste_at p0) = omega (arith, unneeded_is v.seats (waste_at p0), k.same (unneeded_one v.seats), all_unneeded v.seats k.gone k.none_needed, k.many) in
    elim all [
      | inl full ↦ omega (arith, parts)
      | inr held ↦ omega (arith, parts, rest_needed v p0 p freed h k agrees held)
    ]

-- nodes in use fall by what was freed
pub in_use_falls : (v : Pins) (p q : Nodes) (freed : ℕ) → HasMarkedLedger p v → Reclaims v p q freed → in_use q + freed ≡ in_use p
in_use_falls v p q freed h k =
    let before = nodes_counted p v h.graphs h.uploads h.reads (dead_at p) h.ledger in
    let after = nodes_counted q v h.graphs h.uploads h.reads (dead_at q) (k.ledgers h.graphs h.uploads h.reads h.ledger) in
    omega (arith, before.nodes, after.nodes, length_sum (waste_at p), length_sum (waste_at q), length_sum k.gone, k.same (λ l. 1), k.many)
