-- What the steps of a store make of the waste, as the law of waste says it.
use Rattle.std.proofs.Common.{◌≡◌, ℕ, zero, suc, ◌+◌, ◌<◌, ◌≤◌, Bool, true, false, cond, List, [], ◌∷◌, ◌++◌, length, take, Option, Some, None, refl, sym, ap, ◌∙◌, inl, inr, arith, length-append, true≢false}
use Rattle.std.proofs.lemmas.Bool.{cases_lt}
use Rattle.std.proofs.lemmas.List.{get_or_past, take_all}
use Rattle.std.proofs.lemmas.List.Elements.{All-append, All-cons, All-nil, All-head}
use Rattle.std.proofs.lemmas.List.Sums.{sum_by_more, sum_by-take-le}
use Rattle.std.specs.List.{All, sum_by}
use Rattle.gs_pool.specs.declared.nodes.Node.{Node}
use Rattle.gs_pool.specs.Pool.{Nodes, NodeMark, plain, is_aside, node_at, mark_at, aside_count}
use Rattle.gs_tree.specs.Tree.{Tree, leaf, fork, keys, occurrences, BirthAtMost, Descends}
use Rattle.gs_tree.specs.Steps.{Step}
use Rattle.gs_tree.proofs.Heights.{size-keys}
use Rattle.gs_versions.specs.Pins.{Pins, at_commit}
use Rattle.gs_event.specs.Waste.{Lifetime}
use Rattle.gs_event.specs.Wasting.{Joins, IsUnreached, EndsAt}
use Rattle.gs_ledger.specs.Entries.{Dead, died_whole, tree_lives, entry_lives, lives}
use Rattle.gs_ledger.specs.Marks.{waste_at}
use Rattle.gs_ledger.specs.Ledger.{IsTreeOf, IsLedger}
use Rattle.gs_ledger.specs.Changes.{Buries, RetiresAside, alone_at, alone_below, aside_dead}
use Rattle.gs_ledger.proofs.PutSteps.{put_ledger, cancel_ledger}
use Rattle.gs_ledger.proofs.WriteSteps.{post_ledger}
use Rattle.gs_ledger.proofs.Counts.{waste_is, length_tree}
use Rattle.gs_ledger.proofs.Staying.{whole_sum, lives_append}

-- the waste of one ledger and that of the next, which has some dead nodes more
more_waste : (f : Lifetime → ℕ) (p q : Nodes) (v w : Pins) (gs hs us ws : List Tree) (rs ss : List (List Tree)) (ds es : List Dead) → IsLedger p v gs us rs ds → IsLedger q w hs ws ss (es ++ ds) → sum_by f (waste_at q) ≡ sum_by f (waste_at p) + sum_by f (lives es)
more_waste f p q v w gs hs us ws rs ss ds es l k = omega (arith, waste_is p v gs us rs ds l f, waste_is q w hs ws ss (es ++ ds) k f, lives_append f es ds)

-- the nodes of a tree that died after all of them were born
tree_ended : (b death : ℕ) (t : Tree) → b < death → BirthAtMost b t → Descends t → All (EndsAt death) (tree_lives death t)
tree_ended b death leaf h low down = All-nil (EndsAt death)
tree_ended b death (fork id birth l k r) h low down =
    let mine : birth ≤ b = low in
    All-cons (EndsAt death) (record { birth = birth; death = death }) (tree_lives death l ++ tree_lives death r) (omega arith, refl)
    (All-append (EndsAt death) (tree_lives death l) (tree_lives death r) (tree_ended birth death l (omega arith) down.0 down.2) (tree_ended birth death r (omega arith) down.1 down.3))

-- the nodes of a tree that no version reached
tree_unreached : (t : Tree) → All IsUnreached (tree_lives 0 t)
tree_unreached leaf = All-nil IsUnreached
tree_unreached (fork id birth l k r) =
    All-cons IsUnreached (record { birth = birth; death = 0 }) (tree_lives 0 l ++ tree_lives 0 r) refl
    (All-append IsUnreached (tree_lives 0 l) (tree_lives 0 r) (tree_unreached l) (tree_unreached r))

-- By a PUT or a Delete as many nodes join the waste as the graph had triples, each with a version before it.
pub put_joins : (p q : Nodes) (v : Pins) (old new : Tree) (gs us : List Tree) (rs : List (List Tree)) (ds : List Dead) → IsLedger p v (old ∷ gs) (new ∷ us) rs ds → Buries p q (died_whole (v.commit + 1) old) → Joins (EndsAt (v.commit + 1)) (length (keys old)) (waste_at p) (waste_at q)
put_joins p q v old new gs us rs ds l b =
    let c = v.commit in
    let tree : IsTreeOf p c old = All-head (IsTreeOf p c) old gs l.current in
    record {
      more = tree_lives (c + 1) old;
      few = omega (arith, length_tree (c + 1) old, size-keys old);
      same = λ f. omega (arith, more_waste f p q v (at_commit v (c + 1)) (old ∷ gs) (new ∷ gs) (new ∷ us) us rs rs ds (died_whole (c + 1) old) l (put_ledger p q v old new gs us rs ds l b), whole_sum f (c + 1) old);
      ended = tree_ended c (c + 1) old (omega arith) tree.born tree.descends;
    }

-- By a Cancel as many join as the upload had triples, and no version reached them.
pub cancel_joins : (p q : Nodes) (v : Pins) (old : Tree) (gs us : List Tree) (rs : List (List Tree)) (ds : List Dead) → IsLedger p v gs (old ∷ us) rs ds → Buries p q (died_whole 0 old) → Joins IsUnreached (length (keys old)) (waste_at p) (waste_at q)
cancel_joins p q v old gs us rs ds l b = record {
  more = tree_lives 0 old;
  few = omega (arith, length_tree 0 old, size-keys old);
  same = λ f. omega (arith, more_waste f p q v v gs gs (old ∷ us) us rs rs ds (died_whole 0 old) l (cancel_ledger p q v old gs us rs ds l b), whole_sum f 0 old);
  ended = tree_unreached old;
}

-- nodes alone: as many as are set aside
one_length : (death x : ℕ) (o : Option Node) (is : Bool) → length (lives (alone_at death x o is)) ≤ cond {A = ℕ} is 1 0
one_length death x None is = omega arith
one_length death x (Some n) true = omega arith
one_length death x (Some n) false = omega arith

lives_length : (cs ds : List Dead) → length (lives (cs ++ ds)) ≡ length (lives cs) + length (lives ds)
lives_length [] ds = omega arith
lives_length (c ∷ cs) ds = omega (arith, length-append (entry_lives c) (lives (cs ++ ds)), length-append (entry_lives c) (lives cs), lives_length cs ds)

abbrev weight : NodeMark → ℕ
weight m = cond {A = ℕ} (is_aside m) 1 0

alone_few : (death n : ℕ) (p : Nodes) → length (lives (alone_below death n p)) ≤ sum_by weight (take n p.marks)
alone_few death zero p = omega arith
alone_few death (suc n) p =
    let first = alone_at death n (node_at p n) (is_aside (mark_at p n)) in
    let next : suc n ≡ n + 1 = omega arith in
    let grows = ap (λ k. sum_by weight (take k p.marks)) next in
    let both = lives_length first (alone_below death n p) in
    let one = one_length death n (node_at p n) (is_aside (mark_at p n)) in
    elim (cases_lt n (length p.marks)) [
      | inl within ↦ omega (arith, both, one, alone_few death n p, grows, sum_by_more weight p.marks n plain within)
      | inr past ↦
          let off : weight (mark_at p n) ≡ 0 = ap weight (get_or_past p.marks n plain past) in
          let all : take n p.marks ≡ p.marks = take_all n p.marks past in
          let all' : take (n + 1) p.marks ≡ p.marks = take_all (n + 1) p.marks (omega arith) in
          omega (arith, both, one, off, alone_few death n p, grows, ap (sum_by weight) all, ap (sum_by weight) all')
    ]

-- each of them is older than the commit, where the marks of older nodes alone have changed
alone_ended : (p q : Nodes) (death n : ℕ) → ((x : ℕ) (k : Node) → node_at q x ≡ Some k → is_aside (mark_at q x) ≡ true → k.birth < death) → All (EndsAt death) (lives (alone_below death n q))
alone_ended p q death zero h = All-nil (EndsAt death)
alone_ended p q death (suc n) h = by_node (alone_ended p q death n h) (node_at q n) refl (is_aside (mark_at q n)) refl
  where
    by_node : All (EndsAt death) (lives (alone_below death n q)) → (o : Option Node) → node_at q n ≡ o → (is : Bool) → is_aside (mark_at q n) ≡ is → All (EndsAt death) (lives (alone_at death n o is ++ alone_below death n q))
    by_node rest None e is m = rest
    by_node rest (Some k) e false m = rest
    by_node rest (Some k) e true m = All-cons (EndsAt death) (record { birth = k.birth; death = death }) (lives (alone_below death n q)) (h n k e m, refl) rest

-- By a commit that copies no more nodes join than were replaced, each with a version before it.
pub post_joins : (p q r : Nodes) (v : Pins) (birth : ℕ) (old new : Tree) (gs us : List Tree) (rs : List (List Tree)) (ds : List Dead) → IsLedger p v (old ∷ gs) us rs ds → ((x : ℕ) → is_aside (mark_at p x) ≡ false) → Step (v.commit + 1) birth p q (occurrences old) (occurrences new) → IsTreeOf q (v.commit + 1) new → RetiresAside q r (v.commit + 1) → Joins (EndsAt (v.commit + 1)) (aside_count q) (waste_at p) (waste_at r)
post_joins p q r v birth old new gs us rs ds l none s tree retires =
    let c = v.commit in
    let es = aside_dead (c + 1) q in
    record {
      more = lives es;
      few = omega (arith, alone_few (c + 1) (length q.nodes) q, sum_by-take-le weight q.marks (length q.nodes));
      same = λ f. omega (arith, more_waste f p r v (at_commit v (c + 1)) (old ∷ gs) (new ∷ gs) us us rs rs ds es l (post_ledger p q r v birth old new gs us rs ds l none s tree retires));
      ended = alone_ended p q (c + 1) (length q.nodes) old_birth;
    }
  where
    some_birth : (a b : Node) → Some a ≡ Some b → a.birth ≡ b.birth
    some_birth a b e = cc

    old_birth : (x : ℕ) (k : Node) → node_at q x ≡ Some k → is_aside (mark_at q x) ≡ true → k.birth < v.commit + 1
    old_birth x k e m = elim (s.marks x) [
      | inl same ↦ absurd (true≢false (sym m ∙ ap is_aside same ∙ none x))
      | inr fresh ↦ omega (arith, fresh.0.2, some_birth fresh.0.0 k (sym (s.kept x fresh.0.0 fresh.0.1 (inr fresh.0.2)) ∙ e))
    ]
