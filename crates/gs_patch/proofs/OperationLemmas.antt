-- One operation: what it adds and removes, and the instances that go.
use Rattle.std.proofs.Common.{◌≡◌, ◌⊎◌, inl, inr, ℕ, ◌+◌, ◌-◌, List, map, length, Option, Result, Ok, Err, sym, ap, ◌∙◌, arith}
use Rattle.std.specs.Result.{IfOk}
use Rattle.gs_model.specs.Triples.{RdfTriple}
use Rattle.gs_model.specs.Graphs.{Graph, size_of}
use Rattle.gs_term.specs.declared.patterns.Pattern.{Pattern}
use Rattle.gs_event.specs.declared.updates.Op.{Op}
use Rattle.gs_event.specs.Solutions.{is_among, instances_of}
use Rattle.gs_event.specs.Updates.{operated, without_triples}
use Rattle.gs_dict.specs.Numbering.{Numbered, IsDistinct}
use Rattle.gs_pool.specs.declared.nodes.Key.{Key}
use Rattle.gs_pool.specs.Pool.{Nodes}
use Rattle.gs_tree.specs.declared.unions.Merged.{Merged}
use Rattle.gs_tree.specs.Tree.{tree_at}
use Rattle.gs_tree.specs.Keys.{AllKeys}
use Rattle.gs_tree.specs.Reading.{keys_at}
use Rattle.gs_tree.specs.Sets.{UnitesAt}
use Rattle.gs_changes.specs.declared.removals.Pruned.{Pruned}
use Rattle.gs_changes.specs.Changes.{ChangesAt}
use Rattle.gs_changes.specs.Keys.{remove_keys}
use Rattle.gs_changes.proofs.ChangeLemmas.{unchanged, unites_changes}
use Rattle.gs_keys.specs.Texts.{Terms, triple_at, key_cmp, IsGiven}
use Rattle.gs_keys.specs.Roots.{graph_of_root}
use Rattle.gs_match.specs.Instances.{instance_keys}
use Rattle.gs_staging.specs.Keys.{Grows, IsRunOfTriples}
use Rattle.gs_staging.specs.Staging.{IsStaged}
use Rattle.gs_staging.proofs.StageLemmas.{staged_size, staged_grown, with_run}
use Rattle.gs_patch.specs.declared.operations.Operated.{Operated}
use Rattle.gs_patch.specs.Operations.{BecomesGraph, GainsTriples, LosesTriples, ChangesSome, Operates}
use Rattle.gs_patch.proofs.OutLemmas.{all_filter, without_keys}

-- two things that hold of a value where there is one
pub ok_both : {T E : Type 0} (r : Result T E) (P Q R : T → Type 0) → ((v : T) → P v → Q v → R v) → IfOk r P → IfOk r Q → IfOk r R
ok_both (Ok v) P Q R f p q = f v p q
ok_both (Err e) P Q R f p q = tt

-- a run that is united with a staged tree
pub run_goes_in :
    (birth : ℕ) (d e : Numbered) (p q : Nodes) (root : Option ℕ) (ts : List RdfTriple) (run : List Key) (m : Merged) → Grows d e → IsDistinct e.terms → IsStaged d.terms p root
    → IsRunOfTriples e.terms ts run → UnitesAt (key_cmp e.terms) birth birth p q root run m → GainsTriples birth d.terms e.terms p q root ts m
run_goes_in birth d e p q root ts run m grows distinct old is united =
    let made = with_run d e p q root m.root ts run grows distinct old is united.set united.keys_are in
    record {
      changes = unites_changes (key_cmp e.terms) birth p q m.root m.added (tree_at p root) run (tree_at q m.root) united;
      staged = made.0;
      graph = made.1;
    }

-- keys that are taken out of a staged tree
pub keys_go_out :
    (birth : ℕ) (terms : Terms) (p q : Nodes) (root : Option ℕ) (run : List Key) (m : Pruned) → IsStaged terms p root → AllKeys (IsGiven terms) run → ChangesAt (key_cmp terms) birth p q root m.root 0 m.removed
    → keys_at q m.root ≡ remove_keys (key_cmp terms) run (keys_at p root) → LosesTriples birth terms p q root (map (triple_at terms) run) m
keys_go_out birth terms p q root run m old given changes keys_are =
    let made = without_keys terms p q root m.root run old given changes.set keys_are in
    record { changes = changes; staged = made.0; graph = made.1 }

-- the same graph by another name
pub becomes_so : (birth : ℕ) (terms : Terms) (p q : Nodes) (root new : Option ℕ) (added removed : ℕ) (g h : Graph) → g ≡ h → BecomesGraph birth terms p q root new added removed g → BecomesGraph birth terms p q root new added removed h
becomes_so birth terms p q root new added removed g h e b = record { changes = b.changes; staged = b.staged; graph = b.graph ∙ e }

-- a loss of triples whose loss leaves the same graph
pub loses_so : {E : Type 0} (r : Result Pruned E) (birth : ℕ) (terms : Terms) (p q : Nodes) (root : Option ℕ) (xs ts : List RdfTriple) → without_triples (graph_of_root terms p root) xs ≡ without_triples (graph_of_root terms p root) ts
    → IfOk r (LosesTriples birth terms p q root xs) → IfOk r (LosesTriples birth terms p q root ts)
loses_so (Ok m) birth terms p q root xs ts e h = becomes_so birth terms p q root m.root 0 m.removed (without_triples (graph_of_root terms p root) xs) (without_triples (graph_of_root terms p root) ts) e h
loses_so (Err half) birth terms p q root xs ts e h = tt

-- the numbers of the keys of instances have terms
pub instances_given : (terms : Terms) (p : Nodes) (root : Option ℕ) (ps : List Pattern) → IsStaged terms p root → AllKeys (IsGiven terms) (instance_keys terms p root ps)
instances_given terms p root ps old = all_filter (IsGiven terms) (λ k. is_among (instances_of (graph_of_root terms p root) ps) (triple_at terms k)) (keys_at p root) old.given

-- nothing went in or out yet
pub nothing_done : (birth : ℕ) (d e : Numbered) (p : Nodes) (root : Option ℕ) → Grows d e → IsStaged d.terms p root → ChangesSome birth e.terms p p root root
nothing_done birth d e p root grows old = (0, 0, unchanged (key_cmp e.terms) birth p root (tree_at p root) (staged_grown d e p root grows old).set)

-- where things only came or only went, they are the difference
one_way : (before after came went : ℕ) → after + went ≡ before + came → (came ≡ 0) ⊎ (went ≡ 0) → (came ≡ after - before) × (went ≡ before - after)
one_way before after came went e (inl none) = (omega (arith, e, none), omega (arith, e, none))
one_way before after came went e (inr none) = (omega (arith, e, none), omega (arith, e, none))

-- keys that only went in or only went out are the triples that came and went by the operation
pub operates :
    (birth : ℕ) (d e : Numbered) (p q : Nodes) (root : Option ℕ) (op : Op) (m : Operated) (g : Graph) → IsStaged d.terms p root → (m.added ≡ 0) ⊎ (m.removed ≡ 0) → g ≡ operated (graph_of_root d.terms p root) op
    → BecomesGraph birth e.terms p q root m.root m.added m.removed g → Operates birth d.terms e.terms p q root op m
operates birth d e p q root op m g old way is b =
    let before : size_of (graph_of_root d.terms p root) ≡ length (keys_at p root) = staged_size d.terms p root old in
    let after : size_of (operated (graph_of_root d.terms p root) op) ≡ length (keys_at q m.root) = ap size_of (sym is ∙ sym b.graph) ∙ staged_size e.terms q m.root b.staged in
    let counts = one_way (size_of (graph_of_root d.terms p root)) (size_of (operated (graph_of_root d.terms p root) op)) m.added m.removed (omega (arith, before, after, b.changes.counted)) way in
    record {
      becomes = becomes_so birth e.terms p q root m.root m.added m.removed g (operated (graph_of_root d.terms p root) op) is b;
      added = counts.0;
      removed = counts.1;
    }
