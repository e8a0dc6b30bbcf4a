-- Operations one after another.
use Rattle.std.proofs.Common.{◌≡◌, ℕ, ◌+◌, ◌*◌, ◌<◌, ◌≤◌, List, [], ◌∷◌, length, Option, refl, sym, ap, subst, ◌∙◌, inl, arith}
use Rattle.gs_model.specs.Terms.{Term}
use Rattle.gs_event.specs.declared.updates.Op.{Op}
use Rattle.gs_event.specs.Updates.{operated, updated, inserted_by, removed_by}
use Rattle.gs_dict.specs.Numbering.{Numbered}
use Rattle.gs_pool.specs.Pool.{Nodes}
use Rattle.gs_tree.specs.Tree.{tree_at}
use Rattle.gs_changes.specs.Changes.{ChangesAt}
use Rattle.gs_changes.proofs.ChangeLemmas.{unchanged, then}
use Rattle.gs_keys.specs.Texts.{Terms, key_cmp}
use Rattle.gs_keys.specs.Roots.{graph_of_root}
use Rattle.gs_staging.specs.Keys.{Grows, GivesOnly}
use Rattle.gs_staging.specs.Staging.{IsStaged}
use Rattle.gs_staging.proofs.KeyLemmas.{still_grows, grows_twice, only_twice}
use Rattle.gs_staging.proofs.StageLemmas.{staged_grown}
use Rattle.gs_patch.specs.declared.operations.Operated.{Operated}
use Rattle.gs_patch.specs.declared.patches.Draft.{Draft}
use Rattle.gs_patch.specs.Inserted.{IsInsertedBy, IsInserted}
use Rattle.gs_patch.specs.Operations.{ChangesSome, Operates}
use Rattle.gs_patch.specs.Patches.{Patches}

-- a change of a tree is one by the order of later terms
change_grown : (birth : ℕ) (d e : Numbered) (p q : Nodes) (root new : Option ℕ) (added removed : ℕ) → Grows d e → IsStaged d.terms q new → ChangesAt (key_cmp d.terms) birth p q root new added removed → ChangesAt (key_cmp e.terms) birth p q root new added removed
change_grown birth d e p q root new added removed grows staged c = record {
  set = (staged_grown d e q new grows staged).set;
  births = c.births;
  step = c.step;
  others = c.others;
  aside = c.aside;
  still = c.still;
  counted = c.counted;
  copied = c.copied;
  exact = c.exact;
  retired = c.retired;
  few = c.few;
}

-- no operation adds or removes as many keys
abbrev pub most : ℕ
most = 18_446_744_073_709_551_616

-- some operations are done, and these are left
pub record Patching (birth : ℕ) (d e : Numbered) (p q : Nodes) (root : Option ℕ) (ops left : List Op) (m : Draft) : Type 0 where
  pub grows : Grows d e
  pub changes : ChangesAt (key_cmp e.terms) birth p q root m.root m.added m.removed
  pub staged : IsStaged e.terms q m.root
  pub graph : updated (graph_of_root e.terms q m.root) left ≡ updated (graph_of_root d.terms p root) ops
  pub added : m.added + inserted_by (graph_of_root e.terms q m.root) left ≡ inserted_by (graph_of_root d.terms p root) ops
  pub removed : m.removed + removed_by (graph_of_root e.terms q m.root) left ≡ removed_by (graph_of_root d.terms p root) ops
  pub few_added : m.added + most * length left ≤ most * length ops
  pub few_removed : m.removed + most * length left ≤ most * length ops

pub patching_start : (birth : ℕ) (d : Numbered) (p : Nodes) (root : Option ℕ) (ops : List Op) → IsStaged d.terms p root → Patching birth d d p p root ops ops (record { root = root; added = 0; removed = 0 })
patching_start birth d p root ops staged = record {
  grows = still_grows d d refl;
  changes = unchanged (key_cmp d.terms) birth p root (tree_at p root) staged.set;
  staged = staged;
  graph = refl;
  added = omega arith;
  removed = omega arith;
  few_added = omega arith;
  few_removed = omega arith;
}

-- one more is done
pub patching_more :
    (birth : ℕ) (d e f : Numbered) (p q r : Nodes) (root : Option ℕ) (ops left : List Op) (op : Op) (old m : Draft) (o : Operated) → o.added < most → o.removed < most
    → Grows e f → Operates birth e.terms f.terms q r old.root op o → m.root ≡ o.root → m.added ≡ old.added + o.added → m.removed ≡ old.removed + o.removed
    → Patching birth d e p q root ops (op ∷ left) old → Patching birth d f p r root ops left m
patching_more birth d e f p q r root ops left op old m o few_in few_out grows done root_is added_is removed_is i =
    let g = graph_of_root e.terms q old.root in
    let first = change_grown birth e f p q root old.root old.added old.removed grows i.staged i.changes in
    let both = then (key_cmp f.terms) birth p q r old.root o.root old.added old.removed o.added o.removed (tree_at p root) (tree_at q old.root) (tree_at r o.root) first done.becomes.changes in
    let made : graph_of_root f.terms r m.root ≡ operated g op = ap (graph_of_root f.terms r) root_is ∙ done.becomes.graph in
    record {
      grows = grows_twice d e f i.grows grows;
      changes = rw (root_is, added_is, removed_is) both;
      staged = subst (IsStaged f.terms r) (sym root_is) done.becomes.staged;
      graph = ap (λ h. updated h left) made ∙ i.graph;
      added = omega (arith, i.added, done.added, added_is, ap (λ h. inserted_by h left) made);
      removed = omega (arith, i.removed, done.removed, removed_is, ap (λ h. removed_by h left) made);
      few_added = omega (arith, i.few_added, few_in, added_is);
      few_removed = omega (arith, i.few_removed, few_out, removed_is);
    }

-- memory was refused in the next one
pub patching_half :
    (birth : ℕ) (d e f : Numbered) (p q r : Nodes) (root new : Option ℕ) (ops left : List Op) (old : Draft) → Grows e f → Patching birth d e p q root ops left old
    → ChangesSome birth f.terms q r old.root new → ChangesSome birth f.terms p r root new
patching_half birth d e f p q r root new ops left old grows i half =
    let first = change_grown birth e f p q root old.root old.added old.removed grows i.staged i.changes in
    (old.added + half.0, old.removed + half.1, then (key_cmp f.terms) birth p q r old.root new old.added old.removed half.0 half.1 (tree_at p root) (tree_at q old.root) (tree_at r new) first half.2)

-- none is left
pub patching_end : (birth : ℕ) (d e : Numbered) (p q : Nodes) (root : Option ℕ) (ops left : List Op) (m : Draft) → left ≡ [] → Patching birth d e p q root ops left m → Patches birth d.terms e.terms p q root ops m
patching_end birth d e p q root ops left m none i =
    let g = graph_of_root e.terms q m.root in
    record {
      changes = i.changes;
      staged = i.staged;
      graph = sym (ap (updated g) none) ∙ i.graph;
      added = omega (arith, i.added, ap (inserted_by g) none);
      removed = omega (arith, i.removed, ap (removed_by g) none);
    }

-- the terms that what is left inserts are among those that all operations insert
abbrev pub LeavesOnly : List Op → List Op → Type 0
LeavesOnly left ops = (u : Term) → IsInserted left u → IsInserted ops u

-- numbers were given to inserted terms alone, and one more operation gives them to its own
pub only_more : (a b c : Terms) (ops rest : List Op) (op : Op) → LeavesOnly (op ∷ rest) ops → GivesOnly (IsInserted ops) a b → GivesOnly (IsInsertedBy op) b c → GivesOnly (IsInserted ops) a c
only_more a b c ops rest op among first second = only_twice a b c first (λ u is. among u (inl is)) second
