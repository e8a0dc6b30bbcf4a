-- What keeps a ledger besides the end of a commit, and where a ledger begins.
use Rattle.std.proofs.Common.{◌≡◌, ◌⊎◌, ◌↔◌, ℕ, suc, ◌+◌, List, [], ◌∷◌, length, get_or, None, refl, sym, ap, subst, ◌∙◌, inl, inr, arith}
use Rattle.std.proofs.lemmas.Bool.{cases_lt}
use Rattle.std.proofs.lemmas.List.{get_or_past}
use Rattle.std.proofs.lemmas.List.Elements.{All-cons, All-nil, All-head, All-tail, Contains-get_or}
use Rattle.std.proofs.lemmas.List.Sums.{sum_by-cons}
use Rattle.std.specs.List.{All, Contains}
use Rattle.gs_pool.specs.Pool.{Nodes, plain, node_at, mark_at}
use Rattle.gs_tree.specs.Tree.{Tree, leaf, occurrences}
use Rattle.gs_tree.specs.Steps.{plain_mark, Step}
use Rattle.gs_versions.specs.Pins.{Pins}
use Rattle.gs_ledger.specs.Entries.{Dead, trees_have, lives}
use Rattle.gs_ledger.specs.Marks.{death_of, dead_below, dead_at}
use Rattle.gs_ledger.specs.Ledger.{IsTreeOf, IsDead, IsReadAt, IsLedger}
use Rattle.gs_ledger.specs.Changes.{AreSameTrees, AreSameDead}
use Rattle.gs_ledger.proofs.Sums.{trees_cons}
use Rattle.gs_ledger.proofs.Frames.{used_none, tree_leaf}
use Rattle.gs_ledger.proofs.Orders.{reorder_ledger}
use Rattle.gs_ledger.proofs.Marked.{same_trees, ledger_of_marks}
use Rattle.gs_ledger.proofs.WriteSteps.{stage_ledger}
use Rattle.gs_reclaim.proofs.Reclaiming.{same_ledgers}
use Rattle.gs_changes.specs.Endings.{Restores}
use Rattle.gs_commit.specs.Laws.{IsSamePool, GrowsUpload}
use Rattle.gs_commit.proofs.DeadLemmas.{tree_at_same, dead_at_same, dead_at_said}

-- what was taken back
pub restored_same : (p q : Nodes) → Restores p q → IsSamePool p q
restored_same p q h =
    let dead = dead_at_same p q h.nodes h.marks in
    record {
      ledgers = λ v. same_ledgers v p q h.nodes (λ x. ap death_of (h.marks x));
      dead = dead;
      waste = ap lives dead;
      roots = tree_at_same p q h.nodes;
    }

-- an upload that grew in place
pub upload_grows : (p q : Nodes) (v : Pins) (birth : ℕ) (old new : Tree) (gs us : List Tree) (rs : List (List Tree)) → IsLedger p v gs (old ∷ us) rs (dead_at p) → Step 0 birth p q (occurrences old) (occurrences new) → IsTreeOf q (v.commit + 1) new → GrowsUpload v p q new gs us rs
upload_grows p q v birth old new gs us rs l s tree =
    let next : IsLedger q v gs (new ∷ us) rs (dead_at p) = stage_ledger p q v birth old new gs us rs (dead_at p) l s tree in
    let dead = dead_at_said p q v gs (new ∷ us) rs next in
    record { ledger = ledger_of_marks q v gs (new ∷ us) rs (dead_at p) next; dead = dead; waste = ap lives dead }

-- leaves have no number
leaves_have : (ts : List Tree) (x : ℕ) → All (λ t. t ≡ leaf) ts → trees_have ts x ≡ 0
leaves_have [] x a = refl
leaves_have (t ∷ ts) x a = omega (arith, trees_cons t ts x, ap (λ u. occurrences u x) (All-head (λ u. u ≡ leaf) t ts a), leaves_have ts x (All-tail (λ u. u ≡ leaf) t ts a))

-- a pool without a node
pub empty_ledger : (p : Nodes) (v : Pins) (gs us : List Tree) (rs : List (List Tree)) → p.nodes ≡ [] → p.marks ≡ [] → All (λ t. t ≡ leaf) gs → All (λ t. t ≡ leaf) us → All (λ pin. pin ≡ None) v.seats → IsLedger p v gs us rs []
empty_ledger p v gs us rs nodes marks current staged pins = record {
  once = λ x. omega (arith, leaves_have gs x current, leaves_have us x staged, used_none p x (no_node x));
  marks = λ x. omega (arith, ap plain_mark (no_mark x));
  current = λ k d h. subst (IsTreeOf p v.commit) (sym (current k d h)) (tree_leaf p v.commit);
  staged = λ k d h. subst (IsTreeOf p (v.commit + 1)) (sym (staged k d h)) (tree_leaf p (v.commit + 1));
  waste = All-nil (IsDead p v.commit);
  read = λ s. subst (λ pin. IsReadAt p v.commit gs [] pin (get_or rs s [])) (sym (no_pin s)) tt;
}
  where
    no_node : (x : ℕ) → node_at p x ≡ None
    no_node x = ap (λ ns. get_or ns x None) nodes ∙ get_or_past [] x None (omega arith)

    no_mark : (x : ℕ) → mark_at p x ≡ plain
    no_mark x = ap (λ ms. get_or ms x plain) marks ∙ get_or_past [] x plain (omega arith)

    no_pin : (s : ℕ) → get_or v.seats s None ≡ None
    no_pin s = elim (cases_lt s (length v.seats)) [
      | inl inside ↦ pins s None inside
      | inr past ↦ get_or_past v.seats s None past
    ]

pub empty_dead : (p : Nodes) → p.nodes ≡ [] → dead_at p ≡ []
empty_dead p nodes = ap (λ (ns : List _). dead_below (length ns) p) nodes

-- a leaf more among trees
leaf_more : (ts : List Tree) → AreSameTrees ts (leaf ∷ ts)
leaf_more ts = record {
  sums = λ f none. omega (arith, none, sum_by-cons f leaf ts);
  each = All-cons (λ t. (t ≡ leaf) ⊎ Contains ts t) leaf ts (inl refl) (λ k d h. inr (Contains-get_or ts k d h));
}

leaf_less : (ts : List Tree) → AreSameTrees (leaf ∷ ts) ts
leaf_less ts = record {
  sums = λ f none. omega (arith, none, sum_by-cons f leaf ts);
  each = λ k d h. inr (let c = Contains-get_or ts k d h in (suc c.0, omega (arith, c.1), c.2));
}

same_dead : (ds : List Dead) → AreSameDead ds ds
same_dead ds = record { sums = λ f. refl; each = λ k d h. Contains-get_or ds k d h }

pub leaf_upload : (p : Nodes) (v : Pins) (gs us : List Tree) (rs : List (List Tree)) (ds : List Dead) → IsLedger p v gs us rs ds ↔ IsLedger p v gs (leaf ∷ us) rs ds
leaf_upload p v gs us rs ds = (
  reorder_ledger p v gs gs us (leaf ∷ us) rs ds ds (same_trees gs) (leaf_more us) (same_dead ds),
  reorder_ledger p v gs gs (leaf ∷ us) us rs ds ds (same_trees gs) (leaf_less us) (same_dead ds),
)
