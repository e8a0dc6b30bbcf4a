-- How the ends of a commit carry every ledger.
use Rattle.std.proofs.Common.{◌≡◌, ℕ, ◌+◌, ◌∷◌, ◌++◌, get_or, Option, None, sym, ap, subst}
use Rattle.gs_pool.specs.Pool.{Nodes, KeepsNodes}
use Rattle.gs_tree.specs.Tree.{tree_at}
use Rattle.gs_versions.specs.Pins.{Pins, at_commit}
use Rattle.gs_ledger.specs.Entries.{died_whole}
use Rattle.gs_ledger.specs.Marks.{dead_at}
use Rattle.gs_ledger.specs.Ledger.{IsLedger}
use Rattle.gs_ledger.specs.Changes.{Buries, RetiresRoot, RetiresAside, aside_dead}
use Rattle.gs_ledger.proofs.PutSteps.{put_ledger, cancel_ledger}
use Rattle.gs_ledger.proofs.WriteSteps.{post_ledger}
use Rattle.gs_ledger.proofs.Wasting.{put_joins, cancel_joins, post_joins}
use Rattle.gs_ledger.proofs.Marked.{ledger_of_marks}
use Rattle.gs_ledger.proofs.Retiring.{none_aside}
use Rattle.gs_reclaim.specs.Reclaims.{CanRetireRoot}
use Rattle.gs_changes.specs.Endings.{Retires}
use Rattle.gs_commit.specs.Commits.{HandsOverAll, DropsAll, KeepsDraftAll}
use Rattle.gs_commit.proofs.RootLemmas.{root_buried}

-- a graph's tree was retired with the number of the commit
pub handed_over : (v w : Pins) (p q : Nodes) (root : Option ℕ) (death : ℕ) → CanRetireRoot p root → RetiresRoot p q root death → death ≡ v.commit + 1 → w ≡ at_commit v (v.commit + 1) → HandsOverAll v w p q root
handed_over v w p q root death can h is at new gs us rs l =
    let old = tree_at p root in
    let c = v.commit in
    let b : Buries p q (died_whole (c + 1) old) = root_buried p v (old ∷ gs) (new ∷ us) rs (dead_at p) l q root (c + 1) can (subst (RetiresRoot p q root) is h) in
    record {
      ledger = subst (λ u. IsLedger q u (new ∷ gs) us rs (dead_at q)) (sym at) (ledger_of_marks q (at_commit v (c + 1)) (new ∷ gs) us rs (died_whole (c + 1) old ++ dead_at p) (put_ledger p q v old new gs us rs (dead_at p) l b));
      waste = put_joins p q v old new gs us rs (dead_at p) l b;
    }

-- an upload's tree was retired with death 0
pub dropped : (p q : Nodes) (root : Option ℕ) (death : ℕ) → CanRetireRoot p root → RetiresRoot p q root death → death ≡ 0 → DropsAll p q root
dropped p q root death can h is v gs us rs l =
    let old = tree_at p root in
    let b : Buries p q (died_whole 0 old) = root_buried p v gs (old ∷ us) rs (dead_at p) l q root 0 can (subst (RetiresRoot p q root) is h) in
    record {
      ledger = ledger_of_marks q v gs us rs (died_whole 0 old ++ dead_at p) (cancel_ledger p q v old gs us rs (dead_at p) l b);
      waste = cancel_joins p q v old gs us rs (dead_at p) l b;
    }

retires_nodes : (death : ℕ) (p q : Nodes) → Retires death p q → KeepsNodes p q
retires_nodes death p q h x = ap (λ ns. get_or ns x None) h.nodes

retires_aside : (death : ℕ) (p q : Nodes) → Retires death p q → RetiresAside p q death
retires_aside death p q h = record { nodes = retires_nodes death p q h; marks = h.marks }

-- what a draft replaced was retired with the number of the commit
pub kept_draft : (v w : Pins) (q r : Nodes) (death : ℕ) → Retires death q r → death ≡ v.commit + 1 → w ≡ at_commit v (v.commit + 1) → KeepsDraftAll v w q r
kept_draft v w q r death h is at p old new gs us rs none l s tree =
    let c = v.commit in
    let u : Pins = at_commit v (c + 1) in
    let aside_dies : RetiresAside q r (c + 1) = retires_aside (c + 1) q r (subst (λ d. Retires d q r) is h) in
    let none_was = none_aside p none in
    let here : IsLedger r u (new ∷ gs) us rs (dead_at r) = ledger_of_marks r u (new ∷ gs) us rs (aside_dead (c + 1) q ++ dead_at p) (post_ledger p q r v (c + 1) old new gs us rs (dead_at p) l none_was s tree aside_dies) in
    record {
      ledger = subst (λ k. IsLedger r k (new ∷ gs) us rs (dead_at r)) (sym at) here;
      waste = post_joins p q r v (c + 1) old new gs us rs (dead_at p) l none_was s tree aside_dies;
    }
