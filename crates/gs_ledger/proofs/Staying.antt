-- What stays, and what goes, where a dead node that no version needs is freed.
use Rattle.std.proofs.Common.{◌≡◌, ℕ, ◌+◌, List, [], ◌∷◌, ◌++◌, length, get_or, refl, sym, subst, ◌∙◌, arith}
use Rattle.std.proofs.lemmas.List.Sums.{sum_by-cons, sum_by-append}
use Rattle.std.specs.List.{All, sum_by}
use Rattle.gs_pool.specs.Pool.{Nodes}
use Rattle.gs_tree.specs.Tree.{Tree, leaf, fork, Stands}
use Rattle.gs_tree.proofs.TreeLemmas.{tree_at-is}
use Rattle.gs_versions.specs.Pins.{Pins, IsNeeded}
use Rattle.gs_event.specs.Waste.{Lifetime}
use Rattle.gs_ledger.specs.Entries.{Dead, died_whole, sides_of, tree_lives, entry_lives, lives}
use Rattle.gs_ledger.specs.Marks.{waste_at}
use Rattle.gs_ledger.specs.Ledger.{IsReadAt, IsLedger}
use Rattle.gs_ledger.specs.Changes.{FreesTop}
use Rattle.gs_ledger.specs.Laws.{IsUnchangedTree, NeededStay, MayGo}
use Rattle.gs_ledger.proofs.FreeSteps.{free_ledger}
use Rattle.gs_ledger.proofs.Counts.{in_use_is, waste_is}

-- a tree that stands in both pools is unchanged
unchanged : (p q : Nodes) (t : Tree) → Stands p t → Stands q t → IsUnchangedTree p q t
unchanged p q t sp sq = record { stands = sq; means = tree_at-is q t sq ∙ sym (tree_at-is p t sp) }

-- the lifetimes of the sides of a dead node
pub whole_sum : (f : Lifetime → ℕ) (death : ℕ) (t : Tree) → sum_by f (lives (died_whole death t)) ≡ sum_by f (tree_lives death t)
whole_sum f death leaf = refl
whole_sum f death (fork id birth l k r) =
    let d : Dead = record { id = id; birth = birth; death = death; whole = Rattle.std.specs.Prelude.true; left = l; right = r } in
    omega (arith, sum_by-append f (entry_lives d) [])

pub lives_append : (f : Lifetime → ℕ) (cs ds : List Dead) → sum_by f (lives (cs ++ ds)) ≡ sum_by f (lives cs) + sum_by f (lives ds)
lives_append f [] ds = omega arith
lives_append f (c ∷ cs) ds = omega (arith, sum_by-append f (entry_lives c) (lives (cs ++ ds)), sum_by-append f (entry_lives c) (lives cs), lives_append f cs ds)

-- a dead node's lifetimes are its own and those of its sides
sides_sum : (f : Lifetime → ℕ) (d : Dead) (ds : List Dead) → sum_by f (lives (sides_of d ++ ds)) + f (record { birth = d.birth; death = d.death }) ≡ sum_by f (lives (d ∷ ds))
sides_sum f d ds =
    let cl = died_whole d.death d.left in
    let cr = died_whole d.death d.right in
    let ll = tree_lives d.death d.left in
    let lr = tree_lives d.death d.right in
    omega (
      arith,
      lives_append f (sides_of d) ds,
      lives_append f cl cr,
      whole_sum f d.death d.left,
      whole_sum f d.death d.right,
      sum_by-append f (entry_lives d) (lives ds),
      sum_by-cons f (record { birth = d.birth; death = d.death }) (ll ++ lr),
      sum_by-append f ll lr,
    )

module _ (p q : Nodes) (v : Pins) (gs us : List Tree) (rs : List (List Tree)) (d : Dead) (ds : List Dead) (l : IsLedger p v gs us rs (d ∷ ds)) (f : FreesTop p q d) (unneeded : IsNeeded v d.birth d.death → ⊥) where
  now : IsLedger q v gs us rs (sides_of d ++ ds)
  now = free_ledger p q v gs us rs d ds l f unneeded

  -- What a version needs stays.
  pub needed_stay : NeededStay p q v gs us rs
  needed_stay = record {
    current = λ k t h. unchanged p q (get_or gs k t) (l.current k t h).stands (now.current k t h).stands;
    staged = λ k t h. unchanged p q (get_or us k t) (l.staged k t h).stands (now.staged k t h).stands;
    read = λ s w e.
        let was = subst (λ o. IsReadAt p v.commit gs (d ∷ ds) o (get_or rs s [])) e (l.read s) in
        let is = subst (λ o. IsReadAt q v.commit gs (sides_of d ++ ds) o (get_or rs s [])) e (now.read s) in
        λ k t h. unchanged p q (get_or (get_or rs s []) k t) (was.1 k t h).tree.stands (is.1 k t h).tree.stands;
  }

  -- What no version needs goes.
  pub may_go : MayGo p q v gs us rs d ds
  may_go =
      let sum : (g : Lifetime → ℕ) → sum_by g (waste_at q) + g (record { birth = d.birth; death = d.death }) ≡ sum_by g (waste_at p) =
      λ g. omega (arith, waste_is q v gs us rs (sides_of d ++ ds) now g, waste_is p v gs us rs (d ∷ ds) l g, sides_sum g d ds) in
      record {
        ledger = now;
        fewer = omega (arith, in_use_is p v gs us rs (d ∷ ds) l, in_use_is q v gs us rs (sides_of d ++ ds) now, ones (lives (sides_of d ++ ds)), ones (lives (d ∷ ds)), sides_sum (λ m. 1) d ds);
        waste = sum;
      }
    where
      ones : (ls : List Lifetime) → sum_by (λ m. 1) ls ≡ length ls
      ones ls = Rattle.gs_ledger.proofs.Counts.length_sum ls
