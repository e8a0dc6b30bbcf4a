-- What a sweep of unmarked numbers leaves as it was, and what holds of all keys of a tree.
use Rattle.std.proofs.Common.{◌≡◌, ℕ, zero, suc, ◌+◌, Bool, true, false, not, ◌&&◌, List, [], ◌∷◌, ◌++◌, length, Option, Some, None, refl, ap, sym, ◌∙◌, inl, inr, arith}
use Rattle.std.specs.Prelude.{nat_le, nat_lt, if◌then◌else◌}
use Rattle.std.proofs.Math.Bool.{and-false}
use Rattle.std.proofs.lemmas.Bool.{cases_lt}
use Rattle.std.proofs.lemmas.List.{get_or_past}
use Rattle.gs_model.specs.Terms.{Term}
use Rattle.gs_dict.specs.Numbering.{Numbered, term_given}
use Rattle.gs_dict.specs.Sweeping.{is_marked, is_swept, Sweeps}
use Rattle.gs_pool.specs.declared.nodes.Key.{Key}
use Rattle.gs_pool.specs.declared.nodes.Node.{Node}
use Rattle.gs_pool.specs.Pool.{Nodes, node_at}
use Rattle.gs_tree.specs.Keys.{AllKeys}
use Rattle.gs_tree.specs.Tree.{Tree, keys, grow_node, grow_root, grow, tree_at, height_at}
use Rattle.gs_tree.specs.Reading.{keys_at}
use Rattle.gs_keys.specs.Texts.{AgreeOn}
use Rattle.gs_keys.specs.Marks.{IsMarkedWithin, IsMarkedKey}

-- a number that is marked is not swept
marked_stays : (marks : List Bool) (from count n : ℕ) → is_marked marks n ≡ true → is_swept marks from count n ≡ false
marked_stays marks from count n h =
    ap (λ b. nat_le from n && (nat_lt n (from + count) && not b)) h
    ∙ ap (λ b. nat_le from n && b) (and-false (nat_lt n (from + count)))
    ∙ and-false (nat_le from n)

-- where there is no term, a sweep leaves none
none_stays : (b : Bool) (o : Option Term) → o ≡ None → (if b then None else o) ≡ None
none_stays true o h = refl
none_stays false o h = h

module _ (marks : List Bool) (from count : ℕ) (d e : Numbered) (all : length marks ≡ length d.terms) (sweeps : Sweeps marks from count d e) where
  -- a number that is marked, or past the marks, has the same term after a sweep, or none as before
  marked_same : (n : ℕ) → IsMarkedWithin marks n → term_given e.terms n ≡ term_given d.terms n
  marked_same n h = elim (cases_lt n (length marks)) [
    | inl below ↦ sweeps.terms n ∙ ap (λ b. if b then None else term_given d.terms n) (marked_stays marks from count n (h below))
    | inr past ↦ past_same (get_or_past d.terms n None (omega (arith, all)))
  ]
    where
      past_same : term_given d.terms n ≡ None → term_given e.terms n ≡ term_given d.terms n
      past_same none = sweeps.terms n ∙ none_stays (is_swept marks from count n) (term_given d.terms n) none ∙ sym none

  -- a key that is marked says after a sweep what it said
  pub marked_agree : (k : Key) → IsMarkedKey marks k → AgreeOn d.terms e.terms k
  marked_agree k h = record {
    subject = marked_same k.subject h.subject;
    predicate = marked_same k.predicate h.predicate;
    object = marked_same k.object h.object;
  }

-- what holds of the keys on both sides of one, and of that one, holds of all
all_around : (P : Key → Type 0) (l : List Key) (k : Key) (r : List Key) → AllKeys P l → P k → AllKeys P r → AllKeys P (l ++ k ∷ r)
all_around P [] k r hl h hr = (h, hr)
all_around P (x ∷ l) k r hl h hr = (hl.0, all_around P l k r hl.1 h hr)

module _ (p : Nodes) (P : Key → Type 0) (held : (id : ℕ) (node : Node) → node_at p id ≡ Some node → P node.key) where
  -- what holds of the key of each node in use holds of a tree whose top is such a node, if it holds of the sides
  node_keys : (below : Option ℕ → Tree) → ((root : Option ℕ) → AllKeys P (keys (below root))) → (id : ℕ) (o : Option Node) → node_at p id ≡ o → AllKeys P (keys (grow_node below id o))
  node_keys below sides id None e = tt
  node_keys below sides id (Some node) e = all_around P (keys (below node.left)) node.key (keys (below node.right)) (sides node.left) (held id node e) (sides node.right)

  -- the same, of a root
  root_keys : (below : Option ℕ → Tree) → ((root : Option ℕ) → AllKeys P (keys (below root))) → (root : Option ℕ) → AllKeys P (keys (grow_root p below root))
  root_keys below sides None = tt
  root_keys below sides (Some id) = node_keys below sides id (node_at p id) refl

  -- so it holds of what is grown to any depth
  grown_keys : (depth : ℕ) (root : Option ℕ) → AllKeys P (keys (grow depth p root))
  grown_keys zero root = tt
  grown_keys (suc depth) root = root_keys (grow depth p) (grown_keys depth) root

  -- and of the tree that a root means
  pub tree_keys_in_use : (root : Option ℕ) → AllKeys P (keys (tree_at p root))
  tree_keys_in_use root = grown_keys (height_at p root) root

  -- which are the keys that it means
  pub keys_in_use : (root : Option ℕ) → AllKeys P (keys_at p root)
  keys_in_use root = tree_keys_in_use root
