-- The lines of a root from a place on, where two lists of terms say the same of its keys and of the place.
use Rattle.std.proofs.Common.{◌≡◌, ℕ, cond, List, [], ◌∷◌, map, Option, Some, None, refl, ap, ◌∙◌}
use Rattle.gs_term.specs.declared.names.Target.{Target}
use Rattle.gs_term.specs.declared.names.Target.TheVariants.{Default}
use Rattle.gs_pool.specs.declared.nodes.Key.{Key}
use Rattle.gs_pool.specs.Pool.{Nodes}
use Rattle.gs_tree.specs.Keys.{AllKeys}
use Rattle.gs_tree.specs.Reading.{is_less, is_past, keys_from, keys_at}
use Rattle.gs_tree.proofs.KeysAfter.{all_from}
use Rattle.gs_keys.specs.Texts.{Terms, key_cmp, AgreeOn}
use Rattle.gs_keys.specs.Roots.{AgreeOnNodes}
use Rattle.gs_keys.proofs.RootLemmas.{key_cmp_same, triple_same, given_same}
use Rattle.gs_keys.proofs.NodeLemmas.{keys_agree}
use Rattle.gs_lines.specs.Graphs.{line_for, line_in}
use Rattle.gs_lines.specs.Pieces.{keys_left, lines_from, IsCursor}

-- both lists of terms say the same of a place to read from
abbrev pub AgreeOnCursor : Terms → Terms → Option Key → Type 0
AgreeOnCursor terms later None = Unit {0}
AgreeOnCursor terms later (Some k) = AgreeOn terms later k

module _ (terms later : Terms) where
  -- the same keys are past a place
  past_same : (from : Option Key) (k : Key) → AgreeOnCursor terms later from → AgreeOn terms later k → is_past (key_cmp later) from k ≡ is_past (key_cmp terms) from k
  past_same None k f g = refl
  past_same (Some x) k f g = ap is_less (key_cmp_same terms later x k f g)

  -- the same are left after it
  pub keys_from_same : (from : Option Key) (ks : List Key) → AgreeOnCursor terms later from → AllKeys (AgreeOn terms later) ks → keys_from (key_cmp later) from ks ≡ keys_from (key_cmp terms) from ks
  keys_from_same from [] f gs = refl
  keys_from_same from (k ∷ ks) f gs =
      let past = past_same from k f gs.0 in
      let rest = keys_from_same from ks f gs.1 in
      λ i. cond (past i) (k ∷ rest i) (rest i)

  -- keys have the lines that they had
  pub lines_in_same : (graph : Target) (ks : List Key) → AllKeys (AgreeOn terms later) ks → map (line_in later graph) ks ≡ map (line_in terms graph) ks
  lines_in_same graph [] gs = refl
  lines_in_same graph (k ∷ ks) gs =
      let triple = triple_same terms later k gs.0 in
      let rest = lines_in_same graph ks gs.1 in
      λ i. line_for graph (triple i) ∷ rest i

  -- so have those that are left after a place
  pub quads_same : (graph : Target) (from : Option Key) (ks : List Key) → AgreeOnCursor terms later from → AllKeys (AgreeOn terms later) ks
      → map (line_in later graph) (keys_from (key_cmp later) from ks) ≡ map (line_in terms graph) (keys_from (key_cmp terms) from ks)
  quads_same graph from ks f gs =
      ap (map (line_in later graph)) (keys_from_same from ks f gs)
      ∙ lines_in_same graph (keys_from (key_cmp terms) from ks) (all_from (key_cmp terms) (AgreeOn terms later) from ks gs)

  -- the numbers of a place have terms where they had
  pub cursor_same : (from : Option Key) → AgreeOnCursor terms later from → IsCursor terms from → IsCursor later from
  cursor_same None f h = tt
  cursor_same (Some k) f h = given_same terms later k h f

module _ (terms later : Terms) (p : Nodes) (nodes : AgreeOnNodes terms later p) (root : Option ℕ) (from : Option Key) (f : AgreeOnCursor terms later from) where
  -- the keys of a root that are left after a place are the same
  pub keys_left_same : keys_left later p root from ≡ keys_left terms p root from
  keys_left_same = keys_from_same terms later from (keys_at p root) f (keys_agree terms later p nodes root)

  -- and so are their lines
  pub lines_from_same : lines_from later p root from ≡ lines_from terms p root from
  lines_from_same = quads_same terms later Default from (keys_at p root) f (keys_agree terms later p nodes root)
