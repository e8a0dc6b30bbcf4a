-- Keys and their lines, one after another, and among later terms.
use Rattle.std.proofs.Common.{◌≡◌, Bool, true, false, cond, List, [], ◌∷◌, map, Option, Some, None, refl, ap}
use Rattle.gs_term.specs.declared.names.Target.{Target}
use Rattle.gs_term.specs.declared.names.Target.TheVariants.{Default}
use Rattle.gs_pool.specs.declared.nodes.Key.{Key}
use Rattle.gs_tree.specs.Keys.{AllKeys}
use Rattle.gs_tree.specs.Reading.{is_less, is_past, keys_from}
use Rattle.gs_keys.specs.Texts.{Terms, KeepTerms, triple_at, key_cmp, IsGiven}
use Rattle.gs_keys.proofs.RootLemmas.{key_cmp_kept, triple_kept}
use Rattle.gs_lines.specs.Graphs.{line_for, line_in}
use Rattle.gs_lines.specs.Pieces.{line_at, IsCursor}

-- the lines of keys are those of their triples
pub lines_of_triples : (terms : Terms) (graph : Target) (ks : List Key) → map (line_in terms graph) ks ≡ map (line_for graph) (map (triple_at terms) ks)
lines_of_triples terms graph [] = refl
lines_of_triples terms graph (k ∷ ks) = ap (λ xs. line_in terms graph k ∷ xs) (lines_of_triples terms graph ks)

module _ (terms later : Terms) (keep : KeepTerms terms later) where
  -- the same keys are past a place
  past_kept : (from : Option Key) (k : Key) → IsCursor terms from → IsGiven terms k → is_past (key_cmp later) from k ≡ is_past (key_cmp terms) from k
  past_kept None k f g = refl
  past_kept (Some x) k f g = ap is_less (key_cmp_kept terms later keep x k f g)

  -- the lines in a graph, of keys above one, are those that they were
  pub quads_kept : (graph : Target) (from : Option Key) (ks : List Key) → IsCursor terms from → AllKeys (IsGiven terms) ks → map (line_in later graph) (keys_from (key_cmp later) from ks) ≡ map (line_in terms graph) (keys_from (key_cmp terms) from ks)
  quads_kept graph from [] f g = refl
  quads_kept graph from (k ∷ ks) f g = by_test (is_past (key_cmp later) from k) (is_past (key_cmp terms) from k) (past_kept from k f g.0) (ap (line_for graph) (triple_kept terms later keep k g.0)) (quads_kept graph from ks f g.1)
    where
      by_test : (b c : Bool) → b ≡ c → line_in later graph k ≡ line_in terms graph k → map (line_in later graph) (keys_from (key_cmp later) from ks) ≡ map (line_in terms graph) (keys_from (key_cmp terms) from ks)
          → map (line_in later graph) (cond b (k ∷ keys_from (key_cmp later) from ks) (keys_from (key_cmp later) from ks)) ≡ map (line_in terms graph) (cond c (k ∷ keys_from (key_cmp terms) from ks) (keys_from (key_cmp terms) from ks))
      by_test true true e line rest = λ i. line i ∷ rest i
      by_test false false e line rest = rest
      by_test true false e line rest = absurd (cc)
      by_test false true e line rest = absurd (cc)

  -- the same of the lines of a root's graph
  pub lines_kept : (from : Option Key) (ks : List Key) → IsCursor terms from → AllKeys (IsGiven terms) ks → map (line_at later) (keys_from (key_cmp later) from ks) ≡ map (line_at terms) (keys_from (key_cmp terms) from ks)
  lines_kept = quads_kept Default
