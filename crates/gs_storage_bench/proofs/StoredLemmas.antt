-- A graph that is filled: dictionaries that keep their terms, and keys that are united.
use Rattle.std.proofs.Common.{ℕ, List, Option, None, Result, sym, subst}
use Rattle.gs_model.specs.Terms.{Term}
use Rattle.gs_model.specs.declared.refusals.Refusal.{Refusal}
use Rattle.gs_dict.specs.declared.numbers.TermId.{TermId}
use Rattle.gs_dict.specs.Numbering.{Numbered, Interns}
use Rattle.gs_dict.proofs.NumberLemmas.{keep_same, keep_both, interns_keeps}
use Rattle.gs_pool.specs.declared.nodes.Key.{Key}
use Rattle.gs_pool.specs.Pool.{Nodes}
use Rattle.gs_tree.specs.declared.unions.Merged.{Merged}
use Rattle.gs_tree.specs.Keys.{AllKeys}
use Rattle.gs_tree.specs.Reading.{IsReadableAt, keys_at}
use Rattle.gs_tree.specs.Sets.{UnitesAt}
use Rattle.gs_tree.proofs.ReadingLemmas.{empty_set, set_readable}
use Rattle.gs_keys.specs.Texts.{Terms, key_cmp, IsGiven}
use Rattle.gs_keys.proofs.RootLemmas.{graph_kept, set_graph, all_merge}
use Rattle.gs_storage_bench.specs.Stored.{IsStoredSet, GrowsByTerms}

-- a dictionary that stays keeps its terms
pub grows_same : (d : Numbered) → GrowsByTerms d d
grows_same d = keep_same d.terms

-- one that keeps them twice keeps them
pub grows_then : (d e f : Numbered) → GrowsByTerms d e → GrowsByTerms e f → GrowsByTerms d f
grows_then d e f g h = keep_both d.terms e.terms f.terms g h

-- a term that is given its number leaves the others theirs, whatever the answer
pub grows_by : (d e : Numbered) (t : Term) (r : Result TermId Refusal) → Interns d t r e → GrowsByTerms d e
grows_by d e t r h = interns_keeps d e t r h

-- nothing is stored yet
pub stored_none : (terms : Terms) (p : Nodes) → IsStoredSet terms p None
stored_none terms p = record { set = empty_set (key_cmp terms) p; given = tt }

-- what is stored can be read
pub stored_readable : (terms : Terms) (p : Nodes) (root : Option ℕ) → IsStoredSet terms p root → IsReadableAt (key_cmp terms) p root
stored_readable terms p root h = set_readable (key_cmp terms) p root h.set

-- what is stored stays so where the dictionary keeps its terms
pub stored_kept : (d e : Numbered) (p : Nodes) (root : Option ℕ) → GrowsByTerms d e → IsStoredSet d.terms p root → IsStoredSet e.terms p root
stored_kept d e p root g h =
    let k = (graph_kept d.terms e.terms g p root (set_graph d.terms p root h.set h.given)).graph in
    record {
      set = record { root_is = h.set.root_is; stands = h.set.stands; balanced = h.set.balanced; rising = k.set.rising; apart = h.set.apart };
      given = k.given;
    }

-- and as a run of keys is united with it
pub stored_union : (terms : Terms) (since birth : ℕ) (p q : Nodes) (root : Option ℕ) (run : List Key) (m : Merged) → IsStoredSet terms p root → AllKeys (IsGiven terms) run → UnitesAt (key_cmp terms) since birth p q root run m → IsStoredSet terms q m.root
stored_union terms since birth p q root run m h given u = record {
  set = u.set;
  given = subst (AllKeys (IsGiven terms)) (sym u.keys_are) (all_merge (key_cmp terms) (IsGiven terms) run (keys_at p root) given h.given);
}
