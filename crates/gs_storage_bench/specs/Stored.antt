-- A graph that is filled: a root that means a set of keys whose numbers have terms.
use Rattle.std.specs.Prelude.{ℕ, List, Option}
use Rattle.gs_dict.specs.Numbering.{Numbered}
use Rattle.gs_pool.specs.declared.nodes.Key.{Key}
use Rattle.gs_pool.specs.Pool.{Nodes}
use Rattle.gs_tree.specs.Keys.{AllKeys, IsRising}
use Rattle.gs_tree.specs.Reading.{keys_at}
use Rattle.gs_tree.specs.Sets.{IsSetAt}
use Rattle.gs_keys.specs.Texts.{Terms, KeepTerms, key_cmp, IsGiven}

-- a root means a set in the order of texts, whose numbers all have terms
pub record IsStoredSet (terms : Terms) (p : Nodes) (root : Option ℕ) : Type 0 where
  pub set : IsSetAt (key_cmp terms) p root
  pub given : AllKeys (IsGiven terms) (keys_at p root)

-- a dictionary keeps the terms that it has
abbrev pub GrowsByTerms : Numbered → Numbered → Type 0
GrowsByTerms d e = KeepTerms d.terms e.terms

-- keys may be united with a set
pub record MayUnite (terms : Terms) (keys : List Key) : Type 0 where
  pub rising : IsRising (key_cmp terms) keys
  pub given : AllKeys (IsGiven terms) keys
