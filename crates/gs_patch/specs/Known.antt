-- Triples by number, where their terms have numbers. No public clause cites this module.
use Rattle.std.specs.Prelude.{◌≡◌, ◌⊎◌, ◌<◌, ℕ, List, map, length, slice_index_or, Option, Some, None}
use Rattle.gs_model.specs.Terms.{Term}
use Rattle.gs_model.specs.Triples.{RdfTriple}
use Rattle.gs_event.specs.Solutions.{is_among}
use Rattle.gs_dict.specs.declared.numbers.TermId.{TermId}
use Rattle.gs_dict.specs.Numbering.{IsNew, LooksUp}
use Rattle.gs_triple_lists.specs.declared.lists.TripleNumbers.{TripleNumbers}
use Rattle.gs_triple_lists.specs.Kept.{term_of_number}
use Rattle.gs_pool.specs.declared.nodes.Key.{Key}
use Rattle.gs_tree.specs.Keys.{AllKeys}
use Rattle.gs_keys.specs.Texts.{Terms, triple_at, IsGiven}

-- a term of the triple has no number
abbrev pub IsUnknown : Terms → RdfTriple → Type 0
IsUnknown terms t = IsNew terms t.subject ⊎ IsNew terms t.predicate ⊎ IsNew terms t.object

-- what was found for the term of a place
abbrev pub found_at : List (Option TermId) → ℕ → Option TermId
found_at ids n = slice_index_or ids n None

-- for each term of a list stands its number, where it has one
pub record AreFound (terms : Terms) (us : List Term) (ids : List (Option TermId)) : Type 0 where
  pub count : length ids ≡ length us
  pub each : (n : ℕ) → n < length us → LooksUp terms (term_of_number us n) (found_at ids n)

-- each of three numbers has a place in the list
pub record HasPlaces (ids : List (Option TermId)) (k : TripleNumbers) : Type 0 where
  pub subject : k.subject < length ids
  pub predicate : k.predicate < length ids
  pub object : k.object < length ids

-- no number stands at one of the three places
abbrev pub IsMissing : List (Option TermId) → TripleNumbers → Type 0
IsMissing ids k = (found_at ids k.subject ≡ None) ⊎ (found_at ids k.predicate ≡ None) ⊎ (found_at ids k.object ≡ None)

-- the numbers of the key stand at the three places
pub record IsFound (ids : List (Option TermId)) (k : TripleNumbers) (key : Key) : Type 0 where
  pub subject : found_at ids k.subject ≡ Some (record { number = key.subject })
  pub predicate : found_at ids k.predicate ≡ Some (record { number = key.predicate })
  pub object : found_at ids k.object ≡ Some (record { number = key.object })

-- the triple of a key is among those of these keys exactly where it is among the triples
pub record AreKnown (terms : Terms) (ts : List RdfTriple) (ks : List Key) : Type 0 where
  pub given : AllKeys (IsGiven terms) ks
  pub among : (k : Key) → IsGiven terms k → is_among (map (triple_at terms) ks) (triple_at terms k) ≡ is_among ts (triple_at terms k)
