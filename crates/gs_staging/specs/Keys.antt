-- Triples by number: dictionaries that grow, the keys of a list of triples, and the same keys as a run.
use Rattle.std.specs.Prelude.{◌≡◌, ◌⊎◌, ◌&&◌, ◌==◌, ℕ, Bool, List, map, slice_get, Some}
use Rattle.gs_model.specs.Terms.{Term}
use Rattle.gs_model.specs.Triples.{RdfTriple}
use Rattle.gs_model.specs.Graphs.{graph_of}
use Rattle.gs_dict.specs.Numbering.{Numbered, IsNumberOf}
use Rattle.gs_pool.specs.declared.nodes.Key.{Key}
use Rattle.gs_tree.specs.Keys.{AllKeys, IsRising}
use Rattle.gs_keys.specs.Texts.{Terms, KeepTerms, triple_at, key_cmp, IsGiven}

-- a dictionary keeps the terms that it has, and its last number
pub record Grows (old new : Numbered) : Type 0 where
  pub terms : KeepTerms old.terms new.terms
  pub last : new.last ≡ old.last

-- it is a term of this triple
abbrev pub IsTermOf : RdfTriple → Term → Type 0
IsTermOf t u = (u ≡ t.subject) ⊎ (u ≡ t.predicate) ⊎ (u ≡ t.object)

-- it is a term of one of these triples
pub record IsTermIn (ts : List RdfTriple) (u : Term) : Type 0 where
  pub place : ℕ
  pub triple : RdfTriple
  pub there : slice_get ts place ≡ Some triple
  pub term : IsTermOf triple u

-- numbers were given to such terms alone
abbrev pub GivesOnly : (Term → Type 0) → Terms → Terms → Type 0
GivesOnly P old new = (n : ℕ) (u : Term) → IsNumberOf new n u → IsNumberOf old n u ⊎ P u

-- the key has the numbers of the triple's terms
pub record IsKeyOf (terms : Terms) (t : RdfTriple) (k : Key) : Type 0 where
  pub subject : IsNumberOf terms k.subject t.subject
  pub predicate : IsNumberOf terms k.predicate t.predicate
  pub object : IsNumberOf terms k.object t.object

-- these are the keys of the triples, one after the other
pub record AreKeysOf (terms : Terms) (ts : List RdfTriple) (ks : List Key) : Type 0 where
  pub said : map (triple_at terms) ks ≡ ts
  pub given : AllKeys (IsGiven terms) ks

-- whether two keys have the same numbers
abbrev pub is_same : Key → Key → Bool
is_same a b = (a.subject == b.subject) && ((a.predicate == b.predicate) && (a.object == b.object))

-- the run rises, and has the triples of these keys
pub record IsRunOf (terms : Terms) (ks run : List Key) : Type 0 where
  pub rising : IsRising (key_cmp terms) run
  pub given : AllKeys (IsGiven terms) run
  pub graph : graph_of (map (triple_at terms) run) ≡ graph_of (map (triple_at terms) ks)

-- the run rises, and has the triples of this list
pub record IsRunOfTriples (terms : Terms) (ts : List RdfTriple) (run : List Key) : Type 0 where
  pub rising : IsRising (key_cmp terms) run
  pub given : AllKeys (IsGiven terms) run
  pub graph : graph_of (map (triple_at terms) run) ≡ graph_of ts
