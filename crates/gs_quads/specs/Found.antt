-- Keys of several graphs, as they are found. No public clause cites this module.
use Rattle.std.specs.Prelude.{◌≡◌, ℕ, ◌≤◌, ◌<◌, true, List, [], ◌∷◌, ◌++◌, length, map, take, drop, Option, Some, None, IfSome}
use Rattle.std.specs.List.{All, concat, filter, sum_by}
use Rattle.gs_pool.specs.declared.nodes.Key.{Key}
use Rattle.gs_tree.specs.Keys.{AllKeys}
use Rattle.gs_keys.specs.Texts.{IsGiven}
use Rattle.gs_keys.specs.Roots.{IsGraphAt}
use Rattle.gs_index.specs.Indexes.{is_listed, after_number, numbers_after}
use Rattle.gs_records.specs.Records.{Recorded, record_at, is_kept}
use Rattle.gs_records.specs.Order.{has_number}
use Rattle.gs_quads.specs.declared.runs.Run.{Run}
use Rattle.gs_quads.specs.declared.runs.Source.{Source}
use Rattle.gs_quads.specs.declared.runs.Found.{Found}
use Rattle.gs_quads.specs.Places.{Place, root_at, as_places, record_places, all_places, own_places, quad_at}
use Rattle.gs_quads.specs.Pieces.{AreGraphs, IsQuadPlace}

-- the places of keys, as many for each run as it says
abbrev pub run_places : List Run → List Key → List Place
run_places [] ks = []
run_places (r ∷ runs) ks = as_places r.number (take r.keys ks) ++ run_places runs (drop r.keys ks)

-- the bytes of the lines at places, one after another
abbrev pub bytes_at : Source → List Place → List ℕ
bytes_at s xs = concat (map (quad_at s.dict.now.terms s.records.now.records) xs)

-- the places of a record above a key, or all
abbrev pub one_graph : Source → Option Key → ℕ → List Place
one_graph s from n = record_places s.dict.now.terms s.pool.now s.records.now.records from n

-- all places of some records
abbrev pub all_graphs : Source → List ℕ → List Place
all_graphs s ns = all_places s.dict.now.terms s.pool.now s.records.now.records ns

-- the places after one in its own record, and none where none is given
abbrev pub own_graph : Source → Option Place → List Place
own_graph s from = own_places s.dict.now.terms s.pool.now s.records.now.records from

-- version v can be read
abbrev pub AreReadable : Source → ℕ → Type 0
AreReadable s v = AreGraphs s.dict.now.terms s.pool.now v s.records.now.records

-- a place of version v
abbrev pub IsQuadPlaceOf : Source → ℕ → Option Place → Type 0
IsQuadPlaceOf s v from = IsQuadPlace s.dict.now.terms v s.records.now.records from

-- the last of these places, and the one given where there is none
abbrev pub last_or : Option Place → List Place → Option Place
last_or o [] = o
last_or o (x ∷ xs) = last_or (Some x) xs

-- how many keys runs have
abbrev pub run_keys : List Run → ℕ
run_keys runs = sum_by (λ r. r.keys) runs

-- a run is of a record
abbrev pub IsRecordRun : Source → Run → Type 0
IsRecordRun s r = is_kept (record_at s.records.now.records r.number) ≡ true

-- the numbers of keys have terms
abbrev pub KeysAreGiven : Source → List Key → Type 0
KeysAreGiven s ks = AllKeys (IsGiven s.dict.now.terms) ks

-- the places that were found
abbrev pub places_found : Found → List Place
places_found f = run_places f.runs.items f.keys.items

-- the runs have exactly the keys, which are not too many; each run is of a record, and the numbers of the keys have terms
pub record AreFound (s : Source) (most : ℕ) (f : Found) : Type 0 where
  pub whole : run_keys f.runs.items ≡ length f.keys.items
  pub kept : All (IsRecordRun s) f.runs.items
  pub given : KeysAreGiven s f.keys.items
  pub few : length f.keys.items ≤ most

-- of these places so many are found as there is room for
pub record FindsMore (s : Source) (most : ℕ) (old new : Found) (more : List Place) : Type 0 where
  pub found : AreFound s most new
  pub places : places_found new ≡ take most (places_found old ++ more)

-- a number whose record is the version of a graph
pub record IsGraphOf (s : Source) (n : ℕ) : Type 0 where
  pub kept : is_kept (record_at s.records.now.records n) ≡ true
  pub graph : IsGraphAt s.dict.now.terms s.pool.now (root_at s.records.now.records n)

-- the numbers that version v has after the one given, and all where none is
abbrev pub numbers_past : ℕ → Recorded → Option ℕ → List ℕ
numbers_past v r from = filter (has_number v r.records) (numbers_after from r.listed)

-- those where a walk goes on, and none where it ends
abbrev pub numbers_on : ℕ → Recorded → Option ℕ → List ℕ
numbers_on v r None = []
numbers_on v r (Some n) = filter (has_number v r.records) (after_number n r.listed)

-- a walk goes on after a listed number that is farther on
abbrev pub GoesFarther : List ℕ → Option ℕ → Option ℕ → Type 0
GoesFarther listed from on =
    IfSome on (λ n. (is_listed n listed ≡ true) × (length (after_number n listed) < length (numbers_after from listed)))

-- the next numbers that version v has, and where to go on
pub record AreNext (v : ℕ) (r : Recorded) (from : Option ℕ) (numbers : List ℕ) (on : Option ℕ) : Type 0 where
  pub first : numbers_past v r from ≡ numbers ++ numbers_on v r on
  pub had : All (λ n. has_number v r.records n ≡ true) numbers
  pub farther : GoesFarther r.listed from on
