-- What the calls do to the records.
use Rattle.std.specs.Prelude.{◌≡◌, ◌≢◌, ℕ, ◌+◌, ◌<◌, ◌≤◌, length, Bool, true, false, ◌&&◌, nat_eq, is_none, if◌then◌else◌, List, [], ◌∷◌, ◌++◌, MatchOption, Option, Some, None}
use Rattle.std.specs.List.{All, sum_by}
use Rattle.gs_term.specs.declared.names.Target.{Target}
use Rattle.gs_term.specs.declared.names.Target.TheVariants.{Default, Named}
use Rattle.gs_event.specs.Waste.{Lifetime}
use Rattle.gs_event.specs.Wasting.{EndsAt}
use Rattle.gs_catalogue.specs.declared.versions.GraphVersion.{GraphVersion}
use Rattle.gs_catalogue.specs.Catalogues.{version_at, with_version}
use Rattle.gs_index.specs.declared.entries.Entry.{Entry}
use Rattle.gs_records.specs.Records.{Record, free, opened, unused, kept, Recorded, record_at, is_of, is_current, ended, Turns, Ends}
use Rattle.gs_records.specs.Graphs.{graphs_at, current, without_version}
use Rattle.gs_records.specs.Births.{Births, births_of, birth_at, with_birth, without_birth}
use Rattle.gs_records.specs.Waste.{lifetimes, waste_in, open_count, used_count}
use Rattle.gs_records.specs.Kept.{HasNoCurrent}

-- the waste is what it was, and these lifetimes; its order means nothing
abbrev pub Gains : List Lifetime → List Lifetime → List Lifetime → Type 0
Gains old new more = (f : Lifetime → ℕ) → sum_by f new ≡ sum_by f old + sum_by f more

-- the lifetime that ends where the version of the graph does
abbrev pub ending : Target → ℕ → Record → List Lifetime
ending t death free = []
ending t death opened = []
ending t death unused = []
ending t death (kept e) = if is_of t e && is_current e then record { birth = e.birth; death = death } ∷ [] else []

-- those that end in all records
abbrev pub endings : Target → ℕ → List Record → List Lifetime
endings t death [] = []
endings t death (r ∷ rs) = ending t death r ++ endings t death rs

-- whether this is the version of an empty default graph, of which no record is kept
abbrev pub is_nothing : Target → GraphVersion → Bool
is_nothing Default v = is_none v.root && nat_eq v.triples 0
is_nothing (Named name) v = false

-- how many records there are of a graph's version: none where the graph is missing, or is an empty default graph
abbrev pub records_for : Target → Option GraphVersion → ℕ
records_for t None = 0
records_for t (Some v) = if is_nothing t v then 0 else 1

-- what ends at this commit is the current record of the graph, where there is one, which a commit before it made
pub record EndsCurrent (rs : List Record) (t : Target) (commit : ℕ) : Type 0 where
  pub few : length (endings t commit rs) ≤ records_for t (version_at (current rs) t)
  pub ended : All (EndsAt commit) (endings t commit rs)
  pub made : All (λ l. birth_at (births_of rs) t ≡ Some l.birth) (endings t commit rs)

-- as many numbers are in use, and as many records are open
pub record KeepsCounts (old new : List Record) : Type 0 where
  pub used : used_count new ≡ used_count old
  pub opens : open_count new ≡ open_count old

-- as many numbers are in use, and one record less is open
pub record UsesOne (old new : List Record) : Type 0 where
  pub used : used_count new ≡ used_count old
  pub opens : open_count new + 1 ≡ open_count old

-- the versions that the dataset had, and has, and the births of the current ones
pub record KeepsGraphs (old new : List Record) : Type 0 where
  pub versions : (v : ℕ) → graphs_at v new ≡ graphs_at v old
  pub now : current new ≡ current old
  pub births : births_of new ≡ births_of old

-- A number that was free, and is below the limit, is open; no version of the dataset is another.
pub record Opens (old new : Recorded) (n : ℕ) : Type 0 where
  pub below : n < new.limit
  pub was : record_at old.records n ≡ free
  pub turns : Turns old.records new.records n opened
  pub graphs : KeepsGraphs old.records new.records
  pub waste : waste_in new.records ≡ waste_in old.records
  pub used : used_count new.records ≡ used_count old.records + 1
  pub opens : open_count new.records ≡ open_count old.records + 1
  pub listed : new.listed ≡ old.listed
  pub latest : new.latest ≡ old.latest
  pub limit : new.limit ≡ old.limit

-- An open record is given up; no version of the dataset is another.
pub record GivesUp (old new : Recorded) (n : ℕ) : Type 0 where
  pub turns : Turns old.records new.records n unused
  pub graphs : KeepsGraphs old.records new.records
  pub waste : Gains (waste_in old.records) (waste_in new.records) (lifetimes unused)
  pub counts : UsesOne old.records new.records
  pub listed : new.listed ≡ old.listed
  pub latest : new.latest ≡ old.latest
  pub limit : new.limit ≡ old.limit

-- The version of a graph ended at this commit: earlier versions of the dataset have it, and it has none now.
pub record RemovesVersion (old new : Recorded) (t : Target) (commit : ℕ) : Type 0 where
  pub ends : Ends old.records new.records t commit
  pub versions : (v : ℕ) → v < commit → graphs_at v new.records ≡ graphs_at v old.records
  pub now : current new.records ≡ without_version (current old.records) t
  pub births : births_of new.records ≡ without_birth (births_of old.records) t
  pub none : HasNoCurrent new.records t
  pub waste : Gains (waste_in old.records) (waste_in new.records) (endings t commit old.records)
  pub last : EndsCurrent old.records t commit
  pub counts : KeepsCounts old.records new.records
  pub listed : new.listed ≡ old.listed
  pub latest : new.latest ≡ commit
  pub limit : new.limit ≡ old.limit

-- a graph's record, made by this commit
abbrev pub made_record : Target → GraphVersion → ℕ → Record
made_record t v commit = kept (record { target = t; version = v; birth = commit; death = None })

-- what a number stands for once its version is committed
abbrev pub placed : Target → GraphVersion → ℕ → Record
placed t v commit = if is_nothing t v then unused else made_record t v commit

-- An open record is that of a graph, made by the last commit; earlier versions of the dataset do not have it.
pub record Places (old new : Recorded) (n : ℕ) (t : Target) (v : GraphVersion) : Type 0 where
  pub turns : Turns old.records new.records n (made_record t v old.latest)
  pub versions : (w : ℕ) → w < old.latest → graphs_at w new.records ≡ graphs_at w old.records
  pub now : current new.records ≡ with_version (current old.records) t v
  pub births : births_of new.records ≡ with_birth (births_of old.records) t old.latest
  pub waste : Gains (waste_in old.records) (waste_in new.records) []
  pub counts : UsesOne old.records new.records
  pub latest : new.latest ≡ old.latest
  pub limit : new.limit ≡ old.limit

-- the births once the target's graph has this version, by this commit
abbrev pub births_with : Births → Target → GraphVersion → ℕ → Births
births_with b t v commit = if is_nothing t v then without_birth b t else with_birth b t commit

-- An open record is that of a graph, whose version until now ended at this commit: earlier versions of the dataset are as before, and
-- the graph has this version now, and no other graph changed.
pub record MakesCurrent (old new : Recorded) (n : ℕ) (t : Target) (v : GraphVersion) (commit : ℕ) : Type 0 where
  pub turned : record_at new.records n ≡ placed t v commit
  pub others : (m : ℕ) → m ≢ n → record_at new.records m ≡ ended t commit (record_at old.records m)
  pub versions : (w : ℕ) → w < commit → graphs_at w new.records ≡ graphs_at w old.records
  pub now : current new.records ≡ with_version (current old.records) t v
  pub births : births_of new.records ≡ births_with (births_of old.records) t v commit
  pub waste : Gains (waste_in old.records) (waste_in new.records) (endings t commit old.records ++ lifetimes (placed t v commit))
  pub last : EndsCurrent old.records t commit
  pub counts : UsesOne old.records new.records
  pub latest : new.latest ≡ commit
  pub limit : new.limit ≡ old.limit

-- this number is that of a record of the graph that has not died, and no other number is
pub record IsCurrentOf (rs : List Record) (t : Target) (n : ℕ) : Type 0 where
  pub entry : Entry
  pub at : record_at rs n ≡ kept entry
  pub same : entry.target ≡ t
  pub lives : entry.death ≡ None
  pub only : (m : ℕ) (e : Entry) → record_at rs m ≡ kept e → e.target ≡ t → is_current e ≡ true → m ≡ n

-- the number named is that of the graph's current record, and where none is named there is none
abbrev pub FindsCurrent : List Record → Target → Option ℕ → Type 0
FindsCurrent rs t found = MatchOption found (HasNoCurrent rs t) (IsCurrentOf rs t)
