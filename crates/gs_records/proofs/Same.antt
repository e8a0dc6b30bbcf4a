-- When two lists of records have the same versions.
use Rattle.std.proofs.Common.{◌≡◌, ◌≢◌, ℕ, Bool, List, Some, sym, ap, ◌∙◌, inl, inr}
use Rattle.gs_term.specs.declared.names.Target.{Target}
use Rattle.gs_catalogue.specs.declared.versions.GraphVersion.{GraphVersion}
use Rattle.gs_catalogue.specs.Catalogues.{no_versions, version_at, with_version}
use Rattle.gs_index.specs.declared.entries.Entry.{Entry}
use Rattle.gs_records.specs.Records.{Record, kept, record_at}
use Rattle.gs_records.specs.Graphs.{graphs_where, without_version}
use Rattle.gs_records.proofs.Found.{Found, Looked, has, lacks, looked, same_kept, same_versions, cases_target, version_at-with, version_at-with_other, version_at-without, version_at-without_other}

-- at most one record of each graph passes the test
abbrev pub AreOnce : (Entry → Bool) → List Record → Type 0
AreOnce test rs = (t : Target) (f g : Found test rs t) → f.number ≡ g.number

pub same_entry : (rs : List Record) (m n : ℕ) (e f : Entry) → record_at rs m ≡ kept e → record_at rs n ≡ kept f → m ≡ n → e ≡ f
same_entry rs m n e f p q s = same_kept e f (sym p ∙ ap (record_at rs) s ∙ q)

-- the target's version is that of the record that is found
pub version_found : (test : Entry → Bool) (rs : List Record) (t : Target) → AreOnce test rs → (f : Found test rs t) → version_at (graphs_where test rs) t ≡ Some f.entry.version
version_found test rs t once f = go (looked test rs t)
  where
    go : Looked test rs t → version_at (graphs_where test rs) t ≡ Some f.entry.version
    go (has g e) = e ∙ ap (λ (x : Entry). Some x.version) (same_entry rs g.number f.number g.entry f.entry g.at f.at (once t g f))
    go (lacks none e) = absurd (none f)

-- where none is found, the target has none
pub version_lacking : (test : Entry → Bool) (rs : List Record) (t : Target) → (Found test rs t → ⊥) → version_at (graphs_where test rs) t ≡ version_at no_versions t
version_lacking test rs t not = go (looked test rs t)
  where
    go : Looked test rs t → version_at (graphs_where test rs) t ≡ version_at no_versions t
    go (has g e) = absurd (not g)
    go (lacks none e) = e

-- what is found in one list is found in the other, with the same version and the same birth
pub record Agrees (p q : Entry → Bool) (rs ss : List Record) (t : Target) : Type 0 where
  pub there : (f : Found p rs t) → (g : Found q ss t) × (g.entry.version ≡ f.entry.version) × (g.entry.birth ≡ f.entry.birth)
  pub back : Found q ss t → Found p rs t

pub version_agrees : (p q : Entry → Bool) (rs ss : List Record) (t : Target) → AreOnce q ss → Agrees p q rs ss t → version_at (graphs_where p rs) t ≡ version_at (graphs_where q ss) t
version_agrees p q rs ss t once a = go (looked p rs t)
  where
    go : Looked p rs t → version_at (graphs_where p rs) t ≡ version_at (graphs_where q ss) t
    go (has f e) = let g = a.there f in e ∙ ap Some (sym g.1) ∙ sym (version_found q ss t once g.0)
    go (lacks none e) = e ∙ sym (version_lacking q ss t (λ g. none (a.back g)))

-- where that is so for each target, all versions are the same
pub graphs_agree : (p q : Entry → Bool) (rs ss : List Record) → AreOnce q ss → ((t : Target) → Agrees p q rs ss t) → graphs_where p rs ≡ graphs_where q ss
graphs_agree p q rs ss once a = same_versions _ _ (λ t. version_agrees p q rs ss t once (a t))

-- where it is so for each target but one, whose version is another
pub graphs_with : (p q : Entry → Bool) (rs ss : List Record) (t : Target) (v : GraphVersion) → AreOnce q ss → version_at (graphs_where p rs) t ≡ Some v → ((u : Target) → u ≢ t → Agrees p q rs ss u) → graphs_where p rs ≡ with_version (graphs_where q ss) t v
graphs_with p q rs ss t v once here a = same_versions _ _ (λ u. elim (cases_target u t) [
  | inl same ↦ ap (version_at (graphs_where p rs)) same ∙ here ∙ sym (version_at-with (graphs_where q ss) t v) ∙ ap (version_at (with_version (graphs_where q ss) t v)) (sym same)
  | inr other ↦ version_agrees p q rs ss u once (a u other) ∙ sym (version_at-with_other (graphs_where q ss) u t v other)
])

-- where the target has none
pub graphs_without : (p q : Entry → Bool) (rs ss : List Record) (t : Target) → AreOnce q ss → (Found p rs t → ⊥) → ((u : Target) → u ≢ t → Agrees p q rs ss u) → graphs_where p rs ≡ without_version (graphs_where q ss) t
graphs_without p q rs ss t once none a = same_versions _ _ (λ u. elim (cases_target u t) [
  | inl same ↦ ap (version_at (graphs_where p rs)) same ∙ version_lacking p rs t none ∙ sym (version_at-without (graphs_where q ss) t) ∙ ap (version_at (without_version (graphs_where q ss) t)) (sym same)
  | inr other ↦ version_agrees p q rs ss u once (a u other) ∙ sym (version_at-without_other (graphs_where q ss) u t other)
])
