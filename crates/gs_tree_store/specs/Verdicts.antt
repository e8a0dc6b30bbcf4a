-- What a verdict asks of the books, and what it decides. No public clause cites this module.
use Rattle.std.specs.Prelude.{ℕ, List, string_bytes, Option, is_some}
use Rattle.std.specs.Option.{unwrap_or}
use Rattle.gs_term.specs.declared.names.Target.{Target}
use Rattle.gs_event.specs.declared.verdicts.Change.{Change}
use Rattle.gs_event.specs.declared.verdicts.Place.{Place}
use Rattle.gs_event.specs.declared.verdicts.Verdict.{Verdict}
use Rattle.gs_event.specs.Names.{new_name}
use Rattle.gs_event.specs.Verdicts.{is_named, holdings_of, place_in, verdict_of, DecidesStore}
use Rattle.gs_keys.specs.Roots.{graph_of_root}
use Rattle.gs_catalogue.specs.declared.versions.GraphVersion.{GraphVersion}
use Rattle.gs_catalogue.specs.Catalogues.{empty_version}
use Rattle.gs_tree_store.specs.declared.books.Books.{Books}
use Rattle.gs_tree_store.specs.Books.{books_setting, dataset_of, IsSound}
use Rattle.gs_tree_store.specs.Writes.{HasAny}

-- the counts of the books are those of its dataset: each version's is right, and all are nodes in use
pub record HasCounts (b : Books) : Type 0 where
  pub sound : IsSound b
  pub ledger : HasAny b

-- a target whose graph has this version, or is missing
abbrev pub place_by : Target → Option GraphVersion → Place
place_by t found = record { is_name = is_named t; is_there = is_some found; triples = (unwrap_or found empty_version).triples }

-- what becomes of a write that changes its target so
abbrev pub verdict_by : Books → Target → Change → Verdict
verdict_by b t x = verdict_of (holdings_of (books_setting b) (dataset_of b) b.versions.commit) (place_in (dataset_of b) t) x

-- this becomes of a write that makes the upload its target's graph, and may create it
abbrev pub DecidesUpload : Books → Target → GraphVersion → Verdict → Type 0
DecidesUpload b t v verdict = DecidesStore (books_setting b) (dataset_of b) b.versions.commit t (graph_of_root b.dict.terms b.pool v.root) verdict

-- the name that is made up for the request of this number
abbrev pub name_for : Books → ℕ → List ℕ
name_for b request = new_name (string_bytes b.base) (dataset_of b) request
