use Rattle.std.proofs.Common.{◌≡◌, ◌+◌, sym, ap, subst, ◌∙◌, arith}
use Rattle.gs_event.specs.Conditions.{with_delete}
use Rattle.gs_catalogue.specs.declared.versions.GraphVersion.{GraphVersion}
use Rattle.gs_versions.specs.Pins.{Pins}
use Rattle.gs_ledger.specs.Marks.{dead_at}
use Rattle.gs_reclaim.specs.Reclaims.{CanRetireRoot}
use Rattle.gs_tree_store.specs.declared.books.Books.{Books}
use Rattle.gs_tree_store.specs.Books.{graphs_of}
use Rattle.gs_tree_store.specs.LastWrites.{last_writes_of}
use Rattle.gs_tree_store.proofs.WrittenLemmas.{delete_writes, delete_written}
use Rattle.gs_tree_store.proofs.RecordLemmas.{removal_wastes}
use Rattle.gs_tree_store.proofs.OpenedLemmas.{end_same, all_removed}
use Rattle.gs_tree_store.proofs.CommitLemmas.{version_found, target_retirable, tree_ended, removed}
use Rattle.gs_tree_store.proofs.commits.remove_version.Goals as goal

pub end_tree-requires-clause-root : goal.end_tree-requires-clause-root
end_tree-requires-clause-root c =
    let b = c.args.books.now in
    let l = c.requires.ledger in
    subst (λ (v : GraphVersion). CanRetireRoot b.pool v.root) (sym (version_found b c.args.target.now c.args.found c.or_empty-old.result c.or_empty-old.ensures c.requires.found))
    (target_retirable b.dict.terms b.pool (graphs_of b) c.args.target.now c.requires.sound.versions b.versions l.uploads l.reads (dead_at b.pool) l.ledger)

pub remove-requires : goal.remove-requires
remove-requires c = omega (arith, c.commit-commit.ensures, ap (λ (v : Pins). v.commit) c.end_tree.ensures.commit, c.requires.sound.latest)

pub returns : goal.returns
returns c =
    let b = c.args.books.now in
    let t = c.args.target.now in
    let ended = c.end_tree.ensures in
    let gone = c.remove.ensures in
    let new : Books = record b { pool = c.end_tree.new.pool; versions = c.end_tree.new.versions; records = c.remove.new.self; default_write = c.by_target-books.result; last_delete = c.by_target-books-2.result } in
    let ends = tree_ended b t c.or_empty-old.result new.pool new.versions new.records new.default_write new.last_delete (version_found b t c.args.found c.or_empty-old.result c.or_empty-old.ensures c.requires.found) ended.commit ended.nodes ended.aside ended.ledgers in
    let last = c.commit-commit.ensures in
    let next : c.commit-commit.result ≡ b.versions.commit + 1 = last ∙ ap (λ (v : Pins). v.commit) ended.commit in
    let writes = delete_writes b new c.commit-commit.result t gone.births c.by_target-books.ensures c.by_target-books-2.ensures ∙ ap (λ n. with_delete (last_writes_of b) n t) next in
    let wastes = removal_wastes b new.records t c.commit-commit.result next gone c.requires.sound in
    removed b new (record { latest = gone.latest ∙ last; numbers = gone.limit ∙ c.requires.sound.numbers; written = delete_written b new c.commit-commit.result t gone.births c.by_target-books.ensures c.requires.sound.written }) (end_same b new t c.commit-commit.result gone.ends) (all_removed b new t c.commit-commit.result (omega (arith, next)) gone) gone.counts c.requires.sound c.requires.number t writes wastes ends gone.now
