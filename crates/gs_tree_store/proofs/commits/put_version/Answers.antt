use Rattle.std.proofs.Common.{◌∷◌, refl, sym, ap, subst, arith}
use Rattle.gs_tree.specs.Tree.{tree_at}
use Rattle.gs_catalogue.specs.declared.versions.GraphVersion.{GraphVersion}
use Rattle.gs_versions.specs.Pins.{Pins}
use Rattle.gs_ledger.specs.Marks.{dead_at}
use Rattle.gs_reclaim.specs.Reclaims.{CanRetireRoot}
use Rattle.gs_tree_store.specs.declared.books.Books.{Books}
use Rattle.gs_tree_store.specs.Books.{graphs_of}
use Rattle.gs_tree_store.proofs.CommitLemmas.{version_found, target_retirable, tree_ended, put_made}
use Rattle.gs_tree_store.proofs.commits.put_version.Goals as goal

pub end_tree-requires-clause-root : goal.end_tree-requires-clause-root
end_tree-requires-clause-root c =
    let b = c.args.books.now in
    let u = c.requires.upload in
    subst (λ (v : GraphVersion). CanRetireRoot b.pool v.root) (sym (version_found b c.args.target c.args.found c.or_empty-old.result c.or_empty-old.ensures c.requires.found))
    (target_retirable b.dict.terms b.pool (graphs_of b) c.args.target c.requires.sound.versions b.versions (tree_at b.pool c.args.upload.root ∷ u.uploads) u.reads (dead_at b.pool) u.ledger)

pub put-requires-clause-later : goal.put-requires-clause-later
put-requires-clause-later c = omega (arith, c.commit-number.ensures, ap (λ (v : Pins). v.commit) c.end_tree.ensures.commit, c.requires.sound.latest)

pub returns : goal.returns
returns c =
    let b = c.args.books.now in
    let t = c.args.target in
    let ended = c.end_tree.ensures in
    let put = c.put.ensures in
    let new : Books = record b { pool = c.end_tree.new.pool; versions = c.end_tree.new.versions; records = c.put.new.self; default_write = c.by_target-books.result } in
    let ends = tree_ended b t c.or_empty-old.result new.pool new.versions new.records new.default_write b.last_delete (version_found b t c.args.found c.or_empty-old.result c.or_empty-old.ensures c.requires.found) ended.commit ended.nodes ended.aside ended.ledgers in
    put_made b new c.args.opened t c.args.upload c.commit-number.result ends put c.commit-number.ensures c.by_target-books.ensures refl c.requires.opened c.requires.sound c.requires.upload.version c.requires.number
