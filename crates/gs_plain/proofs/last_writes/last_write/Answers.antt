use Rattle.std.proofs.Common.{Some, None, sym, ap, ◌∙◌, subst}
use Rattle.std.proofs.lemmas.Option.{slice_get-get_or}
use Rattle.gs_plain.specs.Newest.{NewestRow}
use Rattle.gs_plain.proofs.LastWriteLemmas.{write_found, write_missing}
use Rattle.gs_plain.proofs.last_writes.last_write.Goals as goal

pub returns-in-None : goal.returns-in-None
returns-in-None c =
    let found = subst (λ rows. NewestRow rows c.args.target.now None) c.as_slice.ensures.value c.in-None.ensures in
    write_missing c.args.books.now c.args.target.now c.in-Named.field-0 c.in-Named.is found

pub returns-in-Some : goal.returns-in-Some
returns-in-Some c =
    let found = subst (λ rows. NewestRow rows c.args.target.now (Some c.in-Some.i)) c.as_slice.ensures.value c.in-Some.ensures in
    let at = slice_get-get_or c.args.books.now.rows.items c.in-Some.i c.index.result.now found.within ∙ ap Some (sym c.index.ensures) in
    write_found c.args.books.now c.args.target.now c.in-Named.field-0 c.in-Some.i c.index.result.now c.in-Named.is found at
