use Rattle.std.proofs.Common.{Some, None, sym, ap, ◌∙◌, subst}
use Rattle.std.proofs.lemmas.Option.{slice_get-get_or}
use Rattle.gs_plain.specs.Books.{dataset_of}
use Rattle.gs_plain.specs.Newest.{NewestRow}
use Rattle.gs_plain.proofs.PostLemmas.{copied_so, united_so, united_size}
use Rattle.gs_plain.proofs.writes.posted.Goals as goal

pub returns-in-None-clause-value : goal.returns-in-None-clause-value
returns-in-None-clause-value c =
    let found = subst (λ rows. NewestRow rows c.args.target.now None) c.as_slice.ensures.value c.in-None.ensures in
    copied_so (dataset_of c.args.books.now.rows.items) c.args.target.now c.args.upload.now c.copied.result found.graph c.copied.ensures

pub returns-in-Some-clause-value : goal.returns-in-Some-clause-value
returns-in-Some-clause-value c =
    let found = subst (λ rows. NewestRow rows c.args.target.now (Some c.in-Some.i)) c.as_slice.ensures.value c.in-Some.ensures in
    united_so c.args.books.now.rows.items c.args.target.now c.in-Some.i c.index.result.now c.args.upload.now c.united.result found (slice_get-get_or c.args.books.now.rows.items c.in-Some.i c.index.result.now found.within ∙ ap Some (sym c.index.ensures)) c.united.ensures.value

pub returns-in-Some-clause-size : goal.returns-in-Some-clause-size
returns-in-Some-clause-size c =
    let found = subst (λ rows. NewestRow rows c.args.target.now (Some c.in-Some.i)) c.as_slice.ensures.value c.in-Some.ensures in
    united_size c.args.books.now.rows.items c.args.target.now c.in-Some.i c.index.result.now c.args.upload.now c.united.result found (slice_get-get_or c.args.books.now.rows.items c.in-Some.i c.index.result.now found.within ∙ ap Some (sym c.index.ensures)) c.united.ensures.size
