use Rattle.std.proofs.Common.{◌≡◌, true, false, string_bytes, sym, arith, ap, ◌∙◌}
use Rattle.gs_term.specs.declared.names.Target.TheVariants.{Named}
use Rattle.gs_event.specs.Datasets.{is_there}
use Rattle.gs_event.specs.Names.{made_name, first_free}
use Rattle.gs_plain.specs.Books.{dataset_of}
use Rattle.gs_made_names.proofs.NameLemmas.{free_more, free_here, free_end, named_so}
use Rattle.gs_plain.proofs.names.new_name.Goals as goal

pub loop-number-init : goal.loop-number-init
loop-number-init c = ap (λ n. first_free (dataset_of c.args.books.now.rows.items) (string_bytes c.args.books.now.base) c.args.request n 0) (omega arith)

pub loop-number-preserved : goal.loop-number-preserved
loop-number-preserved c =
    let books = c.args.books.now in
    let name = c.in_ok-made_name.ensures ∙ ap (λ b. made_name b c.args.request c.loop-number.number) c.as_str-base.ensures.value in
    let there : is_there (dataset_of books.rows.items) (Named (made_name (string_bytes books.base) c.args.request c.loop-number.number)) ≡ true =
    sym (ap (λ n. is_there (dataset_of books.rows.items) (Named n)) name) ∙ sym (ap (λ rows. is_there (dataset_of rows) (Named c.in_ok-made_name.field-0)) c.as_slice.ensures.value) ∙ sym c.if-not-is_there.ensures in
    c.loop-number.invariant ∙ free_more (dataset_of books.rows.items) (string_bytes books.base) c.args.request books.names c.loop-number.number c.loop-number-test.true there

pub returns-then-not-is_there : goal.returns-then-not-is_there
returns-then-not-is_there c =
    let books = c.args.books.now in
    let name = c.in_ok-made_name.ensures ∙ ap (λ b. made_name b c.args.request c.loop-number.number) c.as_str-base.ensures.value in
    let free : is_there (dataset_of books.rows.items) (Named (made_name (string_bytes books.base) c.args.request c.loop-number.number)) ≡ false =
    sym (ap (λ n. is_there (dataset_of books.rows.items) (Named n)) name) ∙ sym (ap (λ rows. is_there (dataset_of rows) (Named c.in_ok-made_name.field-0)) c.as_slice.ensures.value) ∙ sym c.if-not-is_there.ensures in
    let first = c.loop-number.invariant ∙ free_here (dataset_of books.rows.items) (string_bytes books.base) c.args.request books.names c.loop-number.number c.loop-number-test.true free in
    named_so (dataset_of books.rows.items) c.as_str-base.result.now (string_bytes books.base) c.args.request books.names c.loop-number.number c.made_name-then-not-is_there.result c.as_str-base.ensures.value c.requires.names first c.made_name-then-not-is_there.ensures

pub returns : goal.returns
returns c =
    let books = c.args.books.now in
    let last = c.loop-number.invariant ∙ free_end (dataset_of books.rows.items) (string_bytes books.base) c.args.request books.names c.loop-number.number c.loop-number-test.false in
    let number : c.loop-number.number ≡ books.names = omega arith in
    named_so (dataset_of books.rows.items) c.as_str-base.result.now (string_bytes books.base) c.args.request books.names books.names c.made_name-2.result c.as_str-base.ensures.value c.requires.names (last ∙ number) c.made_name-2.ensures
