use Rattle.std.proofs.Common.{◌≡◌, ◌<◌, ◌≤◌, true, false, string_bytes, sym, arith, ap, ◌∙◌}
use Rattle.gs_term.specs.declared.names.Target.TheVariants.{Named}
use Rattle.gs_catalogue.specs.Catalogues.{name_count}
use Rattle.gs_event.specs.Datasets.{is_there}
use Rattle.gs_event.specs.Names.{made_name, first_free}
use Rattle.gs_datasets.proofs.Sizes.{names_in-is}
use Rattle.gs_tree_store.specs.Books.{graphs_of, dataset_of}
use Rattle.gs_made_names.proofs.NameLemmas.{free_more, free_here, free_end, named_so}
use Rattle.gs_tree_store.proofs.names.new_name.Goals as goal

pub loop-number-init : goal.loop-number-init
loop-number-init c = ap (λ n. first_free (dataset_of c.args.books.now) (string_bytes c.args.books.now.base) c.args.request n 0) (omega arith)

pub loop-number-preserved : goal.loop-number-preserved
loop-number-preserved c =
    let b = c.args.books.now in
    let names = name_count (graphs_of b) in
    let m = dataset_of b in
    let name = c.in_ok-made_name.ensures ∙ ap (λ x. made_name x c.args.request c.loop-number.number) c.as_str-base.ensures.value in
    let there : is_there m (Named (made_name (string_bytes b.base) c.args.request c.loop-number.number)) ≡ true =
    sym (ap (λ n. is_there m (Named n)) name) ∙ sym c.if-not-is_there.ensures in
    let left : c.loop-number.number < names = omega (arith, c.loop-number-test.true, c.names-number-end.ensures) in
    c.loop-number.invariant ∙ free_more m (string_bytes b.base) c.args.request names c.loop-number.number left there

pub returns-then-not-is_there : goal.returns-then-not-is_there
returns-then-not-is_there c =
    let b = c.args.books.now in
    let names = name_count (graphs_of b) in
    let m = dataset_of b in
    let name = c.in_ok-made_name.ensures ∙ ap (λ x. made_name x c.args.request c.loop-number.number) c.as_str-base.ensures.value in
    let free : is_there m (Named (made_name (string_bytes b.base) c.args.request c.loop-number.number)) ≡ false =
    sym (ap (λ n. is_there m (Named n)) name) ∙ sym c.if-not-is_there.ensures in
    let left : c.loop-number.number < names = omega (arith, c.loop-number-test.true, c.names-number-end.ensures) in
    let first = c.loop-number.invariant ∙ free_here m (string_bytes b.base) c.args.request names c.loop-number.number left free in
    named_so m c.as_str-base.result.now (string_bytes b.base) c.args.request names c.loop-number.number c.made_name-then-not-is_there.result c.as_str-base.ensures.value
    (sym (names_in-is b.dict.terms b.pool (graphs_of b))) first c.made_name-then-not-is_there.ensures

pub returns : goal.returns
returns c =
    let b = c.args.books.now in
    let names = name_count (graphs_of b) in
    let m = dataset_of b in
    let past : names ≤ c.loop-number.number = omega (arith, c.loop-number-test.false, c.names-number-end.ensures) in
    let last = c.loop-number.invariant ∙ free_end m (string_bytes b.base) c.args.request names c.loop-number.number past in
    let number : c.loop-number.number ≡ c.names.result = omega (arith, c.names-number-end.ensures, c.names.ensures) in
    named_so m c.as_str-base.result.now (string_bytes b.base) c.args.request names c.names.result c.made_name-2.result c.as_str-base.ensures.value
    (sym (names_in-is b.dict.terms b.pool (graphs_of b))) (last ∙ number) c.made_name-2.ensures
