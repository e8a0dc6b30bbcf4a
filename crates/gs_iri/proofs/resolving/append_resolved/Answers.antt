use Rattle.std.proofs.Common.{◌∙◌, ◌++◌, ap}
use Rattle.std.specs.Option.{option_or, option_copied}
use Rattle.std.specs.String.{string_bytes}
use Rattle.gs_iri.specs.References.{parts_of, rest_after}
use Rattle.gs_iri.specs.Dots.{dots}
use Rattle.gs_iri.specs.Resolving.{front_text, directory_of, resolved}
use Rattle.gs_iri.proofs.TextLemmas.{on_ok}
use Rattle.gs_iri.proofs.ResolvingLemmas.{parts_same, is_tested, empty_tested, or_copied, own_scheme, own_authority, no_path, own_path, merged_path}
use Rattle.gs_iri.proofs.resolving.append_resolved.Goals as goal

pub returns-then-is_some-clause-ok : goal.returns-then-is_some-clause-ok
unfolding resolved front_text
returns-then-is_some-clause-ok c =
    let r = c.cut_parts-r.ensures in
    let case = own_scheme (parts_of c.args.base.now) (parts_of c.args.reference.now) (is_tested c.cut_parts-r.result.scheme r.scheme c.is_some.ensures c.if-is_some.true) in
    on_ok c.append_removed.result (λ h. h ∙ ap (λ z. string_bytes c.args.resolved.now ++ z) (parts_same r.scheme r.authority (ap dots r.path) r.query r.fragment ∙ case)) c.append_removed.ensures.ok

pub returns-then-is_some-2-clause-ok : goal.returns-then-is_some-2-clause-ok
unfolding resolved front_text
returns-then-is_some-2-clause-ok c =
    let b = c.cut_parts-b.ensures in
    let r = c.cut_parts-r.ensures in
    let case = own_authority (parts_of c.args.base.now) (parts_of c.args.reference.now) (is_tested c.cut_parts-r.result.scheme r.scheme c.is_some.ensures c.if-is_some.false) (is_tested c.cut_parts-r.result.authority r.authority c.is_some-2.ensures c.if-is_some-2.true) in
    on_ok c.append_removed-then-is_some-2.result (λ h. h ∙ ap (λ z. string_bytes c.args.resolved.now ++ z) (parts_same b.scheme r.authority (ap dots r.path) r.query r.fragment ∙ case)) c.append_removed-then-is_some-2.ensures.ok

pub returns-then-is_empty-clause-ok : goal.returns-then-is_empty-clause-ok
unfolding resolved
returns-then-is_empty-clause-ok c =
    let b = c.cut_parts-b.ensures in
    let r = c.cut_parts-r.ensures in
    let case = no_path (parts_of c.args.base.now) (parts_of c.args.reference.now) (is_tested c.cut_parts-r.result.scheme r.scheme c.is_some.ensures c.if-is_some.false) (is_tested c.cut_parts-r.result.authority r.authority c.is_some-2.ensures c.if-is_some-2.false) (empty_tested c.cut_parts-r.result.path.now r.path c.is_empty.ensures c.if-is_empty.true) in
    let query = or_copied c.or.result c.cut_parts-r.result.query c.cut_parts-b.result.query c.or.ensures ∙ ap (λ z. option_or z (option_copied c.cut_parts-b.result.query)) r.query ∙ ap (option_or (parts_of c.args.reference.now).query) b.query in
    on_ok c.append_joined.result (λ h. h ∙ ap (λ z. string_bytes c.args.resolved.now ++ z) (parts_same b.scheme b.authority b.path query r.fragment ∙ case)) c.append_joined.ensures.ok

pub returns-then-is_some-3-clause-ok : goal.returns-then-is_some-3-clause-ok
unfolding resolved front_text
returns-then-is_some-3-clause-ok c =
    let b = c.cut_parts-b.ensures in
    let r = c.cut_parts-r.ensures in
    let case = own_path (parts_of c.args.base.now) (parts_of c.args.reference.now) (is_tested c.cut_parts-r.result.scheme r.scheme c.is_some.ensures c.if-is_some.false) (is_tested c.cut_parts-r.result.authority r.authority c.is_some-2.ensures c.if-is_some-2.false) (empty_tested c.cut_parts-r.result.path.now r.path c.is_empty.ensures c.if-is_empty.false) (is_tested c.after.result (c.after.ensures.value ∙ ap (rest_after 47) r.path) c.is_some-3.ensures c.if-is_some-3.true) in
    on_ok c.append_removed-then-is_some-3.result (λ h. h ∙ ap (λ z. string_bytes c.args.resolved.now ++ z) (parts_same b.scheme b.authority (ap dots r.path) r.query r.fragment ∙ case)) c.append_removed-then-is_some-3.ensures.ok

pub returns-clause-ok : goal.returns-clause-ok
unfolding resolved
returns-clause-ok c =
    let b = c.cut_parts-b.ensures in
    let r = c.cut_parts-r.ensures in
    let case = merged_path (parts_of c.args.base.now) (parts_of c.args.reference.now) (is_tested c.cut_parts-r.result.scheme r.scheme c.is_some.ensures c.if-is_some.false) (is_tested c.cut_parts-r.result.authority r.authority c.is_some-2.ensures c.if-is_some-2.false) (empty_tested c.cut_parts-r.result.path.now r.path c.is_empty.ensures c.if-is_empty.false) (is_tested c.after.result (c.after.ensures.value ∙ ap (rest_after 47) r.path) c.is_some-3.ensures c.if-is_some-3.false) in
    let front = c.front_of.ensures ∙ ap (λ z. directory_of z c.cut_parts-b.result.path.now) b.authority ∙ ap (directory_of (parts_of c.args.base.now).authority) b.path in
    let whole = ap (λ z. z ++ c.cut_parts-r.result.path.now) front ∙ ap (λ z. directory_of (parts_of c.args.base.now).authority (parts_of c.args.base.now).path ++ z) r.path in
    on_ok c.append_removed-2.result (λ h. h ∙ ap (λ z. string_bytes c.args.resolved.now ++ z) (parts_same b.scheme b.authority (ap dots whole) r.query r.fragment ∙ case)) c.append_removed-2.ensures.ok
