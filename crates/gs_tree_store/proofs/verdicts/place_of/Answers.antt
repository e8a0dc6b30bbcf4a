use Rattle.std.proofs.Common.{◌≡◌, rules, ap, unwrap_or}
use Rattle.gs_event.specs.Verdicts.{is_named}
use Rattle.gs_catalogue.specs.declared.versions.GraphVersion.{GraphVersion}
use Rattle.gs_catalogue.specs.Catalogues.{empty_version}
use Rattle.gs_tree_store.proofs.verdicts.place_of.Goals as goal
use Rattle.gs_tree_store.proofs.verdicts.place_of.Goals.{in-Named, in_default}

pub returns : goal.returns
returns c =
    let name : c.match-matches.matches ≡ is_named c.args.target.now = search rules in
    let triples : c.or_empty.result.triples ≡ (unwrap_or c.args.found empty_version).triples = ap (λ (v : GraphVersion). v.triples) c.or_empty.ensures in
    λ i. record { is_name = name i; is_there = c.is_some.ensures i; triples = triples i }
