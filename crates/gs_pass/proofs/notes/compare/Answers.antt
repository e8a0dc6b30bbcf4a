use Rattle.std.proofs.Common.{rules, sym, ap, ◌∙◌}
use Rattle.crossbeam_utils.specs.Seq.{cell_view}
use Rattle.gs_pass.specs.Stamps.{without_claims, with_claims_of}
use Rattle.gs_pass.proofs.CellLemmas.{gives, takes, compares_as}
use Rattle.gs_pass.proofs.notes.compare.Goals as goal

pub split_pass-spare-requires : goal.split_pass-spare-requires
split_pass-spare-requires g c = (search rules, (search rules, (c.requires.keeper.0, gives _ _)))

pub join_pass-requires : goal.join_pass-requires
join_pass-requires g c =
    let s = c.split_pass-spare.ensures in
    let was = c.replace-old.ensures.value in
    let table = s.kept.0.0 ∙ c.requires.keeper.0 in
    (search rules, (search rules, ((table, ap (λ t. t.table_id) was ∙ c.requires.token.0 ∙ sym table, ap (λ t. t.me.1) was ∙ c.requires.token.1), takes _ _ _ _)))

pub load_as-requires : goal.load_as-requires
load_as-requires g c =
    let s = c.split_pass-spare.ensures in
    let j = c.join_pass.ensures in
    let known = j.1 ∙ ap (λ v. with_claims_of v (cell_view c.replace-old.result)) (s.kept.1 ∙ ap without_claims c.requires.keeper.1) in
    (search rules, (search rules, (j.0.0 ∙ s.kept.0.0 ∙ c.requires.keeper.0, compares_as _ _ _ _ known)))

pub split_pass-requires : goal.split_pass-requires
split_pass-requires g c =
    let s = c.split_pass-spare.ensures in
    let j = c.join_pass.ensures in
    (search rules, (search rules, (c.load_as.ensures.cell.0 ∙ j.0.0 ∙ s.kept.0.0 ∙ c.requires.keeper.0, gives _ _)))
