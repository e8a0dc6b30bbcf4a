use Rattle.std.proofs.Common.{sym, subst}
use Rattle.gs_staging.specs.Staging.{IsStaged}
use Rattle.gs_staging.proofs.StageLemmas.{staged_grown}
use Rattle.gs_staging_tests.proofs.uploads.Upload.add.Goals as goal

pub invariant_of-self : goal.invariant_of-self
invariant_of-self c =
    let before = c.self.inside in
    let after = c.stage.new in
    subst (λ p. IsStaged after.dict.terms p before.root) (sym c.in_err-merged.ensures.kept) (staged_grown before.dict after.dict before.pool before.root c.in_err-merged.ensures.grows c.self.invariant)
