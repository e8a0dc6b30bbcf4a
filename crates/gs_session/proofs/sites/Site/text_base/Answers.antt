use Rattle.std.proofs.Common.{ap, ◌∙◌, string_bytes}
use Rattle.gs_model.specs.Iris.{is_absolute}
use Rattle.gs_session.proofs.SiteLemmas.{store_absolute}
use Rattle.gs_session.proofs.sites.Site.text_base.Goals as goal

pub returns-in_default-clause-absolute : goal.returns-in_default-clause-absolute
returns-in_default-clause-absolute c = ap is_absolute (c.as_str.ensures.value ∙ c.self.invariant.1) ∙ store_absolute (string_bytes c.self.inside.base) c.self.invariant.0
