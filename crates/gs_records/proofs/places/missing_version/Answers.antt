use Rattle.std.proofs.Common.{sym, ap, ◌∙◌}
use Rattle.std.specs.FinMap as map
use Rattle.gs_term.specs.Names.{name_cmp}
use Rattle.gs_catalogue.specs.Catalogues.{no_versions, version_at}
use Rattle.gs_records.proofs.places.missing_version.Goals as goal

pub returns-in-Named : goal.returns-in-Named
returns-in-Named c = sym (ap (version_at no_versions) c.in-Named.is ∙ map.get-empty name_cmp c.in-Named.field-0)
