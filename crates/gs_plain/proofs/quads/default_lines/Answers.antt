use Rattle.std.proofs.Common.{◌∙◌, ap, length}
use Rattle.gs_plain.specs.Past.{dataset_at}
use Rattle.gs_plain.proofs.QuadLemmas.{empty_lines, empty_shown}
use Rattle.gs_plain.proofs.quads.default_lines.Goals as goal

pub returns-in_default-clause-bytes : goal.returns-in_default-clause-bytes
returns-in_default-clause-bytes c = c.new.ensures.items ∙ empty_shown c.args.given c.args.count (dataset_at c.args.version c.args.rows.now).unnamed c.in_default.ensures

pub returns-in_default-clause-all : goal.returns-in_default-clause-all
returns-in_default-clause-all c = ap length (empty_lines (dataset_at c.args.version c.args.rows.now).unnamed c.in_default.ensures)
