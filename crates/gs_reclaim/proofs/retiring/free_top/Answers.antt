use Rattle.std.proofs.Common.{refl, ◌∙◌}
use Rattle.gs_pool.specs.Pool.{is_aside}
use Rattle.gs_reclaim.proofs.Freeing.{same_count}
use Rattle.gs_reclaim.proofs.retiring.free_top.Goals as goal

pub returns-clause-aside : goal.returns-clause-aside
returns-clause-aside c = same_count is_aside refl c.free.new.self.marks c.retire_sides.new.pool.marks c.free.ensures.marks ∙ c.retire_sides.ensures.aside
