use Rattle.std.proofs.Common.{ap, ◌∙◌, refl}
use Rattle.std.specs.Prelude.{option_map}
use Rattle.matchit.specs.Rows.{RowsOf}
use Rattle.matchit.specs.Router.{RouteOf}
use Rattle.matchit.specs.Seek.{first}
use Rattle.gs_names.specs.declared.routes.Route.{Route}
use Rattle.matchit.proofs.OnLiterals.{matchit_on_literals}
use Rattle.gs_names.proofs.RouteLemmas.{leads}
use Rattle.gs_names.proofs.routes.routes.Goals as goal

pub returns : goal.returns
unfolding matchit_on_literals
returns c =
    let a = c.in_ok-insert.ensures in
    let b = c.in_ok-insert-2.ensures in
    let rows = rw (a.1, c.new-router.ensures) at b.1 in
    λ path. ap (λ (m : RowsOf (RouteOf Route)). option_map (λ (r : RouteOf Route). r.value) (first m path)) rows ∙ leads _ _ refl refl path
