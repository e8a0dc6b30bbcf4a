-- A router that leads each path to its place.
use Rattle.std.specs.Prelude.{◌≡◌, ℕ, List, option_map}
use Rattle.matchit.specs.Rows.{RowsOf}
use Rattle.matchit.specs.Router.{RouteOf}
use Rattle.matchit.specs.Seek.{first}
use Rattle.gs_names.specs.declared.routes.Route.{Route}
use Rattle.gs_names.specs.Places.{place_of}

-- the first route that fits a path has its place
abbrev pub LeadsToPlaces : RowsOf (RouteOf Route) → Type 0
LeadsToPlaces rows = (path : List ℕ) → option_map (λ (r : RouteOf Route). r.value) (first rows path) ≡ place_of path
