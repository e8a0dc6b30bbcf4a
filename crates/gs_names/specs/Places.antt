-- Which path names what (Graph Store Protocol, sections 4.1 and 4.2).
use Rattle.std.specs.Prelude.{ℕ, List, [], ◌∷◌, drop, codes, if◌then◌else◌, Option, Some, None, nat_eq}
use Rattle.std.specs.List.{starts_with}
use Rattle.std.specs.Str.{bytes_eq}
use Rattle.gs_names.specs.declared.routes.Route.{Route}
use Rattle.gs_names.specs.declared.routes.Route.TheVariants.{Store, Graphs}

-- a graph's path has one byte more at least
abbrev pub some_more : List ℕ → Option Route
some_more [] = None
some_more (b ∷ rest) = Some Graphs

-- `/store`, or `/graphs/` and more
abbrev pub place_of : List ℕ → Option Route
place_of path =
    if bytes_eq path (codes "/store") then Some Store
    else if starts_with nat_eq path (codes "/graphs/") then some_more (drop 8 path)
    else None
