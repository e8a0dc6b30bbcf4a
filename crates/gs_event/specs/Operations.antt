-- One step of the abstract graph store (SPARQL 1.1 Graph Store HTTP Protocol, 21 March 2013, section 5): what an
-- operation makes of a dataset, and its status.
use Rattle.std.specs.Prelude.{ℕ, Bool, true, false, not, ◌||◌, ◌&&◌, nat_eq, nat_le, List, [], ◌∷◌, if◌then◌else◌, Option, Some, None}
use Rattle.gs_model.specs.Graphs.{Graph, with_triples, triples_of}
use Rattle.gs_event.specs.declared.limits.Limits.{Limits}
use Rattle.gs_event.specs.declared.updates.Op.{Op}
use Rattle.gs_event.specs.Updates.{patched}
use Rattle.gs_event.specs.Datasets.{Dataset, empty_dataset, graph_at, is_there, has, with_graph, without_graph, triples_in, names_in}
use Rattle.gs_event.specs.Names.{new_name}
use Rattle.gs_term.specs.declared.names.Target.{Target}
use Rattle.gs_term.specs.declared.names.Target.TheVariants.{Named}
use Rattle.gs_event.specs.declared.events.Scope.{Scope}

-- the base of the names that the store makes up, and how much it may hold
pub record Setting : Type 0 where
  pub base : List ℕ
  pub limits : Limits

-- whether a dataset has no more triples and no more names than the limits
abbrev pub is_within : Limits → Dataset → Bool
is_within limits m = nat_le (triples_in m) limits.triples && nat_le (names_in m) limits.names

-- a graph with the triples of another; a missing graph counts as an empty one
abbrev pub united : Option Graph → Graph → Graph
united None g = g
united (Some old) g = with_triples old (triples_of g)

-- what the abstract store is asked: a write with all that it writes, or a question
pub data Operation : Type 0 where
  Puts : (target : Target) (graph : Graph) → Operation
  Posts : (target : Target) (graph : Graph) → Operation
  Creates : (request : ℕ) (graph : Graph) → Operation
  Patches : (target : Target) (operations : List Op) → Operation
  Deletes : (target : Target) → Operation
  Looks : (scope : Scope) → Operation
  Reads : (scope : Scope) → Operation

-- the dataset in which the target's graph is g, where that is within the limits
abbrev pub stored : Setting → Dataset → Target → Graph → Dataset
stored w m t g = if is_within w.limits (with_graph m t g) then with_graph m t g else m

-- the HTTP status of that: 204 over a graph, 201 where there was none, 507 beyond the limits
abbrev pub stored_status : Setting → Dataset → Target → Graph → ℕ
stored_status w m t g = if is_within w.limits (with_graph m t g) then (if is_there m t then 204 else 201) else 507

-- the dataset after an operation
abbrev pub after : Setting → Dataset → Operation → Dataset
after w m (Puts t g) = stored w m t g
after w m (Posts t g) = stored w m t (united (graph_at m t) g)
after w m (Creates r g) = stored w m (Named (new_name w.base m r)) g
after w m (Patches t ops) = if is_there m t then stored w m t (patched (graph_at m t) ops) else m
after w m (Deletes t) = if is_there m t then without_graph m t else m
after w m (Looks c) = m
after w m (Reads c) = m

-- its HTTP status
abbrev pub status_of : Setting → Dataset → Operation → ℕ
status_of w m (Puts t g) = stored_status w m t g
status_of w m (Posts t g) = stored_status w m t (united (graph_at m t) g)
status_of w m (Creates r g) = stored_status w m (Named (new_name w.base m r)) g
status_of w m (Patches t ops) = if is_there m t then stored_status w m t (patched (graph_at m t) ops) else 404
status_of w m (Deletes t) = if is_there m t then 204 else 404
status_of w m (Looks c) = if has m c then 200 else 404
status_of w m (Reads c) = if has m c then 200 else 404

-- the name of the graph that the store made up a name for
abbrev pub location_of : Setting → Dataset → Operation → Option (List ℕ)
location_of w m (Creates r g) =
    let name = new_name w.base m r in
    if is_within w.limits (with_graph m (Named name) g) then Some name else None
location_of w m q = None

-- a status of a write that took effect
abbrev pub is_success : ℕ → Bool
is_success status = nat_eq status 201 || nat_eq status 204

-- the operation may want memory
abbrev pub wants_memory : Dataset → Operation → Bool
wants_memory m (Puts t g) = not (is_there m t)
wants_memory m (Posts t g) = true
wants_memory m (Creates r g) = true
wants_memory m (Patches t ops) = is_there m t
wants_memory m (Deletes t) = false
wants_memory m (Looks c) = false
wants_memory m (Reads c) = false

-- the dataset after all of these, the newest first
abbrev pub after_all : Setting → List Operation → Dataset
after_all w [] = empty_dataset
after_all w (q ∷ qs) = after w (after_all w qs) q
