-- What becomes of a write that is not too late, by counts alone, and what that says of the abstract store (SPARQL 1.1
-- Graph Store HTTP Protocol, section 5): 404 comes before 507, and 507 before want of a commit number.
use Rattle.std.specs.Prelude.{IfSome, ◌≡◌, ◌<◌, ◌≤◌, ℕ, ◌+◌, ◌-◌, Bool, true, false, ◌||◌, ◌&&◌, nat_le, nat_lt, if◌then◌else◌, Option, Some, None}
use Rattle.gs_model.specs.Limits.{last_number}
use Rattle.gs_model.specs.Graphs.{Graph, size_of}
use Rattle.gs_term.specs.declared.names.Target.{Target}
use Rattle.gs_term.specs.declared.names.Target.TheVariants.{Default, Named}
use Rattle.gs_event.specs.declared.events.Scope.TheVariants.{One, All}
use Rattle.gs_event.specs.declared.verdicts.Holdings.{Holdings}
use Rattle.gs_event.specs.declared.verdicts.Place.{Place}
use Rattle.gs_event.specs.declared.verdicts.Change.{Change}
use Rattle.gs_event.specs.declared.verdicts.Change.TheVariants.{Stores, Removes}
use Rattle.gs_event.specs.declared.verdicts.Verdict.{Verdict}
use Rattle.gs_event.specs.declared.verdicts.Verdict.TheVariants.{Missing, Full, LastNumber, Granted}
use Rattle.gs_event.specs.Updates.{patched}
use Rattle.gs_event.specs.Datasets.{Dataset, graph_at, is_there, size_at, with_graph, without_graph, triples_in, names_in}
use Rattle.gs_event.specs.Names.{new_name}
use Rattle.gs_event.specs.Operations.{Setting, Operation, Puts, Posts, Creates, Patches, Deletes, Looks, Reads, is_within, united, after, status_of, is_success}

-- a commit number is left for the write, or none is
abbrev pub granted_of : ℕ → ℕ → ℕ → ℕ → Verdict
granted_of commit status triples names = if nat_lt commit last_number then Granted status triples names else LastNumber

-- The target's graph is to have n triples: its own count out, and a name without a graph counts in. 204 where
-- there was a graph, and else 201.
abbrev pub stored_of : Holdings → Place → ℕ → Verdict
stored_of h p n =
    let triples = h.triples - p.triples + n in
    let names = h.names + (if p.is_there then 0 else 1) in
    if nat_le triples h.limits.triples && nat_le names h.limits.names
    then granted_of h.commit (if p.is_there then 204 else 201) triples names
    else Full

-- what becomes of a write: a graph that is missing is made where the write may, and is never taken away; no
-- limit stands against taking one away
abbrev pub verdict_of : Holdings → Place → Change → Verdict
verdict_of h p (Stores n creates) = if p.is_there || creates then stored_of h p n else Missing
verdict_of h p Removes =
    if p.is_there
    then granted_of h.commit 204 (h.triples - p.triples) (h.names - (if p.is_name then 1 else 0))
    else Missing

-- whether the target is a named graph
abbrev pub is_named : Target → Bool
is_named Default = false
is_named (Named n) = true

-- what a store with this dataset holds, at its last commit number
abbrev pub holdings_of : Setting → Dataset → ℕ → Holdings
holdings_of w m commit = record { triples = triples_in m; names = names_in m; commit = commit; limits = w.limits }

-- a target in this dataset
abbrev pub place_in : Dataset → Target → Place
place_in m t = record { is_name = is_named t; is_there = is_there m t; triples = size_at m t }

-- the target of an operation, where it has one: a new graph's is the name that is made up for it
abbrev pub operation_target : Setting → Dataset → Operation → Option Target
operation_target w m (Puts t g) = Some t
operation_target w m (Posts t g) = Some t
operation_target w m (Creates r g) = Some (Named (new_name w.base m r))
operation_target w m (Patches t ops) = Some t
operation_target w m (Deletes t) = Some t
operation_target w m (Looks (One t)) = Some t
operation_target w m (Looks All) = None
operation_target w m (Reads (One t)) = Some t
operation_target w m (Reads All) = None

-- what an operation does to its target, where it is a write
abbrev pub change_of : Dataset → Operation → Option Change
change_of m (Puts t g) = Some (Stores (size_of g) true)
change_of m (Posts t g) = Some (Stores (size_of (united (graph_at m t) g)) true)
change_of m (Creates r g) = Some (Stores (size_of g) true)
change_of m (Patches t ops) = Some (Stores (size_of (patched (graph_at m t) ops)) false)
change_of m (Deletes t) = Some Removes
change_of m (Looks c) = None
change_of m (Reads c) = None

-- what a verdict says of an operation, at the last commit number: its status, what is left, and the counts after it
abbrev pub Decides : Setting → Dataset → ℕ → Operation → Verdict → Type 0
Decides w m commit q Missing = status_of w m q ≡ 404
Decides w m commit q Full = status_of w m q ≡ 507
Decides w m commit q LastNumber = (is_success (status_of w m q) ≡ true) × (last_number ≤ commit)
Decides w m commit q (Granted status triples names) =
    (status_of w m q ≡ status) × (is_success status ≡ true) × (commit < last_number) × (triples ≡ triples_in (after w m q)) × (names ≡ names_in (after w m q))

-- the same of a write that makes g the target's graph, and may create it
abbrev pub DecidesStore : Setting → Dataset → ℕ → Target → Graph → Verdict → Type 0
DecidesStore w m commit t g Missing = ⊥
DecidesStore w m commit t g Full = is_within w.limits (with_graph m t g) ≡ false
DecidesStore w m commit t g LastNumber = (is_within w.limits (with_graph m t g) ≡ true) × (last_number ≤ commit)
DecidesStore w m commit t g (Granted status triples names) =
    (is_within w.limits (with_graph m t g) ≡ true)
    × (status ≡ (if is_there m t then 204 else 201))
    × (commit < last_number)
    × (triples ≡ triples_in (with_graph m t g))
    × (names ≡ names_in (with_graph m t g))

-- the same of a write that makes g the target's graph, where it has one
abbrev pub DecidesChange : Setting → Dataset → ℕ → Target → Graph → Verdict → Type 0
DecidesChange w m commit t g Missing = is_there m t ≡ false
DecidesChange w m commit t g v = (is_there m t ≡ true) × DecidesStore w m commit t g v

-- the same of a write that takes the target's graph away
abbrev pub DecidesRemoval : Dataset → ℕ → Target → Verdict → Type 0
DecidesRemoval m commit t Missing = is_there m t ≡ false
DecidesRemoval m commit t Full = ⊥
DecidesRemoval m commit t LastNumber = (is_there m t ≡ true) × (last_number ≤ commit)
DecidesRemoval m commit t (Granted status triples names) =
    (is_there m t ≡ true)
    × (status ≡ 204)
    × (commit < last_number)
    × (triples ≡ triples_in (without_graph m t))
    × (names ≡ names_in (without_graph m t))

-- where the operation is a write, its verdict by the counts says of it what the abstract store says
abbrev pub IsDecided : Setting → Dataset → ℕ → Operation → Type 0
IsDecided w m commit q =
    IfSome (change_of m q) (λ x. IfSome (operation_target w m q) (λ t. Decides w m commit q (verdict_of (holdings_of w m commit) (place_in m t) x)))
