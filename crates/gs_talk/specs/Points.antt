-- The points of a conversation: what the abstract store is asked, and by which request.
use Rattle.std.specs.Prelude.{◌≡◌, ℕ, List, [], ◌∷◌, ◌⊎◌, None}
use Rattle.gs_model.specs.Triples.{RdfTriple}
use Rattle.gs_model.specs.Graphs.{graph_of}
use Rattle.gs_event.specs.declared.updates.Op.{Op}
use Rattle.gs_event.specs.Conditions.{asked_since}
use Rattle.gs_event.specs.Phases.{write_of}
use Rattle.gs_event.specs.Operations as operation
use Rattle.gs_verdict.specs.declared.verdicts.Asked.{Asked}
use Rattle.gs_stream.specs.Requests.{Request, Asks}
use Rattle.gs_talk.specs.Plans.{Plan, Uploads, Patches, Deletes, Looks, Reads, plan_of}
use Rattle.gs_talk.specs.Bodies.{States, Orders}
use Rattle.gs_talk.specs.Seats.{Point}

-- What a request with this body asks of the abstract store, by its plan. The graph of an upload, and the operations of a patch,
-- are the meaning of its body under the number that the store gave to it. A write is asked on the condition that the request has.
abbrev pub IsAskedBy : List ℕ → Asked → List ℕ → Plan → Point → Type 0
IsAskedBy base a body (Uploads k since) q =
    (g : List RdfTriple) × States base a q.0 body g × (q.1 ≡ asked_since since (write_of k q.0 (graph_of g)))
IsAskedBy base a body (Patches t since) q =
    (ops : List Op) × Orders base a q.0 body ops × (q.1 ≡ asked_since since (operation.Patches t ops))
IsAskedBy base a body (Deletes t since) q = q.1 ≡ asked_since since (operation.Deletes t)
IsAskedBy base a body (Looks c) q = q.1 ≡ asked_since None (operation.Looks c)
IsAskedBy base a body (Reads c) q = q.1 ≡ asked_since None (operation.Reads c)
IsAskedBy base a body p q = ⊥

-- a request whose body is whole asks it; no other asks anything
abbrev pub IsPointOf : List ℕ → Request → Point → Type 0
IsPointOf base (Asks a body) q = IsAskedBy base a body (plan_of a) q
IsPointOf base r q = ⊥

-- each is asked by a request of its own, in the order of the requests
abbrev pub ArePointsOf : List ℕ → List Request → List Point → Type 0
ArePointsOf base rs [] = Unit {0}
ArePointsOf base [] (q ∷ qs) = ⊥
ArePointsOf base (r ∷ rs) (q ∷ qs) = (IsPointOf base r q × ArePointsOf base rs qs) ⊎ ArePointsOf base rs (q ∷ qs)
