-- What a stored request asked for.
use Rattle.std.specs.Prelude.{ℕ, None}
use Rattle.gs_event.specs.Operations.{Patches, Deletes, Looks, Reads}
use Rattle.gs_event.specs.Conditions.{Asked, asked_since}
use Rattle.gs_event.specs.Phases.{write_of}
use Rattle.gs_chronicle.specs.declared.requests.Request.{Request}
use Rattle.gs_chronicle.specs.declared.requests.Request.TheVariants.{Upload, Patch, Delete, Head, Pin}
use Rattle.gs_chronicle.specs.Sizes.{triples_size, ops_size}
use Rattle.gs_chronicle.specs.KeptOps.{ops_kept}
use Rattle.gs_chronicle.specs.Uploads.{staged_triples, staged_graph}
use Rattle.gs_chronicle.specs.Pages.{Decided}

-- what the abstract store was asked, and on which condition
abbrev pub asked_in : Request → Asked
asked_in (Upload u) = asked_since u.since (write_of u.kind u.request (staged_graph u))
asked_in (Patch p) = asked_since p.since (Patches p.target (ops_kept p.ops))
asked_in (Delete t since) = asked_since since (Deletes t)
asked_in (Head c) = asked_since None (Looks c)
asked_in (Pin c) = asked_since None (Reads c)

-- as how many triples the request counts, with repeats
abbrev pub request_size : Request → ℕ
request_size (Upload u) = triples_size (staged_triples u)
request_size (Patch p) = ops_size (ops_kept p.ops)
request_size (Delete t since) = 0
request_size (Head c) = 0
request_size (Pin c) = 0

-- the call by which this seat asked for that, and got this status
abbrev pub call_of : ℕ → Request → ℕ → Decided
call_of seat r status = record { seat = seat; asked = asked_in r; triples = request_size r; status = status }
