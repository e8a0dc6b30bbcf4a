-- The requests of a stream, by the shortest prefixes that settle them (RFC 9112, sections 2 to 7).
use Rattle.std.specs.Prelude.{ℕ, zero, suc, true, cond, List, [], ◌∷◌, length, None}
use Rattle.gs_transfer.specs.Cuts.{BodyCut, End, body_at}
use Rattle.gs_transfer.specs.Cuts as body
use Rattle.gs_verdict.specs.declared.verdicts.Denial.{Denial}
use Rattle.gs_verdict.specs.declared.verdicts.Asked.{Asked}
use Rattle.gs_verdict.specs.declared.verdicts.Verdict.{Verdict}
use Rattle.gs_verdict.specs.declared.verdicts.Verdict.TheVariants.{Deny, Ask}
use Rattle.gs_verdict.specs.Bytes.{head_verdict}
use Rattle.gs_verdict.specs.Checks.{limit_of}
use Rattle.gs_stream.specs.Heads.{HeadCut, Open, TooLong, Whole, stripped, head_at}

-- a request whose head is settled: denied by it; with its body whole; with a body whose transfer has a fault,
-- after so much data; or with a body that is still open, after so much
pub data Request : Type 0 where
  Denied : (denial : Denial) → Request
  Asks : (asked : Asked) (body : List ℕ) → Request
  Breaks : (asked : Asked) (front : List ℕ) (status : ℕ) → Request
  Waits : (asked : Asked) (front : List ℕ) → Request

-- 431: no empty line within the bytes that a head may have
abbrev pub too_long : Denial
too_long = record { status = 431; allow = None; closes = true }

-- from the end of a head's body on, after so much data; `again` reads the requests after it
abbrev pub by_end : (List ℕ → List Request) → Asked → List ℕ → End → List Request
by_end again a b body.Open = Waits a b ∷ []
by_end again a b (body.Faulty status) = Breaks a b status ∷ []
by_end again a b (body.Whole rest) = Asks a b ∷ again rest

-- from a head's body on
abbrev pub by_body : (List ℕ → List Request) → Asked → BodyCut → List Request
by_body again a c = by_end again a c.bytes c.end

-- from what a head asks for on
abbrev pub by_verdict : (List ℕ → List Request) → Verdict → List ℕ → List Request
by_verdict again (Deny d) rest = Denied d ∷ cond d.closes [] (again rest)
by_verdict again (Ask a) rest = by_body again a (body_at (limit_of a.method) a.framing rest)

-- from a head on
abbrev pub by_head : List ℕ → (List ℕ → List Request) → HeadCut → List Request
by_head base again Open = []
by_head base again TooLong = Denied too_long ∷ []
by_head base again (Whole head rest) = by_verdict again (head_verdict base head) rest

-- the requests of a stream under a base, of which there are at most so many
unfoldable pub requests_in : ℕ → List ℕ → List ℕ → List Request
requests_in zero base x = []
requests_in (suc n) base x = by_head base (requests_in n base) (head_at (stripped x))

-- Each takes a byte at least, so a stream has no more than its bytes.
unfoldable pub requests : List ℕ → List ℕ → List Request
requests base x = requests_in (length x) base x
