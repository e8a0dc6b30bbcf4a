-- What the bytes of a head ask for: a function of the bytes.
use Rattle.std.specs.Prelude.{ℕ, List, Option, Some, None}
use Rattle.httparse.specs.Grammar.{RequestHead}
use Rattle.gs_http.specs.Heads.{head_of, HeadParts, parts_of}
use Rattle.gs_http.specs.Fields.{values_of}
use Rattle.gs_verdict.specs.declared.verdicts.Verdict.{Verdict}
use Rattle.gs_verdict.specs.Verdicts.{Seen, closed, judged}

-- a head with the list of its fields
abbrev pub seen_of : HeadParts → Seen
seen_of p = record { method = p.method; target = p.target; minor = p.minor; values = λ name. values_of name p.fields }

-- no head is denied (RFC 9112, section 3)
abbrev pub judged_head : List ℕ → Option RequestHead → Verdict
judged_head base None = closed 400
judged_head base (Some h) = judged base (seen_of (parts_of h))

-- what bytes ask for, under a base
abbrev pub head_verdict : List ℕ → List ℕ → Verdict
head_verdict base b = judged_head base (head_of b)
