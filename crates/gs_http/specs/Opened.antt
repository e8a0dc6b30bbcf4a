-- What a head that was read says.
use Rattle.std.specs.Prelude.{◌≡◌, ℕ, List, Option, Some, None}
use Rattle.httparse.specs.Grammar.{RequestHead}
use Rattle.gs_http.specs.Heads.{head_of, HeadParts, parts_of}
use Rattle.gs_http.specs.Fields.{KeepsFields}
use Rattle.gs_http.specs.declared.heads.Head.{Head}

-- the head has these parts, and keeps its fields by name
pub record HasParts (t : Head) (p : HeadParts) : Type 0 where
  pub method : t.method.now ≡ p.method
  pub target : t.target.now ≡ p.target
  pub minor : t.minor ≡ p.minor
  pub fields : KeepsFields t.fields p.fields

-- the head that the bytes are, if they are one
abbrev pub IsHeadOf : List ℕ → Option Head → Type 0
IsHeadOf b None = head_of b ≡ None
IsHeadOf b (Some t) = (h : RequestHead) × (head_of b ≡ Some h) × HasParts t (parts_of h)
