-- A head that was read is seen as the head that its bytes are.
use Rattle.std.proofs.Common.{◌≡◌, ap, sym, ◌∙◌, List, ℕ, Some}
use Rattle.httparse.specs.Grammar.{RequestHead}
use Rattle.gs_http.specs.Heads.{head_of, parts_of}
use Rattle.gs_http.specs.declared.heads.Head.{Head}
use Rattle.gs_http.specs.Opened.{HasParts}
use Rattle.gs_verdict.specs.declared.verdicts.Verdict.{Verdict}
use Rattle.gs_verdict.specs.Verdicts.{seen, judged}
use Rattle.gs_verdict.specs.Bytes.{seen_of, judged_head, head_verdict}

-- the values are equal at each name, so they are one function
pub seen-parts : (t : Head) (h : RequestHead) → HasParts t (parts_of h) → seen t ≡ seen_of (parts_of h)
seen-parts t h p =
    λ i. record { method = p.method i; target = p.target i; minor = p.minor i; values = λ name. p.fields name i }

-- what the head asks for, its bytes ask for
pub judged-bytes : (base b : List ℕ) (t : Head) (h : RequestHead) (v : Verdict) → head_of b ≡ Some h → HasParts t (parts_of h)
    → v ≡ judged base (seen t) → v ≡ head_verdict base b
judged-bytes base b t h v e p q = q ∙ ap (judged base) (seen-parts t h p) ∙ ap (judged_head base) (sym e)
