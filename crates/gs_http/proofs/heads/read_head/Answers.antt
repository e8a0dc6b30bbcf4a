use Rattle.std.proofs.Common.{ap}
use Rattle.gs_http.specs.Heads.{head_of, HeadParts}
use Rattle.gs_http.proofs.HeadLemmas.{reads-head_of}
use Rattle.gs_http.proofs.NameLemmas.{names, found}
use Rattle.gs_http.proofs.heads.read_head.Goals as goal

pub keep_fields-requires-clause-named : goal.keep_fields-requires-clause-named
keep_fields-requires-clause-named c =
    let h = found c.args.bytes.now c.in-Some.spans (head_of c.args.bytes.now) (rw c.in-Some.is at c.in_ok-spans.ensures.value) in
    rw c.as_slice.ensures.value
    (names c.args.bytes.now c.in-Some.spans h.0 (reads-head_of c.args.bytes.now h.0 h.1) c.requires.short (ap (λ (p : HeadParts). p.fields) h.2))
