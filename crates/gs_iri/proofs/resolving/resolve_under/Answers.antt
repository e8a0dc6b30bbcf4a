use Rattle.std.proofs.Common.{◌≡◌, ◌≤◌, length, arith}
use Rattle.std.specs.String.{string_bytes}
use Rattle.std.proofs.lemmas.Str.{IsUtf8-string_bytes}
use Rattle.gs_iri.proofs.TextLemmas.{boundary_of_old}
use Rattle.gs_iri.proofs.resolving.resolve_under.Goals as goal

pub truncate-requires : goal.truncate-requires
truncate-requires c =
    λ l.
    let start : c.len-before.result ≡ length (string_bytes c.args.resolved.now) = omega arith in
    let within : c.len-before.result ≤ length (string_bytes c.append_resolved.new.resolved) = omega arith in
    let place = boundary_of_old (string_bytes c.args.resolved.now) (string_bytes c.append_resolved.new.resolved) c.len-before.result start (IsUtf8-string_bytes c.args.resolved.now) (IsUtf8-string_bytes c.append_resolved.new.resolved) c.append_resolved.ensures.front within in
    (place.0, λ _. place.1)
