use Rattle.std.proofs.Common.{◌∙◌, ap, sym, length, drop, take, ◌-◌}
use Rattle.std.specs.String.{string_bytes}
use Rattle.std.proofs.lemmas.List.{take_rest, drop-take}
use Rattle.std.proofs.lemmas.Str.{IsUtf8-string_bytes}
use Rattle.gs_iri.specs.Output.{without_last}
use Rattle.gs_iri.proofs.TextLemmas.{without_last-take, boundary_of_front, drop_front}
use Rattle.gs_iri.proofs.DotsLemmas.{without_last-none}
use Rattle.gs_iri.proofs.dots.drop_last.Goals as goal

pub truncate-requires-in-None : goal.truncate-requires-in-None
truncate-requires-in-None c =
    let place = boundary_of_front (string_bytes c.args.resolved.now) c.args.start (IsUtf8-string_bytes c.args.resolved.now) c.requires.within c.requires.spelled in
    λ _. (place.0, λ _. place.1)

pub returns-in-Some-clause-back : goal.returns-in-Some-clause-back
returns-in-Some-clause-back c =
    let region = take_rest c.as_bytes.result.now c.args.start ∙ ap (drop c.args.start) c.as_bytes.ensures.value in
    ap (drop c.args.start) c.truncate.ensures.bytes
    ∙ drop-take c.args.start c.in-Some.i (string_bytes c.args.resolved.now)
    ∙ ap (take c.in-Some.i) (sym region)
    ∙ without_last-take (take (length c.as_bytes.result.now - c.args.start) (drop c.args.start c.as_bytes.result.now)) c.in-Some.i c.in-Some.ensures
    ∙ ap without_last region

pub returns-in-None-clause-back : goal.returns-in-None-clause-back
returns-in-None-clause-back c =
    let region = take_rest c.as_bytes.result.now c.args.start ∙ ap (drop c.args.start) c.as_bytes.ensures.value in
    ap (drop c.args.start) c.truncate-in-None.ensures.bytes
    ∙ drop_front c.args.start (string_bytes c.args.resolved.now)
    ∙ sym (without_last-none (take (length c.as_bytes.result.now - c.args.start) (drop c.args.start c.as_bytes.result.now)) c.in-None.ensures)
    ∙ ap without_last region
