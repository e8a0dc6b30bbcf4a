use Rattle.std.proofs.Common.{ap, ◌∙◌, length, ◌≤◌, arith}
use Rattle.std.specs.List.{position_or_len}
use Rattle.gs_iri.specs.References.{is_one_of}
use Rattle.gs_iri.proofs.ReferenceLemmas.{before-take, from-drop, boundary_at_stop}
use Rattle.gs_iri.proofs.references.cut.Goals as goal

pub split_at-requires : goal.split_at-requires
split_at-requires c =
    let place = c.find_stop.ensures.place ∙ ap (position_or_len (is_one_of c.args.stops.now)) c.as_bytes.ensures.value in
    let within : c.find_stop.result ≤ length c.args.text.now = omega (arith, ap length c.as_bytes.ensures.value) in
    boundary_at_stop c.args.stops.now c.args.text.now c.find_stop.result c.requires place within

pub returns-clause-front : goal.returns-clause-front
returns-clause-front c =
    let place = c.find_stop.ensures.place ∙ ap (position_or_len (is_one_of c.args.stops.now)) c.as_bytes.ensures.value in
    let e = before-take c.args.stops.now c.args.text.now in
    cc

pub returns-clause-back : goal.returns-clause-back
returns-clause-back c =
    let place = c.find_stop.ensures.place ∙ ap (position_or_len (is_one_of c.args.stops.now)) c.as_bytes.ensures.value in
    let e = from-drop c.args.stops.now c.args.text.now in
    cc
