use Rattle.std.proofs.Common.{◌≡◌, ap, ◌∙◌, sym, subst}
use Rattle.gs_talk.specs.Logs.{Server}
use Rattle.gs_workers.specs.Attends.{ServesMany}
use Rattle.gs_gates.specs.Records.{told}
use Rattle.gs_workers.proofs.ServeLemmas.{serves_many_shown, serves_many_seat}
use Rattle.gs_workers.proofs.workers.work.Goals as goal

pub returns : goal.returns
returns g c =
    let p : Server = record { base = c.args.plan.base.now; piece = c.args.plan.piece } in
    let n = c.serve_streams.ensures.0 in
    let many = serves_many_shown c.serve_streams.new.door (λ d. d.door.door.door.pass.record) (λ old e a new. told old.door.door.door.pass.record e a new.door.door.door.pass.record) told
    (record { to = λ old e a new given. given }) p c.seat-seat.result n _ c.serve_streams.ensures.1 in
    let ended = subst (λ q. ServesMany p told c.seat-seat.result n c.new.result.pass.record q.record) (sym c.into_pass.ensures) many in
    let begun = subst (λ q. ServesMany p told c.seat-seat.result n q.record c.into_pass.result.record) c.new.ensures ended in
    record { served = (n, subst (λ seat. ServesMany p told seat n c.args.pass.record c.into_pass.result.record) c.seat-seat.ensures.value begun) }
