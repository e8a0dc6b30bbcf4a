use Rattle.std.proofs.Common.{◌+◌, arith, List, sym, subst}
use Rattle.gs_world.specs.declared.connections.Connection.{Connection}
use Rattle.gs_world.specs.Worlds.{AreFresh}
use Rattle.gs_world.proofs.FreshLemmas.{more_fresh}
use Rattle.gs_world.proofs.worlds.connect.Goals as goal

pub loop-seat-preserved : goal.loop-seat-preserved
loop-seat-preserved c = (
  subst (λ (ks : List Connection). AreFresh (record { base = c.args.base.now; piece = c.args.piece }) (c.loop-seat.seat + 1) ks) (sym c.in_ok-push.ensures.items)
      (more_fresh (record { base = c.args.base.now; piece = c.args.piece }) c.loop-seat.seat c.loop-seat.list.items c.in_ok-connection.connection c.loop-seat.invariant.0 c.in_ok-connection.ensures),
  omega (arith, c.loop-seat-test.true),
)
