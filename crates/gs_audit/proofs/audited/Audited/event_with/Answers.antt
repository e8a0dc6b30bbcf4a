use Rattle.gs_chronicle.specs.Views.{page_of}
use Rattle.gs_audit.proofs.TakeLemmas.{replays_then}
use Rattle.gs_audit.proofs.audited.Audited.event_with.Goals as goal

pub invariant_of-self : goal.invariant_of-self
invariant_of-self g c =
    let self = c.args.self.now in record {
      agrees = c.take.ensures.agree;
      replays =
          replays_then g.row.ENTRIES g.row.TRIPLES self.store c.take.new.store self.slots.items c.take.new.slots.items (page_of self.chronicle) (page_of c.take.new.page)
          c.args.event.now c.take.result c.take.ensures self.replays;
    }
