use Rattle.std.proofs.Common.{map, refl, ap, ◌∙◌}
use Rattle.gs_core.specs.Settings.{start_at}
use Rattle.gs_chronicle.specs.Views.{page_of}
use Rattle.gs_audit.specs.Slots.{slot_count}
use Rattle.gs_audit.proofs.FreshLemmas.{fresh_agree, fresh_staged, fresh_replays}
use Rattle.gs_audit.proofs.audited.Audited.seeded.Goals as goal

pub invariant_of-result : goal.invariant_of-result
invariant_of-result g c =
    let start = start_at c.args.seats c.args.base.now 0 0 in
    let store = c.in_ok-store.store in record {
      agrees = fresh_agree start store c.in-Ok.slots.items c.in_ok-store.ensures.view c.in-Ok.ensures;
      replays = fresh_replays start store (page_of c.in_ok-chronicle.chronicle) refl c.in_ok-store.ensures.view c.in_ok-chronicle.ensures.fresh;
    }

pub returns-clause-staged : goal.returns-clause-staged
returns-clause-staged g c = ap (map slot_count) c.in-Ok.ensures ∙ fresh_staged c.args.seats
