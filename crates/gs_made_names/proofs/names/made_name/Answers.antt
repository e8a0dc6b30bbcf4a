use Rattle.std.proofs.Common.{◌≡◌, ◌∙◌}
use Rattle.gs_event.specs.Names.{made_name}
use Rattle.gs_made_names.proofs.NameLemmas.{made_absolute, made_short, never_refused}
use Rattle.gs_made_names.proofs.names.made_name.Goals as goal

pub unreachable-requires : goal.unreachable-requires
unreachable-requires c =
    let text : c.as_str.result.now ≡ made_name c.args.base.now c.args.request c.args.number = c.as_str.ensures.value ∙ c.in_ok-text.ensures in
    never_refused c.as_str.result.now c.in-Err.refusal
    (rw text (made_absolute c.args.base.now c.args.request c.args.number c.requires))
    (rw text (made_short c.args.base.now c.args.request c.args.number c.requires c.ranges.request.fits c.ranges.number.fits))
    c.in-Err.ensures c.in_default.not-NoMemory
