use Rattle.std.proofs.Common.{true, false, sym, subst}
use Rattle.gs_term.specs.declared.names.Target.TheVariants.{Named}
use Rattle.gs_plain.specs.Quads.{HasNamed}
use Rattle.gs_plain.proofs.QuadLemmas.{row_made, named_ended, named_made}
use Rattle.gs_plain.proofs.quads.find_named.Goals as goal

pub returns-then-is_ended : goal.returns-then-is_ended
returns-then-is_ended c = λ m sofar.
    let made = row_made c.args.version m c.args.row.now (Named c.in-Named.name) true c.if-version-row.false c.in-Named.is c.if-is_ended.ensures in
    subst (HasNamed c.remove.new.self) (sym made) (named_ended m c.in-Named.name c.args.found.now c.remove.new.self c.remove.ensures.updates sofar)

pub returns : goal.returns
returns c = λ m sofar.
    let made = row_made c.args.version m c.args.row.now (Named c.in-Named.name) false c.if-version-row.false c.in-Named.is c.if-is_ended.ensures in
    subst (HasNamed c.insert.new.self) (sym made) (named_made m c.in-Named.name _ c.args.found.now c.insert.new.self c.in_ok-insert.ensures.updates sofar)
