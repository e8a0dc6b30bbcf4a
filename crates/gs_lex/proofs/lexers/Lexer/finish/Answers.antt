use Rattle.std.proofs.Common.{◌≡◌, rules, arith, ap, ◌∙◌}
use Rattle.gs_lex.specs.declared.readings.Halt.TheVariants as halt
use Rattle.gs_lex.specs.Readings.{reading_at_start}
use Rattle.gs_lex.proofs.FinishLemmas.{held-read, finish-as, halted-fault, halted-end, of-held, leads-fresh}
use Rattle.gs_lex.proofs.lexers.Lexer.finish.Goals as goal

pub returns-then-eq-clause-fault : goal.returns-then-eq-clause-fault
returns-then-eq-clause-fault c u x ts h =
    let k : c.args.self.now.at.cut ≡ 0 = omega arith in
    let same : c.in-Ok.halt ≡ halt.Fault = search rules in
    let r = of-held c.args.self.now c.deref.result.now c.in-Ok.at c.in-Ok.halt c.args.tokens.now.items c.read.new.tokens.items c.deref.ensures.value c.in-Ok.ensures.ok.1 (held-read u c.args.self.now x ts h k) in
    finish-as u c.args.self.now x ts c.in-Ok.at c.args.tokens.now.items c.read.new.tokens.items _ h k r.0 (halted-fault c.args.self.now.held.items c.in-Ok.at c.in-Ok.halt same r.1)

pub returns-else-eq-clause-ok : goal.returns-else-eq-clause-ok
returns-else-eq-clause-ok c u x ts h =
    let k : c.args.self.now.at.cut ≡ 0 = omega arith in
    let other : c.in-Ok.halt ≡ halt.Fault → ⊥ = search rules in
    let r = of-held c.args.self.now c.deref.result.now c.in-Ok.at c.in-Ok.halt c.args.tokens.now.items c.read.new.tokens.items c.deref.ensures.value c.in-Ok.ensures.ok.1 (held-read u c.args.self.now x ts h k) in (
      finish-as u c.args.self.now x ts c.in-Ok.at c.args.tokens.now.items c.read.new.tokens.items _ h k r.0 (halted-end c.args.self.now.held.items c.in-Ok.at c.in-Ok.halt other r.1),
      leads-fresh u _ c.if-self.false c.clear.ensures.items (c.first_reading-self.ensures ∙ ap reading_at_start h.reads),
    )
