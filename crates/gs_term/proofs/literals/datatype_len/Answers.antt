use Rattle.std.proofs.Common.{arith, ap, sym, length, length-append, ◌∷◌, []}
use Rattle.gs_term.proofs.MakingLemmas.{suffix_plain, suffix_other}
use Rattle.gs_term.proofs.literals.datatype_len.Goals as goal

pub returns-then-eq : goal.returns-then-eq
returns-then-eq c = sym (ap length (suffix_plain c.args.datatype.now c.if-eq.ensures))

pub returns-else-eq : goal.returns-else-eq
returns-else-eq c = rw (suffix_other c.args.datatype.now c.if-eq.ensures) (omega (arith, length-append c.args.datatype.now (62 ∷ [])))
