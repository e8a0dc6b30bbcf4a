use Rattle.std.proofs.Common.{[], ◌∷◌, arith, refl, sym, ap, subst, ◌∙◌, get_or}
use Rattle.std.proofs.lemmas.List.{take_all}
use Rattle.gs_machine.specs.Machines.{steps}
use Rattle.gs_machine.specs.Utf8.{Ready, utf8}
use Rattle.gs_machine.proofs.MachineLemmas.{steps-nil}
use Rattle.gs_automaton.proofs.SymbolLemmas.{front-character, front-bad, front-short, front-more}
use Rattle.std.specs.Char.{IsScalar}
use Rattle.gs_automaton.proofs.symbols.wide_front.Goals as goal

pub loop-i-init : goal.loop-i-init
loop-i-init c = steps-nil utf8 Ready ∙ ap (λ z. (z, [])) (sym c.new-decoder.ensures)

pub returns-in-Some-from_u32 : goal.returns-in-Some-from_u32
returns-in-Some-from_u32 c =
    let same = c.in-Some-from_u32.ensures.value.1 in
    front-character c.args.text.now c.loop-i.i c.loop-i.decoder c.decode.new.self (get_or c.args.text.now c.loop-i.i 0) c.in-Some-from_u32.c
    c.loop-i.invariant (omega arith) refl
    (ap (λ z. (c.decode.new.self, z ∷ [])) same ∙ c.in-Some.ensures)
    (subst IsScalar (sym same) c.in-Some-from_u32.ensures.value.0)

pub returns-in-None : goal.returns-in-None
returns-in-None c =
    front-bad c.args.text.now c.loop-i.i c.loop-i.decoder c.decode.new.self (get_or c.args.text.now c.loop-i.i 0) c.in-Some.code
    c.loop-i.invariant (omega arith) refl c.in-Some.ensures c.in-None.ensures.value

pub loop-i-preserved : goal.loop-i-preserved
loop-i-preserved c =
    front-more c.args.text.now c.loop-i.i c.loop-i.decoder c.decode.new.self (get_or c.args.text.now c.loop-i.i 0)
    c.loop-i.invariant (omega arith) refl c.in_default.ensures

pub returns : goal.returns
returns c = front-short c.args.text.now c.loop-i.decoder (ap (steps utf8 Ready) (sym (take_all c.loop-i.i c.args.text.now (omega arith))) ∙ c.loop-i.invariant)
