use Rattle.std.proofs.Common.{ℕ, sym, ap, ◌∙◌, arith}
use Rattle.gs_ntterm.specs.Classes.{begins_label}
use Rattle.gs_ntterm.proofs.LabelFronts.{label_begins}
use Rattle.gs_ntterm.proofs.wholes.begins_as_label.Goals as goal

pub returns : goal.returns
returns c = λ h.
    label_begins c.args.piece.now (omega arith) (omega arith) (omega arith) (omega arith) (ap (λ (b : ℕ). begins_label b) (sym c.from.ensures) ∙ sym c.begins_label.ensures ∙ h)
