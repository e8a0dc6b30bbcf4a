-- what is left leads where the whole does
use Rattle.std.proofs.Common.{◌≡◌, drop}
use Rattle.gs_ntterm.specs.Forms.{form_after}
use Rattle.gs_ntterm.proofs.forms.Form.after.Given as goal

abbrev pub invariant-loop-b : goal.invariant-loop-b
invariant-loop-b l = form_after l.fn.self l.bytes ≡ form_after l.form (drop l.b-index l.bytes)
