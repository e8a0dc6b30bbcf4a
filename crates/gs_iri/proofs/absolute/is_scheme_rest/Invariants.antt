-- what is left decides as the whole does
use Rattle.std.proofs.Common.{◌≡◌, drop}
use Rattle.gs_model.specs.Iris.{is_scheme_rest}
use Rattle.gs_iri.proofs.absolute.is_scheme_rest.Given as goal

abbrev pub invariant-loop-i : goal.invariant-loop-i
invariant-loop-i l = is_scheme_rest l.bytes ≡ is_scheme_rest (drop l.i l.bytes)
