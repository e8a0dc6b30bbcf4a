-- what is left decides as the whole does
use Rattle.std.proofs.Common.{◌≡◌, drop}
use Rattle.gs_token_terms.specs.References.{ends_scheme}
use Rattle.gs_token_terms.proofs.references.ends_scheme.Given as goal

abbrev pub invariant-loop-b : goal.invariant-loop-b
invariant-loop-b l = ends_scheme l.bytes ≡ ends_scheme (drop l.b-index l.bytes)
