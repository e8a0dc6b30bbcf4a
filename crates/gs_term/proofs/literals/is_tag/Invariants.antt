-- what is left decides as the whole does
use Rattle.std.proofs.Common.{◌≡◌, drop, map}
use Rattle.std.specs.Char.{to_ascii_lowercase}
use Rattle.gs_model.specs.Terms.{is_tag, is_tag_rest}
use Rattle.gs_term.proofs.literals.is_tag.Given as goal

abbrev pub invariant-loop-b : goal.invariant-loop-b
invariant-loop-b l = is_tag (map to_ascii_lowercase l.tag) ≡ is_tag_rest l.digits l.begun (map to_ascii_lowercase (drop l.b-index l.tag))
