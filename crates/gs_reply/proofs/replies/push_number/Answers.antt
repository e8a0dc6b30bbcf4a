use Rattle.std.proofs.Common.{◌≡◌, ◌++◌, ◌∙◌, ℕ, List, codes, subst}
use Rattle.std.specs.Prelude.{OnOk}
use Rattle.gs_term.proofs.MakingLemmas.{decimal_is_numeral}
use Rattle.gs_reply.specs.Replies.{field_line}
use Rattle.gs_reply.proofs.replies.push_number.Goals as goal

pub returns : goal.returns
returns c =
    let number = c.as_bytes.ensures.value ∙ c.format.ensures.text ∙ decimal_is_numeral c.args.number c.ranges.number.fits in
    let Adds : List ℕ → Type 0 = λ v. OnOk c.push_field.result (c.push_field.new.text.items ≡ c.args.text.now.items ++ field_line (codes "Store-Commit") v) in
    subst Adds number c.push_field.ensures
