use Rattle.std.proofs.Common.{◌≡◌, ℕ, List, ap, ◌∙◌, subst, false, map}
use Rattle.std.specs.Char.{to_ascii_lowercase}
use Rattle.std.proofs.lemmas.Str.{IsUtf8-from_ascii}
use Rattle.gs_model.specs.Terms.{Literal, Tagged}
use Rattle.gs_term.specs.Making.{Makes}
use Rattle.gs_commands.proofs.LineReaderLemmas.{lower_tag, tag_ascii}
use Rattle.gs_commands.proofs.lines.read_tagged.Goals as goal

pub returns-in-Ok : goal.returns-in-Ok
returns-in-Ok c = λ ok.
    let same = c.in-Ok.ensures.cases.0 in
    let e : map to_ascii_lowercase c.in-Ok.tag.now ≡ c.args.tag.now = ap (map to_ascii_lowercase) same ∙ lower_tag false false c.args.tag.now ok.formed in
    let P : List ℕ → Type 0 = λ z. Makes (Literal c.args.text.now (Tagged z)) c.literal.result in
    c.made.ensures (Literal c.args.text.now (Tagged c.args.tag.now)) ok (subst P e c.literal.ensures)

pub returns-in-Err : goal.returns-in-Err
returns-in-Err c = λ ok. absurd (c.in-Err.ensures.cases.0 (IsUtf8-from_ascii _ (tag_ascii false false c.args.tag.now ok.formed)))
