use Rattle.std.proofs.Common.{sym, subst}
use Rattle.std.specs.Prelude.{Option}
use Rattle.gs_model.specs.Terms.{Term}
use Rattle.gs_ntread.specs.LineFronts.{IsTextAsWritten}
use Rattle.gs_ntread.specs.declared.lines.Written.{Written}
use Rattle.gs_ntread.specs.declared.lines.Written.TheVariants as written
use Rattle.gs_ntread.proofs.LineTakes.{node_text}
use Rattle.gs_ntread.proofs.numbers.text_of.Goals as goal

pub returns-in-Some : goal.returns-in-Some
returns-in-Some c =
    let bytes = c.as_bytes.result.now in
    subst (λ (w : Written). IsTextAsWritten w c.args.node.now bytes) (sym c.in-Label.is)
    (subst (λ (o : Option Term). IsTextAsWritten (written.Label c.in-Label.field-0) o bytes) (sym c.in-Some.is) (node_text c.in-Some.node bytes c.as_bytes.ensures.text c.as_bytes.ensures.valid))
