use Rattle.std.proofs.Common.{List, ◌∙◌, ap, is_some}
use Rattle.gs_dict.specs.declared.chains.Entry.{Entry}
use Rattle.gs_dict.specs.Numbering.{Numbered, term_given}
use Rattle.gs_dict.specs.Kept.{has_bytes}
use Rattle.gs_dict.proofs.TermLemmas.{has_entry}
use Rattle.gs_dict.proofs.dict.Dict.has.Goals as goal

pub returns : goal.returns
returns c =
    c.has_text.ensures ∙ ap (λ (es : List Entry). has_bytes es c.args.id.number) c.deref.ensures.value
    ∙ has_entry c.self.inside.texts c.self.inside.entries.items c.args.id.number c.self.invariant.table.placed
    ∙ ap (λ (d : Numbered). is_some (term_given d.terms c.args.id.number)) c.self.view_is
