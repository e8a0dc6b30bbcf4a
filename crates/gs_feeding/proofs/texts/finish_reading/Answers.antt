use Rattle.std.proofs.Common.{Option, Ok, ap, ◌∙◌, subst}
use Rattle.gs_model.specs.declared.refusals.Refusal.{Refusal}
use Rattle.gs_triple_lists.specs.Lists.{Listed}
use Rattle.gs_upload.specs.Readings.{EndsReading}
use Rattle.gs_upload.specs.Readers.{meaning_of_text, LeadsText, is_closed_text}
use Rattle.gs_feeding.proofs.TextLemmas.{ended_whole, ended_faulty, no_fault_by}
use Rattle.gs_feeding.proofs.texts.finish_reading.Goals as goal

pub returns-in-None : goal.returns-in-None
returns-in-None c =
    let k = c.args.reading in
    let before = c.new-triples.result.items in
    let after = c.finish.new.triples.items in
    let P : Option Refusal → Type 0 = λ o. EndsReading meaning_of_text LeadsText is_closed_text k o before after in
    ended_whole c.args.language k before after (ap (λ (l : Listed). l.items) c.new-triples.ensures) (no_fault_by k c.finish.result (c.in_ok-finish.was ∙ ap Ok c.in-None.is) c.finish.ensures.latched) (subst P c.in-None.is c.in_ok-finish.ensures.ended)

pub returns-in-Some : goal.returns-in-Some
returns-in-Some c =
    let k = c.args.reading in
    let before = c.new-triples.result.items in
    let after = c.finish.new.triples.items in
    let P : Option Refusal → Type 0 = λ o. EndsReading meaning_of_text LeadsText is_closed_text k o before after in
    ended_faulty c.args.language k c.in-Some.field-0 before after (subst P c.in-Some.is c.in_ok-finish.ensures.ended)
