use Rattle.std.proofs.Common.{Option, refl, ap, subst}
use Rattle.gs_model.specs.declared.refusals.Refusal.{Refusal}
use Rattle.gs_triple_lists.specs.Lists.{Listed}
use Rattle.gs_upload.specs.Readings.{EndsReading}
use Rattle.gs_upload.specs.Readers.{meaning_of_text, LeadsText, is_closed_text}
use Rattle.gs_session.proofs.UploadStepLemmas.{GivesLast, emptied, filled, ended_by, end_short, end_staged, end_gives, end_faulty}
use Rattle.gs_session.proofs.uploads.finish.Goals as goal

pub returns-in-Err : goal.returns-in-Err
returns-in-Err g c e b t over = (refl, end_short c.args.setup.now e c.args.asked c.args.reading t b c.silently.result c.silently.ensures)

pub returns-in-Ok-Some : goal.returns-in-Ok-Some
returns-in-Ok-Some g c e b t over =
    let Ended : Option Refusal → Type 0 = λ o. EndsReading meaning_of_text LeadsText is_closed_text c.args.reading o c.new-triples.result.items c.finish.new.triples.items in
    let ended = subst Ended c.in-Ok-Some.field-0-is c.in-Ok-Some.ensures.ended in
    end_faulty g.D.Door.Gives c.args.setup.now e c.args.asked c.args.reading t b c.in-Ok-Some.field-0-0 c.args.door.now c.cancel.new.door c.cancel.result over ended.first c.cancel.ensures

pub returns-then-is_empty : goal.returns-then-is_empty
returns-then-is_empty g c e b t over =
    let v = c.finish.new.triples in
    let none = emptied v.items c.is_empty.result c.is_empty.ensures c.if-is_empty.true in
    let Ended : Option Refusal → Type 0 = λ o. EndsReading meaning_of_text LeadsText is_closed_text c.args.reading o c.new-triples.result.items v.items in
    let ended = subst Ended c.in-Ok-None.field-0-is c.in-Ok-None.ensures.ended in
    let last = subst (λ us. GivesLast c.args.reading us) none (ended_by c.args.reading c.new-triples.result.items v.items (ap (λ (l : Listed). l.items) c.new-triples.ensures) ended) in
    (refl, end_staged c.args.setup.now e c.args.asked c.args.reading t b c.silently-then-is_empty.result over last c.silently-then-is_empty.ensures)

pub returns-else-is_empty : goal.returns-else-is_empty
returns-else-is_empty g c e b t over =
    let v = c.finish.new.triples in
    let full = filled v.items c.is_empty.result c.is_empty.ensures c.if-is_empty.false in
    let Ended : Option Refusal → Type 0 = λ o. EndsReading meaning_of_text LeadsText is_closed_text c.args.reading o c.new-triples.result.items v.items in
    let ended = subst Ended c.in-Ok-None.field-0-is c.in-Ok-None.ensures.ended in
    let last = ended_by c.args.reading c.new-triples.result.items v.items (ap (λ (l : Listed). l.items) c.new-triples.ensures) ended in
    end_gives g.D.Door.Gives c.args.setup.now e c.args.asked c.args.reading t b v c.args.door.now c.stage.new.door c.stage.result over last full c.stage.ensures
