use Rattle.gs_feeding.proofs.TextLemmas.{begins_text}
use Rattle.gs_feeding.proofs.texts.SeatText.begin.Goals as goal

pub returns : goal.returns
returns c =
    begins_text c.in_ok-reading.reading c.args.language c.args.opening.now c.base.result.now c.base.ensures.value c.in_ok-reading.ensures.no_fault c.in_ok-reading.ensures.fed
