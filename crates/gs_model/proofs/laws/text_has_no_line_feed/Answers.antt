use Rattle.gs_model.specs.Terms.{text_of}
use Rattle.gs_model.proofs.LineLemmas.{no_line_feed, list_all-other}
use Rattle.gs_model.proofs.laws.text_has_no_line_feed.Goals as goal

pub returns : goal.returns
returns c = λ t ok. list_all-other 10 (text_of t) (no_line_feed t ok)
