use Rattle.std.proofs.Common.{◌∙◌, ap}
use Rattle.std.specs.Str.{bytes_eq}
use Rattle.std.proofs.lemmas.Slice.Eq.{slice_eq-Decides}
use Rattle.std.proofs.lemmas.Bool.Decides.{Decides-eqb}
use Rattle.gs_dict.proofs.TermLemmas.{number_decides}
use Rattle.gs_dict.proofs.dict.Dict.is_number_of.Goals as goal

pub returns : goal.returns
returns c =
    number_decides c.args.self.now.terms c.args.id.number _ c.text.result.now c.eq.result c.text.ensures.value
    (slice_eq-Decides Decides-eqb _ _ c.eq.result (c.eq.ensures ∙ ap (bytes_eq c.text.result.now) c.as_bytes.ensures.text))
