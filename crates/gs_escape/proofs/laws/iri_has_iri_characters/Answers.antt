use Rattle.gs_escape.proofs.CharacterLemmas.{iri_of-characters}
use Rattle.gs_escape.proofs.laws.iri_has_iri_characters.Goals as goal

pub returns : goal.returns
returns c = iri_of-characters
