use Rattle.gs_upload.specs.declared.languages.Language.TheVariants.{NTriples, Turtle}
use Rattle.gs_own_nodes.proofs.LineLemmas.{lines_own}
use Rattle.gs_own_nodes.proofs.DocumentLemmas.{document_own}
use Rattle.gs_own_nodes.proofs.laws.documents_name_their_own.Goals as goal

pub returns : goal.returns
returns c NTriples base r x = lines_own r x
returns c Turtle base r x = document_own base r x
