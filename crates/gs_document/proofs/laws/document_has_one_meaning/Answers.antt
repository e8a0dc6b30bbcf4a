use Rattle.gs_document.proofs.DocumentLemmas.{document_once}
use Rattle.gs_document.proofs.laws.document_has_one_meaning.Goals as goal

pub returns : goal.returns
returns c = document_once
