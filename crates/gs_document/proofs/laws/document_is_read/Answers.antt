use Rattle.gs_document.proofs.DocumentLemmas.{document_read, document_covered}
use Rattle.gs_document.proofs.laws.document_is_read.Goals as goal

pub returns : goal.returns
returns c = λ b r ts S. (document_read b r ts S, document_covered b r ts S)
