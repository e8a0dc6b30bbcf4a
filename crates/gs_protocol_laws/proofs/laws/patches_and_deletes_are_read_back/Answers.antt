use Rattle.gs_protocol_laws.proofs.PatchLemmas.{whole_patches, whole_deletes}
use Rattle.gs_protocol_laws.proofs.laws.patches_and_deletes_are_read_back.Goals as goal

pub returns-clause-patch : goal.returns-clause-patch
returns-clause-patch c = whole_patches

pub returns-clause-delete : goal.returns-clause-delete
returns-clause-delete c = whole_deletes
