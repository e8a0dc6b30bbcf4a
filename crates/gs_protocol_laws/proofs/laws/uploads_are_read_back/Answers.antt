use Rattle.gs_protocol_laws.proofs.UploadLemmas.{put_uploads, post_uploads, new_uploads}
use Rattle.gs_protocol_laws.proofs.laws.uploads_are_read_back.Goals as goal

pub returns-clause-put : goal.returns-clause-put
returns-clause-put c = put_uploads

pub returns-clause-post : goal.returns-clause-post
returns-clause-post c = post_uploads

pub returns-clause-new : goal.returns-clause-new
returns-clause-new c = new_uploads
