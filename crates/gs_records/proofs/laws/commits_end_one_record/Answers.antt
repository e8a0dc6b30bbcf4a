use Rattle.gs_records.proofs.Lasting.{commit_ends_one}
use Rattle.gs_records.proofs.laws.commits_end_one_record.Goals as goal

pub returns : goal.returns
returns c = commit_ends_one
