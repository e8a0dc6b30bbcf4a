use Rattle.gs_records.proofs.Walking.{walk_has}
use Rattle.gs_records.proofs.laws.walks_have_all_numbers.Goals as goal

pub returns : goal.returns
returns c = λ most v rs listed from ns some al. walk_has most v rs listed some al from ns
