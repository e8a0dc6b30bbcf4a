use Rattle.gs_storage_bench.proofs.StoredLemmas.{grows_then, grows_by}
use Rattle.gs_storage_bench.proofs.graphs.numbers.Goals as goal

pub returns : goal.returns
returns c =
    let d = c.args.dict.now in
    let e = c.intern_near.new.self in
    let f = c.intern.new.self in
    let g = c.intern_near-2.new.self in
    grows_then d f g (grows_then d e f (grows_by d e _ _ c.intern_near.ensures) (grows_by e f _ _ c.intern.ensures.value)) (grows_by f g _ _ c.intern_near-2.ensures)
