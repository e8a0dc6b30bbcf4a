use Rattle.std.proofs.Common.{◌<◌, ◌+◌, List, refl, subst, inr, arith}
use Rattle.gs_event.specs.declared.updates.Op.{Op}
use Rattle.gs_patch.proofs.PatchLemmas.{most, Patching, LeavesOnly, patching_more, patching_half, only_more}
use Rattle.gs_patch.proofs.patches.operate_all.Goals as goal

pub returns-in-Err-clause-half : goal.returns-in-Err-clause-half
returns-in-Err-clause-half c =
    let i = c.loop-operation in
    patching_half c.args.birth c.args.dict.now i.dict c.operate.new.dict c.args.pool.now i.pool c.operate.new.pool c.args.root c.in-Err.half.root c.args.operations.now i.left.now i.draft c.operate.ensures.grows i.invariant.0 c.in-Err.ensures.half

pub returns-in-Err-clause-only : goal.returns-in-Err-clause-only
returns-in-Err-clause-only c =
    let i = c.loop-operation in
    let op = c.in-Some.operation.now in
    let rest = c.in-Some.rest.now in
    let among = subst (λ (l : List Op). LeavesOnly l c.args.operations.now) c.in-Some.ensures.cases.0 i.invariant.1 in
    only_more c.args.dict.now.terms i.dict.terms c.operate.new.dict.terms c.args.operations.now rest op among i.invariant.2 c.operate.ensures.only

pub loop-operation-preserved : goal.loop-operation-preserved
loop-operation-preserved c =
    let i = c.loop-operation in
    let op = c.in-Some.operation.now in
    let rest = c.in-Some.rest.now in
    let done = c.in-Ok.done in
    let few_in : done.added < most = omega arith in
    let few_out : done.removed < most = omega arith in
    let before = subst (λ (l : List Op). Patching c.args.birth c.args.dict.now i.dict c.args.pool.now i.pool c.args.root c.args.operations.now l i.draft) c.in-Some.ensures.cases.0 i.invariant.0 in
    let among = subst (λ (l : List Op). LeavesOnly l c.args.operations.now) c.in-Some.ensures.cases.0 i.invariant.1 in (
      patching_more c.args.birth c.args.dict.now i.dict c.operate.new.dict c.args.pool.now i.pool c.operate.new.pool c.args.root c.args.operations.now rest op i.draft
          (record { root = done.root; added = i.draft.added + done.added; removed = i.draft.removed + done.removed }) done few_in few_out c.operate.ensures.grows c.in-Ok.ensures.ok refl refl refl before,
      (λ u is. among u (inr is)),
      only_more c.args.dict.now.terms i.dict.terms c.operate.new.dict.terms c.args.operations.now rest op among i.invariant.2 c.operate.ensures.only,
    )
