use Rattle.std.proofs.Common.{◌+◌, ◌^◌, ◌<◌, arith}
use Rattle.gs_tree_store.proofs.UploadLemmas.{upload_staged}
use Rattle.gs_tree_store.proofs.StageLemmas.{few_triples, stage_refused, stage_done}
use Rattle.gs_tree_store.proofs.actions.stage.Goals as goal

pub stage-merged-requires : goal.stage-merged-requires
stage-merged-requires c = record { staged = upload_staged c.args.books.now c.args.seat.now c.in-Writing.field-0 c.in-Writing.field-1 c.in-Writing.upload c.in-Writing.field-3 c.in-Writing.field-4 c.in-Writing.is c.requires }

pub returns-in_default-merged-clause-acts : goal.returns-in_default-merged-clause-acts
returns-in_default-merged-clause-acts c =
    stage_refused c.args.books.now c.args.seat.now c.in-Writing.field-0 c.in-Writing.field-1 c.in-Writing.upload c.in-Writing.field-3 c.in-Writing.field-4 c.args.triples.now c.stage-merged.new.dict c.stage-merged.new.pool
    c.in-Writing.is c.in_default-merged.ensures.grows c.in_default-merged.ensures.kept

pub overflow_add-upload : goal.overflow_add-upload
overflow_add-upload c =
    let used = c.nodes_in_use-used.ensures in
    let few : c.in-Writing.upload.triples + c.in-Ok.merged.added < 2 ^ 32 =
    few_triples c.args.books.now c.args.seat.now c.in-Writing.field-0 c.in-Writing.field-1 _ c.in-Writing.upload c.in-Writing.field-3 c.in-Writing.field-4 c.stage-merged.new.dict c.stage-merged.new.pool c.args.triples.now.items c.in-Ok.merged
    c.in-Writing.is (omega (arith, used.fits, used.small)) c.in-Ok.ensures.ok c.requires in
    omega (arith, few)

pub returns-clause-acts : goal.returns-clause-acts
returns-clause-acts c =
    stage_done c.args.books.now c.args.seat.now c.in-Writing.field-0 c.in-Writing.field-1 _ c.in-Writing.upload c.in-Writing.field-3 c.in-Writing.field-4 c.args.triples.now c.stage-merged.new.dict c.stage-merged.new.pool c.in-Ok.merged
    c.in-Writing.is (omega (arith, c.commit-birth.ensures)) c.in-Ok.ensures.grows c.in-Ok.ensures.ok
