use Rattle.std.proofs.Common.{◌≡◌, ◌+◌, ◌∙◌, ap, refl, length, set, arith}
use Rattle.std.proofs.lemmas.List.{get_or_read_under}
use Rattle.gs_dict.specs.Chains.{bucket_of}
use Rattle.gs_texts.proofs.PlaceLemmas.{keeps_same}
use Rattle.gs_dict.proofs.TableLemmas.{table_agree, keeps_agree, Added, added_as}
use Rattle.gs_dict.proofs.chains.add.Goals as goal

pub returns-in_err-grow-clause-table : goal.returns-in_err-grow-clause-table
returns-in_err-grow-clause-table c =
    table_agree _ _ _ _ _ _ _ c.requires.table c.grow.ensures.linked c.grow.ensures.enough c.grow.ensures.kept refl (keeps_same _)

pub returns-in_err-grow-clause-kept : goal.returns-in_err-grow-clause-kept
returns-in_err-grow-clause-kept c = keeps_agree _ _ _ _ _ _ c.requires.table c.grow.ensures.kept refl (keeps_same _)

pub returns-in_err-reserve-clause-table : goal.returns-in_err-reserve-clause-table
returns-in_err-reserve-clause-table c =
    table_agree _ _ _ _ _ _ _ c.requires.table c.grow.ensures.linked c.grow.ensures.enough c.grow.ensures.kept c.reserve.ensures.items (keeps_same _)

pub returns-in_err-reserve-clause-kept : goal.returns-in_err-reserve-clause-kept
returns-in_err-reserve-clause-kept c = keeps_agree _ _ _ _ _ _ c.requires.table c.grow.ensures.kept c.reserve.ensures.items (keeps_same _)

pub returns-in_err-place-clause-table : goal.returns-in_err-place-clause-table
returns-in_err-place-clause-table c =
    table_agree _ _ _ _ _ _ _ c.requires.table c.grow.ensures.linked c.grow.ensures.enough c.grow.ensures.kept c.reserve.ensures.items c.push.ensures.kept

pub returns-in_err-place-clause-kept : goal.returns-in_err-place-clause-kept
returns-in_err-place-clause-kept c = keeps_agree _ _ _ _ _ _ c.requires.table c.grow.ensures.kept c.reserve.ensures.items c.push.ensures.kept

pub returns-in_err-push-clause-table : goal.returns-in_err-push-clause-table
returns-in_err-push-clause-table c =
    table_agree _ _ _ _ _ _ _ c.requires.table c.grow.ensures.linked c.grow.ensures.enough c.grow.ensures.kept
    (c.in_err-push.ensures.items ∙ c.reserve.ensures.items) c.push.ensures.kept

pub returns-in_err-push-clause-kept : goal.returns-in_err-push-clause-kept
returns-in_err-push-clause-kept c =
    keeps_agree _ _ _ _ _ _ c.requires.table c.grow.ensures.kept (c.in_err-push.ensures.items ∙ c.reserve.ensures.items) c.push.ensures.kept

-- what the whole call leaves
whole :
    (c : goal.After-heads-1)
    → Added c.args.texts.now c.args.entries.now.items c.push.new.self c.push-2.new.self.items
    (set c.grow.new.heads.items c.bucket-b.result (c.len-number.result + 1)) c.args.text.now c.args.hash
whole c =
    let buckets : c.len.result ≡ length c.grow.new.heads.items = omega arith in
    let number : c.len-number.result ≡ length c.reserve.new.self.items = omega arith in
    added_as _ _ _ _ _ _ _ _ _ _ _ _ c.requires.table c.grow.ensures.linked c.grow.ensures.enough c.in_ok-grow.ensures.another c.grow.ensures.kept
    c.reserve.ensures.items c.push.ensures.kept c.in_ok-place.ensures.ok c.in_ok-push.ensures.items number
    (c.bucket-b.ensures.value ∙ ap (λ n. bucket_of n c.args.hash) buckets)
    (get_or_read_under c.grow.new.heads.items c.bucket-b.result c.len.result c.index.result.now 0 c.index.ensures c.bucket-b.ensures.inside buckets)

pub returns-clause-table : goal.returns-clause-table
returns-clause-table c = (whole c).table

pub returns-clause-kept : goal.returns-clause-kept
returns-clause-kept c = (whole c).kept

pub returns-clause-value : goal.returns-clause-value
returns-clause-value c = (omega arith, (whole c).count, (whole c).has)
