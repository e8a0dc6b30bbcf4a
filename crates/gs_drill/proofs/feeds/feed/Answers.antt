use Rattle.std.proofs.Common.{refl, sym, ap, ◌∙◌, Some, None}
use Rattle.std.proofs.lemmas.Result.{IfOk-weaker}
use Rattle.gs_drill.specs.Standing.{desk_of}
use Rattle.gs_drill.specs.Printing.{reply_text}
use Rattle.gs_drill.proofs.FeedLemmas.{feeds_by, no_seat, no_upload, some_upload}
use Rattle.gs_drill.proofs.feeds.feed.Goals as goal

pub returns-in-None-clause-does : goal.returns-in-None-clause-does
returns-in-None-clause-does c = λ st.
    let none = no_seat _ (sym c.has_upload.ensures ∙ c.in-None.is) in
    (st, feeds_by c.args.uploads.now.cut c.args.store.now c.args.uploads.now st c.args.seat c.args.language c.args.text.now _ (desk_of st) None none (refl, refl))

pub returns-in-Some-true-clause-does : goal.returns-in-Some-true-clause-does
returns-in-Some-true-clause-does c =
    let upload = some_upload _ (sym c.has_upload.ensures ∙ c.in-Some-true.is ∙ ap Some c.in-Some-true.field-0-test) in
    IfOk-weaker c.feed_upload.result _ _
    (λ reply does st.
    let en = does upload.0 upload.1 st in
    (en.0, feeds_by c.args.uploads.now.cut c.args.store.now c.args.uploads.now st c.args.seat c.args.language c.args.text.now (reply_text reply) (desk_of en.0) (Some (Some upload.0)) upload.1 en.1))
    c.feed_upload.ensures.does

pub returns-in-Some-false-clause-does : goal.returns-in-Some-false-clause-does
returns-in-Some-false-clause-does c = λ st.
    let none = no_upload _ (sym c.has_upload.ensures ∙ c.in-Some-false.is ∙ ap Some c.in-Some-false.field-0-test) in
    (st, feeds_by c.args.uploads.now.cut c.args.store.now c.args.uploads.now st c.args.seat c.args.language c.args.text.now _ (desk_of st) (Some None) none (refl, refl))
