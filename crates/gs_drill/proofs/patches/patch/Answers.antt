use Rattle.std.proofs.Common.{ℕ, List, refl, Some, None, subst}
use Rattle.std.proofs.lemmas.Result.{IfOk-weaker}
use Rattle.gs_update_text.specs.Texts.{request_by}
use Rattle.gs_update.specs.Answers.{Answers as ReadsUpdate}
use Rattle.gs_feeding.specs.Bases.{base_under}
use Rattle.gs_drill.specs.Standing.{desk_of}
use Rattle.gs_drill.specs.Printing.{reply_text}
use Rattle.gs_drill.proofs.PatchLemmas.{patches_by, none_there, some_there}
use Rattle.gs_drill.proofs.patches.patch.Goals as goal

pub returns-in-None-clause-does : goal.returns-in-None-clause-does
returns-in-None-clause-does c = λ st.
    let none = none_there c.deref.result.now c.args.uploads.now.patches.items c.from.result c.args.seat c.deref.ensures.value c.from.ensures c.in-None.ensures.lookup.3 in
    (st, patches_by c.args.store.now c.args.uploads.now st c.args.seat c.args.text.now _ (desk_of st) None none (refl, refl))

pub returns-in-Some-None-clause-does : goal.returns-in-Some-None-clause-does
returns-in-Some-None-clause-does c = λ st.
    let found = c.in-Some-None in
    let none = some_there c.deref.result.now c.args.uploads.now.patches.items c.from.result c.args.seat found.field-0.now None c.deref.ensures.value c.from.ensures found.ensures.lookup.3.0 found.ensures.lookup.1 found.field-0-is in
    (st, patches_by c.args.store.now c.args.uploads.now st c.args.seat c.args.text.now _ (desk_of st) (Some None) none (refl, refl))

pub returns-clause-does : goal.returns-clause-does
returns-clause-does c =
    let found = c.in-Some-Some in
    let text = c.args.text.now in
    let there = some_there c.deref.result.now c.args.uploads.now.patches.items c.from.result c.args.seat found.field-0.now (Some found.opening) c.deref.ensures.value c.from.ensures found.ensures.lookup.3.0 found.ensures.lookup.1 found.field-0-is in
    let P : List ℕ → Type 0 = λ b. ReadsUpdate c.read_update-read.result (request_by b found.opening.request text) in
    IfOk-weaker c.conclude.result _ _
    (λ reply does st.
    let en = does (request_by (base_under found.opening.target) found.opening.request text) (subst P c.base.ensures.value c.read_update-read.ensures) st in
    (en.0, patches_by c.args.store.now c.args.uploads.now st c.args.seat text (reply_text reply) (desk_of en.0) (Some (Some found.opening)) there en.1))
    c.conclude.ensures.does
