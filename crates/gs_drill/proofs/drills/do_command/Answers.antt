use Rattle.std.proofs.Common.{◌≡◌, ℕ, List, [], true, false, refl, rules, sym, subst}
use Rattle.gs_event.specs.Datasets.{triples_in}
use Rattle.gs_event.specs.Waste.{nodes_in}
use Rattle.gs_commands.specs.declared.commands.Command.{Command}
use Rattle.gs_commands.specs.declared.commands.Command.TheVariants.{Ask, Count, Feed, Patch}
use Rattle.gs_drill.specs.Printing.{counts_text}
use Rattle.gs_drill.specs.Feeds.{Desk, DoesFeed}
use Rattle.gs_drill.specs.Commits.{DoesEvent}
use Rattle.gs_drill.specs.Patches.{DoesPatch}
use Rattle.gs_drill.specs.Drills.{RunState, CarriesOut}
use Rattle.gs_drill.specs.Taking.{WritesReply, DoesCommand}
use Rattle.gs_drill.specs.Standing.{Standing, desk_of, run_state}
use Rattle.gs_drill.proofs.WritingLemmas.{Appends-none}
use Rattle.gs_drill.proofs.PlayLemmas.{does_by, printed_by}
use Rattle.gs_drill.proofs.drills.do_command.Goals as goal

pub returns-in-Nothing : goal.returns-in-Nothing
returns-in-Nothing g c = λ st.
    let s = run_state c.args.begun.now st in
    let P : Command → Type 0 = λ k. CarriesOut s k [] s in
    record { text = []; last = st; makes = subst P (sym c.in-Nothing.is) (refl, refl); written = Appends-none (g.W.Write.contents c.args.out.now) }

pub returns-in_ok-made-in-Begin : goal.returns-in_ok-made-in-Begin
returns-in_ok-made-in-Begin g c = λ st.
    let s = run_state c.args.begun.now st in
    let new = c.in_ok-made-in-Begin.ensures.begins in
    let fresh : c.args.begun.now ≡ false = search rules in
    let P : Command → Type 0 = λ k. CarriesOut s k [] (run_state true new.standing) in
    record { text = []; last = new.standing; makes = subst P (sym c.in-Begin.is) (fresh, refl, new.is true); written = Appends-none (g.W.Write.contents c.args.out.now) }

pub returns-in-Ask : goal.returns-in-Ask
returns-in-Ask g c = λ st.
    let held = g.W.Write.contents in
    let s = run_state c.args.begun.now st in
    let does = c.do_event in
    let done : Desk → RunState = λ d. record { begun = true; cut = does.new.uploads.cut; desk = d } in
    let P : Command → Type 0 = λ k. DoesCommand s k {T = Standing does.new.store does.new.uploads} (run_state true) (held c.args.out.now) (held does.new.out) does.result in
    subst P (sym c.in-Ask.is)
    (does_by {T = Standing does.new.store does.new.uploads} desk_of s (Ask c.in-Ask.event) done (DoesEvent s.desk c.in-Ask.event) (held c.args.out.now) (held does.new.out) does.result
    (λ text d made. (refl, does.ensures.cut, made)) (does.ensures.does st))

pub returns-in-Count : goal.returns-in-Count
returns-in-Count g c = λ st.
    let held = g.W.Write.contents in
    let s = run_state c.args.begun.now st in
    let text = counts_text (nodes_in s.desk.shown) (triples_in s.desk.shown.view.totals.dataset) in
    let done : Desk → RunState = λ d. record { begun = true; cut = c.args.uploads.now.cut; desk = d } in
    let made : List ℕ → Desk → Type 0 = λ printed d. (d ≡ s.desk) × (printed ≡ text) in
    let P : Command → Type 0 = λ k. DoesCommand s k {T = Standing c.args.store.now c.args.uploads.now} (run_state true) (held c.args.out.now) (held c.do_count.new.out) c.do_count.result in
    subst P (sym c.in-Count.is)
    (does_by {T = Standing c.args.store.now c.args.uploads.now} desk_of s Count done made (held c.args.out.now) (held c.do_count.new.out) c.do_count.result
    (λ printed d m. (refl, refl, m.0, m.1)) (printed_by desk_of st made text (held c.args.out.now) (held c.do_count.new.out) c.do_count.result (refl, refl) c.do_count.ensures))

pub returns-else-not-takes : goal.returns-else-not-takes
returns-else-not-takes g c = λ st.
    let held = g.W.Write.contents in
    let s = run_state c.args.begun.now st in
    let does = c.do_feed in
    let seat = c.in-Feed.seat in
    let language = c.in-Feed.language in
    let within = c.if-not-takes.ensures.same refl st.fed st.texts in
    let done : Desk → RunState = λ d. record { begun = true; cut = does.new.uploads.cut; desk = d } in
    let P : Command → Type 0 = λ k. DoesCommand s k {T = Standing does.new.store does.new.uploads} (run_state true) (held c.args.out.now) (held does.new.out) does.result in
    let X : List ℕ → Type 0 = λ y. WritesReply {T = Standing does.new.store does.new.uploads} desk_of (DoesFeed s.cut s.desk seat language y) (held c.args.out.now) (held does.new.out) does.result in
    subst P (sym c.in-Feed.is)
    (does_by {T = Standing does.new.store does.new.uploads} desk_of s (Feed seat language c.in-Feed.text) done (DoesFeed s.cut s.desk seat language c.in-Feed.text.items) (held c.args.out.now) (held does.new.out) does.result
    (λ text d made. (within, refl, does.ensures.cut, made)) (subst X c.as_slice.ensures.value (does.ensures.does st)))

pub returns-in-Patch : goal.returns-in-Patch
returns-in-Patch g c = λ st.
    let held = g.W.Write.contents in
    let s = run_state c.args.begun.now st in
    let does = c.do_patch in
    let seat = c.in-Patch.seat in
    let done : Desk → RunState = λ d. record { begun = true; cut = does.new.uploads.cut; desk = d } in
    let P : Command → Type 0 = λ k. DoesCommand s k {T = Standing does.new.store does.new.uploads} (run_state true) (held c.args.out.now) (held does.new.out) does.result in
    let X : List ℕ → Type 0 = λ y. WritesReply {T = Standing does.new.store does.new.uploads} desk_of (DoesPatch s.desk seat y) (held c.args.out.now) (held does.new.out) does.result in
    subst P (sym c.in-Patch.is)
    (does_by {T = Standing does.new.store does.new.uploads} desk_of s (Patch seat c.in-Patch.text) done (DoesPatch s.desk seat c.in-Patch.text.items) (held c.args.out.now) (held does.new.out) does.result
    (λ text d made. (refl, does.ensures.cut, made)) (subst X c.as_slice-in-Patch.ensures.value (does.ensures.does st)))

pub returns-in-Cut : goal.returns-in-Cut
returns-in-Cut g c = λ st.
    let s = run_state c.args.begun.now st in
    let P : Command → Type 0 = λ k. CarriesOut s k [] (record { begun = true; cut = c.in-Cut.length; desk = s.desk }) in
    record {
      text = [];
      last = record { fed = st.fed; openings = st.openings; patches = st.patches; texts = st.texts; even = st.even };
      makes = subst P (sym c.in-Cut.is) (refl, refl);
      written = Appends-none (g.W.Write.contents c.args.out.now);
    }
