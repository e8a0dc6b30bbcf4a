use Rattle.gs_drill.specs.Feeds.{DoesFeed}
use Rattle.gs_drill.specs.Printing.{reply_text}
use Rattle.gs_drill.specs.Standing.{desk_of}
use Rattle.gs_drill.proofs.PlayLemmas.{printed_by}
use Rattle.gs_drill.proofs.drills.do_feed.Goals as goal

pub returns-in-Ok-clause-does : goal.returns-in-Ok-clause-does
returns-in-Ok-clause-does g c = λ st.
    let held = g.W.Write.contents in
    let en = c.in-Ok.ensures.does st in
    printed_by desk_of en.0 (DoesFeed c.args.uploads.now.cut (desk_of st) c.args.seat c.args.language c.args.text.now) (reply_text c.in-Ok.reply) (held c.args.out.now) (held c.write_reply.new.out) c.write_reply.result en.1 c.write_reply.ensures
