-- What a reply without a body says besides its status.
use Rattle.std.specs.Prelude.{ℕ, List}
use Rattle.gs_verdict.specs.declared.methods.Allow.{Allow}
use Rattle.gs_reply.specs.declared.replies.ReplyNote.{ReplyNote}
use Rattle.gs_reply.specs.declared.replies.ReplyNote.TheVariants as note

-- nothing, the methods that a target allows, or the name of the graph that was made
pub data Notice : Type 0 where
  Nothing : Notice
  Allows : (methods : Allow) → Notice
  Made : (name : List ℕ) → Notice

-- what a note says
abbrev pub notice_of : ReplyNote → Notice
notice_of note.Nothing = Nothing
notice_of (note.Allows methods) = Allows methods
notice_of (note.Made name) = Made name.now
