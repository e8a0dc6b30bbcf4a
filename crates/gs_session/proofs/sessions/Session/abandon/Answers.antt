use Rattle.std.proofs.Common.{sym, ◌∙◌}
use Rattle.gs_session.proofs.FrontLemmas.{quits_unserving, quits_unopened, quits_cancelled}
use Rattle.gs_session.proofs.sessions.Session.abandon.Goals.{in-Serving+then-has_opened+in-Status+in-Some-1, in-Serving+then-has_opened+in-Status+in-None-1}
use Rattle.gs_session.proofs.sessions.Session.abandon.Goals.{in-Serving+then-has_opened+in-Lines+in-Some-1, in-Serving+then-has_opened+in-Lines+in-None-1, in-Serving+then-has_opened+in-Opened-1, in-Serving+else-has_opened, in_default}
use Rattle.gs_session.proofs.sessions.Session.abandon.Goals as goal

pub returns-clause-quits : goal.returns-clause-quits
returns-clause-quits g c = elim c.match-self.branch [
  | in-Serving+then-has_opened+in-Status+in-Some-1 w ↦
      quits_cancelled g.D.Door.Gives c.args.self.now c.args.door.now w.act.new.door c.match-self.door w.in-Serving.field-0 w.in-Serving.work w.act.result w.in-Serving.is (sym w.has_opened.ensures ∙ w.if-has_opened.true) w.act.ensures w.door-is
  | in-Serving+then-has_opened+in-Status+in-None-1 w ↦
      quits_cancelled g.D.Door.Gives c.args.self.now c.args.door.now w.act.new.door c.match-self.door w.in-Serving.field-0 w.in-Serving.work w.act.result w.in-Serving.is (sym w.has_opened.ensures ∙ w.if-has_opened.true) w.act.ensures w.door-is
  | in-Serving+then-has_opened+in-Lines+in-Some-1 w ↦
      quits_cancelled g.D.Door.Gives c.args.self.now c.args.door.now w.act.new.door c.match-self.door w.in-Serving.field-0 w.in-Serving.work w.act.result w.in-Serving.is (sym w.has_opened.ensures ∙ w.if-has_opened.true) w.act.ensures w.door-is
  | in-Serving+then-has_opened+in-Lines+in-None-1 w ↦
      quits_cancelled g.D.Door.Gives c.args.self.now c.args.door.now w.act.new.door c.match-self.door w.in-Serving.field-0 w.in-Serving.work w.act.result w.in-Serving.is (sym w.has_opened.ensures ∙ w.if-has_opened.true) w.act.ensures w.door-is
  | in-Serving+then-has_opened+in-Opened-1 w ↦
      quits_cancelled g.D.Door.Gives c.args.self.now c.args.door.now w.act.new.door c.match-self.door w.in-Serving.field-0 w.in-Serving.work w.act.result w.in-Serving.is (sym w.has_opened.ensures ∙ w.if-has_opened.true) w.act.ensures w.door-is
  | in-Serving+else-has_opened w ↦
      quits_unopened g.D.Door.Gives c.args.self.now c.args.door.now c.match-self.door w.in-Serving.field-0 w.in-Serving.work w.in-Serving.is (sym w.has_opened.ensures ∙ w.if-has_opened.false) w.door-is
  | in_default w ↦ quits_unserving g.D.Door.Gives c.args.self.now c.args.door.now c.match-self.door w.in_default.not-Serving w.door-is
]
