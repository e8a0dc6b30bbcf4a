use Rattle.gs_world.proofs.CallLemmas.{moves_silent, moves_text, stops_text}
use Rattle.gs_world.proofs.connections.Connection.turn.Goals as goal

pub returns-in-Output-clause-moved : goal.returns-in-Output-clause-moved
returns-in-Output-clause-moved c =
    moves_text c.extend_from_slice.result c.args.self.now c.in-Some.session c.turn.new.self c.extend_from_slice.new.self c.in-Output.text c.as_slice.result.now c.args.store.now c.turn.new.door
    c.in-Some.is c.extend_from_slice.ensures.items c.as_slice.ensures.value
    (c.in-Output.ensures.turns, c.in-Output.ensures.rests, c.in-Output.ensures.setup, c.in-Output.ensures.ended)

pub returns-in-Output-clause-refused : goal.returns-in-Output-clause-refused
returns-in-Output-clause-refused c =
    stops_text c.extend_from_slice.result c.args.self.now c.in-Some.session c.turn.new.self c.extend_from_slice.new.self c.in-Output.text c.as_slice.result.now c.args.store.now c.turn.new.door
    c.in-Some.is c.extend_from_slice.ensures.items
    (c.in-Output.ensures.turns, c.in-Output.ensures.rests, c.in-Output.ensures.setup, c.in-Output.ensures.ended)

pub returns-in_default : goal.returns-in_default
returns-in_default c = record {
  moved =
      moves_silent c.args.self.now c.in-Some.session c.turn.new.self c.turn.result c.args.store.now c.turn.new.door c.in-Some.is c.in_default.not-Output
      (c.turn.ensures.turns, c.turn.ensures.rests, c.turn.ensures.setup, c.turn.ensures.ended);
  refused = tt;
}
