-- What contracts see of a door.
use Rattle.gs_pass.specs.declared.passes.Pass.{Pass}
use Rattle.gs_pass.specs.declared.rooms.Room.{Ghosts}
use Rattle.gs_shared.specs.declared.doors.PassDoor.{PassDoor}

-- the pass of a door
abbrev pub pass_of : {C T B R : Type 0} {room : Ghosts B} → PassDoor C T B R room → Pass C T B room
pass_of d = d.pass
