-- What contracts see of a pass: what it was told, and its shares of both ledgers.
use Rattle.std.specs.declared.sync.ledger.Share.{Share}
use Rattle.gs_pass.specs.declared.passes.Pass.{Pass}
use Rattle.gs_pass.specs.declared.records.Record.{Record}
use Rattle.gs_pass.specs.declared.rooms.Room.{Ghosts}

-- what a pass was told so far
abbrev pub record_of : {C T B : Type 0} {room : Ghosts B} → Pass C T B room → Record
record_of p = p.record

-- its share of the ledger of calls
abbrev pub call_share_of : {C T B : Type 0} {room : Ghosts B} → Pass C T B room → Share C
call_share_of p = p.call_share

-- its share of the ledger of triples
abbrev pub triple_share_of : {C T B : Type 0} {room : Ghosts B} → Pass C T B room → Share T
triple_share_of p = p.triple_share
