-- From bytes to triples: the machines of characters, places, lines and numbers, one after another.
use Rattle.std.specs.Prelude.{ℕ}
use Rattle.gs_machine.specs.Machines.{Machine, steps, rest, composed}
use Rattle.gs_machine.specs.Utf8.{Decoding, Ready, utf8}
use Rattle.gs_body.specs.Bodies.{Ending, Statement}
use Rattle.gs_blank.specs.Numbers.{Numbers, no_numbers}
use Rattle.gs_ntterm.specs.Marks.{Mark, places}
use Rattle.gs_ntread.specs.Documents.{numbering}
use Rattle.gs_ntread.specs.States.{LineState, line_start}
use Rattle.gs_ntread.specs.Machine.{reading}

-- one machine after another, with the ending of the first
unfoldable pub keeping : {S T I M O E F : Type 0} → Machine S I M E → Machine T M O F → Machine (S × T) I O E
keeping a b = record {
  step = λ s i. let u = a.step s.0 i in let v = steps b s.1 u.1 in ((u.0, v.0), v.1);
  ended = λ s. ((rest b s.1 (a.ended s.0).0).0, (a.ended s.0).1);
}

-- from marks to triples of request r
abbrev pub stating : ℕ → Machine (LineState × Numbers) Mark Statement Ending
stating r = keeping reading (numbering r)

-- from characters
abbrev pub placing : ℕ → Machine (ℕ × (LineState × Numbers)) ℕ Statement Ending
placing r = composed places (stating r)

-- where the bytes so far lead
abbrev pub Led : Type 0
Led = Decoding × (ℕ × (LineState × Numbers))

-- from bytes
abbrev pub ntriples : ℕ → Machine Led ℕ Statement Ending
ntriples r = composed utf8 (placing r)

-- at the front of a body
abbrev pub nothing_read : Led
nothing_read = (Ready, (0, (line_start, no_numbers)))
