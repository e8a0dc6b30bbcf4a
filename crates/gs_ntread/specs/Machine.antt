-- The machine from characters to the triples of lines: its transitions, and how a text ends.
use Rattle.std.specs.Prelude.{ℕ, ◌==◌, if◌then◌else◌, List, [], ◌∷◌}
use Rattle.gs_model.specs.declared.faults.Fault.TheVariants.{Syntax}
use Rattle.gs_machine.specs.Machines.{Machine}
use Rattle.gs_body.specs.Bodies.{Ending, Whole, Faulty}
use Rattle.gs_ntterm.specs.Marks.{Mark}
use Rattle.gs_ntterm.specs.LineTerms.{Labelled}
use Rattle.gs_ntread.specs.LineTriples.{LineTriple}
use Rattle.gs_ntread.specs.States.{Stage, AtSubject, AtObject, AtSuffix, AtEnd, TokenMode, Between, Comment, InDots, Caret, AtSign, InTag, Hyphen, Broken, LineState, sentence}
use Rattle.gs_ntread.specs.Lines.{string_fault}
use Rattle.gs_ntread.specs.Transitions.{transition, tag_fault}

-- the end of the text between two tokens
abbrev pub between_end : Stage → Ending
between_end AtSubject = Whole
between_end AtEnd = Whole
between_end (AtSuffix s p l) = Faulty (string_fault (AtSuffix s p l))
between_end g = Faulty Syntax

-- after a label and dots, the first of which ends the statement
abbrev pub dots_end : Stage → List ℕ → ℕ → ℕ → List LineTriple × Ending
dots_end (AtObject s p) label first more = (sentence s p (Labelled label) first ∷ [], if more == 0 then Whole else Faulty Syntax)
dots_end g label first more = ([], Faulty Syntax)

-- the end of the text: the triple that is complete by that, and the ending
abbrev pub end_of_text : Stage → TokenMode → List LineTriple × Ending
end_of_text g Between = ([], between_end g)
end_of_text g Comment = ([], Whole)
end_of_text g (InDots label first more) = dots_end g label first more
end_of_text g Caret = ([], Faulty (string_fault g))
end_of_text g AtSign = ([], Faulty (string_fault g))
end_of_text g (InTag digits h) = ([], Faulty (tag_fault g h))
end_of_text g (Hyphen h) = ([], Faulty (tag_fault g h))
end_of_text g (Broken e) = ([], Faulty e)
end_of_text g m = ([], Faulty Syntax)

-- from characters to the triples of lines
abbrev pub reading : Machine LineState Mark LineTriple Ending
reading = record { step = λ s m. transition s.0 s.1 m.0 m.1; ended = λ s. end_of_text s.0 s.1 }
