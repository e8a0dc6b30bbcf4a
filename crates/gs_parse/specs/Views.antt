-- What a parser stands for.
use Rattle.std.specs.Prelude.{ℕ, List, Result, Ok, Err, string_bytes}
use Rattle.gs_model.specs.Terms.{Term}
use Rattle.gs_model.specs.Triples.{RdfTriple}
use Rattle.gs_model.specs.declared.faults.Fault.{Fault}
use Rattle.gs_model.specs.declared.faults.Fault.TheVariants.{Syntax}
use Rattle.gs_blank.specs.Numbers.{Numbers}
use Rattle.gs_body.specs.Bodies.{Ending, Whole, Faulty}
use Rattle.gs_document.specs.Contexts.{TurtleContext}
use Rattle.gs_triple_values.specs.Typed.{terms}
use Rattle.gs_triple_parser.specs.Views.{triples_state, context_now, numbers_now}
use Rattle.gs_triples.specs.States as triples
use Rattle.gs_document.specs.States as machine
use Rattle.gs_parse.specs.declared.parser.Parser.{Parser}
use Rattle.gs_parse.specs.declared.places.Place.{Place}
use Rattle.gs_parse.specs.declared.places.Place.TheVariants as place

-- the base, the prefixes and the request of a parser
abbrev pub context_at : Parser → TurtleContext
context_at p = context_now terms p.triples

-- the numbers of the blank nodes so far
abbrev pub parser_numbers : Parser → Numbers
parser_numbers p = numbers_now p.triples

-- what a place stands for, with the rest of a parser, of which the first is the text of the prefix that is declared
abbrev pub state_with : Place → List ℕ → TurtleContext → Numbers → triples.State Term RdfTriple → machine.DocumentState
state_with place.Between x env n s = machine.Between env n
state_with (place.InPrefix dot) x env n s = machine.InPrefix dot env n
state_with (place.InPrefixIri dot) x env n s = machine.InPrefixIri dot x env n
state_with (place.InBase dot) x env n s = machine.InBase dot env n
state_with place.AtDot x env n s = machine.AtDot env n
state_with place.Within x env n s = machine.Within s
state_with place.Lost x env n s = machine.lost Syntax

-- the state of a parser, were it at this place
abbrev pub parser_at : Parser → Place → machine.DocumentState
parser_at p l = state_with l (string_bytes p.prefix) (context_at p) (parser_numbers p) (triples_state terms p.triples)

-- the state of a parser
abbrev pub state_of : Parser → machine.DocumentState
state_of p = parser_at p p.place

-- how a text ends, by what a parser says there
abbrev pub ending_at : {X : Type 0} → Result X Fault → Ending
ending_at (Ok x) = Whole
ending_at (Err fault) = Faulty fault
