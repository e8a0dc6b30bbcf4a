-- What a token does to a parser and to the list of triples.
use Rattle.std.specs.Prelude.{◌≡◌, ℕ, List, [], ◌++◌, Option, Result, Ok, Err, string_bytes}
use Rattle.gs_model.specs.Triples.{RdfTriple}
use Rattle.gs_body.specs.Bodies.{all_stated, end_after}
use Rattle.gs_document.specs.Contexts.{TurtleContext}
use Rattle.gs_triple_values.specs.Typed.{terms}
use Rattle.gs_triple_values.specs.Views.{symbol_at}
use Rattle.gs_triple_parser.specs.Views.{pending_triples}
use Rattle.gs_token_terms.specs.declared.symbols.Symbol.{Symbol}
use Rattle.gs_document.specs.Directives.{with_prefix}
use Rattle.gs_document.specs.States.{Transition}
use Rattle.gs_document.specs.Machine as machine
use Rattle.gs_parse.specs.Views.{state_of, parser_at, context_at, parser_numbers}
use Rattle.gs_parse.specs.declared.parser.Parser.{Parser}
use Rattle.gs_parse.specs.declared.places.Place.{Place}
use Rattle.gs_parse.specs.declared.places.Place.TheVariants as place

-- the machine's transition by a symbol, were the parser at this place
abbrev pub transition_at : Parser → Place → Symbol → Transition
transition_at p l t = machine.step (parser_at p l) (symbol_at t)

-- where it is
abbrev pub transition_here : Parser → Symbol → Transition
transition_here p t = transition_at p p.place t

-- within triples
abbrev pub transition_within : Parser → Symbol → Transition
transition_within p t = transition_at p place.Within t

-- after triples, where the symbol is to be their dot
abbrev pub transition_after : Parser → Symbol → Transition
transition_after p t = machine.conclude (symbol_at t) (context_at p) (pending_triples terms p.triples) (parser_numbers p)

-- the context in which the directive's prefix is declared by the text of a reference
abbrev pub declared : Parser → List ℕ → Option TurtleContext
declared p x = with_prefix (context_at p) (string_bytes p.prefix) x

-- the parser took this transition
pub record MovesBy (old new : Parser) (t : Transition) : Type 0 where
  pub state : state_of new ≡ t.0
  pub last : new.last ≡ end_after old.last t.1

-- and the transition gives no triple
pub record MovesQuietly (old new : Parser) (t : Transition) : Type 0 where
  pub state : state_of new ≡ t.0
  pub given : all_stated t.1 ≡ []
  pub last : new.last ≡ end_after old.last t.1

-- the list grew by the triples that a transition gives, or is as it was where the call failed
abbrev pub GivesTriples : {E : Type 0} → Result (Unit {0}) E → List RdfTriple → List RdfTriple → Transition → Type 0
GivesTriples (Ok u) before after t = after ≡ before ++ all_stated t.1
GivesTriples (Err e) before after t = after ≡ before
