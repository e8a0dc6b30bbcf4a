-- What the fields of a token, and of what it makes, mean.
use Rattle.std.specs.Prelude.{ℕ, Bool, true, false, List, Result, string_bytes}
use Rattle.std.specs.Result.{result_map_both}
use Rattle.gs_model.specs.Terms.{Term}
use Rattle.gs_model.specs.declared.faults.Fault.{Fault}
use Rattle.gs_ntterm.specs.Tokens.{Held, Text, Long}
use Rattle.gs_ntterm.specs.declared.forms.Form.{Form}
use Rattle.gs_ntterm.specs.declared.tokens.Token.{Token}
use Rattle.gs_ntterm.specs.declared.names.Name.{Name}

-- the bytes of a token, or their form
abbrev pub held_form : Bool → Form → List ℕ → Held
held_form true form text = Long form
held_form false form text = Text text

-- what the fields of a token stand for
abbrev pub held_of : Token → Held
held_of t = held_form t.is_long t.form (string_bytes t.text)

-- the term of an IRI, or the fault
abbrev pub name_made : Result Name Fault → Result Term Fault
name_made r = result_map_both (λ n. n.term) (λ e. e) r
