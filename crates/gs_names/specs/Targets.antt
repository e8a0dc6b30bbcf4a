-- What the target of a request names (Graph Store Protocol, sections 4.1 and 4.2; RFC 9112, section 3.2).
use Rattle.std.specs.Prelude.{◌≡◌, ℕ, ◌+◌, ◌↔◌, Bool, true, false, not, ◌&&◌, ◌||◌, List, ◌++◌, length, take, drop, codes, if◌then◌else◌, Option, Some, None, nat_eq, nat_le, nat_lt, ◌==◌}
use Rattle.std.specs.Borrow.{Bor}
use Rattle.std.specs.List.{starts_with, list_all, list_any}
use Rattle.std.specs.Str.{bytes_eq, is_utf8}
use Rattle.percent_encoding.specs.Percent.{percent_decode}
use Rattle.gs_model.specs.Punctuation.{exclamation_mark, number_sign, ampersand, question_mark, tilde}
use Rattle.gs_model.specs.Limits.{max_name_bytes}
use Rattle.gs_model.specs.Iris.{is_absolute, IsName}
use Rattle.gs_term.specs.declared.names.Target.TheVariants.{Default, Named}
use Rattle.gs_names.specs.declared.routes.Route.{Route}
use Rattle.gs_names.specs.declared.routes.Route.TheVariants as place
use Rattle.gs_names.specs.declared.targets.Goal.{Goal}
use Rattle.gs_names.specs.declared.targets.Goal.TheVariants.{Store, Graph, Malformed, Missing}
use Rattle.gs_names.specs.Words.{position_of}
use Rattle.gs_names.specs.Places.{place_of}

-- a byte from '!' to '~', but no '#'
abbrev pub is_target_byte : ℕ → Bool
is_target_byte c = nat_le exclamation_mark c && nat_le c tilde && not (c == number_sign)

-- a target in absolute form (RFC 9112, section 3.2.2) is read from the '/' after the base
abbrev pub rest_of : List ℕ → List ℕ → List ℕ
rest_of base t =
    if starts_with nat_eq t base && starts_with nat_eq (drop (length base) t) (codes "/") then drop (length base) t else t

-- the bytes before the first '?'
abbrev pub path_of : List ℕ → List ℕ
path_of t = take (position_of question_mark t) t

-- the bytes after the first '?', where there is one
abbrev pub query_of : List ℕ → Option (List ℕ)
query_of t =
    if nat_lt (position_of question_mark t) (length t) then Some (drop (position_of question_mark t + 1) t) else None

-- an absolute IRI that is not too long, among texts
abbrev pub is_short_iri : List ℕ → Bool
is_short_iri n = is_absolute n && nat_le (length n) max_name_bytes

-- the bytes are the name of a graph
abbrev pub is_name : List ℕ → Bool
is_name n = is_utf8 n && is_short_iri n

-- The test is the definition of a name.
abbrev pub TestedNameIsAName : Type 0
TestedNameIsAName = (n : List ℕ) → (is_name n ≡ true) ↔ IsName n

-- the graph that a text names
abbrev pub named_text : List ℕ → Goal
named_text n = if is_short_iri n then Graph (Named n) else Malformed

-- the graph that bytes name
abbrev pub named_by : List ℕ → Goal
named_by n = if is_name n then Graph (Named n) else Malformed

-- what the query of `/store` names (Graph Store Protocol, section 4.2)
abbrev pub queried : Option (List ℕ) → Goal
queried None = Store
queried (Some q) =
    if bytes_eq q (codes "default") || bytes_eq q (codes "default=") then Graph Default
    else if starts_with nat_eq q (codes "graph=") && not (list_any (λ c. c == ampersand) (drop 6 q)) then named_by (percent_decode (drop 6 q))
    else Malformed

-- by the place of the path; a path of graphs is named by the base and the whole target (section 4.1)
abbrev pub goal_at : List ℕ → List ℕ → Option Route → Goal
goal_at base r None = Missing
goal_at base r (Some place.Store) = queried (query_of r)
goal_at base r (Some place.Graphs) = named_by (base ++ r)

-- what a target names, under a base
abbrev pub target_of : List ℕ → List ℕ → Goal
target_of base t =
    if list_all is_target_byte t && starts_with nat_eq (rest_of base t) (codes "/")
    then goal_at base (rest_of base t) (place_of (path_of (rest_of base t)))
    else Malformed

-- the text that bytes are, if they are UTF-8
abbrev pub IsTextOf : Option (Bor (List ℕ)) → List ℕ → Type 0
IsTextOf None b = is_utf8 b ≡ false
IsTextOf (Some t) b = (t.now ≡ b) × (is_utf8 b ≡ true)
