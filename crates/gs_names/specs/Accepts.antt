-- Which type a reply has, by Accept (RFC 9110, sections 12.4.2 and 12.5.1).
use Rattle.std.specs.Prelude.{ℕ, Bool, false, not, ◌&&◌, ◌||◌, List, [], ◌∷◌, length, codes, if◌then◌else◌, Option, Some, None, ◌==◌, nat_le}
use Rattle.std.specs.List.{list_all, list_any}
use Rattle.std.specs.Char.{is_ascii_digit}
use Rattle.httparse.specs.Grammar.{trim_ows}
use Rattle.gs_model.specs.Punctuation.{dot, semicolon, equals_sign}
use Rattle.gs_model.specs.Terms.{digit}
use Rattle.gs_http.specs.Connections.{elements_of}
use Rattle.gs_names.specs.declared.media.ReplyType.{ReplyType}
use Rattle.gs_names.specs.declared.media.ReplyType.TheVariants.{NTriples, Turtle, NQuads}
use Rattle.gs_names.specs.declared.targets.Goal.{Goal}
use Rattle.gs_names.specs.declared.targets.Goal.TheVariants as goal
use Rattle.gs_names.specs.Words.{front_word, back_word, is_same_word, semicolon_parts}

-- qvalue (section 12.4.2): `0` or `1` with at most three decimals, after `1` only zeros
abbrev pub is_weight : List ℕ → Bool
is_weight [] = false
is_weight (d ∷ []) = d == digit 0 || d == digit 1
is_weight (d ∷ point ∷ ds) =
    point == dot
    && (nat_le (length ds) 3 && (if d == digit 0 then list_all is_ascii_digit ds else (d == digit 1 && list_all (λ c. c == digit 0) ds)))

-- a weight of zero
abbrev pub is_zero : List ℕ → Bool
is_zero w = list_all (λ c. c == digit 0 || c == dot) w

-- the parameter is the weight
abbrev pub is_q : List ℕ → Bool
is_q p = is_same_word (front_word equals_sign p) (codes "q")

-- the weight is one; other parameters are ignored
abbrev pub allows_q : List ℕ → Bool
allows_q p = not (is_q p) || is_weight (back_word equals_sign p)

-- the weight is zero
abbrev pub excludes : List ℕ → Bool
excludes p = is_q p && is_zero (back_word equals_sign p)

-- an element counts for a range, in any case
abbrev pub counts : List ℕ → List ℕ → Bool
counts range e = is_same_word (front_word semicolon e) range && list_all allows_q (semicolon_parts e)

-- and has a weight above zero
abbrev pub passes : List ℕ → List ℕ → Bool
passes range e = counts range e && not (list_any excludes (semicolon_parts e))

-- some element of some field
abbrev pub some_element : (List ℕ → Bool) → List (List ℕ) → Bool
some_element test values = list_any (λ v. list_any test (elements_of v)) values

-- an element that is not empty
abbrev pub is_filled : List ℕ → Bool
is_filled e = not (length (trim_ows e) == 0)

-- the most specific range that counts decides, and there the greatest weight (section 12.5.1)
abbrev pub admits : List ℕ → List ℕ → List (List ℕ) → Bool
admits exact wide values =
    if some_element (counts exact) values then some_element (passes exact) values
    else if some_element (counts wide) values then some_element (passes wide) values
    else some_element (passes (codes "*/*")) values

-- the type of the lines of one graph: N-Triples where it is admitted, then Turtle
abbrev pub graph_type_of : List (List ℕ) → Option ReplyType
graph_type_of values =
    if not (some_element is_filled values) then Some NTriples
    else if admits (codes "application/n-triples") (codes "application/*") values then Some NTriples
    else if admits (codes "text/turtle") (codes "text/*") values then Some Turtle
    else None

-- the type of the lines of all graphs: N-Quads where it is admitted
abbrev pub dataset_type_of : List (List ℕ) → Option ReplyType
dataset_type_of values =
    if not (some_element is_filled values) then Some NQuads
    else if admits (codes "application/n-quads") (codes "application/*") values then Some NQuads
    else None

-- by what is named, and the values of Accept
abbrev pub reply_type_of : Goal → List (List ℕ) → Option ReplyType
reply_type_of goal.Store values = dataset_type_of values
reply_type_of other values = graph_type_of values
