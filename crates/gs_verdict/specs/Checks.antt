-- The tests of the checks of a head.
use Rattle.std.specs.Prelude.{ℕ, Bool, true, false, not, nat_lt, if◌then◌else◌, List, Option, Some, None}
use Rattle.gs_http.specs.declared.framing.Framing.{Framing}
use Rattle.gs_http.specs.declared.framing.Framing.TheVariants as framing
use Rattle.gs_http.specs.Limits.{max_body_bytes, max_patch_bytes}
use Rattle.gs_http.specs.Framing.{announces}
use Rattle.gs_http.specs.declared.conditions.Since.{Since}
use Rattle.gs_http.specs.declared.conditions.Since.TheVariants as since
use Rattle.gs_http.specs.Conditions.{since_of}
use Rattle.gs_term.specs.declared.names.Target.{Target}
use Rattle.gs_names.specs.declared.targets.Goal.{Goal}
use Rattle.gs_names.specs.declared.targets.Goal.TheVariants as goal
use Rattle.gs_names.specs.declared.media.Media.{Media}
use Rattle.gs_names.specs.declared.media.Media.TheVariants.{NTriples, Update}
use Rattle.gs_names.specs.declared.media.ReplyType.{ReplyType}
use Rattle.gs_names.specs.declared.media.ReplyType.TheVariants as type
use Rattle.gs_names.specs.declared.media.BodyType.{BodyType}
use Rattle.gs_names.specs.declared.media.BodyType.TheVariants.{Absent, Known, Refused}
use Rattle.gs_verdict.specs.declared.methods.Method.{Method}
use Rattle.gs_verdict.specs.declared.methods.Method.TheVariants.{Get, Head, Put, Post, Patch}

-- Transfer-Encoding and Content-Length, or a Content-Length that is not one number
abbrev pub is_malformed : Framing → Bool
is_malformed framing.Malformed = true
is_malformed other = false

-- another Transfer-Encoding than `chunked`
abbrev pub is_unknown : Framing → Bool
is_unknown framing.Unknown = true
is_unknown other = false

-- a target of another form, or a query of another form
abbrev pub is_malformed_goal : Goal → Bool
is_malformed_goal goal.Malformed = true
is_malformed_goal other = false

-- a path that names nothing
abbrev pub is_missing : Goal → Bool
is_missing goal.Missing = true
is_missing other = false

-- a document's type, or none and no body
abbrev pub is_document_type : BodyType → Framing → Bool
is_document_type Absent f = not (announces f)
is_document_type (Known Update) f = false
is_document_type (Known m) f = true
is_document_type Refused f = false

-- the type of an update
abbrev pub is_update_type : BodyType → Bool
is_update_type (Known Update) = true
is_update_type other = false

-- the body of the method may have this type; the bodies of GET, HEAD and DELETE are dropped
abbrev pub takes_type : Method → BodyType → Framing → Bool
takes_type Put b f = is_document_type b f
takes_type Post b f = is_document_type b f
takes_type Patch b f = is_update_type b
takes_type m b f = true

-- a type was chosen
abbrev pub is_chosen : Option ReplyType → Bool
is_chosen None = false
is_chosen (Some t) = true

-- a reply with lines has a type that is accepted
abbrev pub takes_reply : Method → Option ReplyType → Bool
takes_reply Get reply = is_chosen reply
takes_reply Head reply = is_chosen reply
takes_reply m reply = true

-- a graph, and not the store itself
abbrev pub is_graph : Goal → Bool
is_graph (goal.Graph t) = true
is_graph other = false

-- a write of a graph may have a condition; a question has none, and a POST to the store itself has none
abbrev pub has_condition : Method → Goal → Bool
has_condition Get g = false
has_condition Head g = false
has_condition m g = is_graph g

-- the condition, by the values of its field
abbrev pub since_asked : Method → Goal → List (List ℕ) → Since
since_asked m g vs = if has_condition m g then since_of vs else since.Absent

-- a condition that is not one number
abbrev pub is_malformed_since : Since → Bool
is_malformed_since since.Malformed = true
is_malformed_since other = false

-- the number of the commit after which the graph must not have been written
abbrev pub condition_in : Since → Option ℕ
condition_in (since.Commit n) = Some n
condition_in other = None

-- the most bytes of the method's body
abbrev pub limit_of : Method → ℕ
limit_of Patch = max_patch_bytes
limit_of m = max_body_bytes

-- the Content-Length is over a limit; of a body in chunks no length is known yet
abbrev pub is_over : ℕ → Framing → Bool
is_over limit (framing.Bytes n) = nat_lt limit n
is_over limit f = false

-- a known type, or N-Triples
abbrev pub known_or_plain : BodyType → Media
known_or_plain (Known m) = m
known_or_plain other = NTriples

-- the type of a body that is read as a document or an update: N-Triples where none is given
abbrev pub media_of_body : Method → BodyType → Media
media_of_body Put b = known_or_plain b
media_of_body Post b = known_or_plain b
media_of_body Patch b = known_or_plain b
media_of_body m b = NTriples

-- the chosen type, or N-Triples
abbrev pub chosen_or_plain : Option ReplyType → ReplyType
chosen_or_plain None = type.NTriples
chosen_or_plain (Some t) = t

-- the type of a reply with lines: N-Triples where it has none
abbrev pub type_of_reply : Method → Option ReplyType → ReplyType
type_of_reply Get reply = chosen_or_plain reply
type_of_reply Head reply = chosen_or_plain reply
type_of_reply m reply = type.NTriples

-- the graph, or none for the store itself
abbrev pub graph_of_goal : Goal → Option Target
graph_of_goal (goal.Graph t) = Some t
graph_of_goal other = None
