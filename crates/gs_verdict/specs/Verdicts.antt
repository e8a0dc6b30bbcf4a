-- What a head asks for, or how it is denied: the first check that fails counts (RFC 9110, section 15; RFC 9112, sections 2.3, 3.2 and 6).
use Rattle.std.specs.Prelude.{ℕ, Bool, true, not, ◌&&◌, ◌||◌, List, codes, if◌then◌else◌, Option, Some, None, ◌==◌}
use Rattle.gs_http.specs.declared.heads.Head.{Head}
use Rattle.gs_http.specs.Fields.{kept_under}
use Rattle.gs_http.specs.Framing.{framing_of, announces}
use Rattle.gs_http.specs.Connections.{closes, expects_continue, has_one_host}
use Rattle.gs_names.specs.declared.targets.Goal.{Goal}
use Rattle.gs_names.specs.Targets.{target_of}
use Rattle.gs_names.specs.Media.{body_type_of}
use Rattle.gs_names.specs.Accepts.{reply_type_of}
use Rattle.gs_verdict.specs.declared.methods.Method.{Method}
use Rattle.gs_verdict.specs.declared.verdicts.Verdict.{Verdict}
use Rattle.gs_verdict.specs.declared.verdicts.Verdict.TheVariants.{Deny, Ask}
use Rattle.gs_verdict.specs.Methods.{method_of, allow_of, is_allowed}
use Rattle.gs_verdict.specs.Checks.{is_malformed, is_unknown, is_malformed_goal, is_missing, takes_type, takes_reply, limit_of, is_over, media_of_body, type_of_reply, graph_of_goal}
use Rattle.gs_verdict.specs.Checks.{since_asked, is_malformed_since, condition_in}

-- what the checks read of a head: its values are a function of the names
pub record Seen : Type 0 where
  pub method : List ℕ
  pub target : List ℕ
  pub minor : ℕ
  pub values : List ℕ → List (List ℕ)

-- a head with its fields by name
abbrev pub seen : Head → Seen
seen t = record { method = t.method.now; target = t.target.now; minor = t.minor; values = kept_under t.fields }

-- denied, and the connection ends: where the body ends is not known, or the client speaks another protocol
abbrev pub closed : ℕ → Verdict
closed status = Deny (record { status = status; allow = None; closes = true })

-- the connection ends after a denial that leaves an announced body unread, or where the head lists `close`
abbrev pub ends_denied : Seen → Bool
ends_denied s = closes s.values || announces (framing_of s.values)

-- denied
abbrev pub denied : Seen → ℕ → Verdict
denied s status = Deny (record { status = status; allow = None; closes = ends_denied s })

-- denied with the methods that the target allows
abbrev pub not_allowed : Seen → Goal → Verdict
not_allowed s g = Deny (record { status = 405; allow = Some (allow_of g); closes = ends_denied s })

-- `100 Continue` is awaited, where a body is announced
abbrev pub awaits_continue : Seen → Bool
awaits_continue s = expects_continue s.values && announces (framing_of s.values)

-- what is asked, where no check fails
abbrev pub asked : Seen → Goal → Method → Verdict
asked s g m = Ask (record {
  method = m;
  graph = graph_of_goal g;
  body = media_of_body m (body_type_of (s.values (codes "content-type")));
  reply = type_of_reply m (reply_type_of g (s.values (codes "accept")));
  framing = framing_of s.values;
  since = condition_in (since_asked m g (s.values (codes "if-store-commit")));
  awaits_continue = awaits_continue s;
  closes = closes s.values;
})

-- method, body type, Accept, the condition of a write, Content-Length
abbrev pub judged_method : Seen → Goal → Option Method → Verdict
judged_method s g None = not_allowed s g
judged_method s g (Some m) =
    if not (is_allowed (allow_of g) m) then not_allowed s g
    else if not (takes_type m (body_type_of (s.values (codes "content-type"))) (framing_of s.values)) then denied s 415
    else if not (takes_reply m (reply_type_of g (s.values (codes "accept")))) then denied s 406
    else if is_malformed_since (since_asked m g (s.values (codes "if-store-commit"))) then denied s 400
    else if is_over (limit_of m) (framing_of s.values) then denied s 413
    else asked s g m

-- form of the target, its path, its query
abbrev pub judged_goal : Seen → Goal → Verdict
judged_goal s g =
    if is_malformed_goal g then denied s 400
    else if is_missing g then denied s 404
    else judged_method s g (method_of s.method)

-- version, Host, Transfer-Encoding and Content-Length; then the target under a base
abbrev pub judged : List ℕ → Seen → Verdict
judged base s =
    if s.minor == 0 then closed 505
    else if not (has_one_host s.values) then closed 400
    else if is_malformed (framing_of s.values) then closed 400
    else if is_unknown (framing_of s.values) then closed 501
    else judged_goal s (target_of base s.target)
