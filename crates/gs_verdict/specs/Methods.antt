-- Methods (RFC 9110, section 9; PATCH: RFC 5789), and which a target allows (Graph Store Protocol, section 5).
use Rattle.std.specs.Prelude.{ℕ, Bool, true, false, List, codes, if◌then◌else◌, Option, Some, None}
use Rattle.std.specs.Str.{bytes_eq}
use Rattle.gs_names.specs.declared.targets.Goal.{Goal}
use Rattle.gs_names.specs.declared.targets.Goal.TheVariants as goal
use Rattle.gs_verdict.specs.declared.methods.Method.{Method}
use Rattle.gs_verdict.specs.declared.methods.Method.TheVariants.{Get, Head, Put, Post, Delete, Patch}
use Rattle.gs_verdict.specs.declared.methods.Allow.{Allow}
use Rattle.gs_verdict.specs.declared.methods.Allow.TheVariants as allow

-- the method of this name, which has its case
abbrev pub method_of : List ℕ → Option Method
method_of x =
    if bytes_eq x (codes "GET") then Some Get
    else if bytes_eq x (codes "HEAD") then Some Head
    else if bytes_eq x (codes "PUT") then Some Put
    else if bytes_eq x (codes "POST") then Some Post
    else if bytes_eq x (codes "DELETE") then Some Delete
    else if bytes_eq x (codes "PATCH") then Some Patch
    else None

-- the store itself is read as a whole, and posted to for a new graph (section 5.5); a graph is for all six
abbrev pub allow_of : Goal → Allow
allow_of goal.Store = allow.OfStore
allow_of other = allow.OfGraphs

-- the target allows the method
abbrev pub is_allowed : Allow → Method → Bool
is_allowed allow.OfGraphs m = true
is_allowed allow.OfStore Get = true
is_allowed allow.OfStore Head = true
is_allowed allow.OfStore Post = true
is_allowed allow.OfStore m = false

-- the value of the field Allow (RFC 9110, section 10.2.1)
abbrev pub allow_text : Allow → List ℕ
allow_text allow.OfGraphs = codes "GET, HEAD, PUT, POST, DELETE, PATCH"
allow_text allow.OfStore = codes "GET, HEAD, POST"
