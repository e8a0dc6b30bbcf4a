-- What a request asks of the store (Graph Store Protocol, section 5).
use Rattle.std.specs.Prelude.{ℕ, Bool, true, false, Option, Some, None}
use Rattle.gs_term.specs.declared.names.Target.{Target}
use Rattle.gs_event.specs.declared.events.Scope.{Scope}
use Rattle.gs_event.specs.declared.events.Scope.TheVariants.{One, All}
use Rattle.gs_event.specs.declared.events.UploadKind.{UploadKind}
use Rattle.gs_event.specs.declared.events.UploadKind.TheVariants as kind
use Rattle.gs_verdict.specs.declared.methods.Method.{Method}
use Rattle.gs_verdict.specs.declared.methods.Method.TheVariants.{Get, Head, Put, Post, Delete, Patch}
use Rattle.gs_verdict.specs.declared.verdicts.Asked.{Asked}

-- An upload, a patch or a removal, each with the commit number since which its graph must not have been written, if there is one; a
-- look, or a read; or nothing, since the store itself is for GET, HEAD and POST.
pub data Plan : Type 0 where
  Uploads : (what : UploadKind) (since : Option ℕ) → Plan
  Patches : (target : Target) (since : Option ℕ) → Plan
  Deletes : (target : Target) (since : Option ℕ) → Plan
  Looks : (scope : Scope) → Plan
  Reads : (scope : Scope) → Plan
  NoPlan : Plan

-- By the method, on a graph or on the store itself, which is looked at and read as the whole dataset. A graph that is made is made in
-- any case.
abbrev pub plan_on : Method → Option Target → Option ℕ → Plan
plan_on Get (Some t) since = Reads (One t)
plan_on Get None since = Reads All
plan_on Head (Some t) since = Looks (One t)
plan_on Head None since = Looks All
plan_on Put (Some t) since = Uploads (kind.Put t) since
plan_on Post (Some t) since = Uploads (kind.Post t) since
plan_on Post None since = Uploads kind.New None
plan_on Delete (Some t) since = Deletes t since
plan_on Patch (Some t) since = Patches t since
plan_on m None since = NoPlan

-- of a request
abbrev pub plan_of : Asked → Plan
plan_of a = plan_on a.method a.graph a.since

-- the body is read as a document or as an update; else it is dropped before the event
abbrev pub opens : Plan → Bool
opens (Uploads k since) = true
opens (Patches t since) = true
opens p = false
