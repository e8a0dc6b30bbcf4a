-- Kinds of deciding actions as numbers.
use Rattle.std.specs.Prelude.{ℕ, nat_eq, if◌then◌else◌}
use Rattle.gs_chronicle.specs.declared.kinds.ActionKind.{ActionKind}
use Rattle.gs_chronicle.specs.declared.kinds.ActionKind.TheVariants.{Commit, CommitPatch, Delete, Head, Pin}

-- the code of a kind
abbrev pub code_of_kind : ActionKind → ℕ
code_of_kind Commit = 0
code_of_kind CommitPatch = 1
code_of_kind Delete = 2
code_of_kind Head = 3
code_of_kind Pin = 4

-- the kind of a code
abbrev pub kind_of_code : ℕ → ActionKind
kind_of_code n =
    if nat_eq n 0 then Commit else if nat_eq n 1 then CommitPatch else if nat_eq n 2 then Delete else if nat_eq n 3 then Head else Pin
