-- Kinds of decided actions.
use Rattle.gs_event.specs.Operations.{Operation, Puts, Posts, Creates, Patches, Deletes, Looks, Reads}
use Rattle.gs_chronicle.specs.declared.kinds.ActionKind.{ActionKind}
use Rattle.gs_chronicle.specs.declared.kinds.ActionKind.TheVariants.{Commit, CommitPatch, Delete, Head, Pin}

-- the kind of action by which the abstract store is asked for this
abbrev pub action_kind_of : Operation → ActionKind
action_kind_of (Puts t g) = Commit
action_kind_of (Posts t g) = Commit
action_kind_of (Creates r g) = Commit
action_kind_of (Patches t ops) = CommitPatch
action_kind_of (Deletes t) = Delete
action_kind_of (Looks c) = Head
action_kind_of (Reads c) = Pin
