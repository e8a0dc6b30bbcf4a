-- The base under which the text of an upload is read. What a text means in its language is `meaning_in` of gs_upload.
use Rattle.std.specs.Prelude.{ℕ, List, Option, Some, None, codes}
use Rattle.gs_term.specs.declared.names.Target.{Target}
use Rattle.gs_term.specs.declared.names.Target.TheVariants.{Default, Named}
use Rattle.gs_event.specs.declared.events.UploadKind.{UploadKind}
use Rattle.gs_event.specs.declared.events.UploadKind.TheVariants.{Put, Post, New}

-- the name that a target has
abbrev pub name_in : Target → Option (List ℕ)
name_in Default = None
name_in (Named name) = Some name

-- the name of the graph that an upload is for, if it has one
abbrev pub target_name : UploadKind → Option (List ℕ)
target_name (Put t) = name_in t
target_name (Post t) = name_in t
target_name New = None

-- the base of a text for the graph of this name; one for a graph without a name has the IRI of the default graph
abbrev pub base_under : Option (List ℕ) → List ℕ
base_under None = codes "http://localhost/store"
base_under (Some name) = name

-- the base of the text of an upload
abbrev pub first_base : UploadKind → List ℕ
first_base k = base_under (target_name k)
