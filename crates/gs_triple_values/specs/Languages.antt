-- A language of the grammar, as the code speaks it.
use Rattle.std.specs.Prelude.{List}
use Rattle.gs_triples.specs.Languages.{Language}
use Rattle.gs_triple_values.specs.declared.allowed.Allowed.{Allowed}

-- what triples are made of in the grammar, and what the code's subjects, verbs and lists stand for; what may stand is left open
pub record TypedLanguage (Subject Verb Value Triple Triples : Type 0) : Type 0 where
  pub grammar : Language Value Triple
  pub subject : Subject → Value
  pub verb : Verb → Value
  pub items : Triples → List Triple

-- with what may stand
abbrev pub language_of : {Subject Verb Value Triple Triples : Type 0} → TypedLanguage Subject Verb Value Triple Triples → Allowed
    → Language Value Triple
language_of l a = record l.grammar { nodes = a.nodes; lone_lists = a.lone_lists }

-- the triple of a subject, a verb and an object
abbrev pub triple_in : {Subject Verb Value Triple Triples : Type 0} → TypedLanguage Subject Verb Value Triple Triples → Subject → Verb
    → Value → Triple
triple_in l s v o = l.grammar.triple (l.subject s) (l.verb v) o
