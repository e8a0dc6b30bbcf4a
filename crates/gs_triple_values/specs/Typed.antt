-- The two languages of the code.
use Rattle.std.specs.declared.vec.Vec.{Vec}
use Rattle.std.specs.declared.alloc.Global.{Global}
use Rattle.gs_model.specs.Terms.{Term}
use Rattle.gs_model.specs.Triples.{RdfTriple}
use Rattle.gs_term.specs.declared.patterns.Part.{Part}
use Rattle.gs_term.specs.declared.patterns.Pattern.{Pattern}
use Rattle.gs_triples.specs.Languages.{of_terms, of_patterns}
use Rattle.gs_triple_lists.specs.Lists.{Listed}
use Rattle.gs_triple_values.specs.Languages.{TypedLanguage}
use Rattle.gs_triple_values.specs.declared.kinds.Subject.{Subject}
use Rattle.gs_triple_values.specs.declared.kinds.Verb.{Verb}

-- terms: a subject and a verb are terms of their kinds
abbrev pub terms : TypedLanguage Subject Verb Term RdfTriple Listed
terms = record { grammar = of_terms; subject = λ s. s.term; verb = λ v. v.term; items = λ ts. ts.items }

-- terms and variables, which may be anything
abbrev pub patterns : TypedLanguage Part Part Part Pattern (Vec Pattern Global)
patterns = record { grammar = of_patterns; subject = λ s. s; verb = λ v. v; items = λ ts. ts.items }
