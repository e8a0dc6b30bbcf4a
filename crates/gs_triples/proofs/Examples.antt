-- Two languages beside Turtle's, by computation: a language of patterns, as DELETE WHERE has it (SPARQL 1.1 Update, section
-- 3.1.3.3), and one of data, as INSERT DATA has it (section 3.1.1).
use Rattle.std.proofs.Common.{◌≡◌, ℕ, true, false, List, [], ◌∷◌, ◌++◌, refl}
use Rattle.std.specs.Prelude.{codes, Some, Result, Ok, Err}
use Rattle.std.specs.Str.{is_utf8, chars}
use Rattle.std.specs.FinMap as finite
use lib.Utf8.{encode}
use Rattle.gs_model.specs.Terms.{Term, Iri, Blank}
use Rattle.gs_model.specs.Triples.{RdfTriple}
use Rattle.gs_lex.specs.declared.kinds.TokenKind.TheVariants as kind
use Rattle.gs_iri.specs.References.{before, from, rest_after, is_scheme, has_scheme, scheme_of, rest_after_scheme, rest_after_slashes, authority_of, rest_after_authority, path_of, rest_after_path, query_of, rest_after_query, fragment_of, parts_of}
use Rattle.gs_iri.specs.Dots.{segments_of, is_dot, is_dot_dot, is_dots, closed, moved, text_of_segments, output_of, dots}
use Rattle.gs_iri.specs.Resolving.{scheme_text, marked, parts_text, through_last, directory_of, resolved_parts, resolved}
use Rattle.gs_escape.specs.Meanings.{unescaped, stands_short}
use Rattle.gs_escape.specs.Tokens.{between, quoted, iri_of, string_of}
use Rattle.gs_blank.specs.Numbers.{no_numbers}
use Rattle.gs_triples.specs.Symbols.{Symbol, ATerm, Text, Carets, A, Open, Close, OpenList, CloseList, Dot, Foreign, Reference, Label, Variable, symbol}
use Rattle.gs_triples.specs.Languages.{Language, of_terms, triple}
use Rattle.gs_triples.specs.Meanings.{Fault, Syntax, Context, word, iri, made_of, typed, rdf}
use Rattle.gs_triples.specs.Reading.{Got, parse}
use Rattle.gs_triples.specs.Program.{triples_at}
use Rattle.gs_triples.specs.Machine.{opening, step}
use Rattle.gs_triples.specs.Runs.{run}

-- a term, or what a variable stands for
data Pattern : Type 0 where
  Given : Term → Pattern
  Sought : (name : List ℕ) → Pattern

-- subject, predicate and object
abbrev PatternTriple : Type 0
PatternTriple = Pattern × Pattern × Pattern

-- patterns: with variables, and without blank nodes
abbrev patterns : Language Pattern PatternTriple
patterns = record { of_term = Given; variable = λ x. Some (Sought x); triple = λ s p o. (s, p, o); nodes = false; lone_lists = true }

-- data: Turtle's terms, where a collection may stand alone
abbrev with_lists : Language Term RdfTriple
with_lists = record of_terms { lone_lists = true }

-- a language under a base, without prefixes, in request 1
abbrev under : {Value Triple : Type 0} → Language Value Triple → Context Value Triple
under l = record { base = codes "http://e/"; prefixes = finite.empty; request = 1; language = l }

-- what the program reads of these symbols
abbrev reads : {Value Triple : Type 0} → Language Value Triple → List Symbol → Result (Got Value Triple) Fault
reads l ts = triples_at (under l) no_numbers ts

-- `<a>`, a variable, and the end of a group
abbrev a : Symbol
a = ATerm (Reference (codes "<a>") 3)

abbrev variable : List ℕ → Symbol
variable x = ATerm (Variable x)

abbrev end : Symbol
end = Foreign kind.CloseBrace 20

-- `?s` is the variable s, and so is `$s`
mark : symbol kind.Var (codes "?s") 2 ≡ variable (codes "s")
mark = refl

other_mark : symbol kind.Var (codes "$s") 2 ≡ variable (codes "s")
other_mark = refl

-- `?s <a> ?o }` is one triple, by the program
sought : reads patterns (variable (codes "s") ∷ a ∷ variable (codes "o") ∷ end ∷ [])
    ≡ Ok (record { value = Sought (codes "s"); triples = (Sought (codes "s"), Given (Iri (codes "http://e/a")), Sought (codes "o")) ∷ []; numbers = no_numbers; rest = end ∷ [] })
unfolding triples_at parse word iri made_of iri_of between unescaped is_utf8 chars encode resolved resolved_parts parts_of before from rest_after is_scheme has_scheme scheme_of rest_after_scheme rest_after_slashes authority_of rest_after_authority path_of rest_after_path query_of rest_after_query fragment_of dots segments_of closed is_dots is_dot is_dot_dot moved output_of text_of_segments scheme_text marked parts_text through_last directory_of
sought = refl

-- and by the machine
sought_by_steps : run (a ∷ variable (codes "o") ∷ end ∷ []) (opening (under patterns) no_numbers (variable (codes "s")))
    ≡ Ok (record { context = under patterns; triples = (Sought (codes "s"), Given (Iri (codes "http://e/a")), Sought (codes "o")) ∷ []; numbers = no_numbers; rest = end ∷ [] })
unfolding run step word iri made_of iri_of between unescaped is_utf8 chars encode resolved resolved_parts parts_of before from rest_after is_scheme has_scheme scheme_of rest_after_scheme rest_after_slashes authority_of rest_after_authority path_of rest_after_path query_of rest_after_query fragment_of dots segments_of closed is_dots is_dot is_dot_dot moved output_of text_of_segments scheme_text marked parts_text through_last directory_of
sought_by_steps = refl

-- `?s ?p ?o }`: a variable is a verb too
sought_verb : reads patterns (variable (codes "s") ∷ variable (codes "p") ∷ variable (codes "o") ∷ end ∷ [])
    ≡ Ok (record { value = Sought (codes "s"); triples = (Sought (codes "s"), Sought (codes "p"), Sought (codes "o")) ∷ []; numbers = no_numbers; rest = end ∷ [] })
unfolding triples_at parse word
sought_verb = refl

-- `?s a "x"^^?d }`: and never a datatype
sought_datatype : reads patterns (variable (codes "s") ∷ A ∷ Text (34 ∷ codes "x" ++ 34 ∷ []) ∷ Carets ∷ variable (codes "d") ∷ end ∷ []) ≡ Err Syntax
unfolding triples_at parse word typed made_of string_of quoted between unescaped stands_short is_utf8 chars encode
sought_datatype = refl

-- in Turtle no variable stands
no_variable : reads of_terms (variable (codes "s") ∷ A ∷ variable (codes "o") ∷ end ∷ []) ≡ Err Syntax
unfolding triples_at word
no_variable = refl

-- `?s a _:b }`, `[ ] a ?o }`, `?s a [ ] }` and `?s a ( ?o ) }`: without blank nodes these are faults
no_label : reads patterns (variable (codes "s") ∷ A ∷ ATerm (Label (codes "_:b")) ∷ end ∷ []) ≡ Err Syntax
unfolding triples_at parse word
no_label = refl

no_brackets : reads patterns (Open ∷ Close ∷ A ∷ variable (codes "o") ∷ end ∷ []) ≡ Err Syntax
unfolding triples_at
no_brackets = refl

no_object_in_brackets : reads patterns (variable (codes "s") ∷ A ∷ Open ∷ Close ∷ end ∷ []) ≡ Err Syntax
unfolding triples_at parse word
no_object_in_brackets = refl

no_cells : reads patterns (variable (codes "s") ∷ A ∷ OpenList ∷ variable (codes "o") ∷ CloseList ∷ end ∷ []) ≡ Err Syntax
unfolding triples_at parse word
no_cells = refl

-- `?s a ( ) }`: but the collection without an object is rdf:nil
empty_object : reads patterns (variable (codes "s") ∷ A ∷ OpenList ∷ CloseList ∷ end ∷ [])
    ≡ Ok (record { value = Sought (codes "s"); triples = (Sought (codes "s"), Given (rdf (codes "type")), Given (rdf (codes "nil"))) ∷ []; numbers = no_numbers; rest = end ∷ [] })
unfolding triples_at parse word
empty_object = refl

-- the two triples of `( <a> )`
abbrev cell : List RdfTriple
cell = triple (Blank 1 1) (rdf (codes "first")) (Iri (codes "http://e/a")) ∷ triple (Blank 1 1) (rdf (codes "rest")) (rdf (codes "nil")) ∷ []

-- `( <a> ) }` alone, by the program
lone_list : reads with_lists (OpenList ∷ a ∷ CloseList ∷ end ∷ [])
    ≡ Ok (record { value = Blank 1 1; triples = cell; numbers = (no_numbers.0, 1); rest = end ∷ [] })
unfolding triples_at parse word iri made_of iri_of between unescaped is_utf8 chars encode resolved resolved_parts parts_of before from rest_after is_scheme has_scheme scheme_of rest_after_scheme rest_after_slashes authority_of rest_after_authority path_of rest_after_path query_of rest_after_query fragment_of dots segments_of closed is_dots is_dot is_dot_dot moved output_of text_of_segments scheme_text marked parts_text through_last directory_of
lone_list = refl

-- and by the machine
lone_list_by_steps : run (a ∷ CloseList ∷ end ∷ []) (opening (under with_lists) no_numbers OpenList)
    ≡ Ok (record { context = under with_lists; triples = cell; numbers = (no_numbers.0, 1); rest = end ∷ [] })
unfolding run step word iri made_of iri_of between unescaped is_utf8 chars encode resolved resolved_parts parts_of before from rest_after is_scheme has_scheme scheme_of rest_after_scheme rest_after_slashes authority_of rest_after_authority path_of rest_after_path query_of rest_after_query fragment_of dots segments_of closed is_dots is_dot is_dot_dot moved output_of text_of_segments scheme_text marked parts_text through_last directory_of
lone_list_by_steps = refl

-- `( ) }` alone is a fault, and in Turtle `( <a> ) .` is one too
no_lone_empty : reads with_lists (OpenList ∷ CloseList ∷ end ∷ []) ≡ Err Syntax
unfolding triples_at parse
no_lone_empty = refl

no_lone_list : reads of_terms (OpenList ∷ a ∷ CloseList ∷ Dot 20 ∷ []) ≡ Err Syntax
unfolding triples_at parse word iri made_of iri_of between unescaped is_utf8 chars encode resolved resolved_parts parts_of before from rest_after is_scheme has_scheme scheme_of rest_after_scheme rest_after_slashes authority_of rest_after_authority path_of rest_after_path query_of rest_after_query fragment_of dots segments_of closed is_dots is_dot is_dot_dot moved output_of text_of_segments scheme_text marked parts_text through_last directory_of
no_lone_list = refl
