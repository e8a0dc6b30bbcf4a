-- More requests by computation: variables, prefixes, graphs and other forms, patterns too many, and which of two departures
-- comes first.
use Rattle.std.proofs.Common.{◌≡◌, List, [], ◌∷◌, ◌++◌, refl}
use Rattle.std.specs.Prelude.{codes, Some, None}
use Rattle.std.specs.Str.{is_utf8, chars}
use lib.Utf8.{encode}
use Rattle.gs_model.specs.Terms.{Iri, suffix}
use Rattle.gs_term.specs.declared.patterns.Part.TheVariants.{Term as TheTerm, Variable as Unknown}
use Rattle.gs_lex.specs.declared.kinds.TokenKind.TheVariants as kind
use Rattle.gs_machine.specs.Machines.{rest}
use Rattle.gs_iri.specs.References.{before, from, rest_after, is_scheme, has_scheme, scheme_of, rest_after_scheme, rest_after_slashes, authority_of, rest_after_authority, path_of, rest_after_path, query_of, rest_after_query, fragment_of, parts_of}
use Rattle.gs_iri.specs.Dots.{segments_of, is_dot, is_dot_dot, is_dots, closed, moved, text_of_segments, output_of, dots}
use Rattle.gs_iri.specs.Resolving.{scheme_text, marked, parts_text, through_last, directory_of, front_text, resolved_parts, resolved}
use Rattle.gs_escape.specs.Meanings.{unescaped, stands_short}
use Rattle.gs_escape.specs.Tokens.{between, quoted, iri_of, string_of}
use Rattle.gs_triples.specs.Symbols.{Symbol, ATerm, Text, At, A, OpenList, CloseList, Comma, Semicolon, Dot, BaseWord, Reference, Label}
use Rattle.gs_triples.specs.Languages.{triple}
use Rattle.gs_triples.specs.Meanings.{Syntax, word, iri, made_of, simple, tagged, rdf}
use Rattle.gs_triples.specs.Directives.{with_base}
use Rattle.gs_triples.specs.Machine as triples_machine
use Rattle.gs_update_text.specs.Requests.{DeletesData, DeletesWhere, Broken, OutOfProfile, Written}
use Rattle.gs_update_text.specs.Operations.{pattern}
use Rattle.gs_update_text.specs.Blocks.{block_run}
use Rattle.gs_update_text.specs.Machine.{step, ended}
use Rattle.gs_update_text.proofs.UpdateLemmas.{written}
use Rattle.gs_triples.specs.Symbols.{symbol}
use Rattle.gs_update_text.proofs.Examples.{says, mark, insert_data, delete_data, delete_where, a, p, one, v, ta, tp, integer, rdf_type, spo, any}

-- `<http://e/a> a 1`
abbrev a_type : List Symbol
a_type = a ∷ A ∷ one ∷ []

abbrev the_triple : Written
the_triple = written (DeletesData (triple ta rdf_type (integer (codes "1")) ∷ [])) 40

-- four patterns that go on with a ','
abbrev four : List Symbol
four = spo ++ Dot 1 ∷ v (codes "s") ∷ v (codes "p") ∷ v (codes "o") ∷ Comma ∷ v (codes "o") ∷ Semicolon ∷ v (codes "p") ∷ v (codes "o") ∷ Comma ∷ []

-- `DELETE WHERE {` and these tokens
abbrev within_where : List Symbol → List Symbol
within_where ts = mark kind.Delete 6 ∷ mark kind.Where 12 ∷ mark kind.OpenBrace 14 ∷ ts

-- `DELETE WHERE { ?x <http://e/p> $x }`: one variable
marks : says (delete_where (symbol kind.Var (codes "?x") 17 ∷ p ∷ symbol kind.Var (codes "$x") 35 ∷ []) 40) ≡ (written (DeletesWhere (pattern (Unknown (codes "x")) (TheTerm tp) (Unknown (codes "x")) ∷ [])) 40 ∷ [], None)
unfolding rest step ended block_run triples_machine.step triples_machine.ended word iri made_of simple tagged with_base suffix iri_of string_of quoted between unescaped stands_short is_utf8 chars encode resolved resolved_parts parts_of before from rest_after is_scheme has_scheme scheme_of rest_after_scheme rest_after_slashes authority_of rest_after_authority path_of rest_after_path query_of rest_after_query fragment_of dots segments_of closed is_dots is_dot is_dot_dot moved output_of text_of_segments scheme_text marked parts_text through_last directory_of front_text
marks = refl

-- `DELETE WHERE { <http://e/a> ?v 1 }`
verb_variable : says (delete_where (a ∷ v (codes "v") ∷ one ∷ []) 40) ≡ (written (DeletesWhere (pattern (TheTerm ta) (Unknown (codes "v")) (TheTerm (integer (codes "1"))) ∷ [])) 40 ∷ [], None)
unfolding rest step ended block_run triples_machine.step triples_machine.ended word iri made_of simple tagged with_base suffix iri_of string_of quoted between unescaped stands_short is_utf8 chars encode resolved resolved_parts parts_of before from rest_after is_scheme has_scheme scheme_of rest_after_scheme rest_after_slashes authority_of rest_after_authority path_of rest_after_path query_of rest_after_query fragment_of dots segments_of closed is_dots is_dot is_dot_dot moved output_of text_of_segments scheme_text marked parts_text through_last directory_of front_text
verb_variable = refl

-- `DELETE DATA { <http://e/a> a 1 } ; BASE <http://b/> DELETE DATA { <a> a 1 }`
base_between : says (delete_data a_type 40 ++ Semicolon ∷ BaseWord ∷ ATerm (Reference (codes "<http://b/>") 56) ∷ delete_data (ATerm (Reference (codes "<a>") 70) ∷ A ∷ one ∷ []) 80) ≡ (the_triple ∷ written (DeletesData (triple (Iri (codes "http://b/a")) rdf_type (integer (codes "1")) ∷ [])) 80 ∷ [], None)
unfolding rest step ended block_run triples_machine.step triples_machine.ended word iri made_of simple tagged with_base suffix iri_of string_of quoted between unescaped stands_short is_utf8 chars encode resolved resolved_parts parts_of before from rest_after is_scheme has_scheme scheme_of rest_after_scheme rest_after_slashes authority_of rest_after_authority path_of rest_after_path query_of rest_after_query fragment_of dots segments_of closed is_dots is_dot is_dot_dot moved output_of text_of_segments scheme_text marked parts_text through_last directory_of front_text
base_between = refl

-- a `;` where an operation may begin
no_prologue : says (Semicolon ∷ delete_where spo 20) ≡ ([], Some (Broken Syntax))
unfolding rest step ended block_run triples_machine.step word made_of suffix is_utf8 chars encode
no_prologue = refl

-- `DELETE DATA { GRAPH ..`
delete_graph : says (mark kind.Delete 6 ∷ mark kind.Data 11 ∷ mark kind.OpenBrace 13 ∷ mark kind.Graph 19 ∷ []) ≡ ([], Some OutOfProfile)
unfolding rest step ended block_run triples_machine.step word made_of suffix
delete_graph = refl

-- `DELETE WHERE { ?s ?p ?o . GRAPH ..`
where_graph : says (within_where (spo ++ Dot 20 ∷ mark kind.Graph 26 ∷ [])) ≡ ([], Some OutOfProfile)
unfolding rest step ended block_run triples_machine.step word made_of suffix is_utf8 chars encode
where_graph = refl

-- `LOAD ..`
no_load : says (mark kind.Load 4 ∷ []) ≡ ([], Some OutOfProfile)
unfolding rest step ended block_run triples_machine.step word made_of suffix
no_load = refl

-- `DROP ..`
no_drop : says (mark kind.Drop 4 ∷ []) ≡ ([], Some OutOfProfile)
unfolding rest step ended block_run triples_machine.step word made_of suffix
no_drop = refl

-- `CREATE ..`
no_create : says (mark kind.Create 6 ∷ []) ≡ ([], Some OutOfProfile)
unfolding rest step ended block_run triples_machine.step word made_of suffix
no_create = refl

-- `ADD ..`
no_add : says (mark kind.Add 3 ∷ []) ≡ ([], Some OutOfProfile)
unfolding rest step ended block_run triples_machine.step word made_of suffix
no_add = refl

-- `MOVE ..`
no_move : says (mark kind.Move 4 ∷ []) ≡ ([], Some OutOfProfile)
unfolding rest step ended block_run triples_machine.step word made_of suffix
no_move = refl

-- `COPY ..`
no_copy : says (mark kind.Copy 4 ∷ []) ≡ ([], Some OutOfProfile)
unfolding rest step ended block_run triples_machine.step word made_of suffix
no_copy = refl

-- `WITH ..`
no_with : says (mark kind.With 4 ∷ []) ≡ ([], Some OutOfProfile)
unfolding rest step ended block_run triples_machine.step word made_of suffix
no_with = refl

-- `WHERE ..`, where an operation may begin
where_first : says (mark kind.Where 5 ∷ []) ≡ ([], Some (Broken Syntax))
unfolding rest step ended block_run triples_machine.step word made_of suffix
where_first = refl

-- a fifth pattern and its dot
fifth_dotted : says (within_where (four ++ v (codes "o") ∷ Dot 40 ∷ [])) ≡ ([], Some OutOfProfile)
unfolding rest step ended block_run triples_machine.step word made_of suffix is_utf8 chars encode
fifth_dotted = refl

-- a fifth pattern that ends with a string and its language tag
fifth_tagged : says (within_where (four ++ Text (34 ∷ codes "x" ++ 34 ∷ []) ∷ At (codes "@en") ∷ [])) ≡ ([], Some OutOfProfile)
unfolding rest step ended block_run triples_machine.step triples_machine.ended word iri made_of simple tagged with_base suffix iri_of string_of quoted between unescaped stands_short is_utf8 chars encode resolved resolved_parts parts_of before from rest_after is_scheme has_scheme scheme_of rest_after_scheme rest_after_slashes authority_of rest_after_authority path_of rest_after_path query_of rest_after_query fragment_of dots segments_of closed is_dots is_dot is_dot_dot moved output_of text_of_segments scheme_text marked parts_text through_last directory_of front_text
fifth_tagged = refl

-- with a string, and a dot after it
string_dotted : says (within_where (four ++ Text (34 ∷ codes "x" ++ 34 ∷ []) ∷ Dot 40 ∷ [])) ≡ ([], Some OutOfProfile)
unfolding rest step ended block_run triples_machine.step triples_machine.ended word iri made_of simple tagged with_base suffix iri_of string_of quoted between unescaped stands_short is_utf8 chars encode resolved resolved_parts parts_of before from rest_after is_scheme has_scheme scheme_of rest_after_scheme rest_after_slashes authority_of rest_after_authority path_of rest_after_path query_of rest_after_query fragment_of dots segments_of closed is_dots is_dot is_dot_dot moved output_of text_of_segments scheme_text marked parts_text through_last directory_of front_text
string_dotted = refl

-- where a fifth pattern is to end with a blank node, the fault comes first
fifth_open : says (within_where (four ++ ATerm (Label (codes "_:x")) ∷ [])) ≡ ([], Some (Broken Syntax))
unfolding rest step ended block_run triples_machine.step word made_of suffix is_utf8 chars encode
fifth_open = refl

-- `DELETE WHERE { ( ) }`
lone_where : says (delete_where (OpenList ∷ CloseList ∷ []) 40) ≡ ([], Some (Broken Syntax))
unfolding rest step ended block_run triples_machine.step word made_of suffix
lone_where = refl

-- `DELETE WHERE { ( ) ?p ?o }`: the empty collection is an IRI
nil_sought : says (delete_where (OpenList ∷ CloseList ∷ v (codes "p") ∷ v (codes "o") ∷ []) 40) ≡ (written (DeletesWhere (pattern (TheTerm (rdf (codes "nil"))) (Unknown (codes "p")) (Unknown (codes "o")) ∷ [])) 40 ∷ [], None)
unfolding rest step ended block_run triples_machine.step word made_of suffix is_utf8 chars encode
nil_sought = refl

-- `DELETE WHERE { ( 1 ) ?p ?o }`
list_sought : says (delete_where (OpenList ∷ one ∷ CloseList ∷ v (codes "p") ∷ v (codes "o") ∷ []) 40) ≡ ([], Some (Broken Syntax))
unfolding rest step ended block_run triples_machine.step word made_of suffix is_utf8 chars encode
list_sought = refl

-- `INSERT DATA { ?s a 1 }`
inserted_variable : says (insert_data (v (codes "s") ∷ A ∷ one ∷ []) 40) ≡ ([], Some (Broken Syntax))
unfolding rest step ended block_run triples_machine.step word made_of suffix is_utf8 chars encode
inserted_variable = refl

-- `DELETE DATA { ?s GRAPH ..`: the fault comes first
fault_first : says (mark kind.Delete 6 ∷ mark kind.Data 11 ∷ mark kind.OpenBrace 13 ∷ v (codes "s") ∷ mark kind.Graph 22 ∷ []) ≡ ([], Some (Broken Syntax))
unfolding rest step ended block_run triples_machine.step word made_of suffix is_utf8 chars encode
fault_first = refl

-- `DELETE WHERE { ?s ?p ?o } ; CLEAR } {`: the departure comes first
departure_first : says (delete_where spo 20 ++ Semicolon ∷ mark kind.Clear 30 ∷ mark kind.CloseBrace 32 ∷ mark kind.OpenBrace 34 ∷ []) ≡ (any ∷ [], Some OutOfProfile)
unfolding rest step ended block_run triples_machine.step word made_of suffix is_utf8 chars encode
departure_first = refl

-- `INSERT DATA { <http://e/a> a 1`
unfinished : says (mark kind.Insert 6 ∷ mark kind.Data 11 ∷ mark kind.OpenBrace 13 ∷ a_type) ≡ ([], Some (Broken Syntax))
unfolding rest step ended block_run triples_machine.step triples_machine.ended word iri made_of simple tagged with_base suffix iri_of string_of quoted between unescaped stands_short is_utf8 chars encode resolved resolved_parts parts_of before from rest_after is_scheme has_scheme scheme_of rest_after_scheme rest_after_slashes authority_of rest_after_authority path_of rest_after_path query_of rest_after_query fragment_of dots segments_of closed is_dots is_dot is_dot_dot moved output_of text_of_segments scheme_text marked parts_text through_last directory_of front_text
unfinished = refl
