-- Requests by computation, as the symbols of their tokens, with the graph's IRI `http://e/g` as the first base and in request 1.
use Rattle.std.proofs.Common.{◌≡◌, ℕ, List, [], ◌∷◌, ◌++◌, refl}
use Rattle.std.specs.Prelude.{codes, Some, None}
use Rattle.std.specs.Str.{is_utf8, chars}
use lib.Utf8.{encode}
use Rattle.gs_model.specs.Terms.{Term, Iri, Blank, Literal, Typed, suffix}
use Rattle.gs_term.specs.declared.patterns.Part.TheVariants.{Term as TheTerm, Variable as Unknown}
use Rattle.gs_lex.specs.declared.kinds.TokenKind.{TokenKind}
use Rattle.gs_lex.specs.declared.kinds.TokenKind.TheVariants as kind
use Rattle.gs_machine.specs.Machines.{rest}
use Rattle.gs_iri.specs.References.{before, from, rest_after, is_scheme, has_scheme, scheme_of, rest_after_scheme, rest_after_slashes, authority_of, rest_after_authority, path_of, rest_after_path, query_of, rest_after_query, fragment_of, parts_of}
use Rattle.gs_iri.specs.Dots.{segments_of, is_dot, is_dot_dot, is_dots, closed, moved, text_of_segments, output_of, dots}
use Rattle.gs_iri.specs.Resolving.{scheme_text, marked, parts_text, through_last, directory_of, front_text, resolved_parts, resolved}
use Rattle.gs_escape.specs.Meanings.{unescaped, stands_short}
use Rattle.gs_escape.specs.Tokens.{between, quoted, iri_of, string_of}
use Rattle.gs_blank.specs.Numbers.{no_numbers}
use Rattle.gs_triples.specs.Symbols.{Symbol, ATerm, Text, At, A, OpenList, CloseList, Comma, Semicolon, Dot, BaseWord, Foreign, Reference, Label, Plain, Variable, xsd}
use Rattle.gs_triples.specs.Languages.{triple}
use Rattle.gs_triples.specs.Meanings.{Syntax, word, iri, made_of, simple, tagged, rdf}
use Rattle.gs_triples.specs.Directives.{with_base}
use Rattle.gs_triples.specs.Machine as triples_machine
use Rattle.gs_update_text.specs.Requests.{Inserts, DeletesData, DeletesWhere, Broken, OutOfProfile, Written, UpdateRequest}
use Rattle.gs_update_text.specs.Operations.{pattern}
use Rattle.gs_update_text.specs.Grammar.{first_scope}
use Rattle.gs_update_text.specs.Blocks.{block_run}
use Rattle.gs_update_text.specs.States.{Between}
use Rattle.gs_update_text.specs.Machine.{updates, step, ended}
use Rattle.gs_update_text.proofs.UpdateLemmas.{written}

-- what these symbols say
abbrev pub says : List Symbol → UpdateRequest
says ts = rest updates (Between (first_scope (codes "http://e/g") 1) no_numbers) ts

-- a word or a brace that ends there
abbrev pub mark : TokenKind → ℕ → Symbol
mark k e = Foreign k e

abbrev pub insert_data : List Symbol → ℕ → List Symbol
insert_data ts e = mark kind.Insert 6 ∷ mark kind.Data 11 ∷ mark kind.OpenBrace 13 ∷ ts ++ mark kind.CloseBrace e ∷ []

abbrev pub delete_data : List Symbol → ℕ → List Symbol
delete_data ts e = mark kind.Delete 6 ∷ mark kind.Data 11 ∷ mark kind.OpenBrace 13 ∷ ts ++ mark kind.CloseBrace e ∷ []

abbrev pub delete_where : List Symbol → ℕ → List Symbol
delete_where ts e = mark kind.Delete 6 ∷ mark kind.Where 12 ∷ mark kind.OpenBrace 14 ∷ ts ++ mark kind.CloseBrace e ∷ []

-- `<http://e/a>`, `<http://e/p>`, a number, and variables
abbrev pub a : Symbol
a = ATerm (Reference (codes "<http://e/a>") 0)

abbrev pub p : Symbol
p = ATerm (Reference (codes "<http://e/p>") 0)

abbrev pub one : Symbol
one = ATerm (Plain (codes "1") (xsd (codes "integer")))

abbrev pub v : List ℕ → Symbol
v x = ATerm (Variable x)

-- their terms
abbrev pub ta : Term
ta = Iri (codes "http://e/a")

abbrev pub tp : Term
tp = Iri (codes "http://e/p")

abbrev pub integer : List ℕ → Term
integer x = Literal x (Typed (xsd (codes "integer")))

abbrev pub rdf_type : Term
rdf_type = rdf (codes "type")

-- `?s ?p ?o`
abbrev pub spo : List Symbol
spo = v (codes "s") ∷ v (codes "p") ∷ v (codes "o") ∷ []

-- `DELETE WHERE { ?s ?p ?o }` that ends after 20 bytes
abbrev pub any : Written
any = written (DeletesWhere (pattern (Unknown (codes "s")) (Unknown (codes "p")) (Unknown (codes "o")) ∷ [])) 20

-- an empty text is an update without operations
empty : says ([]) ≡ ([], None)
unfolding rest step ended block_run triples_machine.step word made_of suffix
empty = refl

-- and so is `BASE <http://b/>`
prologue : says (BaseWord ∷ ATerm (Reference (codes "<http://b/>") 16) ∷ []) ≡ ([], None)
unfolding rest step ended block_run triples_machine.step triples_machine.ended word iri made_of simple tagged with_base suffix iri_of string_of quoted between unescaped stands_short is_utf8 chars encode resolved resolved_parts parts_of before from rest_after is_scheme has_scheme scheme_of rest_after_scheme rest_after_slashes authority_of rest_after_authority path_of rest_after_path query_of rest_after_query fragment_of dots segments_of closed is_dots is_dot is_dot_dot moved output_of text_of_segments scheme_text marked parts_text through_last directory_of front_text
prologue = refl

-- `BASE <http://b/> DELETE DATA { <a> a 1 }`
rebased : says (BaseWord ∷ ATerm (Reference (codes "<http://b/>") 16) ∷ delete_data (ATerm (Reference (codes "<a>") 20) ∷ A ∷ one ∷ []) 40) ≡ (written (DeletesData (triple (Iri (codes "http://b/a")) rdf_type (integer (codes "1")) ∷ [])) 40 ∷ [], None)
unfolding rest step ended block_run triples_machine.step triples_machine.ended word iri made_of simple tagged with_base suffix iri_of string_of quoted between unescaped stands_short is_utf8 chars encode resolved resolved_parts parts_of before from rest_after is_scheme has_scheme scheme_of rest_after_scheme rest_after_slashes authority_of rest_after_authority path_of rest_after_path query_of rest_after_query fragment_of dots segments_of closed is_dots is_dot is_dot_dot moved output_of text_of_segments scheme_text marked parts_text through_last directory_of front_text
rebased = refl

-- `INSERT DATA { <http://e/a> a 01 } ; DELETE WHERE { ?s <http://e/p> 1 } ;`, with a `;` at its end
inserted_and_deleted : says (insert_data (a ∷ A ∷ ATerm (Plain (codes "01") (xsd (codes "integer"))) ∷ []) 40 ++ Semicolon ∷ delete_where (v (codes "s") ∷ p ∷ one ∷ []) 80 ++ Semicolon ∷ []) ≡ (written (Inserts (triple ta rdf_type (integer (codes "01")) ∷ [])) 40 ∷ written (DeletesWhere (pattern (Unknown (codes "s")) (TheTerm tp) (TheTerm (integer (codes "1"))) ∷ [])) 80 ∷ [], None)
unfolding rest step ended block_run triples_machine.step triples_machine.ended word iri made_of simple tagged with_base suffix iri_of string_of quoted between unescaped stands_short is_utf8 chars encode resolved resolved_parts parts_of before from rest_after is_scheme has_scheme scheme_of rest_after_scheme rest_after_slashes authority_of rest_after_authority path_of rest_after_path query_of rest_after_query fragment_of dots segments_of closed is_dots is_dot is_dot_dot moved output_of text_of_segments scheme_text marked parts_text through_last directory_of front_text
inserted_and_deleted = refl

-- between two operations a `;` stands
no_semicolon : says (delete_where spo 20 ++ delete_where spo 40) ≡ (any ∷ [], Some (Broken Syntax))
unfolding rest step ended block_run triples_machine.step word made_of suffix is_utf8 chars encode
no_semicolon = refl

-- and no second one
two_semicolons : says (delete_where spo 20 ++ Semicolon ∷ Semicolon ∷ []) ≡ (any ∷ [], Some (Broken Syntax))
unfolding rest step ended block_run triples_machine.step word made_of suffix is_utf8 chars encode
two_semicolons = refl

-- `INSERT DATA { ( 1 ) }`
lone_list : says (insert_data (OpenList ∷ one ∷ CloseList ∷ []) 40) ≡ (written (Inserts (triple (Blank 1 1) (rdf (codes "first")) (integer (codes "1")) ∷ triple (Blank 1 1) (rdf (codes "rest")) (rdf (codes "nil")) ∷ [])) 40 ∷ [], None)
unfolding rest step ended block_run triples_machine.step word made_of suffix
lone_list = refl

-- `INSERT DATA { ( ) }`
lone_empty : says (insert_data (OpenList ∷ CloseList ∷ []) 40) ≡ ([], Some (Broken Syntax))
unfolding rest step ended block_run triples_machine.step word made_of suffix
lone_empty = refl

-- `INSERT DATA { }`
nothing_inserted : says (insert_data [] 15) ≡ (written (Inserts []) 15 ∷ [], None)
unfolding rest step ended block_run triples_machine.step word made_of suffix
nothing_inserted = refl

-- `DELETE DATA { ?s a 1 }`
deleted_variable : says (delete_data (v (codes "s") ∷ A ∷ one ∷ []) 40) ≡ ([], Some (Broken Syntax))
unfolding rest step ended block_run triples_machine.step word made_of suffix is_utf8 chars encode
deleted_variable = refl

-- `DELETE DATA { _:x a 1 }`
deleted_label : says (delete_data (ATerm (Label (codes "_:x")) ∷ A ∷ one ∷ []) 40) ≡ ([], Some (Broken Syntax))
unfolding rest step ended block_run triples_machine.step word made_of suffix
deleted_label = refl

-- `DELETE WHERE { _:x a 1 }`
sought_label : says (delete_where (ATerm (Label (codes "_:x")) ∷ A ∷ one ∷ []) 40) ≡ ([], Some (Broken Syntax))
unfolding rest step ended block_run triples_machine.step word made_of suffix
sought_label = refl

-- `DELETE WHERE { }`
no_pattern : says (delete_where [] 40) ≡ ([], Some OutOfProfile)
unfolding rest step ended block_run triples_machine.step word made_of suffix
no_pattern = refl

-- `INSERT DATA { GRAPH ..`
graph : says (mark kind.Insert 6 ∷ mark kind.Data 11 ∷ mark kind.OpenBrace 13 ∷ mark kind.Graph 19 ∷ []) ≡ ([], Some OutOfProfile)
unfolding rest step ended block_run triples_machine.step word made_of suffix
graph = refl

-- `DELETE WHERE { ?s ?p ?o GRAPH ..`: a dot is to come
graph_before_dot : says (mark kind.Delete 6 ∷ mark kind.Where 12 ∷ mark kind.OpenBrace 14 ∷ spo ++ mark kind.Graph 30 ∷ []) ≡ ([], Some (Broken Syntax))
unfolding rest step ended block_run triples_machine.step word made_of suffix is_utf8 chars encode
graph_before_dot = refl

-- `CLEAR ..`
cleared : says (mark kind.Clear 5 ∷ []) ≡ ([], Some OutOfProfile)
unfolding rest step ended block_run triples_machine.step word made_of suffix
cleared = refl

-- and after an operation
cleared_after : says (delete_where spo 20 ++ Semicolon ∷ mark kind.Clear 30 ∷ []) ≡ (any ∷ [], Some OutOfProfile)
unfolding rest step ended block_run triples_machine.step word made_of suffix is_utf8 chars encode
cleared_after = refl

-- `INSERT { ..`
template : says (mark kind.Insert 6 ∷ mark kind.OpenBrace 8 ∷ []) ≡ ([], Some OutOfProfile)
unfolding rest step ended block_run triples_machine.step word made_of suffix
template = refl

-- `DELETE { ..`
deleted_template : says (mark kind.Delete 6 ∷ mark kind.OpenBrace 8 ∷ []) ≡ ([], Some OutOfProfile)
unfolding rest step ended block_run triples_machine.step word made_of suffix
deleted_template = refl

-- `INSERT WHERE ..`
insert_where : says (mark kind.Insert 6 ∷ mark kind.Where 12 ∷ []) ≡ ([], Some (Broken Syntax))
unfolding rest step ended block_run triples_machine.step word made_of suffix
insert_where = refl

-- `DELETE WHERE { ?s ?p ?o . ?s ?p ?o , ?o ; ?p ?o . }`
four_patterns : says (delete_where (spo ++ Dot 1 ∷ v (codes "s") ∷ v (codes "p") ∷ v (codes "o") ∷ Comma ∷ v (codes "o") ∷ Semicolon ∷ v (codes "p") ∷ v (codes "o") ∷ Dot 2 ∷ []) 40) ≡ (written (DeletesWhere (pattern (Unknown (codes "s")) (Unknown (codes "p")) (Unknown (codes "o")) ∷ pattern (Unknown (codes "s")) (Unknown (codes "p")) (Unknown (codes "o")) ∷ pattern (Unknown (codes "s")) (Unknown (codes "p")) (Unknown (codes "o")) ∷ pattern (Unknown (codes "s")) (Unknown (codes "p")) (Unknown (codes "o")) ∷ [])) 40 ∷ [], None)
unfolding rest step ended block_run triples_machine.step word made_of suffix is_utf8 chars encode
four_patterns = refl

-- a fifth pattern, whatever comes after it
fifth_pattern : says (mark kind.Delete 6 ∷ mark kind.Where 12 ∷ mark kind.OpenBrace 14 ∷ spo ++ Dot 1 ∷ v (codes "s") ∷ v (codes "p") ∷ v (codes "o") ∷ Comma ∷ v (codes "o") ∷ Semicolon ∷ v (codes "p") ∷ v (codes "o") ∷ Comma ∷ v (codes "o") ∷ mark kind.Load 50 ∷ []) ≡ ([], Some OutOfProfile)
unfolding rest step ended block_run triples_machine.step word made_of suffix is_utf8 chars encode
fifth_pattern = refl

-- a fifth pattern that ends with a string, at the end of the text
fifth_string : says (mark kind.Delete 6 ∷ mark kind.Where 12 ∷ mark kind.OpenBrace 14 ∷ spo ++ Dot 1 ∷ v (codes "s") ∷ v (codes "p") ∷ v (codes "o") ∷ Comma ∷ v (codes "o") ∷ Semicolon ∷ v (codes "p") ∷ v (codes "o") ∷ Comma ∷ Text (34 ∷ codes "x" ++ 34 ∷ []) ∷ []) ≡ ([], Some OutOfProfile)
unfolding rest step ended block_run triples_machine.step triples_machine.ended word iri made_of simple tagged with_base suffix iri_of string_of quoted between unescaped stands_short is_utf8 chars encode resolved resolved_parts parts_of before from rest_after is_scheme has_scheme scheme_of rest_after_scheme rest_after_slashes authority_of rest_after_authority path_of rest_after_path query_of rest_after_query fragment_of dots segments_of closed is_dots is_dot is_dot_dot moved output_of text_of_segments scheme_text marked parts_text through_last directory_of front_text
fifth_string = refl

-- and with a tag that has not its form
fifth_tag : says (mark kind.Delete 6 ∷ mark kind.Where 12 ∷ mark kind.OpenBrace 14 ∷ spo ++ Dot 1 ∷ v (codes "s") ∷ v (codes "p") ∷ v (codes "o") ∷ Comma ∷ v (codes "o") ∷ Semicolon ∷ v (codes "p") ∷ v (codes "o") ∷ Comma ∷ Text (34 ∷ codes "x" ++ 34 ∷ []) ∷ At (codes "-") ∷ []) ≡ ([], Some (Broken Syntax))
unfolding rest step ended block_run triples_machine.step triples_machine.ended word iri made_of simple tagged with_base suffix iri_of string_of quoted between unescaped stands_short is_utf8 chars encode resolved resolved_parts parts_of before from rest_after is_scheme has_scheme scheme_of rest_after_scheme rest_after_slashes authority_of rest_after_authority path_of rest_after_path query_of rest_after_query fragment_of dots segments_of closed is_dots is_dot is_dot_dot moved output_of text_of_segments scheme_text marked parts_text through_last directory_of front_text
fifth_tag = refl
