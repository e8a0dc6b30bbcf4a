-- Labels in requests, by computation.
use Rattle.std.proofs.Common.{◌≡◌, ℕ, List, [], ◌∷◌, ◌++◌, refl, ◌∙◌}
use Rattle.std.specs.Prelude.{codes, Some, None}
use Rattle.std.specs.Str.{is_utf8, chars}
use lib.Utf8.{encode}
use Rattle.gs_model.specs.Terms.{Blank, suffix}
use Rattle.gs_machine.specs.Machines.{rest}
use Rattle.gs_iri.specs.References.{before, from, rest_after, is_scheme, has_scheme, scheme_of, rest_after_scheme, rest_after_slashes, authority_of, rest_after_authority, path_of, rest_after_path, query_of, rest_after_query, fragment_of, parts_of}
use Rattle.gs_iri.specs.Dots.{segments_of, is_dot, is_dot_dot, is_dots, closed, moved, text_of_segments, output_of, dots}
use Rattle.gs_iri.specs.Resolving.{scheme_text, marked, parts_text, through_last, directory_of, front_text, resolved_parts, resolved}
use Rattle.gs_escape.specs.Meanings.{unescaped, stands_short}
use Rattle.gs_escape.specs.Tokens.{between, quoted, iri_of, string_of}
use Rattle.gs_blank.specs.Numbers.{no_numbers}
use Rattle.gs_triples.specs.Symbols.{Symbol, ATerm, A, Semicolon, Reference, Label}
use Rattle.gs_triples.specs.Languages.{triple}
use Rattle.gs_triples.specs.Meanings.{Syntax, word, iri, made_of, simple, tagged}
use Rattle.gs_triples.specs.Directives.{with_base}
use Rattle.gs_triples.specs.Machine as triples_machine
use Rattle.gs_update_text.specs.Requests.{Inserts, DeletesData, Broken}
use Rattle.gs_update_text.specs.Grammar.{first_scope}
use Rattle.gs_update_text.specs.Blocks.{block_run}
use Rattle.gs_update_text.specs.Machine.{step, ended}
use Rattle.gs_update_text.proofs.UpdateLemmas.{written}
use Rattle.std.specs.FinMap as finite
use Rattle.gs_triples.specs.Symbols.{PrefixWord, Namespace, Name}
use Rattle.gs_triples.specs.Meanings.{name_text}
use Rattle.gs_triples.specs.Directives.{with_prefix}
use Rattle.std.specs.FinMap.{get-empty, get-insert}
use Rattle.std.specs.Ordering.{nat_cmp}
use Rattle.std.specs.Cmp.Lexicographic.{slice_cmp, nat_list_cmp_total}
use Rattle.gs_blank.specs.Numbers.{known, with_label}
use Rattle.gs_update_text.proofs.Examples.{says, insert_data, delete_data, one, integer, rdf_type}

-- a label that has no number, and one that has the first
new : (x : List ℕ) → known no_numbers x ≡ None
new x = get-empty (slice_cmp nat_cmp) x

first : known (with_label no_numbers (codes "x")) (codes "x") ≡ Some 1
first = get-insert nat_list_cmp_total finite.empty (codes "x") 1 (codes "x")

second : known (with_label no_numbers (codes "x")) (codes "y") ≡ None
second = get-insert nat_list_cmp_total finite.empty (codes "x") 1 (codes "y") ∙ get-empty (slice_cmp nat_cmp) (codes "y")

abbrev x : Symbol
x = ATerm (Label (codes "_:x"))

abbrev y : Symbol
y = ATerm (Label (codes "_:y"))

-- `INSERT DATA { _:x a _:x }`: one node
one_node : says (insert_data (x ∷ A ∷ x ∷ []) 40) ≡ (written (Inserts (triple (Blank 1 1) rdf_type (Blank 1 1) ∷ [])) 40 ∷ [], None)
unfolding rest step ended block_run triples_machine.step word made_of suffix
one_node = rw new (rw new (rw first refl))

-- `INSERT DATA { _:x a 1 } ; INSERT DATA { _:x a 1 }`: a label of another operation
two_operations : says (insert_data (x ∷ A ∷ one ∷ []) 40 ++ Semicolon ∷ insert_data (x ∷ A ∷ one ∷ []) 80) ≡ (written (Inserts (triple (Blank 1 1) rdf_type (integer (codes "1")) ∷ [])) 40 ∷ [], Some (Broken Syntax))
unfolding rest step ended block_run triples_machine.step word made_of suffix
two_operations = rw new (rw first refl)

-- `INSERT DATA { _:x a 1 } ; INSERT DATA { _:y a 1 }`: another label, with the next number
two_labels : says (insert_data (x ∷ A ∷ one ∷ []) 40 ++ Semicolon ∷ insert_data (y ∷ A ∷ one ∷ []) 80) ≡ (written (Inserts (triple (Blank 1 1) rdf_type (integer (codes "1")) ∷ [])) 40 ∷ written (Inserts (triple (Blank 1 2) rdf_type (integer (codes "1")) ∷ [])) 80 ∷ [], None)
unfolding rest step ended block_run triples_machine.step word made_of suffix
two_labels = rw new (rw second refl)

-- `INSERT DATA { _:x a 1 } ; DELETE DATA { _:y a 1 }`
deleted_label : says (insert_data (x ∷ A ∷ one ∷ []) 40 ++ Semicolon ∷ delete_data (y ∷ A ∷ one ∷ []) 80) ≡ (written (Inserts (triple (Blank 1 1) rdf_type (integer (codes "1")) ∷ [])) 40 ∷ [], Some (Broken Syntax))
unfolding rest step ended block_run triples_machine.step word made_of suffix
deleted_label = rw new refl

-- no prefix is declared
no_prefix : (x : List ℕ) → finite.get (first_scope (codes "http://e/g") 1).prefixes x ≡ None
no_prefix x = get-empty (slice_cmp nat_cmp) x

-- `DELETE DATA { e:a a 1 }`
undeclared : says (delete_data (ATerm (Name (codes "e:a")) ∷ A ∷ one ∷ []) 40) ≡ ([], Some (Broken Syntax))
unfolding rest step ended block_run triples_machine.step triples_machine.ended word iri made_of simple tagged with_base suffix iri_of string_of quoted between unescaped stands_short is_utf8 chars encode resolved resolved_parts parts_of before from rest_after is_scheme has_scheme scheme_of rest_after_scheme rest_after_slashes authority_of rest_after_authority path_of rest_after_path query_of rest_after_query fragment_of dots segments_of closed is_dots is_dot is_dot_dot moved output_of text_of_segments scheme_text marked parts_text through_last directory_of front_text name_text
undeclared = rw no_prefix refl

-- `DELETE DATA { } ; PREFIX e: <http://b/> DELETE DATA { } ; PREFIX e: <c>`
prefixes_between : says (delete_data [] 40 ++ Semicolon ∷ PrefixWord ∷ ATerm (Namespace (codes "e:")) ∷ ATerm (Reference (codes "<http://b/>") 50) ∷ delete_data [] 80 ++ Semicolon ∷ PrefixWord ∷ ATerm (Namespace (codes "e:")) ∷ ATerm (Reference (codes "<c>") 90) ∷ []) ≡ (written (DeletesData []) 40 ∷ written (DeletesData []) 80 ∷ [], None)
unfolding rest step ended block_run triples_machine.step triples_machine.ended word iri made_of simple tagged with_base suffix iri_of string_of quoted between unescaped stands_short is_utf8 chars encode resolved resolved_parts parts_of before from rest_after is_scheme has_scheme scheme_of rest_after_scheme rest_after_slashes authority_of rest_after_authority path_of rest_after_path query_of rest_after_query fragment_of dots segments_of closed is_dots is_dot is_dot_dot moved output_of text_of_segments scheme_text marked parts_text through_last directory_of front_text with_prefix
prefixes_between = refl
