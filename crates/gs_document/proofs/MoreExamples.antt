-- A second document, by computation: `[ <p> 1 ; ; ] . @base <http://b/> . <s> a "x"@EN-us , "y"^^<d> ; .` in the graph
-- `http://e/g` and in request 1, as the symbols of its tokens.
use Rattle.std.proofs.Common.{◌≡◌, List, [], ◌∷◌, ◌++◌, refl}
use Rattle.std.specs.Prelude.{codes}
use Rattle.std.specs.Str.{is_utf8, chars}
use lib.Utf8.{encode}
use Rattle.gs_model.specs.Terms.{Iri, Blank, Literal, Typed, Tagged, suffix}
use Rattle.gs_iri.specs.References.{before, from, rest_after, is_scheme, has_scheme, scheme_of, rest_after_scheme, rest_after_slashes, authority_of, rest_after_authority, path_of, rest_after_path, query_of, rest_after_query, fragment_of, parts_of}
use Rattle.gs_iri.specs.Dots.{segments_of, is_dot, is_dot_dot, is_dots, closed, moved, text_of_segments, output_of, dots}
use Rattle.gs_iri.specs.Resolving.{scheme_text, marked, parts_text, through_last, directory_of, front_text, resolved_parts, resolved}
use Rattle.gs_escape.specs.Meanings.{unescaped, stands_short}
use Rattle.gs_escape.specs.Tokens.{between, quoted, iri_of, string_of}
use Rattle.gs_blank.specs.Numbers.{no_numbers}
use Rattle.gs_body.specs.Bodies.{Whole, Faulty}
use Rattle.gs_triples.specs.Symbols.{Symbol, ATerm, Text, At, Carets, A, Open, Close, Semicolon, Comma, Dot, BaseWord, Reference, Plain, xsd}
use Rattle.gs_triples.specs.Meanings.{Syntax, word, iri, made_of, simple, tagged, typed, rdf}
use Rattle.gs_triples.specs.Goals.{triple}
use Rattle.gs_triples.specs.Directives.{with_base}
use Rattle.gs_document.specs.Documents.{start, stated}
use Rattle.gs_triples.specs.Reading.{parse}
use Rattle.gs_triples.specs.Program.{triples_at}
use Rattle.gs_document.specs.Program.{statement_at, statements_at}

abbrev symbols : List Symbol
symbols =
    Open ∷ ATerm (Reference (codes "<p>") 5) ∷ ATerm (Plain (codes "1") (xsd (codes "integer"))) ∷ Semicolon ∷ Semicolon ∷ Close ∷ Dot 15
    ∷ At (codes "@base") ∷ ATerm (Reference (codes "<http://b/>") 33) ∷ Dot 35
    ∷ ATerm (Reference (codes "<s>") 39) ∷ A ∷ Text (34 ∷ codes "x" ++ 34 ∷ []) ∷ At (codes "@EN-us") ∷ Comma
    ∷ Text (34 ∷ codes "y" ++ 34 ∷ []) ∷ Carets ∷ ATerm (Reference (codes "<d>") 62) ∷ Semicolon ∷ Dot 66 ∷ []

by_program : statements_at 20 (start (codes "http://e/g") 1) no_numbers symbols
    ≡ (
      stated 15 (triple (Blank 1 1) (Iri (codes "http://e/p")) (Literal (codes "1") (Typed (xsd (codes "integer")))) ∷ [])
          ++ stated 35 []
          ++ stated 66 (triple (Iri (codes "http://b/s")) (rdf (codes "type")) (Literal (codes "x") (Tagged (codes "en-us")))
          ∷ triple (Iri (codes "http://b/s")) (rdf (codes "type")) (Literal (codes "y") (Typed (codes "http://b/d"))) ∷ []),
      Whole,
    )
unfolding statements_at statement_at triples_at parse word iri made_of simple tagged typed with_base suffix iri_of string_of quoted between unescaped stands_short is_utf8 chars encode resolved resolved_parts parts_of before from rest_after is_scheme has_scheme scheme_of rest_after_scheme rest_after_slashes authority_of rest_after_authority path_of rest_after_path query_of rest_after_query fragment_of dots segments_of closed is_dots is_dot is_dot_dot moved output_of text_of_segments scheme_text marked parts_text through_last directory_of front_text
by_program = refl

-- directives alone, and then a fault: `@base <http://b/> . BASE <c> .`, whose second directive ends without a dot
abbrev directives : List Symbol
directives = At (codes "@base") ∷ ATerm (Reference (codes "<http://b/>") 17) ∷ Dot 19 ∷ BaseWord ∷ ATerm (Reference (codes "<c>") 28) ∷ Dot 30 ∷ []

fault_after_directives : statements_at 6 (start (codes "http://e/g") 1) no_numbers directives ≡ (stated 19 [] ++ stated 28 [], Faulty Syntax)
unfolding statements_at statement_at triples_at with_base iri_of between unescaped is_utf8 chars encode resolved resolved_parts parts_of before from rest_after is_scheme has_scheme scheme_of rest_after_scheme rest_after_slashes authority_of rest_after_authority path_of rest_after_path query_of rest_after_query fragment_of dots segments_of closed is_dots is_dot is_dot_dot moved output_of text_of_segments scheme_text marked parts_text through_last directory_of front_text
fault_after_directives = refl
