-- A worked document: `@prefix ex: <http://e/> . <> a ex:a.b, ( 1 .5 ) .` in the graph `http://e/g` and in request 1.
use Rattle.std.proofs.Common.{◌≡◌, ℕ, List, [], ◌∷◌, ◌++◌, refl, ap}
use Rattle.std.specs.Prelude.{codes, Some, Ok, option_map, option_and_then}
use Rattle.std.specs.Str.{is_utf8, chars}
use Rattle.std.specs.FinMap as finite
use Rattle.std.specs.Cmp.Lexicographic.{nat_list_cmp_total}
use lib.Utf8.{encode}
use Rattle.gs_model.specs.Terms.{Term, Iri, Blank, Literal, Typed, suffix}
use Rattle.gs_model.specs.Triples.{RdfTriple}
use Rattle.gs_lex.specs.Tokens.{Lexeme}
use Rattle.gs_lex.specs.declared.kinds.TokenKind.{TokenKind}
use Rattle.gs_lex.specs.declared.kinds.TokenKind.TheVariants as kind
use Rattle.gs_iri.specs.References.{before, from, rest_after, is_scheme, has_scheme, scheme_of, rest_after_scheme, rest_after_slashes, authority_of, rest_after_authority, path_of, rest_after_path, query_of, rest_after_query, fragment_of, parts_of}
use Rattle.gs_iri.specs.Dots.{segments_of, is_dot, is_dot_dot, is_dots, closed, moved, text_of_segments, output_of, dots}
use Rattle.gs_iri.specs.Resolving.{scheme_text, marked, parts_text, resolved_parts, resolved}
use Rattle.gs_escape.specs.Meanings.{unescaped, stands_local}
use Rattle.gs_escape.specs.Tokens.{between, iri_of}
use Rattle.gs_blank.specs.Numbers.{Numbers, no_numbers}
use Rattle.gs_body.specs.Bodies.{Statement, Whole}
use Rattle.gs_triples.specs.Languages.{of_terms}
use Rattle.gs_triples.specs.Symbols.{Reference, Name, Plain, A, xsd}
use Rattle.gs_triples.specs.Meanings as meaning
use Rattle.gs_triples.specs.Meanings.{Fault, Prefixes, made_of, name_text, iri, rdf, value_of, with_numbers}
use Rattle.gs_triples.specs.Goals.{triple}
use Rattle.gs_document.specs.Contexts.{TurtleContext}
use Rattle.gs_triples.specs.Directives.{with_prefix}
use Rattle.gs_triples.specs.Rules as rule
use Rattle.gs_triples.specs.Triples as triples_of
use Rattle.gs_document.specs.Documents as statement
use Rattle.gs_document.specs.Documents.{IsDocument, start, stated}
use Rattle.gs_document.specs.Program.{document}
use Rattle.gs_document.proofs.DocumentLemmas.{document_read}

abbrev graph : List ℕ
graph = codes "http://e/g"

-- a token that ends there
abbrev token : TokenKind → List ℕ → ℕ → Lexeme
token k x end = record { kind = k; text = x; start = 0; «end» = end }

abbrev row : List Lexeme
row =
    token kind.LangTag (codes "@prefix") 7 ∷ token kind.PnameNs (codes "ex:") 11 ∷ token kind.IriRef (codes "<http://e/>") 23 ∷ token kind.Dot [] 25
    ∷ token kind.IriRef (codes "<>") 28 ∷ token kind.A [] 30 ∷ token kind.PnameLn (codes "ex:a.b") 37 ∷ token kind.Comma [] 38
    ∷ token kind.OpenParenthesis [] 40 ∷ token kind.Integer (codes "1") 42 ∷ token kind.Decimal (codes ".5") 45 ∷ token kind.CloseParenthesis [] 47
    ∷ token kind.Dot [] 49 ∷ []

abbrev cell : ℕ → Term
cell k = Blank 1 k

-- the triples of the second statement, each at its last token
abbrev triples : List RdfTriple
triples =
    triple (Iri graph) (rdf (codes "type")) (Iri (codes "http://e/a.b"))
    ∷ triple (cell 1) (rdf (codes "first")) (Literal (codes "1") (Typed (xsd (codes "integer"))))
    ∷ triple (cell 2) (rdf (codes "first")) (Literal (codes ".5") (Typed (xsd (codes "decimal"))))
    ∷ triple (cell 1) (rdf (codes "rest")) (cell 2)
    ∷ triple (cell 2) (rdf (codes "rest")) (rdf (codes "nil"))
    ∷ triple (Iri graph) (rdf (codes "type")) (cell 1)
    ∷ []

abbrev prefixes : Prefixes
prefixes = finite.insert finite.empty (codes "ex") (codes "http://e/")

-- the context after the first statement
abbrev context : TurtleContext
context = record { base = graph; prefixes = prefixes; request = 1; language = of_terms }

declared : with_prefix (start graph 1) (codes "ex:") (codes "<http://e/>") ≡ Some context
unfolding with_prefix iri_of between unescaped is_utf8 chars encode resolved resolved_parts parts_of before from rest_after is_scheme has_scheme scheme_of rest_after_scheme rest_after_slashes authority_of rest_after_authority path_of rest_after_path query_of rest_after_query fragment_of dots segments_of closed is_dots is_dot is_dot_dot moved output_of text_of_segments scheme_text marked parts_text
declared = refl

subject : meaning.subject context no_numbers (Reference (codes "<>") 28) ≡ Ok (Iri graph, no_numbers)
unfolding meaning.word iri made_of iri_of between unescaped is_utf8 chars encode resolved resolved_parts parts_of before from rest_after is_scheme has_scheme scheme_of rest_after_scheme rest_after_slashes authority_of rest_after_authority path_of rest_after_path query_of rest_after_query fragment_of dots segments_of closed is_dots is_dot is_dot_dot moved output_of text_of_segments scheme_text marked parts_text
subject = refl

found : finite.get prefixes (codes "ex") ≡ Some (codes "http://e/")
found = finite.get-insert nat_list_cmp_total finite.empty (codes "ex") (codes "http://e/") (codes "ex")

spelled : name_text context (codes "ex:a.b") ≡ Some (codes "http://e/a.b")
unfolding name_text unescaped stands_local is_utf8 chars encode
spelled = ap (λ o. option_and_then (λ i. option_map (λ l. i ++ l) (Some (codes "a.b"))) o) found

named : meaning.word context no_numbers (Name (codes "ex:a.b")) ≡ Ok (Iri (codes "http://e/a.b"), no_numbers)
unfolding meaning.word iri made_of
named = ap (λ o. with_numbers no_numbers (value_of context (made_of (option_map Iri o)))) spelled

abbrev numbers : ℕ → Numbers
numbers k = (no_numbers.0, k)

one : meaning.word context (numbers 1) (Plain (codes "1") (xsd (codes "integer"))) ≡ Ok (Literal (codes "1") (Typed (xsd (codes "integer"))), numbers 1)
unfolding meaning.word made_of suffix
one = refl

half : meaning.word context (numbers 2) (Plain (codes ".5") (xsd (codes "decimal"))) ≡ Ok (Literal (codes ".5") (Typed (xsd (codes "decimal"))), numbers 2)
unfolding meaning.word made_of suffix
half = refl

-- the directive, and the triples
abbrev statements : List Statement
statements = stated 25 [] ++ stated 49 triples

-- by the rules
by_rules : IsDocument graph 1 row statements
unfolding is_utf8 chars encode
by_rules = (
  context,
  numbers 2,
  statement.statement (statement.prefix (codes "@prefix") (codes "ex:") (codes "<http://e/>") 23 25 refl declared)
      (statement.statement
      (statement.triples 49
      (triples_of.word (Reference (codes "<>") 28) subject
      (rule.verbs A refl (rule.word (Name (codes "ex:a.b")) named)
      (rule.comma
      (rule.list refl
      (rule.begun refl (rule.word (Plain (codes "1") (xsd (codes "integer"))) one)
      (rule.item (rule.word (Plain (codes ".5") (xsd (codes "decimal"))) half) (rule.ended 1 2 (numbers 2)))))
      (rule.no_more (Iri graph) (rdf (codes "type")) (numbers 2))))))
      (statement.nothing context (numbers 2))),
)

-- and by the program
by_program : document graph 1 row ≡ (statements, Whole)
by_program = document_read graph 1 row statements by_rules
