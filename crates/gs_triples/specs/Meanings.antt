-- The terms that symbols mean (Turtle, sections 2.4 to 2.6, 6.3 and 7.2), under the base and the
-- prefixes in force, and what a language makes of them.
use Rattle.std.specs.Prelude.{ℕ, if◌then◌else◌, List, ◌++◌, codes, Option, Some, None, option_map, option_and_then, Result, Ok, Err}
use Rattle.std.specs.Str.{str_to_ascii_lowercase}
use Rattle.std.specs.FinMap as finite
use Rattle.gs_model.specs.Terms.{Term, Iri, Blank, Literal, Typed, Tagged, xsd_string}
use Rattle.gs_iri.specs.Resolving.{resolved}
use Rattle.gs_escape.specs.Tokens.{rest_after, iri_of, string_of, local_of, split_at_colon}
use Rattle.gs_blank.specs.Numbers.{Numbers, label_number}
pub use Rattle.gs_model.specs.declared.faults.Fault.{Fault}
pub use Rattle.gs_model.specs.declared.faults.Fault.TheVariants.{Syntax, TermTooLong}
use Rattle.gs_term.specs.Making.{made}
pub use Rattle.gs_triples.specs.Prefixes.{Prefixes}
use Rattle.gs_triples.specs.Languages.{Language}
use Rattle.gs_triples.specs.Symbols.{TermToken, Reference, Namespace, Name, Label, Plain, Variable, Symbol, ATerm, A}

-- what earlier statements leave, the request whose blank nodes are numbered, and what the triples are made of
pub record Context (Value Triple : Type 0) : Type 0 where
  pub base : List ℕ
  pub prefixes : Prefixes
  pub request : ℕ
  pub language : Language Value Triple

-- the same base, prefixes and request, for triples of another language
abbrev pub in_language : {Value Triple V T : Type 0} → Language Value Triple → Context V T → Context Value Triple
in_language l env = record { base = env.base; prefixes = env.prefixes; request = env.request; language = l }

-- a name of the RDF vocabulary
abbrev pub rdf : List ℕ → Term
rdf name = Iri (codes "http://www.w3.org/1999/02/22-rdf-syntax-ns#" ++ name)

-- a term, where its parts have their forms and its text is not too long
unfoldable pub made_of : Option Term → Result Term Fault
made_of None = Err Syntax
made_of (Some t) = made t

-- [128s] RDFLiteral: a string alone, with a language tag in lower case, or with a datatype
unfoldable pub simple : List ℕ → Result Term Fault
simple x = made_of (option_map (λ l. Literal l (Typed xsd_string)) (string_of x))

-- a literal, where its string and its tag have their forms
abbrev pub tagged_literal : Option (List ℕ) → Option (List ℕ) → Option Term
tagged_literal s tag = option_and_then (λ l. option_map (λ t. Literal l (Tagged (str_to_ascii_lowercase t))) tag) s

-- with its language tag
unfoldable pub tagged : List ℕ → List ℕ → Result Term Fault
tagged x tag = made_of (tagged_literal (string_of x) (rest_after (codes "@") tag))

-- what takes no number
abbrev pub with_numbers : {Value : Type 0} → Numbers → Result Value Fault → Result (Value × Numbers) Fault
with_numbers n (Err e) = Err e
with_numbers n (Ok v) = Ok (v, n)

-- a variable's value, where one may stand
abbrev pub standing : {Value : Type 0} → Option Value → Result Value Fault
standing None = Err Syntax
standing (Some v) = Ok v

module _ {Value Triple : Type 0} where
  -- a blank node, as a value
  abbrev pub blank : Context Value Triple → ℕ → Value
  blank env m = env.language.of_term (Blank env.request m)

  -- a name of the RDF vocabulary, as a value
  abbrev pub rdf_value : Context Value Triple → List ℕ → Value
  rdf_value env name = env.language.of_term (rdf name)

  -- a term's value, or its fault
  abbrev pub value_of : Context Value Triple → Result Term Fault → Result Value Fault
  value_of env (Err e) = Err e
  value_of env (Ok t) = Ok (env.language.of_term t)

  -- 2.4: the prefix's IRI, and after it the local part
  unfoldable pub name_text : Context Value Triple → List ℕ → Option (List ℕ)
  name_text env x =
      option_and_then (λ p. option_and_then (λ i. option_map (λ l. i ++ l) (local_of p.1)) (finite.get env.prefixes p.0)) (split_at_colon x)

  -- [135s] iri: a reference is resolved against the base (6.3)
  abbrev pub iri_text : Context Value Triple → TermToken → Option (List ℕ)
  iri_text env (Reference x e) = option_map (resolved env.base) (iri_of x)
  iri_text env (Namespace x) = name_text env x
  iri_text env (Name x) = name_text env x
  iri_text env _ = None

  -- and as a term
  unfoldable pub iri : Context Value Triple → TermToken → Result Term Fault
  iri env w = made_of (option_map Iri (iri_text env w))

  -- [9] verb: an IRI, or 'a' for rdf:type; or a variable
  abbrev pub verb : Context Value Triple → Symbol → Result Value Fault
  verb env (ATerm (Variable x)) = standing (env.language.variable x)
  verb env (ATerm w) = value_of env (iri env w)
  verb env A = Ok (rdf_value env (codes "type"))
  verb env _ = Err Syntax

  -- the blank node of a label, which has the label's number, or else the next
  abbrev pub labelled : Context Value Triple → Numbers → Option (List ℕ) → Result (Value × Numbers) Fault
  labelled env n None = Err Syntax
  labelled env n (Some l) = Ok (blank env (label_number n l).0, (label_number n l).1)

  -- the value of one token; a label stands after its `_:`
  unfoldable pub word : Context Value Triple → Numbers → TermToken → Result (Value × Numbers) Fault
  word env n (Label x) = if env.language.nodes then labelled env n (rest_after (codes "_:") x) else Err Syntax
  word env n (Plain x d) = with_numbers n (value_of env (made_of (Some (Literal x (Typed d)))))
  word env n (Variable x) = with_numbers n (standing (env.language.variable x))
  word env n w = with_numbers n (value_of env (iri env w))

  -- [10] subject, where it is one token
  abbrev pub subject : Context Value Triple → Numbers → TermToken → Result (Value × Numbers) Fault
  subject env n (Plain x d) = Err Syntax
  subject env n w = word env n w

  -- a literal, where its string and its datatype have their forms
  abbrev pub typed_literal : Context Value Triple → List ℕ → TermToken → Option Term
  typed_literal env x w = option_and_then (λ l. option_map (λ d. Literal l (Typed d)) (iri_text env w)) (string_of x)

  -- a string with its datatype
  unfoldable pub typed : Context Value Triple → List ℕ → Symbol → Result Term Fault
  typed env x (ATerm w) = made_of (typed_literal env x w)
  typed env x _ = Err Syntax
