-- What may stand in the blocks of an update's operations (SPARQL 1.1 Query, 21 March 2013, section 19.8, notes 8 to 10):
-- a language of triples for each, the labels that may not stand again, and how many triples there may be.
use Rattle.std.specs.Prelude.{ℕ, Bool, true, false, not, List, [], ◌∷◌, length, nat_lt, codes, Option, Some, None, option_and_then}
use Rattle.gs_model.specs.Limits.{max_patterns}
use Rattle.gs_model.specs.Terms.{Term}
use Rattle.gs_model.specs.Triples.{RdfTriple}
use Rattle.gs_term.specs.declared.patterns.Part.{Part}
use Rattle.gs_term.specs.declared.patterns.Pattern.{Pattern}
use Rattle.gs_escape.specs.Tokens.{rest_after}
use Rattle.gs_blank.specs.Numbers.{Numbers, known}
use Rattle.gs_triples.specs.Symbols.{Symbol, ATerm, Label}
use Rattle.gs_triples.specs.Languages.{Language, of_terms, of_patterns}
use Rattle.gs_triples.specs.Meanings.{Context}
pub use Rattle.gs_triples.specs.Meanings.{in_language}
pub use Rattle.gs_triples.specs.Languages.{pattern}
use Rattle.gs_update_text.specs.Requests.{UpdateOperation, Inserts, DeletesData, DeletesWhere}

-- the context between operations
abbrev pub Scope : Type 0
Scope = Context Term RdfTriple

-- INSERT DATA: terms, where a collection may stand alone
abbrev pub inserted : Language Term RdfTriple
inserted = record of_terms { lone_lists = true }

-- DELETE DATA: terms, without blank nodes
abbrev pub deleted : Language Term RdfTriple
deleted = record of_terms { nodes = false }

-- DELETE WHERE: terms and variables, without blank nodes
abbrev pub sought : Language Part Pattern
sought = record of_patterns { nodes = false; lone_lists = false }

-- a number that is among the first k
abbrev pub is_among_first : ℕ → Option ℕ → Bool
is_among_first k None = false
is_among_first k (Some m) = not (nat_lt k m)

-- a token that is a label with one of the first k numbers
abbrev pub is_old : ℕ → Numbers → Symbol → Bool
is_old k n (ATerm (Label x)) = is_among_first k (option_and_then (known n) (rest_after (codes "_:") x))
is_old k n _ = false

-- how an operation's block is read: its triples' language, the tokens that may not stand, how many triples are too many,
-- and the operation of a block's triples
pub record Block (Value Triple : Type 0) : Type 0 where
  pub language : Language Value Triple
  pub bars : Symbol → Bool
  pub too_many : List Triple → Bool
  pub operation : List Triple → Option UpdateOperation

-- one pattern or more
abbrev pub some_patterns : List Pattern → Option UpdateOperation
some_patterns [] = None
some_patterns (p ∷ P) = Some (DeletesWhere (p ∷ P))

-- INSERT DATA: no label that an earlier operation has, and so one of the numbers that are given before
abbrev pub insert_block : Numbers → Block Term RdfTriple
insert_block n = record { language = inserted; bars = is_old n.1 n; too_many = λ T. false; operation = λ T. Some (Inserts T) }

-- DELETE DATA
abbrev pub delete_block : Block Term RdfTriple
delete_block = record { language = deleted; bars = λ t. false; too_many = λ T. false; operation = λ T. Some (DeletesData T) }

-- DELETE WHERE: one to four patterns
abbrev pub where_block : Block Part Pattern
where_block = record { language = sought; bars = λ t. false; too_many = λ T. nat_lt max_patterns (length T); operation = some_patterns }
