-- What of SPARQL 1.1 Update (21 March 2013) is not served, by its tokens: the first departure of a text that begins as an
-- update does (rules of SPARQL 1.1 Query, section 19.8).
use Rattle.std.specs.Prelude.{◌≡◌, ℕ, ◌+◌, ◌≤◌, Bool, true, false, List, [], ◌∷◌, ◌++◌, length}
use Rattle.gs_lex.specs.Tokens.{Lexeme}
use Rattle.gs_model.specs.Triples.{RdfTriple}
use Rattle.gs_term.specs.declared.patterns.Pattern.{Pattern}
use Rattle.gs_lex.specs.declared.kinds.TokenKind.{TokenKind}
use Rattle.gs_lex.specs.declared.kinds.TokenKind.TheVariants as kind
use Rattle.gs_blank.specs.Numbers.{Numbers, no_numbers}
use Rattle.gs_triples.specs.Symbols.{Symbol, Text, At, Carets, Dot, Semicolon, Foreign, symbols_of}
use Rattle.gs_triples.specs.Meanings.{Context}
use Rattle.gs_triples.specs.Triples.{AreTriples}
use Rattle.gs_update_text.specs.Requests.{Written}
use Rattle.gs_model.specs.Limits.{max_patterns}
use Rattle.gs_update_text.specs.Operations.{Scope, inserted, deleted, sought, in_language}
use Rattle.gs_update_text.specs.Grammar.{IsTemplate, IsPrologue, IsOperation, AreNew, first_scope}

-- [31] Load, [32] Clear, [33] Drop, [34] Create, [35] Add, [36] Move, [37] Copy, and [41] Modify with a graph: their first words
abbrev pub BeginsOther : TokenKind → Type 0
BeginsOther kind.Load = Unit {0}
BeginsOther kind.Clear = Unit {0}
BeginsOther kind.Drop = Unit {0}
BeginsOther kind.Create = Unit {0}
BeginsOther kind.Add = Unit {0}
BeginsOther kind.Move = Unit {0}
BeginsOther kind.Copy = Unit {0}
BeginsOther kind.With = Unit {0}
BeginsOther k = ⊥

-- nothing that goes on with a string: no language tag and no datatype
abbrev pub EndsString : List Symbol → Type 0
EndsString (At x ∷ ts) = ⊥
EndsString (Carets ∷ ts) = ⊥
EndsString ts = Unit {0}

-- a string
abbrev pub is_string : Symbol → Bool
is_string (Text x) = true
is_string t = false

-- the last token is a string
abbrev pub ends_in_string : List Symbol → Bool
ends_in_string [] = false
ends_in_string (t ∷ []) = is_string t
ends_in_string (t ∷ y ∷ ts) = ends_in_string (y ∷ ts)

module _ {Value Triple : Type 0} where
  -- triples, each with its dot, after which others may begin
  pub data AreDotted (env : Context Value Triple) : Numbers → List Symbol → List Triple → Numbers → Type 0 where
    nothing : (n : Numbers) → AreDotted env n [] [] n
    more : {n k l : Numbers} {xs ys : List Symbol} {T U : List Triple} (e : ℕ) → AreTriples env n xs T k
        → AreDotted env k ys U l → AreDotted env n (xs ++ Dot e ∷ ys) (T ++ U) l

-- a prefix of an update with these operations, after which an operation is expected
pub data Expects : Scope → Numbers → List Symbol → List Written → Scope → Numbers → Type 0 where
  first : {env next : Scope} {n : Numbers} {xs : List Symbol} → IsPrologue env xs next → Expects env n xs [] next n
  later : {env next last : Scope} {n k l : Numbers} {xs ys zs : List Symbol} {o : Written} {os : List Written} → IsPrologue env xs next
      → IsOperation next n ys o k → Expects next k zs os last l → Expects env n (xs ++ ys ++ Semicolon ∷ zs) (o ∷ os) last l

-- the tokens from where an operation is expected: an operation that departs from what is served
pub data Departs (env : Scope) (n : Numbers) : List Symbol → Type 0 where
  -- an operation of another form
  other_form : (k : TokenKind) (e : ℕ) (ts : List Symbol) → BeginsOther k → Departs env n (Foreign k e ∷ ts)
  -- [41] Modify, with a template
  insert_template : (a b : ℕ) (ts : List Symbol) → Departs env n (Foreign kind.Insert a ∷ Foreign kind.OpenBrace b ∷ ts)
  delete_template : (a b : ℕ) (ts : List Symbol) → Departs env n (Foreign kind.Delete a ∷ Foreign kind.OpenBrace b ∷ ts)
  -- [51] QuadsNotTriples, where triples may begin
  insert_graph : {k : Numbers} {xs : List Symbol} {T : List RdfTriple} (a b c e : ℕ) (ts : List Symbol) → AreNew n xs
      → AreDotted (in_language inserted env) n xs T k
      → Departs env n (Foreign kind.Insert a ∷ Foreign kind.Data b ∷ Foreign kind.OpenBrace c ∷ xs ++ Foreign kind.Graph e ∷ ts)
  delete_graph : {k : Numbers} {xs : List Symbol} {T : List RdfTriple} (a b c e : ℕ) (ts : List Symbol)
      → AreDotted (in_language deleted env) n xs T k
      → Departs env n (Foreign kind.Delete a ∷ Foreign kind.Data b ∷ Foreign kind.OpenBrace c ∷ xs ++ Foreign kind.Graph e ∷ ts)
  where_graph : {k : Numbers} {xs : List Symbol} {T : List Pattern} (a b c e : ℕ) (ts : List Symbol)
      → AreDotted (in_language sought env) n xs T k → length T ≤ max_patterns
      → Departs env n (Foreign kind.Delete a ∷ Foreign kind.Where b ∷ Foreign kind.OpenBrace c ∷ xs ++ Foreign kind.Graph e ∷ ts)
  -- a pattern too many, at its last token; where that is a string, nothing goes on with it
  fifth_pattern : {k : Numbers} {xs : List Symbol} {T : List Pattern} (a b c : ℕ) (ts : List Symbol)
      → IsTemplate (in_language sought env) n xs T k → length T ≡ max_patterns + 1 → (ends_in_string xs ≡ true → EndsString ts)
      → Departs env n (Foreign kind.Delete a ∷ Foreign kind.Where b ∷ Foreign kind.OpenBrace c ∷ xs ++ ts)
  -- and none
  no_pattern : (a b c e : ℕ) (ts : List Symbol)
      → Departs env n (Foreign kind.Delete a ∷ Foreign kind.Where b ∷ Foreign kind.OpenBrace c ∷ Foreign kind.CloseBrace e ∷ ts)

-- the tokens begin as an update with these operations does, up to an operation that is not served
pub data Departure (env : Scope) (n : Numbers) : List Symbol → List Written → Type 0 where
  departure : {next : Scope} {k : Numbers} {xs ys : List Symbol} {os : List Written} → Expects env n xs os next k → Departs next k ys
      → Departure env n (xs ++ ys) os

-- the tokens of a text leave what is served after these operations, under this base and in this request
abbrev pub LeavesProfile : List ℕ → ℕ → List Lexeme → List Written → Type 0
LeavesProfile b r ts os = Departure (first_scope b r) no_numbers (symbols_of ts) os
