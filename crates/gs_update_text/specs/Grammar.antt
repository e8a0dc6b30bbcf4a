-- The rules of updates (SPARQL 1.1 Query, 21 March 2013, section 19.8), as far as they are served, each with exactly the
-- tokens that it spans.
use Rattle.std.specs.Prelude.{◌≡◌, ℕ, ◌≤◌, false, List, [], ◌∷◌, ◌++◌, length, Some}
use Rattle.std.specs.List.{list_any}
use Rattle.gs_model.specs.Triples.{RdfTriple}
use Rattle.gs_term.specs.declared.patterns.Pattern.{Pattern}
use Rattle.gs_lex.specs.Tokens.{Lexeme}
use Rattle.gs_lex.specs.declared.kinds.TokenKind.TheVariants as kind
use Rattle.gs_blank.specs.Numbers.{Numbers, no_numbers}
use Rattle.gs_triples.specs.Symbols.{Symbol, ATerm, Reference, Namespace, Dot, Semicolon, PrefixWord, BaseWord, Foreign, symbols_of}
use Rattle.gs_triples.specs.Languages.{of_terms}
use Rattle.gs_triples.specs.Meanings.{Context}
use Rattle.gs_triples.specs.Directives.{without_prefixes, with_prefix, with_base}
use Rattle.gs_triples.specs.Triples.{AreTriples}
use Rattle.gs_update_text.specs.Requests.{Inserts, DeletesData, DeletesWhere, Written}
use Rattle.gs_model.specs.Limits.{max_patterns}
use Rattle.gs_update_text.specs.Operations.{Scope, inserted, deleted, sought, in_language, is_old}

module _ {Value Triple : Type 0} where
  -- [52] TriplesTemplate, or nothing: triples parted by dots, with a dot after the last of them or none; and the numbers
  -- of blank nodes after them
  pub data IsTemplate (env : Context Value Triple) : Numbers → List Symbol → List Triple → Numbers → Type 0 where
    nothing : (n : Numbers) → IsTemplate env n [] [] n
    last : {n k : Numbers} {xs : List Symbol} {T : List Triple} → AreTriples env n xs T k → IsTemplate env n xs T k
    more : {n k l : Numbers} {xs ys : List Symbol} {T U : List Triple} (e : ℕ) → AreTriples env n xs T k
        → IsTemplate env k ys U l → IsTemplate env n (xs ++ Dot e ∷ ys) (T ++ U) l

-- [4] Prologue, and the context that it leaves
pub data IsPrologue : Scope → List Symbol → Scope → Type 0 where
  nothing : (env : Scope) → IsPrologue env [] env
  -- [5] BaseDecl
  base : {env next last : Scope} {xs : List Symbol} (i : List ℕ) (e : ℕ) → with_base env i ≡ Some next
      → IsPrologue next xs last → IsPrologue env (BaseWord ∷ ATerm (Reference i e) ∷ xs) last
  -- [6] PrefixDecl
  prefix : {env next last : Scope} {xs : List Symbol} (p i : List ℕ) (e : ℕ) → with_prefix env p i ≡ Some next
      → IsPrologue next xs last → IsPrologue env (PrefixWord ∷ ATerm (Namespace p) ∷ ATerm (Reference i e) ∷ xs) last

-- [49] QuadData and [48] QuadPattern, of triples alone: braces around these tokens, the closing one with its end
abbrev pub braced : ℕ → List Symbol → ℕ → List Symbol
braced a xs e = Foreign kind.OpenBrace a ∷ xs ++ Foreign kind.CloseBrace e ∷ []

-- no token is a label that has one of the numbers given so far
abbrev pub AreNew : Numbers → List Symbol → Type 0
AreNew n xs = list_any (is_old n.1 n) xs ≡ false

-- [30] Update1, as far as it is served: an operation, and the numbers after it
pub data IsOperation (env : Scope) (n : Numbers) : List Symbol → Written → Numbers → Type 0 where
  -- [38] InsertData: no label that an earlier operation of the request has (section 19.6)
  insert_data : {k : Numbers} {xs : List Symbol} {T : List RdfTriple} (a b c e : ℕ) → AreNew n xs
      → IsTemplate (in_language inserted env) n xs T k
      → IsOperation env n (Foreign kind.Insert a ∷ Foreign kind.Data b ∷ braced c xs e) (record { operation = Inserts T; end = e }) k
  -- [39] DeleteData
  delete_data : {k : Numbers} {xs : List Symbol} {T : List RdfTriple} (a b c e : ℕ)
      → IsTemplate (in_language deleted env) n xs T k
      → IsOperation env n (Foreign kind.Delete a ∷ Foreign kind.Data b ∷ braced c xs e) (record { operation = DeletesData T; end = e }) k
  -- [40] DeleteWhere, of one to four patterns
  delete_where : {k : Numbers} {xs : List Symbol} {T : List Pattern} (a b c e : ℕ)
      → IsTemplate (in_language sought env) n xs T k → 1 ≤ length T → length T ≤ max_patterns
      → IsOperation env n (Foreign kind.Delete a ∷ Foreign kind.Where b ∷ braced c xs e) (record { operation = DeletesWhere T; end = e }) k

-- [29] Update: a prologue, an operation, and after a ';' another update; what it leaves for what follows
pub data AreOperations : Scope → Numbers → List Symbol → List Written → Type 0 where
  prologue : {env last : Scope} {n : Numbers} {xs : List Symbol} → IsPrologue env xs last → AreOperations env n xs []
  operation : {env next : Scope} {n k : Numbers} {xs ys : List Symbol} {o : Written} → IsPrologue env xs next
      → IsOperation next n ys o k → AreOperations env n (xs ++ ys) (o ∷ [])
  more : {env next : Scope} {n k : Numbers} {xs ys zs : List Symbol} {o : Written} {os : List Written} → IsPrologue env xs next
      → IsOperation next n ys o k → AreOperations next k zs os → AreOperations env n (xs ++ ys ++ Semicolon ∷ zs) (o ∷ os)

-- the context at the start of a request, under this base
abbrev pub first_scope : List ℕ → ℕ → Scope
first_scope b r = without_prefixes of_terms b r

-- [3] UpdateUnit: the tokens of an update, and its operations under this base and in this request
abbrev pub IsUpdate : List ℕ → ℕ → List Lexeme → List Written → Type 0
IsUpdate b r ts os = AreOperations (first_scope b r) no_numbers (symbols_of ts) os
