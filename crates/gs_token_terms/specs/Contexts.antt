-- The texts of references, what they and declarations count, and the context that a declaration leaves.
use Rattle.std.specs.Prelude.{◌≡◌, ℕ, ◌-◌, ◌^◌, min, sum_by, length, ◌+◌, ◌≤◌, ◌==◌, List, Bool, true, false, not, ◌&&◌, nat_lt, if◌then◌else◌, Option, Some, None, option_map, Result, IfOk, IsOk, String, string_bytes}
use Rattle.gs_triples.specs.Meanings.{Context}
use Rattle.gs_model.specs.Terms.{Term}
use Rattle.gs_model.specs.Triples.{RdfTriple}
use Rattle.gs_model.specs.Punctuation.{slash}
use Rattle.gs_iri.specs.Resolving.{resolved}
use Rattle.gs_escape.specs.Tokens.{iri_of}
use Rattle.gs_token_terms.specs.declared.budgets.Budget.{Budget}
use Rattle.gs_token_terms.specs.Budgets.{MakesBytes}
use Rattle.gs_token_terms.specs.References.{has_scheme}

-- what earlier statements leave, where triples are made of terms
abbrev pub TermContext : Type 0
TermContext = Context Term RdfTriple

-- a call that has not failed answers this text, or none
abbrev pub Yields : {Y E : Type 0} → Result (Option (String Y)) E → Option (List ℕ) → Type 0
Yields r x = IfOk r (λ o. option_map string_bytes o ≡ x)

-- whether a reference's token counts for the base: it shows no scheme, and the base has more than 128 bytes
abbrev pub reads_base : (base token : List ℕ) → Bool
reads_base base x = nat_lt 128 (length base) && not (has_scheme x)

-- how long a byte of the base takes, where one that is copied takes 1: each segment is appended by itself
abbrev pub byte_cost : ℕ → ℕ
byte_cost c = if c == slash then 12 else 4

-- what such a token counts: how long it may take to go through the base
abbrev pub base_cost : List ℕ → ℕ
base_cost base = min (sum_by byte_cost base) (2 ^ 64 - 1)

-- what a reference's token counts was made, or was refused
pub record CountsBase {E : Type 0} (r : Result (Unit {0}) E) (base token : List ℕ) (old new : Budget) : Type 0 where
  pub free : reads_base base token ≡ false → (IsOk r) × (new ≡ old)
  pub counted : reads_base base token ≡ true → MakesBytes r old new (base_cost base)

-- how many bytes a text has, where there is one
abbrev pub bytes_of_some : Option (List ℕ) → ℕ
bytes_of_some None = 0
bytes_of_some (Some x) = length x

-- what a declaration's token counts once it is resolved: for the base, and the bytes of the IRI that it means
abbrev pub declared_made : (base token : List ℕ) → ℕ
declared_made base x = (if reads_base base x then base_cost base else 0) + bytes_of_some (option_map (resolved base) (iri_of x))

-- A declaration that was made counts its reference, and the IRI that it means. None takes anything off.
pub record CountsDeclared {E : Type 0} (r : Result Bool E) (base token : List ℕ) (old new : Budget) : Type 0 where
  pub counted : IfOk r (λ b. b ≡ true → new ≡ record old
      { used = old.used + bytes_of_some (option_map (resolved base) (iri_of token)); made = old.made + declared_made base token })
  pub used : old.used ≤ new.used
  pub made : old.made ≤ new.made
  pub limit : new.most ≡ old.most

-- a call that has not failed says whether there is such a context, and leaves it, or else the one before
pub record ChangesContext {Value Triple E : Type 0} (r : Result Bool E) (old new : Context Value Triple) (o : Option (Context Value Triple)) : Type 0 where
  pub changed : IfOk r (λ b. (if b then Some new else None) ≡ o)
  pub kept : IfOk r (λ b. b ≡ false → new ≡ old)
