-- Laws of the table of runs: it has the classes of the definitions.
use Rattle.std.proofs.Common.{◌≡◌, ◌<◌, ℕ, Bool, true, false, sym, refl, slice_index_or, bit_and}
use Rattle.std.specs.Prelude.{not, ◌==◌}
use Rattle.gs_automaton.specs.Runs.{plain_iri, plain_string, plain_name}
use Rattle.gs_automaton.specs.declared.runs.TheConstants.{RUNS}
use Rattle.gs_automaton.proofs.RunLemmas.{all_below, below_is}

-- the test of a byte by a bit of its entry
abbrev pub has_bit : ℕ → ℕ → Bool
has_bit bit c = not (bit_and (slice_index_or RUNS c 0) bit == 0)

-- both hold, or neither does
abbrev same : Bool → Bool → Bool
same true b = b
same false b = not b

-- so they are equal
same_is : (a b : Bool) → same a b ≡ true → a ≡ b
same_is true b h = sym h
same_is false true h = Prim.cc h
same_is false false h = refl

-- by a test of each byte
by_table : (bit : ℕ) (test : ℕ → Bool) → all_below (λ c. same (has_bit bit c) (test c)) 256 ≡ true → (c : ℕ) → c < 256 → has_bit bit c ≡ test c
by_table bit test h c l = same_is (has_bit bit c) (test c) (below_is (λ d. same (has_bit bit d) (test d)) 256 c h l)

-- the bits for names, for IRIs and for strings
pub name_bit : (c : ℕ) → c < 256 → has_bit 1 c ≡ plain_name c
name_bit = by_table 1 plain_name refl

pub iri_bit : (c : ℕ) → c < 256 → has_bit 2 c ≡ plain_iri c
iri_bit = by_table 2 plain_iri refl

pub string_bit : (c : ℕ) → c < 256 → has_bit 4 c ≡ plain_string c
string_bit = by_table 4 plain_string refl
