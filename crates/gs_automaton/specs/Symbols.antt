-- What the front of bytes is (UTF-8, RFC 3629).
use Rattle.std.specs.Prelude.{◌≡◌, ◌≢◌, ℕ, ◌≤◌, List, [], ◌++◌, length, take, encode_utf8}
use Rattle.std.specs.Char.{IsScalar}
use Rattle.std.specs.Str.{StartsWithNoChar}
use Rattle.gs_automaton.specs.declared.symbols.Symbol.{Symbol}
use Rattle.gs_automaton.specs.declared.symbols.Symbol.TheVariants.{Character, Bad, Short}

-- the bytes begin with this character, which has n bytes
pub record BeginsWith (c n : ℕ) (x : List ℕ) : Type 0 where
  pub scalar : IsScalar c
  pub within : n ≤ length x
  pub spelled : take n x ≡ encode_utf8 c

-- the first bytes of a character, or none, and not all of them
pub record IsShort (x : List ℕ) : Type 0 where
  pub character : ℕ
  pub others : List ℕ
  pub scalar : IsScalar character
  pub some : others ≢ []
  pub parts : encode_utf8 character ≡ x ++ others

-- a character; bytes that begin none, whatever follows; or a prefix of one
abbrev pub IsFront : Symbol → List ℕ → Type 0
IsFront (Character c n) x = BeginsWith c n x
IsFront Bad x = (y : List ℕ) → StartsWithNoChar (x ++ y)
IsFront Short x = IsShort x
