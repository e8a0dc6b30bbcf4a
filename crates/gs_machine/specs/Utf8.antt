-- From bytes to characters (UTF-8, RFC 3629), with a mark where the bytes are not UTF-8.
use Rattle.std.specs.Prelude.{Bool, true, false, ◌≡◌, ◌≢◌, ℕ, zero, suc, ◌+◌, ◌-◌, ◌*◌, ◌==◌, nat_lt, if◌then◌else◌, List, [], ◌∷◌, ◌++◌}
use Rattle.std.specs.Char.{IsScalar}
use Rattle.std.specs.Char.{encode_utf8}
use Rattle.std.specs.Str.{IsUtf8, StartsWithNoChar}
use Rattle.gs_machine.specs.Machines.{Machine, rest}

-- what stands for bytes that are no character: a number that no character has
abbrev pub bad : ℕ
bad = 0x11_0000

-- The bytes are these characters, up to the first place where no character begins, which is marked.
pub data Spells : List ℕ → List ℕ → Type 0 where
  nothing : Spells [] []
  char : {bytes : List ℕ} (c : ℕ) (others cs : List ℕ) → IsScalar c → bytes ≡ encode_utf8 c ++ others → Spells others cs → Spells bytes (c ∷ cs)
  fault : {bytes : List ℕ} → bytes ≢ [] → StartsWithNoChar bytes → Spells bytes (bad ∷ [])

-- Between two characters; within one, of which so many bytes come after the next,
-- with the value so far, and the least and the greatest byte that may be next; after a fault.
pub data Decoding : Type 0 where
  Ready : Decoding
  Within : ℕ → ℕ → ℕ → ℕ → Decoding
  Lost : Decoding

-- between two characters
abbrev pub is_ready_of : Decoding → Bool
is_ready_of Ready = true
is_ready_of (Within n v low high) = false
is_ready_of Lost = false

-- after the first byte of a character, and what it gives (RFC 3629, section 4)
abbrev pub lead : ℕ → Decoding × List ℕ
lead b =
    if nat_lt b 128 then (Ready, b ∷ [])
    else if nat_lt b 194 then (Lost, bad ∷ [])
    else if nat_lt b 224 then (Within 0 (b - 192) 128 191, [])
    else if nat_lt b 240 then (Within 1 (b - 224) (if b == 224 then 160 else 128) (if b == 237 then 159 else 191), [])
    else if nat_lt b 245 then (Within 2 (b - 240) (if b == 240 then 144 else 128) (if b == 244 then 143 else 191), [])
    else (Lost, bad ∷ [])

-- a byte that goes on with a character
abbrev pub character_goes_on : ℕ → ℕ → Decoding × List ℕ
character_goes_on zero v = (Ready, v ∷ [])
character_goes_on (suc n) v = (Within n v 128 191, [])

-- after a byte, and what it gives: a character, a mark where no character goes on so, or nothing
abbrev pub decode_step : Decoding → ℕ → Decoding × List ℕ
decode_step Ready b = lead b
decode_step (Within n v low high) b =
    if nat_lt b low then (Lost, bad ∷ [])
    else if nat_lt high b then (Lost, bad ∷ [])
    else character_goes_on n (v * 64 + (b - 128))
decode_step Lost b = (Lost, [])

-- what the end of the bytes gives: a mark within a character, and else nothing
abbrev pub decode_end : Decoding → List ℕ
decode_end Ready = []
decode_end (Within n v low high) = bad ∷ []
decode_end Lost = []

-- the machine that takes bytes and gives characters, and a mark where they are not UTF-8
abbrev pub utf8 : Machine Decoding ℕ ℕ (Unit {0})
utf8 = record { step = decode_step; ended = λ s. (decode_end s, tt) }

-- the characters of a text, up to the first fault, which is marked
unfoldable pub symbols : List ℕ → List ℕ
symbols bytes = (rest utf8 Ready bytes).0

-- The longest prefix of a text that ends between two characters: what comes after it is no character, or only begins one.
pub record IsLongestFront (x front : List ℕ) : Type 0 where
  pub after : List ℕ
  pub parts : x ≡ front ++ after
  pub characters : IsUtf8 front
  pub longest : (more others : List ℕ) → after ≡ more ++ others → IsUtf8 (front ++ more) → more ≡ []
