-- How a head frames its body (RFC 9112, section 6).
use Rattle.std.specs.Prelude.{ℕ, Bool, true, false, not, List, [], ◌∷◌, length, if◌then◌else◌, ◌==◌, nat_lt, codes, ◌&&◌, min}
use Rattle.std.specs.List.{list_all}
use Rattle.std.specs.Char.{is_ascii_digit}
use Rattle.std.specs.Str.{str_eq_ignore_ascii_case}
use Rattle.std.specs.Str.Parse.{digits_value}
use Rattle.gs_http.specs.declared.framing.Framing.{Framing}
use Rattle.gs_http.specs.declared.framing.Framing.TheVariants.{Nothing, Bytes, Chunked, Malformed, Unknown}
use Rattle.gs_http.specs.Limits.{last_size}

-- 1*DIGIT
abbrev pub is_number : List ℕ → Bool
is_number v = list_all is_ascii_digit v && not (length v == 0)

-- a number that may be too great to count with
abbrev pub capped : ℕ → ℕ
capped n = min n last_size

-- by the values of Content-Length (section 6.2)
abbrev pub sized_framing : List (List ℕ) → Framing
sized_framing [] = Nothing
sized_framing (v ∷ []) = if is_number v then Bytes (capped (digits_value 10 v)) else Malformed
sized_framing (v ∷ w ∷ vs) = Malformed

-- by the values of Transfer-Encoding (section 6.1), of which there is one at least
abbrev pub coded : List (List ℕ) → Framing
coded [] = Nothing
coded (v ∷ []) = if str_eq_ignore_ascii_case v (codes "chunked") then Chunked else Unknown
coded (v ∷ w ∷ vs) = Unknown

-- by both: together they are a fault (section 6.3)
abbrev pub framed : List (List ℕ) → List (List ℕ) → Framing
framed [] sizes = sized_framing sizes
framed (v ∷ vs) [] = coded (v ∷ vs)
framed (v ∷ vs) (w ∷ ws) = Malformed

-- how a body is framed, by the values under each name
abbrev pub framing_of : (List ℕ → List (List ℕ)) → Framing
framing_of values = framed (values (codes "transfer-encoding")) (values (codes "content-length"))

-- a body is announced: in chunks, or of one byte at least
abbrev pub announces : Framing → Bool
announces Chunked = true
announces (Bytes n) = nat_lt 0 n
announces f = false
