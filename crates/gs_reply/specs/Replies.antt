-- The texts of replies (RFC 9112, sections 4 to 7 and 9.6; RFC 9110, section 15).
use Rattle.std.specs.Prelude.{ℕ, Bool, false, ◌&&◌, nat_le, nat_lt, ◌==◌, if◌then◌else◌, unwrap_or}
use Rattle.std.specs.Prelude.{List, [], ◌++◌, length, codes, Option, Some, None}
use Rattle.std.specs.Fmt.{digits}
use Rattle.http.specs.StatusCode.{code_digits, reason_phrase}
use Rattle.gs_model.specs.Ascii.{crlf}
use Rattle.gs_model.specs.Terms.{numeral}
use Rattle.gs_names.specs.declared.media.ReplyType.{ReplyType}
use Rattle.gs_names.specs.declared.media.ReplyType.TheVariants.{NTriples, Turtle, NQuads}
use Rattle.gs_verdict.specs.Methods.{allow_text}
use Rattle.gs_reply.specs.Notices.{Notice, Nothing, Allows, Made}

-- status-code (RFC 9110, section 15): a number from 100 to 999; 500 stands for any other, as a client is to read it
abbrev pub code_of : ℕ → ℕ
code_of n = if nat_le 100 n && nat_lt n 1000 then n else 500

-- reason-phrase (RFC 9112, section 4): a status that has no phrase has an empty one
unfoldable pub phrase_of : ℕ → List ℕ
phrase_of s = unwrap_or (reason_phrase s) []

-- status-line (RFC 9112, section 4)
unfoldable pub status_line : ℕ → List ℕ
status_line s = codes "HTTP/1.1 " ++ code_digits s ++ codes " " ++ phrase_of s ++ crlf

-- field-line (RFC 9112, section 5), its value after one space
unfoldable pub field_line : List ℕ → List ℕ → List ℕ
field_line name value = name ++ codes ": " ++ value ++ crlf

-- the field of a connection that ends (RFC 9112, section 9.6)
abbrev pub close_line : Bool → List ℕ
close_line closes = if closes then field_line (codes "Connection") (codes "close") else []

-- the field of an empty body, which a 204 has by itself (RFC 9110, sections 8.6 and 15.3.5)
abbrev pub length_line : ℕ → List ℕ
length_line s = if s == 204 then [] else field_line (codes "Content-Length") (codes "0")

-- Allow (RFC 9110, section 10.2.1) and Location (section 10.2.2)
abbrev pub note_line : Notice → List ℕ
note_line Nothing = []
note_line (Allows methods) = field_line (codes "Allow") (allow_text methods)
note_line (Made name) = field_line (codes "Location") name

-- the number of a commit: Store-Commit, this project's own field
abbrev pub commit_line : Option ℕ → List ℕ
commit_line None = []
commit_line (Some n) = field_line (codes "Store-Commit") (numeral n)

-- a reply without a body
unfoldable pub reply_text : ℕ → Notice → Option ℕ → Bool → List ℕ
reply_text n notice commit closes =
    status_line (code_of n) ++ length_line (code_of n) ++ note_line notice ++ commit_line commit ++ close_line closes
    ++ crlf

-- the reply before a body that is awaited (RFC 9110, section 15.2.1)
unfoldable pub continue_text : List ℕ
continue_text = status_line 100 ++ crlf

-- the name of a media type
abbrev pub type_text : ReplyType → List ℕ
type_text NTriples = codes "application/n-triples"
type_text Turtle = codes "text/turtle"
type_text NQuads = codes "application/n-quads"

-- the type of a body that comes in chunks (RFC 9110, section 8.3)
unfoldable pub type_line : ReplyType → List ℕ
type_line reply = field_line (codes "Content-Type") (type_text reply)

-- the framing of a body that comes in chunks (RFC 9112, section 6.1)
unfoldable pub chunked_line : List ℕ
chunked_line = field_line (codes "Transfer-Encoding") (codes "chunked")

-- the head of a reply whose body comes in chunks
unfoldable pub lines_head : ReplyType → ℕ → Bool → List ℕ
lines_head reply commit closes =
    status_line 200 ++ type_line reply ++ chunked_line ++ commit_line (Some commit) ++ close_line closes ++ crlf

-- chunk (RFC 9112, section 7.1), its size in lower-case hexadecimal; a piece without bytes is none
unfoldable pub chunk : List ℕ → List ℕ
chunk x = if length x == 0 then [] else digits 16 false (length x) ++ crlf ++ x ++ crlf

-- last-chunk, and no trailers (RFC 9112, section 7.1)
unfoldable pub last_chunk : List ℕ
last_chunk = codes "0" ++ crlf ++ crlf
