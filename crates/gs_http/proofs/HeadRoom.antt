-- A head has at most a third as many fields as bytes.
use Rattle.std.proofs.Common.{◌≡◌, ◌≤◌, ◌*◌, ℕ, List, [], ◌∷◌, ◌++◌, length, ap, ◌∙◌, arith, length-append, append-nil}
use Rattle.std.specs.List.{flat_map, All}
use Rattle.std.proofs.lemmas.List.Elements.{All-head, All-tail}
use Rattle.httparse.specs.Grammar.{LineEnd, crlf, lf, print_end, Field, IsField, print_field, print_blank, print_version, RequestHead, print_request, ReadsRequest}

-- the end of a line has a byte
end_len : (e : LineEnd) → 1 ≤ length (print_end e)
end_len crlf = omega arith
end_len lf = omega arith

-- a field has three bytes at least
field_len : (f : Field) → IsField f → 3 ≤ length (print_field f)
field_len f k =
    let n = k.name.0 in
    let e = end_len f.end in
    let a = length-append (f.name ++ 58 ∷ f.raw) (print_end f.end) in
    let b = length-append f.name (58 ∷ f.raw) in
    omega arith

-- so have all fields
fields_len : (fs : List Field) → All IsField fs → 3 * length fs ≤ length (flat_map print_field fs)
fields_len [] all = omega arith
fields_len (f ∷ fs) all =
    let one = field_len f (All-head IsField f fs all) in
    let more = fields_len fs (All-tail IsField f fs all) in
    let a = length-append (print_field f) (flat_map print_field fs) in
    omega arith

-- a part is no longer than the whole
last_part : (a b c : List ℕ) → length b ≤ length (a ++ (b ++ c))
last_part a b c = omega (arith, length-append a (b ++ c), length-append b c)

-- the fields are a part of the head
request_len : (h : RequestHead) → length (flat_map print_field h.fields) ≤ length (print_request h)
unfolding print_request
request_len h =
    last_part
    (print_blank h.blank ++ h.method ++ 32 ∷ h.target ++ 32 ∷ print_version h.minor ++ print_end h.line_end)
    (flat_map print_field h.fields) (print_end h.last)

-- three bytes a field
pub room : (b : List ℕ) (h : RequestHead) → ReadsRequest b h [] → 3 * length h.fields ≤ length b
room b h r =
    let whole : length b ≡ length (print_request h) = ap length (r.1 ∙ append-nil (print_request h)) in
    let few = fields_len h.fields r.0.fields in
    let part = request_len h in
    omega arith
