-- What the private calls append to a string.
use Rattle.std.specs.Prelude.{◌≡◌, ℕ, String, length, take, List, ◌++◌, codes, Option}
use Rattle.std.specs.Option.{option_copied}
use Rattle.std.specs.Borrow.{Bor}
use Rattle.std.specs.String.{string_bytes}
use Rattle.gs_iri.specs.declared.references.Parts.{Parts}
use Rattle.gs_iri.specs.Dots.{dots}
use Rattle.gs_iri.specs.Resolving.{scheme_text, marked, front_text, parts_text}

-- the string has grown by this text
abbrev pub Appends : {Z : Type 0} → String Z → String Z → List ℕ → Type 0
Appends old new text = string_bytes new ≡ string_bytes old ++ text

-- what stood in the string still stands at its front
abbrev pub KeepsAll : {Z : Type 0} → String Z → String Z → Type 0
KeepsAll old new = take (length (string_bytes old)) (string_bytes new) ≡ string_bytes old

-- the string has grown by a part after its mark, where it is defined
abbrev pub AppendsPart : {Z : Type 0} → String Z → String Z → List ℕ → Option (Bor (List ℕ)) → Type 0
AppendsPart old new mark part = Appends old new (marked mark (option_copied part))

-- the string has grown by a scheme and an authority
abbrev pub AppendsHead : {Z : Type 0} → String Z → String Z → Option (Bor (List ℕ)) → Option (Bor (List ℕ)) → Type 0
AppendsHead old new scheme authority =
    string_bytes new ≡ (string_bytes old ++ scheme_text (option_copied scheme)) ++ marked (codes "//") (option_copied authority)

-- the string has grown by a query and a fragment
abbrev pub AppendsTail : {Z : Type 0} → String Z → String Z → Option (Bor (List ℕ)) → Option (Bor (List ℕ)) → Type 0
AppendsTail old new query fragment =
    string_bytes new ≡ (string_bytes old ++ marked (codes "?") (option_copied query)) ++ marked (codes "#") (option_copied fragment)

-- the string has grown by a path, after a prefix, without its dot segments
abbrev pub AppendsDots : {Z : Type 0} → String Z → String Z → Option (Bor (List ℕ)) → List ℕ → Type 0
AppendsDots old new front path = Appends old new (dots (front_text (option_copied front) ++ path))

-- the text of these parts, with this path in the place of theirs
abbrev pub text_with : Parts → List ℕ → List ℕ
text_with p path =
    parts_text (option_copied p.scheme) (option_copied p.authority) path (option_copied p.query) (option_copied p.fragment)

-- the string has grown by these parts, their path after a prefix and without its dot segments
abbrev pub AppendsRemoved : {Z : Type 0} → String Z → String Z → Parts → Option (Bor (List ℕ)) → Type 0
AppendsRemoved old new p front = Appends old new (text_with p (dots (front_text (option_copied front) ++ p.path.now)))
