-- A path without its dot segments (RFC 3986, section 5.2.4), on the list of its segments.
use Rattle.std.specs.Prelude.{ℕ, Bool, if◌then◌else◌, ◌||◌, ◌==◌, List, [], ◌∷◌, ◌++◌, drop, fold, codes, Option, Some, None}
use Rattle.std.specs.List.{slice_split}
use Rattle.std.specs.Str.{bytes_eq}
use Rattle.gs_model.specs.Punctuation.{slash}

-- the segments (3.3): what stands between the slashes of a path
unfoldable pub segments_of : List ℕ → List (List ℕ)
segments_of path = slice_split (λ c. c == slash) path

-- the segment that stands for its own directory
unfoldable pub is_dot : List ℕ → Bool
is_dot s = bytes_eq s (codes ".")

-- the segment that stands for the directory above
unfoldable pub is_dot_dot : List ℕ → Bool
is_dot_dot s = bytes_eq s (codes "..")

-- a dot segment: one of the two
unfoldable pub is_dots : List ℕ → Bool
is_dots s = is_dot s || is_dot_dot s

-- the last segment; a path has at least one, which may be empty
abbrev pub last_of : List (List ℕ) → List ℕ
last_of [] = []
last_of (s ∷ []) = s
last_of (s ∷ t ∷ ss) = last_of (t ∷ ss)

-- B and C, at the end of a path: "/." and "/.." stand for "/./" and "/../"
unfoldable pub closed : List (List ℕ) → List (List ℕ)
closed ss = ss ++ (if is_dots (last_of ss) then [] ∷ [] else [])

-- The output is `None` while nothing is moved to it, and then the list of what is moved, the newest first, each
-- segment with the '/' that stands before it.
abbrev pub Output : Type 0
Output = Option (List (List ℕ))

-- A and D: a dot segment in front goes, with the '/' after it.
-- B: "/." goes. C: "/.." goes, and the newest segment of the output with it. E: any other segment is moved.
unfoldable pub moved : Output → List ℕ → Output
moved None s = if is_dots s then None else Some (s ∷ [])
moved (Some out) s = if is_dot s then Some out else if is_dot_dot s then Some (drop 1 out) else Some ((slash ∷ s) ∷ out)

-- the text of segments, of which the newest is first
unfoldable pub text_of_segments : List (List ℕ) → List ℕ
text_of_segments [] = []
text_of_segments (s ∷ ss) = text_of_segments ss ++ s

-- the output as a text, empty where nothing is moved to it
unfoldable pub output_of : Output → List ℕ
output_of None = []
output_of (Some out) = text_of_segments out

-- 5.2.4: the path without its dot segments
unfoldable pub dots : List ℕ → List ℕ
dots path = output_of (fold moved None (closed (segments_of path)))
