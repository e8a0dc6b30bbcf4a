-- The output of the removal of dot segments as one text: whether a segment is moved to it, and its bytes.
use Rattle.std.specs.Prelude.{◌≡◌, ℕ, ◌+◌, ◌<◌, String, length, take, drop, fold, slice_index, Bool, true, false, if◌then◌else◌, ◌==◌, List, [], ◌∷◌, ◌++◌}
use Rattle.std.specs.List.{list_any}
use Rattle.std.specs.String.{string_bytes}
use Rattle.gs_model.specs.Punctuation.{slash}
use Rattle.gs_iri.specs.Dots.{segments_of, closed, is_dot, is_dot_dot, is_dots}

-- some byte is a '/'
abbrev pub has_slash : List ℕ → Bool
has_slash x = list_any (λ c. c == slash) x

-- the last '/' stands there
pub record IsLastSlash (x : List ℕ) (i : ℕ) : Type 0 where
  pub within : i < length x
  pub slash : slice_index x i ≡ slash
  pub last : has_slash (drop (i + 1) x) ≡ false

-- without the last '/' and what stands after it; nothing where there is no '/'
unfoldable pub without_last : List ℕ → List ℕ
without_last [] = []
without_last (c ∷ cs) = if has_slash cs then c ∷ without_last cs else []

-- a segment after a '/'
unfoldable pub put_after : List ℕ → List ℕ → List ℕ
put_after out s = if is_dot s then out else if is_dot_dot s then without_last out else out ++ slash ∷ s

-- a segment after what is put, if any is
unfoldable pub put : Bool × List ℕ → List ℕ → Bool × List ℕ
put o s = if o.0 then (true, put_after o.1 s) else if is_dots s then o else (true, o.1 ++ s)

-- the first bytes of the string, so many, stay
abbrev pub KeepsFront : {Z : Type 0} → ℕ → String Z → String Z → Type 0
KeepsFront start old new = take start (string_bytes new) ≡ take start (string_bytes old)

-- from `start` on, the string has lost its last segment, with the '/' before it
abbrev pub DropsLast : {Z : Type 0} → ℕ → String Z → String Z → Type 0
DropsLast start old new = drop start (string_bytes new) ≡ without_last (drop start (string_bytes old))

-- from `start` on, a segment is put after what is put, and whether any is put now
abbrev pub PutsSegment : {Z : Type 0} → ℕ → Bool → List ℕ → String Z → String Z → Bool → Type 0
PutsSegment start begun segment old new b = (b, drop start (string_bytes new)) ≡ put (begun, drop start (string_bytes old)) segment

-- the same of each segment of a path
abbrev pub PutsAll : {Z : Type 0} → ℕ → Bool → List ℕ → String Z → String Z → Bool → Type 0
PutsAll start begun path old new b =
    (b, drop start (string_bytes new)) ≡ fold put (begun, drop start (string_bytes old)) (segments_of path)

-- the same of a path that ends there, with what a dot segment at its end stands for
abbrev pub PutsPath : {Z : Type 0} → ℕ → Bool → List ℕ → String Z → String Z → Type 0
PutsPath start begun path old new =
    drop start (string_bytes new) ≡ (fold put (begun, drop start (string_bytes old)) (closed (segments_of path))).1
