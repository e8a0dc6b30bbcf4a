-- Lines of places: how many bytes they have, and that they stay with one line or tail more, and over sealed blocks alone.
use Rattle.std.proofs.Common.{◌≡◌, ℕ, ◌+◌, ◌-◌, ◌<◌, List, [], ◌∷◌, ◌++◌, length, map, get_or, take, drop, refl, ap, sym, ◌∙◌, subst, arith, length-append, length-take, length-drop}
use Rattle.std.specs.List.{All}
use Rattle.std.proofs.lemmas.List.{get_or_append_left, get_or-take, length_push, map-append, append-nil}
use Rattle.std.proofs.lemmas.List.Elements.{All-head, All-tail}
use Rattle.std.proofs.lemmas.List.Folds.{concat-append}
use Rattle.std.specs.Prelude.{slice_range}
use Rattle.std.specs.List.{concat}
use Rattle.gs_texts.specs.declared.places.Place.{Place}
use Rattle.gs_texts.specs.declared.parts.LinePlaces.{LinePlaces}
use Rattle.gs_texts.specs.Places.{block_of, offset_of, length_of, block_at, sealed_of, LiesInBlock, text_in}
use Rattle.gs_texts.proofs.PlaceLemmas.{part_of_longer}
use Rattle.gs_texts.specs.Lines.{line_of_texts, line_placed, lines_placed, LiesThere, IsSealedLine}

-- the bytes of lines with one more
pub lines_push :
    (blocks : List (List ℕ)) (tails : List ℕ) (ls : List LinePlaces) (l : LinePlaces)
    → lines_placed blocks tails (ls ++ l ∷ []) ≡ lines_placed blocks tails ls ++ line_placed blocks tails l
lines_push blocks tails ls l =
    ap concat (map-append (line_placed blocks tails) ls (l ∷ []))
    ∙ (concat-append (map (line_placed blocks tails) ls) (line_placed blocks tails l ∷ []) ∙ ap (λ x. lines_placed blocks tails ls ++ x) (append-nil (line_placed blocks tails l)))

-- lines whose bytes are each the same have the same bytes
lines_same :
    (P : LinePlaces → Type 0) (blocks : List (List ℕ)) (tails : List ℕ) (later : List (List ℕ)) (longer : List ℕ) (ls : List LinePlaces)
    → ((l : LinePlaces) → P l → line_placed later longer l ≡ line_placed blocks tails l) → All P ls → lines_placed later longer ls ≡ lines_placed blocks tails ls
lines_same P blocks tails later longer [] same all = refl
lines_same P blocks tails later longer (l ∷ ls) same all =
    let first : line_placed later longer l ≡ line_placed blocks tails l = same l (All-head P l ls all) in
    let rest : lines_placed later longer ls ≡ lines_placed blocks tails ls = lines_same P blocks tails later longer ls same (All-tail P l ls all) in
    λ i. first i ++ rest i

-- a text has as many bytes as its place says
pub text_length : (blocks : List (List ℕ)) (p : Place) → LiesInBlock blocks p → length (text_in blocks p) ≡ length_of p
unfolding text_in
text_length blocks p lies =
    let block : List ℕ = block_at blocks (block_of p) in
    omega (arith, lies.inside, length-take (offset_of p + length_of p - offset_of p) (drop (offset_of p) block), length-drop (offset_of p) block)

-- a line of such texts has their bytes, three more, and those of its tail
pub line_length :
    (blocks : List (List ℕ)) (s p o : Place) (tail : List ℕ) → LiesInBlock blocks s → LiesInBlock blocks p → LiesInBlock blocks o
    → length (line_of_texts (text_in blocks s) (text_in blocks p) (text_in blocks o) tail) ≡ length_of s + length_of p + length_of o + 3 + length tail
line_length blocks s p o tail in_s in_p in_o =
    grind (arith, length-append, text_length blocks s in_s, text_length blocks p in_p, text_length blocks o in_o)

-- with more bytes after the tails, the texts of lines lie there still
pub there_extended :
    (blocks : List (List ℕ)) (tails more : List ℕ) (ls : List LinePlaces) → All (LiesThere blocks tails) ls → All (LiesThere blocks (tails ++ more)) ls
there_extended blocks tails more ls all k d within =
    let there = all k d within in
    record { subject = there.subject; predicate = there.predicate; object = there.object; tail = omega (arith, there.tail, length-append tails more) }

-- and the lines have the same bytes
pub lines_extended :
    (blocks : List (List ℕ)) (tails more : List ℕ) (ls : List LinePlaces) → All (LiesThere blocks tails) ls
    → lines_placed blocks (tails ++ more) ls ≡ lines_placed blocks tails ls
lines_extended blocks tails more ls all =
    lines_same (LiesThere blocks tails) blocks tails blocks (tails ++ more) ls
    (λ (l : LinePlaces) (there : LiesThere blocks tails l).
    ap (line_of_texts (text_in blocks l.subject) (text_in blocks l.predicate) (text_in blocks l.object)) (part_of_longer l.tail_from l.tail_count tails more there.tail)) all

-- what is shared of blocks: the sealed ones, and an open one without bytes
abbrev shared : List (List ℕ) → List (List ℕ)
shared blocks = sealed_of blocks ++ [] ∷ []

-- a sealed block is shared
block_shared : (blocks : List (List ℕ)) (b : ℕ) → b < length blocks - 1 → block_at (shared blocks) b ≡ block_at blocks b
block_shared blocks b sealed =
    get_or_append_left (sealed_of blocks) ([] ∷ []) [] b (omega (arith, sealed, length-take (length blocks - 1) blocks))
    ∙ get_or-take (length blocks - 1) blocks b [] sealed

-- a place in a sealed block lies in it where that is shared
lies_shared : (blocks : List (List ℕ)) (p : Place) → LiesInBlock blocks p → block_of p < length blocks - 1 → LiesInBlock (shared blocks) p
lies_shared blocks p lies sealed = record {
  block = omega (arith, sealed, length_push (sealed_of blocks) [], length-take (length blocks - 1) blocks);
  inside = omega (arith, lies.inside, ap length (block_shared blocks (block_of p) sealed));
}

-- and its text is the same
text_shared : (blocks : List (List ℕ)) (p : Place) → block_of p < length blocks - 1 → text_in (shared blocks) p ≡ text_in blocks p
unfolding text_in
text_shared blocks p sealed =
    ap (λ z. take (offset_of p + length_of p - offset_of p) (drop (offset_of p) z)) (block_shared blocks (block_of p) sealed)

-- the texts of lines in sealed blocks lie in what is shared
pub there_shared :
    (blocks later : List (List ℕ)) (tails : List ℕ) (ls : List LinePlaces) → later ≡ sealed_of blocks ++ [] ∷ [] → All (LiesThere blocks tails) ls → All (IsSealedLine blocks) ls
    → All (LiesThere later tails) ls
there_shared blocks later tails ls is all sealed =
    subst (λ (z : List (List ℕ)). All (LiesThere z tails) ls) (sym is) (λ (k : ℕ) (d : LinePlaces) (within : k < length ls).
    let there = all k d within in
    let apart = sealed k d within in
    record {
      subject = lies_shared blocks (get_or ls k d).subject there.subject apart.subject;
      predicate = lies_shared blocks (get_or ls k d).predicate there.predicate apart.predicate;
      object = lies_shared blocks (get_or ls k d).object there.object apart.object;
      tail = there.tail;
    })

-- and the lines have the same bytes
pub lines_shared :
    (blocks later : List (List ℕ)) (tails : List ℕ) (ls : List LinePlaces) → later ≡ sealed_of blocks ++ [] ∷ [] → All (IsSealedLine blocks) ls
    → lines_placed later tails ls ≡ lines_placed blocks tails ls
lines_shared blocks later tails ls is sealed =
    ap (λ z. lines_placed z tails ls) is
    ∙ lines_same (IsSealedLine blocks) blocks tails (shared blocks) tails ls
    (λ (l : LinePlaces) (apart : IsSealedLine blocks l).
    λ i. line_of_texts (text_shared blocks l.subject apart.subject i) (text_shared blocks l.predicate apart.predicate i) (text_shared blocks l.object apart.object i) (slice_range tails l.tail_from (l.tail_from + l.tail_count))) sealed
