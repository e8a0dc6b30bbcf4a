-- Lines that are built up: another tail, more bytes of the last one, and one line more.
use Rattle.std.proofs.Common.{◌≡◌, ℕ, ◌+◌, ◌-◌, ◌≤◌, Bool, true, List, [], ◌∷◌, ◌++◌, Result, Ok, Err, is_ok, cond, length, drop, ap, sym, ◌∙◌, subst, arith, length-append, length-drop}
use Rattle.std.specs.Prelude.{slice_range, OnOk}
use Rattle.std.specs.List.{All}
use Rattle.std.proofs.lemmas.List.{take_all, drop_all, drop-append-le}
use Rattle.std.proofs.lemmas.List.Elements.{All-push}
use Rattle.gs_texts.specs.declared.parts.LinePlaces.{LinePlaces}
use Rattle.gs_texts.specs.Places.{LiesInBlock, text_in}
use Rattle.gs_texts.specs.Lines.{line_of_texts, line_placed, lines_placed, LiesThere, IsSealedLine}
use Rattle.gs_texts.specs.Building.{built, with_tail, with_line, IsBuilt}
use Rattle.gs_texts.proofs.LineLemmas.{lines_push, there_extended, lines_extended}

module _ (blocks : List (List ℕ)) (tails : List ℕ) (start : ℕ) (ls : List LinePlaces) where
  -- where a tail begins at the end of all, what is built holds still
  pub holds_begun : (size : ℕ) (is_sealed : Bool) → IsBuilt blocks tails start ls size is_sealed → IsBuilt blocks tails (length tails) ls size is_sealed
  holds_begun size is_sealed is = record { there = is.there; begun = omega arith; counted = is.counted; sealed = is.sealed }

  -- and this tail is empty
  pub built_begun : built blocks tails (length tails) ls ≡ with_tail (built blocks tails start ls) []
  built_begun = ap (λ z. record { blocks = blocks; tail = z; items = lines_placed blocks tails ls }) (drop_all (length tails) tails (omega arith))

  -- with more bytes after the tails, what is built holds still
  pub holds_extended :
      (longer more : List ℕ) (size : ℕ) (is_sealed : Bool) → longer ≡ tails ++ more → IsBuilt blocks tails start ls size is_sealed
      → IsBuilt blocks longer start ls size is_sealed
  holds_extended longer more size is_sealed has is =
      subst (λ (z : List ℕ). IsBuilt blocks z start ls size is_sealed) (sym has) (record {
        there = there_extended blocks tails more ls is.there;
        begun = omega (arith, is.begun, length-append tails more);
        counted = is.counted ∙ ap length (sym (lines_extended blocks tails more ls is.there));
        sealed = is.sealed;
      })

  -- and these bytes are added to the tail of the lines that follow
  pub built_extended :
      (longer more : List ℕ) → longer ≡ tails ++ more → start ≤ length tails → All (LiesThere blocks tails) ls
      → built blocks longer start ls ≡ with_tail (built blocks tails start ls) (drop start tails ++ more)
  built_extended longer more has begun there =
      ap (λ z. built blocks z start ls) has
      ∙ (λ i. record { blocks = blocks; tail = drop-append-le start tails more begun i; items = lines_extended blocks tails more ls there i })

-- Bytes that are added after the tails, or are not: what is built holds still.
pub holds_written :
    {X E : Type 0} (r : Result X E) (blocks : List (List ℕ)) (tails longer more : List ℕ) (start : ℕ) (ls : List LinePlaces) (size : ℕ) (is_sealed : Bool)
    → longer ≡ cond (is_ok r) (tails ++ more) tails → IsBuilt blocks tails start ls size is_sealed → IsBuilt blocks longer start ls size is_sealed
holds_written (Ok x) blocks tails longer more start ls size is_sealed has is = holds_extended blocks tails start ls longer more size is_sealed has is
holds_written (Err e) blocks tails longer more start ls size is_sealed has is = subst (λ (z : List ℕ). IsBuilt blocks z start ls size is_sealed) (sym has) is

-- and where they are, they are added to the tail of the lines that follow
pub built_written :
    {X E : Type 0} (r : Result X E) (blocks : List (List ℕ)) (tails longer more : List ℕ) (start : ℕ) (ls : List LinePlaces)
    → longer ≡ cond (is_ok r) (tails ++ more) tails → start ≤ length tails → All (LiesThere blocks tails) ls
    → OnOk r (built blocks longer start ls ≡ with_tail (built blocks tails start ls) (drop start tails ++ more))
built_written (Ok x) blocks tails longer more start ls has begun there = built_extended blocks tails start ls longer more has begun there
built_written (Err e) blocks tails longer more start ls has begun there = tt

module _ (blocks : List (List ℕ)) (tails : List ℕ) (start : ℕ) (ls later : List LinePlaces) (l : LinePlaces) (more : later ≡ ls ++ l ∷ []) (begun : start ≤ length tails) (from : l.tail_from ≡ start) (count : l.tail_count ≡ length tails - start) where
  -- the tail of the line is all from its beginning on
  tail_whole : slice_range tails l.tail_from (l.tail_from + l.tail_count) ≡ drop start tails
  tail_whole =
      take_all (l.tail_from + l.tail_count - l.tail_from) (drop l.tail_from tails) (omega (arith, length-drop l.tail_from tails, from, count))
      ∙ ap (λ n. drop n tails) from

  -- the line has the last tail
  tail_last : line_placed blocks tails l ≡ line_of_texts (text_in blocks l.subject) (text_in blocks l.predicate) (text_in blocks l.object) (drop start tails)
  tail_last = ap (line_of_texts (text_in blocks l.subject) (text_in blocks l.predicate) (text_in blocks l.object)) tail_whole

  -- with one line more, what is built holds still
  pub holds_pushed :
      (size sum : ℕ) (was_sealed is_sealed : Bool)
      → IsBuilt blocks tails start ls size was_sealed → LiesInBlock blocks l.subject → LiesInBlock blocks l.predicate → LiesInBlock blocks l.object
      → sum ≡ length (lines_placed blocks tails ls) + length (line_of_texts (text_in blocks l.subject) (text_in blocks l.predicate) (text_in blocks l.object) (drop start tails))
      → (is_sealed ≡ true → (was_sealed ≡ true) × IsSealedLine blocks l) → IsBuilt blocks tails start later sum is_sealed
  holds_pushed size sum was_sealed is_sealed is subject predicate object counted sealed =
      let there : LiesThere blocks tails l = record { subject = subject; predicate = predicate; object = object; tail = omega (arith, from, count, begun) } in
      subst (λ (z : List LinePlaces). IsBuilt blocks tails start z sum is_sealed) (sym more) (record {
        there = All-push (LiesThere blocks tails) ls l is.there there;
        begun = is.begun;
        counted = omega (arith, counted, ap length tail_last, ap length (lines_push blocks tails ls l), length-append (lines_placed blocks tails ls) (line_placed blocks tails l));
        sealed = λ (t : is_sealed ≡ true). let both = sealed t in All-push (IsSealedLine blocks) ls l (is.sealed both.0) both.1;
      })

  -- and the bytes of the line are added
  pub built_pushed : built blocks tails start later ≡ with_line (built blocks tails start ls) (text_in blocks l.subject) (text_in blocks l.predicate) (text_in blocks l.object)
  built_pushed =
      ap (λ z. built blocks tails start z) more ∙ ap (λ x. record { blocks = blocks; tail = drop start tails; items = x })
      (lines_push blocks tails ls l ∙ ap (λ x. lines_placed blocks tails ls ++ x) tail_last)
