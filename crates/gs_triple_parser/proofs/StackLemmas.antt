-- A frame on top of a stack.
use Rattle.std.proofs.Common.{◌≡◌, List, [], ◌∷◌, ◌++◌, map, ap, refl, ℕ, ◌-◌, take, arith, ◌∙◌}
use Rattle.std.specs.Prelude.{reverse}
use Rattle.std.proofs.lemmas.List.{reverse-append, map-append, append-nil}
use Rattle.gs_triple_values.specs.Languages.{TypedLanguage}
use Rattle.gs_triple_parser.specs.Frames.{frame_of, stack_of}
use Rattle.gs_triple_parser.specs.declared.frames.Frame.{Frame}
use Rattle.gs_triple_parser.specs.declared.stacks.Stack.{Stack}

-- the front of no element
take-zero : {A : Type 0} (xs : List A) → take 0 xs ≡ []
take-zero [] = refl
take-zero (x ∷ xs) = refl

module _ {L S V X T K : Type 0} (l : TypedLanguage S V X T K) where
  -- a frame that is pushed is on top
  pub stack_push : (s t : Stack L S V X T K) (f : Frame L S V X T K) → t.frames.items ≡ s.frames.items ++ f ∷ [] → stack_of l t ≡ frame_of l f ∷ stack_of l s
  unfolding stack_of
  stack_push s t f e =
      ap (λ fs. reverse (map (frame_of l) fs)) e ∙ ap reverse (map-append (frame_of l) s.frames.items (f ∷ []))
      ∙ reverse-append (map (frame_of l) s.frames.items) (map (frame_of l) (f ∷ []))

  -- where none can be taken there is none
  pub stack_none : (s : Stack L S V X T K) (rest : List (Frame L S V X T K)) (n : ℕ) → n ≡ 0 → rest ≡ take (n - 1) s.frames.items → s.frames.items ≡ rest ++ [] → stack_of l s ≡ []
  unfolding stack_of
  stack_none s rest n z e f =
      let none : n - 1 ≡ 0 = omega (arith, z) in
      ap (λ fs. reverse (map (frame_of l) fs)) (f ∙ append-nil rest ∙ e ∙ ap (λ k. take k s.frames.items) none ∙ take-zero s.frames.items)
