-- What the frames of the code stand for.
use Rattle.std.specs.Prelude.{List, [], ◌∷◌, ◌++◌, map, reverse}
use Rattle.gs_triples.specs.Goals as rule
use Rattle.gs_triples.specs.States as machine
use Rattle.gs_triple_values.specs.Languages.{TypedLanguage, triple_in}
use Rattle.gs_triple_parser.specs.declared.frames.Goal.{Goal}
use Rattle.gs_triple_parser.specs.declared.frames.Goal.TheVariants as goal
use Rattle.gs_triple_parser.specs.declared.frames.Slot.{Slot}
use Rattle.gs_triple_parser.specs.declared.frames.Slot.TheVariants as slot
use Rattle.gs_triple_parser.specs.declared.frames.Frame.{Frame}
use Rattle.gs_triple_parser.specs.declared.frames.Frame.TheVariants as frame
use Rattle.gs_triple_parser.specs.declared.stacks.Stack.{Stack}

-- in a language of the code
module _ {L S V X T K : Type 0} (l : TypedLanguage S V X T K) where
  -- a goal of the code, as one of the rules
  abbrev pub goal_of : Goal L S V X T K → rule.Goal X
  goal_of (goal.Object d s p) = rule.Object d
  goal_of (goal.Inside d m) = rule.Inside d m
  goal_of (goal.Verbs d s) = rule.Verbs d (l.subject s)
  goal_of (goal.After d s p o) = rule.After d (l.subject s) (l.verb p)
  goal_of (goal.Semis d s) = rule.Semis d (l.subject s)
  goal_of (goal.Begun d) = rule.Begun d
  goal_of (goal.Items d h m) = rule.Items d h m

  -- a slot, as the frame that the machine keeps on its stack
  abbrev pub slot_of : Slot L S V X T K → machine.Frame X
  slot_of (slot.ToObject d s p) = machine.ToObject d (l.subject s) (l.verb p)
  slot_of (slot.ToFirst d m) = machine.ToFirst d m
  slot_of (slot.ToItem d h k m) = machine.ToItem d h k m

  -- a frame of the code, as one of the machine
  abbrev pub frame_of : Frame L S V X T K → machine.Frame X
  frame_of (frame.ToSlot s) = slot_of s
  frame_of (frame.ToClose m) = machine.ToClose m
  frame_of frame.ToVerbs = machine.ToVerbs
  frame_of (frame.ToMore m) = machine.ToMore m

  -- the frames of the stack, of which the last one is on top
  unfoldable pub stack_of : Stack L S V X T K → List (machine.Frame X)
  stack_of s = reverse (map frame_of s.frames.items)

  -- the machine's stack at a goal: an object's subject and verb are on top
  abbrev pub frames_at : Goal L S V X T K → List (machine.Frame X) → List (machine.Frame X)
  frames_at (goal.Object d s p) fs = machine.ToObject d (l.subject s) (l.verb p) ∷ fs
  frames_at _ fs = fs

  -- the triples at a goal: after an object the last one waits for the symbol that says which of its parts stay
  abbrev pub triples_at : Goal L S V X T K → List T → List T
  triples_at (goal.After d s p o) P = P ++ triple_in l s p o ∷ []
  triples_at _ P = P
