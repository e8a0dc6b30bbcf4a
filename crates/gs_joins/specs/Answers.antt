-- Answers that are kept: whether two lists have keys that go together, by what is known for their variables. No public
-- clause cites this module.
use Rattle.std.specs.Prelude.{◌≡◌, ℕ, Bool, List, [], ◌∷◌, slice_get, Option, Some, None}
use Rattle.std.specs.declared.cmp.Ordering.{Ordering}
use Rattle.std.specs.Ordering.{nat_cmp, ordering_then}
use Rattle.std.specs.Option.{option_cmp}
use Rattle.std.specs.BTreeMap.{get}
use Rattle.gs_joins.specs.declared.sought.Item.{Item}
use Rattle.gs_joins.specs.declared.sought.Item.TheVariants.{Number, Variable}
use Rattle.gs_joins.specs.declared.sought.Sought.{Sought}
use Rattle.gs_joins.specs.declared.lots.Lot.{Lot}
use Rattle.gs_joins.specs.declared.questions.Places.{Places}
use Rattle.gs_joins.specs.declared.questions.Question.{Question}
use Rattle.gs_joins.specs.declared.answers.Answers.{Answers}
use Rattle.gs_joins.specs.Numbers.{BoundNumbers, number_for}
use Rattle.gs_joins.specs.Choices.{has_choice}

-- the number that is bound to an item, where it is a variable and has one
abbrev pub number_bound : BoundNumbers → Item → Option ℕ
number_bound b (Number n) = None
number_bound b (Variable x) = number_for b x.now

-- what is known at the places of a pattern
abbrev pub places_of : BoundNumbers → Sought → Places
places_of b s = record { subject = number_bound b s.subject; predicate = number_bound b s.predicate; object = number_bound b s.object }

-- the same of a list, where there is one
abbrev pub places_in : BoundNumbers → Option Lot → Places
places_in b None = record { subject = None; predicate = None; object = None }
places_in b (Some l) = places_of b l.sought

-- the question of the lists of two numbers
abbrev pub question_of : List Lot → BoundNumbers → ℕ → ℕ → Question
question_of ls b i j = record { first = i; second = j; of_first = places_in b (slice_get ls i); of_second = places_in b (slice_get ls j) }

-- the order of what is known at places
abbrev pub places_cmp : Places → Places → Ordering
places_cmp p q = ordering_then (option_cmp nat_cmp p.subject q.subject) (ordering_then (option_cmp nat_cmp p.predicate q.predicate) (option_cmp nat_cmp p.object q.object))

-- the order of questions
abbrev pub question_cmp : Question → Question → Ordering
question_cmp p q =
    ordering_then (nat_cmp p.first q.first)
    (ordering_then (nat_cmp p.second q.second) (ordering_then (places_cmp p.of_first q.of_first) (places_cmp p.of_second q.of_second)))

-- it is the answer under all bindings under which the question is this one
abbrev pub IsAnswer : List Lot → Question → Bool → Type 0
IsAnswer ls q found = (b : BoundNumbers) → question_of ls b q.first q.second ≡ q → found ≡ has_choice ls (q.first ∷ q.second ∷ []) b

-- the answer that is kept to a question, if one is
abbrev pub kept_answer : Answers → Question → Option Bool
kept_answer a q = get question_cmp a.kept q

-- each answer that is kept is one
abbrev pub AreRight : List Lot → Answers → Type 0
AreRight ls a = (q : Question) (found : Bool) → kept_answer a q ≡ Some found → IsAnswer ls q found

-- one answer more is kept, and the others are as right as they were
abbrev pub KeepsAnswer : Answers → Answers → Question → Bool → Type 0
KeepsAnswer old new q found = (ls : List Lot) → AreRight ls old → IsAnswer ls q found → AreRight ls new
