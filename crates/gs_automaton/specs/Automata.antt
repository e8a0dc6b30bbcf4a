-- Automata of tokens: the longest token at the front of a text.
use Rattle.std.specs.Prelude.{◌≡◌, List, [], ◌∷◌, Option, Some, None}

-- Where it stands after an item, if some token goes on so; and the kind of the text so far, if it is a token.
pub record Automaton (Q K I : Type 0) : Type 0 where
  pub start : Q
  pub next : Q → I → Option Q
  pub accepts : Q → Option K

-- where it stands after a text
abbrev pub run_from : {Q K I : Type 0} → Automaton Q K I → Option Q → List I → Option Q
run_from a q [] = q
run_from a None (i ∷ is) = None
run_from a (Some q) (i ∷ is) = run_from a (a.next q i) is

-- where it stands after a text that it reads from its start
abbrev pub run : {Q K I : Type 0} → Automaton Q K I → List I → Option Q
run a x = run_from a (Some a.start) x

-- the kind of the text that led there, if it is a token
abbrev pub kind_at : {Q K I : Type 0} → Automaton Q K I → Option Q → Option K
kind_at a None = None
kind_at a (Some q) = a.accepts q

-- a text that is a token of this kind
abbrev pub Recognizes : {Q K I : Type 0} → Automaton Q K I → K → List I → Type 0
Recognizes a k w = kind_at a (run a w) ≡ Some k

-- a token and what follows it
abbrev pub Found : Type 0 → Type 0 → Type 0
Found K I = Option (K × List I × List I)

-- the item i, and what was found after it, or the token that ends with i
abbrev pub found_after : {K I : Type 0} → I → List I → Option K → Found K I → Found K I
found_after i is k (Some f) = Some (f.0, i ∷ f.1, f.2)
found_after i is (Some k) None = Some (k, i ∷ [], is)
found_after i is None None = None

-- the longest token at the front, from where the automaton stands
abbrev pub longest_from : {Q K I : Type 0} → Automaton Q K I → Option Q → List I → Found K I
longest_from a None x = None
longest_from a (Some q) [] = None
longest_from a (Some q) (i ∷ is) = found_after i is (kind_at a (a.next q i)) (longest_from a (a.next q i) is)

-- the longest token at the front of a text
abbrev pub longest : {Q K I : Type 0} → Automaton Q K I → List I → Found K I
longest a x = longest_from a (Some a.start) x
