-- Machines that take their input item by item.
use Rattle.std.specs.Prelude.{◌≡◌, List, [], ◌∷◌, ◌++◌}

-- A machine from items I to items O, with an ending E.
pub record Machine (S I O E : Type 0) : Type 0 where
  pub step : S → I → S × List O
  pub ended : S → List O × E

-- outputs before those of the rest of a text
abbrev pub joined : {O E : Type 0} → List O → List O × E → List O × E
joined os r = (os ++ r.0, r.1)

-- the state after some items, and the outputs that they gave
unfoldable pub steps : {S I O E : Type 0} → Machine S I O E → S → List I → S × List O
steps m s [] = (s, [])
steps m s (i ∷ is) = let t = m.step s i in let u = steps m t.0 is in (u.0, t.1 ++ u.1)

-- the outputs from a state over the rest of a text, and the ending
unfoldable pub rest : {S I O E : Type 0} → Machine S I O E → S → List I → List O × E
rest m s [] = m.ended s
rest m s (i ∷ is) = joined (m.step s i).1 (rest m (m.step s i).0 is)

-- One machine after another: what the first gives, the second takes.
unfoldable pub composed : {S T I M O E F : Type 0} → Machine S I M E → Machine T M O F → Machine (S × T) I O F
composed a b = record {
  step = λ s i. let u = a.step s.0 i in let v = steps b s.1 u.1 in ((u.0, v.0), v.1);
  ended = λ s. rest b s.1 (a.ended s.0).0;
}

-- a list that begins with another
abbrev pub Begins : {O : Type 0} → List O → List O → Type 0
Begins {O} xs front = (more : List O) × (xs ≡ front ++ more)

-- The outputs that x settles: those of each text that begins with x begin with these, and with no longer list do they all begin.
pub record AreSettled {I O : Type 0} (outputs : List I → List O) (x : List I) (os : List O) : Type 0 where
  pub stay : (y : List I) → Begins (outputs (x ++ y)) os
  pub are_all : (more : List O) → ((y : List I) → Begins (outputs (x ++ y)) more) → Begins os more

-- From each state the text may go on so that no output comes any more.
abbrev pub Silences : {S I O E : Type 0} → Machine S I O E → Type 0
Silences {S} {I} m = (s : S) → (y : List I) × ((rest m s y).0 ≡ [])
