-- Tokens that stand whole at the front of a piece: where they lead.
use Rattle.std.specs.Prelude.{◌≡◌, ℕ, ◌+◌, ◌<◌, ◌≤◌, true, List, [], ◌∷◌, ◌++◌, length, take, get_or}
use Rattle.std.specs.List.{list_all}
use Rattle.gs_model.specs.Characters.{dot}
use Rattle.gs_model.specs.Terms.{Term}
use Rattle.gs_ntterm.specs.Marks.{counted}
use Rattle.gs_ntterm.specs.Classes.{is_space}
use Rattle.gs_ntterm.specs.LineTerms.{LineTerm}
use Rattle.gs_ntread.specs.LineTriples.{LineTriple}
use Rattle.gs_ntread.specs.States.{LineState, AtObject, AtEnd, Between, sentence}
use Rattle.gs_ntread.specs.Transitions.{transition}
use Rattle.gs_ntread.specs.Runs.{RunsTo, ascii_end}

-- These characters of ASCII lead from a state to another, and the last of them completes a triple, where it ends after n bytes.
pub record EndsIn (q : LineState) (bytes : List ℕ) (n : ℕ) (r : LineState) (t : LineTriple) : Type 0 where
  pub front : List ℕ
  pub last : ℕ
  pub parts : bytes ≡ front ++ last ∷ []
  pub before : LineState
  pub run : RunsTo q front before
  pub small : last < ascii_end
  pub completes : transition before.0 before.1 last n ≡ (r, t ∷ [])
  pub ends : t.end ≡ n

-- a dot completes this triple from a state
abbrev pub DotCompletes : LineState → LineTerm → Term → LineTerm → Type 0
DotCompletes q s p o = (n : ℕ) → transition q.0 q.1 dot n ≡ ((AtEnd, Between), sentence s p o n ∷ [])

-- so it does after blanks
pub record AwaitsDot (q : LineState) (s : LineTerm) (p : Term) (o : LineTerm) (blanks : List ℕ) : Type 0 where
  pub after : LineState
  pub run : RunsTo q blanks after
  pub completes : DotCompletes after s p o

-- the first n bytes are an object, after which blanks and a dot may come
pub record IsObjectToken (piece : List ℕ) (n : ℕ) (o : LineTerm) : Type 0 where
  pub within : n ≤ length piece
  pub after : LineTerm → Term → LineState
  pub run : (s : LineTerm) (p : Term) → RunsTo (AtObject s p, Between) (take n piece) (after s p)
  pub awaits : (s : LineTerm) (p : Term) (blanks : List ℕ) → list_all is_space blanks ≡ true → AwaitsDot (after s p) s p o blanks

-- so many blanks come before a dot
pub record IsDotAfter (rest : List ℕ) (blanks : ℕ) : Type 0 where
  pub blank : list_all is_space (take blanks rest) ≡ true
  pub within : blanks < length rest
  pub dotted : get_or rest blanks 0 ≡ dot

-- the first n bytes are an object and the dot after it
pub record IsObjectFront (piece : List ℕ) (n : ℕ) (o : LineTerm) : Type 0 where
  pub some : 0 < n
  pub within : n ≤ length piece
  pub ends : (s : LineTerm) (p : Term) (end : ℕ) → EndsIn (AtObject s p, Between) (take n piece) end (AtEnd, Between) (sentence s p o end)

-- the first n bytes of a piece complete this triple, where so many bytes were read before
pub record EndsFront (q : LineState) (piece : List ℕ) (read n : ℕ) (r : LineState) (t : LineTriple) : Type 0 where
  pub some : 0 < n
  pub within : n ≤ length piece
  pub ends : EndsIn q (take n piece) (counted (read + n)) r t
