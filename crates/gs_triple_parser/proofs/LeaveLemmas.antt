-- A symbol after a list of verbs and objects: whether a frame is open.
use Rattle.std.proofs.Common.{◌≡◌, List, [], ◌∷◌, ap}
use Rattle.gs_blank.specs.Numbers.{Numbers}
use Rattle.gs_triples.specs.Symbols.{Symbol}
use Rattle.gs_triples.specs.Meanings.{Context}
use Rattle.gs_triples.specs.States.{Frame, Goes, Ends}
use Rattle.gs_triples.specs.Machine.{leave, shut}

module _ {X T : Type 0} where
  -- where no frame is open
  pub left_none : (t : Symbol) (fs : List (Frame X)) (env : Context X T) (P : List T) (n : Numbers) → fs ≡ [] → leave t fs env P n ≡ Ends env P n
  left_none t fs env P n e = ap (λ (gs : List (Frame X)). leave t gs env P n) e

  -- and where one is
  pub left_some : (t : Symbol) (f : Frame X) (fs gs : List (Frame X)) (env : Context X T) (P : List T) (n : Numbers) → gs ≡ f ∷ fs → leave t gs env P n ≡ Goes (shut t f fs env P n)
  left_some t f fs gs env P n e = ap (λ (hs : List (Frame X)). leave t hs env P n) e
