-- What is settled stays so; a body of so many bytes is those at the front.
use Rattle.std.proofs.Common.{◌≡◌, ℕ, zero, List, [], ◌∷◌, ◌++◌, take, drop, refl, sym, ap, ◌∙◌, subst, arith, append-nil, length-take, take-append-drop}
use Rattle.gs_transfer.specs.States.{TransferState, Left, SizeLine, Over, ByteStep, Gives, Passes, Fails, step}
use Rattle.gs_transfer.specs.Cuts.{End, Open, Faulty, Whole, BodyCut, with_data, goes_on, cut_from, body_at}
use Rattle.gs_transfer.specs.Laws.{SizedIsTheFront, StaysWhole, StaysFaulty}
use Rattle.gs_transfer.proofs.CutLemmas.{left-run}

-- what the data and the end of a body at the front of a text say of the text with y after it
abbrev Stays : List ℕ → List ℕ → End → BodyCut → Type 0
Stays y b Open d = Unit {0}
Stays y b (Faulty status) d = d ≡ record { bytes = b; end = Faulty status }
Stays y b (Whole rest) d = d ≡ record { bytes = b; end = Whole (rest ++ y) }

-- with data before them
stays-data : (y p b : List ℕ) (e : End) (d : BodyCut) → Stays y b e d → Stays y (p ++ b) e (with_data p d)
stays-data y p b Open d h = tt
stays-data y p b (Faulty status) d h = ap (with_data p) h
stays-data y p b (Whole rest) d h = ap (with_data p) h

-- after one byte
stays-step : (y : List ℕ) (c : ℕ) (f g : TransferState → BodyCut) (s : ByteStep) → ((t : TransferState) → Stays y (f t).bytes (f t).end (g t)) → Stays y (goes_on f c s).bytes (goes_on f c s).end (goes_on g c s)
stays-step y c f g (Gives t) h = stays-data y (c ∷ []) (f t).bytes (f t).end (g t) (h t)
stays-step y c f g (Passes t) h = h t
stays-step y c f g (Fails status) h = refl

-- from each state on
stays : (limit : ℕ) (s : TransferState) (x y : List ℕ) → Stays y (cut_from limit s x).bytes (cut_from limit s x).end (cut_from limit s (x ++ y))
stays limit (Left zero) x y = refl
stays limit Over x y = refl
stays limit s [] y = tt
stays limit s (c ∷ x) y = stays-step y c (λ (t : TransferState). cut_from limit t x) (λ (t : TransferState). cut_from limit t (x ++ y)) (step limit s c) (λ (t : TransferState). stays limit t x y)

-- a body that is whole
pub stays-whole : StaysWhole
unfolding body_at
stays-whole limit x y body rest e =
    subst (λ (d : BodyCut). Stays y d.bytes d.end (cut_from limit (SizeLine 0 []) (x ++ y))) e (stays limit (SizeLine 0 []) x y)

-- a body that has a fault
pub stays-faulty : StaysFaulty
unfolding body_at
stays-faulty limit status x y body e =
    subst (λ (d : BodyCut). Stays y d.bytes d.end (cut_from limit (SizeLine 0 []) (x ++ y))) e (stays limit (SizeLine 0 []) x y)

-- a body without chunks
pub sized-front : SizedIsTheFront
unfolding body_at
sized-front limit n x h =
    ap (cut_from limit (Left n)) (sym (take-append-drop n x))
    ∙ left-run limit 0 n (take n x) (drop n x) (omega (arith, length-take n x))
    ∙ ap (λ (b : List ℕ). record { bytes = b; end = Whole (drop n x) }) (append-nil (take n x))
