-- What was fed to each seat, while the texts and the requests change.
use Rattle.std.proofs.Common.{◌≡◌, ◌≢◌, ◌<◌, ℕ, zero, suc, true, false, cond, nat_eq, List, [], ◌∷◌, length, Option, Some, None, MatchOption, option_map, replicate, refl, sym, ap, ◌∙◌, subst}
use Rattle.std.specs.List.{slice_get, slice_set}
use Rattle.std.proofs.lemmas.Bool.{eqb-true, eq-eqb}
use Rattle.std.proofs.lemmas.List.{length-set}
use Rattle.std.proofs.lemmas.Option.{slice_get-get_or}
use Rattle.gs_model.specs.Triples.{RdfTriple}
use Rattle.gs_feeding.specs.declared.texts.SeatText.{SeatText}
use Rattle.gs_feeding.specs.declared.texts.SeatText.TheVariants as seat_text
use Rattle.gs_drill.specs.Feeds.{with_fed}
use Rattle.gs_drill.specs.Standing.{AreFed}
use Rattle.gs_feeding.specs.Receiving.{Fed, Unfed, Receives, Closes}
use Rattle.gs_feeding.specs.SeatTexts.{WasFed, FeedsText, EndsText}
use Rattle.gs_upload.specs.Languages.{TextContext}

-- a list changed at one place
pub set_own : {X : Type 0} (xs : List X) (s : ℕ) (x : X) → slice_get (slice_set xs s x) s ≡ option_map (λ _. x) (slice_get xs s)
set_own [] s x = refl
set_own (y ∷ ys) zero x = refl
set_own (y ∷ ys) (suc s) x = set_own ys s x

pub set_other : {X : Type 0} (xs : List X) (s n : ℕ) (x : X) → n ≢ s → slice_get (slice_set xs s x) n ≡ slice_get xs n
set_other [] s n x ne = refl
set_other (y ∷ ys) zero zero x ne = absurd (ne refl)
set_other (y ∷ ys) zero (suc n) x ne = refl
set_other (y ∷ ys) (suc s) zero x ne = refl
set_other (y ∷ ys) (suc s) (suc n) x ne = set_other ys s n x (λ e. ne (ap suc e))

-- written back, an element changes nothing
pub set_same : {X : Type 0} (xs : List X) (s : ℕ) (x : X) → slice_get xs s ≡ Some x → slice_set xs s x ≡ xs
set_same [] s x is = refl
set_same (y ∷ ys) zero x is = let same : y ≡ x = cc in ap (λ z. z ∷ ys) (sym same)
set_same (y ∷ ys) (suc s) x is = ap (λ z. y ∷ z) (set_same ys s x is)

-- the later of two writes at one place stays
pub set_twice : {X : Type 0} (xs : List X) (s : ℕ) (x y : X) → slice_set (slice_set xs s x) s y ≡ slice_set xs s y
set_twice [] s x y = refl
set_twice (z ∷ zs) zero x y = refl
set_twice (z ∷ zs) (suc s) x y = ap (λ w. z ∷ w) (set_twice zs s x y)

own_fed : (o : Option SeatText) (b : SeatText) (f : Fed) → MatchOption o (f ≡ Unfed) (λ _. WasFed b f) → MatchOption (option_map (λ _. b) o) (f ≡ Unfed) (λ c. WasFed c f)
own_fed None b f h = h
own_fed (Some c) b f h = h

-- this was fed to one seat
pub AreFed-set : (bs : List SeatText) (s : ℕ) (b : SeatText) (fed : ℕ → Fed) (f : Fed) → AreFed bs fed → MatchOption (slice_get bs s) (f ≡ Unfed) (λ _. WasFed b f) → AreFed (slice_set bs s b) (with_fed fed s f)
AreFed-set bs s b fed f all own n =
    elim (nat_eq n s) as (λ v. nat_eq n s ≡ v → MatchOption (slice_get (slice_set bs s b) n) (cond v f (fed n) ≡ Unfed) (λ c. WasFed c (cond v f (fed n)))) [
      | true ↦ λ e.
          let same : n ≡ s = eqb-true n s e in
          let P : Option SeatText → Type 0 = λ o. MatchOption o (f ≡ Unfed) (λ c. WasFed c f) in
          subst P (sym (set_own bs s b) ∙ ap (slice_get (slice_set bs s b)) (sym same)) (own_fed (slice_get bs s) b f own)
      | false ↦ λ e.
          let apart : n ≢ s = λ same. (let clash : true ≡ false = sym (eq-eqb n s same) ∙ e in cc) in
          let P : Option SeatText → Type 0 = λ o. MatchOption o (fed n ≡ Unfed) (λ c. WasFed c (fed n)) in
          subst P (sym (set_other bs s n b apart)) (all n)
    ] refl

unfed_own : (o : Option SeatText) → MatchOption o (Unfed ≡ Unfed) (λ _. WasFed seat_text.Unfed Unfed)
unfed_own None = refl
unfed_own (Some c) = tt

-- nothing is fed to a seat at which an upload begins or ends
pub AreFed-unfed : (bs : List SeatText) (s : ℕ) (fed : ℕ → Fed) → AreFed bs fed → AreFed (slice_set bs s seat_text.Unfed) (with_fed fed s Unfed)
AreFed-unfed bs s fed all = AreFed-set bs s seat_text.Unfed fed Unfed all (unfed_own (slice_get bs s))

-- seats without an upload
pub AreFed-none : (n : ℕ) → AreFed (replicate n seat_text.Unfed) (λ _. Unfed)
AreFed-none zero s = refl
AreFed-none (suc n) zero = tt
AreFed-none (suc n) (suc s) = AreFed-none n s

taken_at : (o : Option SeatText) (b : SeatText) (f : Fed) → MatchOption o (f ≡ Unfed) (λ c. WasFed c f) → MatchOption o (b ≡ seat_text.Unfed) (λ c. b ≡ c) → WasFed b f
taken_at None b f h is = let P : Fed → Type 0 = λ z. WasFed b z in subst P (sym h) (let Q : SeatText → Type 0 = λ z. WasFed z Unfed in subst Q (sym is) tt)
taken_at (Some c) b f h is = let Q : SeatText → Type 0 = λ z. WasFed z f in subst Q (sym is) h

there : (o : Option SeatText) (x b : SeatText) (f : Fed) → o ≡ Some x → WasFed b f → MatchOption o (f ≡ Unfed) (λ _. WasFed b f)
there o x b f is h = let P : Option SeatText → Type 0 = λ z. MatchOption z (f ≡ Unfed) (λ _. WasFed b f) in subst P (sym is) h

-- the text of a seat is taken, fed and put back
pub text_fed : (n : ℕ) (old mid new : List SeatText) (s : ℕ) (b c : SeatText) (k : TextContext) (y : List ℕ) (given : List RdfTriple) → MatchOption (slice_get old s) (b ≡ seat_text.Unfed) (λ x. b ≡ x) → mid ≡ slice_set old s seat_text.Unfed
    → FeedsText n k b y given c → new ≡ slice_set mid s c
    → (fed : ℕ → Fed) → AreFed old fed → s < length old → (f : Fed) × AreFed new (with_fed fed s f) × Receives n k (fed s) y given f
text_fed n old mid new s b c k y given taken first feeds then fed all room =
    let g = feeds (fed s) (taken_at (slice_get old s) b (fed s) (all s) taken) in
    let own = there (slice_get old s) _ c g.0 (slice_get-get_or old s seat_text.Unfed room) g.1 in
    let P : List SeatText → Type 0 = λ z. AreFed z (with_fed fed s g.0) in
    (g.0, subst P (sym (then ∙ ap (λ z. slice_set z s c) first ∙ set_twice old s seat_text.Unfed c)) (AreFed-set old s c fed g.0 all own), g.2)

closes_unfed : (given : Option (List RdfTriple)) (f g : Fed) → f ≡ Unfed → Closes f given g → g ≡ Unfed
closes_unfed None f g is h = let P : Fed → Type 0 = λ z. Closes z None g in absurd (subst P is h)
closes_unfed (Some ts) f g is h = let P : Fed → Type 0 = λ z. Closes z (Some ts) g in (subst P is h).1

closed_own : (o : Option SeatText) (c : SeatText) (f g : Fed) (given : Option (List RdfTriple)) → MatchOption o (f ≡ Unfed) (λ x. WasFed x f) → WasFed c g → Closes f given g → MatchOption o (g ≡ Unfed) (λ _. WasFed c g)
closed_own None c f g given h is ends = closes_unfed given f g h ends
closed_own (Some x) c f g given h is ends = is

-- the text of a seat is taken, ended and put back
pub text_ended : (old mid new : List SeatText) (s : ℕ) (b c : SeatText) (given : Option (List RdfTriple)) → MatchOption (slice_get old s) (b ≡ seat_text.Unfed) (λ x. b ≡ x) → mid ≡ slice_set old s seat_text.Unfed
    → EndsText b given c → new ≡ slice_set mid s c
    → (fed : ℕ → Fed) → AreFed old fed → (f : Fed) × AreFed new (with_fed fed s f) × Closes (fed s) given f
text_ended old mid new s b c given taken first ends then fed all =
    let g = ends (fed s) (taken_at (slice_get old s) b (fed s) (all s) taken) in
    let own = closed_own (slice_get old s) c (fed s) g.0 given (all s) g.1 g.2 in
    let P : List SeatText → Type 0 = λ z. AreFed z (with_fed fed s g.0) in
    (g.0, subst P (sym (then ∙ ap (λ z. slice_set z s c) first ∙ set_twice old s seat_text.Unfed c)) (AreFed-set old s c fed g.0 all own), g.2)

pub same_length : (old mid new : List SeatText) (s : ℕ) (c : SeatText) → mid ≡ slice_set old s seat_text.Unfed → new ≡ slice_set mid s c → length new ≡ length old
same_length old mid new s c first then = ap length then ∙ length-set mid s c ∙ ap length first ∙ length-set old s seat_text.Unfed
