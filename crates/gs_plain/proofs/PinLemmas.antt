-- The pins of a plain store's seats, after an event.
use Rattle.std.proofs.Common.{◌≡◌, ℕ, zero, suc, ◌+◌, ◌<◌, List, [], ◌∷◌, map, length, get_or, replicate, Option, None, refl, sym, ap, ◌∙◌, arith}
use Rattle.std.specs.List.{slice_set, range_with_len}
use Rattle.std.proofs.lemmas.List.{map-set, set-get_or}
use Rattle.gs_model.specs.declared.refusals.Refusal.TheVariants.{BadSeat}
use Rattle.gs_event.specs.declared.events.Action.{Action}
use Rattle.gs_event.specs.declared.events.Event.TheVariants.{Seat as At}
use Rattle.gs_event.specs.declared.answers.Answer.{Answer}
use Rattle.gs_event.specs.declared.answers.Answer.TheVariants.{Refused}
use Rattle.gs_event.specs.Waste.{Shown}
use Rattle.gs_event.specs.Steps.{pin_after, next_pinned}
use Rattle.gs_event.specs.Histories.{Start, pinned_of}
use Rattle.gs_event.proofs.PinLemmas.{refused_pin}
use Rattle.gs_plain.specs.declared.books.Seat.{Seat}
use Rattle.gs_plain.specs.declared.books.Seat.TheVariants.{Idle}
use Rattle.gs_plain.specs.declared.stores.PlainStore.TheInside.{Inside}
use Rattle.gs_plain.specs.Books.{seat_pin}
use Rattle.gs_plain.specs.Kept.{shown_of}

abbrev no_pin : ℕ → Option ℕ
no_pin s = None

idle_pins : (a n : ℕ) → map seat_pin (replicate n Idle) ≡ map no_pin (range_with_len a n)
idle_pins a zero = refl
idle_pins a (suc n) = ap (λ ps. None ∷ ps) (idle_pins (a + 1) n)

-- idle seats have no pins
pub fresh_pins : (start : Start) (seats : List Seat) → seats ≡ replicate start.seats Idle → map seat_pin seats ≡ pinned_of start []
fresh_pins start seats idle = ap (map seat_pin) idle ∙ idle_pins 0 start.seats

-- the pin of the seat at a place
pin_there : (seats : List Seat) (i : ℕ) (was : Seat) → i < length seats → was ≡ get_or seats i was → get_or (map seat_pin seats) i None ≡ seat_pin was
pin_there [] i was within is = absurd (omega arith)
pin_there (s ∷ seats) zero was within is = sym (ap seat_pin is)
pin_there (s ∷ seats) (suc i) was within is = pin_there seats i was (omega arith) is

-- after an action of a seat that there is
pub pins_after : (a : Inside) (s : Shown) (new : List Seat) (i : ℕ) (was now : Seat) (action : Action) (answer : Answer) → shown_of a ≡ s → i < length a.seats.items → was ≡ get_or a.seats.items i was → new ≡ slice_set a.seats.items i now → seat_pin now ≡ pin_after a.books.commit (seat_pin was) action answer
    → map seat_pin new ≡ next_pinned s (At i action) answer
pins_after a s new i was now action answer view within is seats pin =
    let there = ap (λ p. pin_after a.books.commit p action answer) (sym (pin_there a.seats.items i was within is)) in
    ap (map seat_pin) seats ∙ map-set seat_pin a.seats.items i now
    ∙ ap (slice_set (map seat_pin a.seats.items) i) (pin ∙ there)
    ∙ ap (λ (x : Shown). next_pinned x (At i action) answer) view

-- after an action of a seat that there is not
pub pins_kept : (s : Shown) (i : ℕ) (action : Action) → s.pinned ≡ next_pinned s (At i action) (Refused BadSeat)
pins_kept s i action =
    sym (set-get_or s.pinned i None)
    ∙ sym (ap (slice_set s.pinned i) (refused_pin s.view.totals.commit (get_or s.pinned i None) action BadSeat))
