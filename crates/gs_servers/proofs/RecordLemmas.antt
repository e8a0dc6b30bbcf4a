-- Seats of passes, and of the records that are left of them.
use Rattle.std.proofs.Common.{◌≡◌, ℕ, zero, suc, ◌+◌, List, [], ◌∷◌, ◌++◌, length, map, take, Some, refl, sym, ap, ◌∙◌, subst, arith, append-nil}
use Rattle.std.specs.List.{slice_get}
use Rattle.std.proofs.lemmas.List.{length-map, map-append}
use Rattle.gs_pass.specs.declared.records.Record.{Record}
use Rattle.gs_pass.specs.Tallies.{tally_of, IsFresh}
use Rattle.gs_talk.specs.Logs.{Server}
use Rattle.gs_shared.specs.Seats.{From}
use Rattle.gs_gates.specs.Records.{IsAsBefore, IsFreshAt}
use Rattle.gs_workers.specs.Served.{WasServed}
use Rattle.gs_workers.proofs.ServeLemmas.{serves_many_seat}

-- what holds of each holds of the last one
pub from_last : {X : Type 0} (P : ℕ → X → Type 0) (n : ℕ) (xs : List X) (x : X) → From P n (xs ++ x ∷ []) → P (n + length xs) x
from_last P n [] x h = let e : n ≡ n + 0 = omega arith in subst (λ k. P k x) e h.0
from_last P n (y ∷ xs) x h =
    let e : n + 1 + length xs ≡ n + suc (length xs) = omega arith in subst (λ k. P k x) e (from_last P (n + 1) xs x h.1)

-- the last of a list stands at the number of those before it
pub get_last : {X : Type 0} (xs : List X) (x : X) → slice_get (xs ++ x ∷ []) (length xs) ≡ Some x
get_last [] x = refl
get_last (y ∷ xs) x = get_last xs x

-- it holds of each before these
pub from_front : {X : Type 0} (P : ℕ → X → Type 0) (n : ℕ) (xs ys : List X) → From P n (xs ++ ys) → From P n xs
from_front P n [] ys h = tt
from_front P n (x ∷ xs) ys h = (h.0, from_front P (n + 1) xs ys h.1)

-- it holds of each and of one more
pub from_push : {X : Type 0} (P : ℕ → X → Type 0) (n : ℕ) (xs : List X) (x : X) → From P n xs → P (n + length xs) x → From P n (xs ++ x ∷ [])
from_push P n [] x h last = let e : n + 0 ≡ n = omega arith in (subst (λ k. P k x) e last, tt)
from_push P n (y ∷ xs) x h last =
    let e : n + suc (length xs) ≡ n + 1 + length xs = omega arith in (h.0, from_push P (n + 1) xs x h.1 (subst (λ k. P k x) e last))

-- it holds of what each becomes
pub from_map : {X Y : Type 0} (P : ℕ → Y → Type 0) (f : X → Y) (n : ℕ) (xs : List X) → From (λ k x. P k (f x)) n xs → From P n (map f xs)
from_map P f n [] h = tt
from_map P f n (x ∷ xs) h = (h.0, from_map P f (n + 1) xs h.1)

-- what a pass of a seat was told is told of that seat
served_seat : (p : Server) (seat : ℕ) (r : Record) → WasServed p seat r → r.seat ≡ seat
served_seat p seat r was = serves_many_seat p was.0.seat was.2.0 was.0 r was.2.1 ∙ was.1.0

pub from_seats : (p : Server) (n : ℕ) (records : List Record) → From (WasServed p) n records → From (λ seat (r : Record). r.seat ≡ seat) n records
from_seats p n [] h = tt
from_seats p n (r ∷ rs) h = (served_seat p n r h.0, from_seats p (n + 1) rs h.1)

-- the front of a list
pub take_front : {X : Type 0} (xs ys : List X) → take (length xs) (xs ++ ys) ≡ xs
take_front [] ys = refl
take_front (x ∷ xs) ys = ap (λ zs. x ∷ zs) (take_front xs ys)

-- the one after the others is the last
pub fresh_last : {X : Type 0} (record_of : X → Record) (before after : Record) (backs : List X) (back : X) (n : ℕ) (records : List Record)
    → record_of back ≡ after → IsAsBefore before after → IsFresh (tally_of before) → length backs ≡ n
    → records ≡ map record_of (backs ++ back ∷ []) → IsFreshAt n records
fresh_last record_of before after backs back n records is kept fresh many all r at =
    let here : slice_get records n ≡ Some (record_of back) =
    subst (λ k. slice_get records k ≡ Some (record_of back)) many
    (ap (λ rs. slice_get rs (length backs)) (all ∙ map-append record_of backs (back ∷ []))
    ∙ subst (λ k. slice_get (map record_of backs ++ record_of back ∷ []) k ≡ Some (record_of back)) (length-map backs record_of) (get_last (map record_of backs) (record_of back))) in
    let same : r ≡ record_of back = cc in
    let tally : tally_of r ≡ tally_of before = ap tally_of (same ∙ is) ∙ kept.1 in
    subst IsFresh (sym tally) fresh

-- where none is left, all of them came
pub all_came : {X : Type 0} (came rest all : List X) → length rest ≡ 0 → came ++ rest ≡ all → came ≡ all
all_came came [] all none whole = sym (append-nil came) ∙ whole
all_came came (x ∷ rest) all none whole = let no : ⊥ = omega (arith, none) in absurd no

-- one goes over from the rest
pub move_on : {X : Type 0} (xs : List X) (x : X) (ys : List X) → (xs ++ x ∷ []) ++ ys ≡ xs ++ x ∷ ys
move_on [] x ys = refl
move_on (y ∷ xs) x ys = λ i. y ∷ move_on xs x ys i
