-- What is noted of the terms of a list, while the dictionary grows and more numbers are known.
use Rattle.std.proofs.Common.{◌≡◌, ◌≤◌, ◌<◌, ℕ, zero, suc, true, false, List, [], ◌∷◌, length, set, replicate, true≢false, Result, Ok, refl, inl, inr, sym, ap, subst, ◌∙◌, arith, length-set, get_or-set_same, get_or-set_other}
use Rattle.std.proofs.lemmas.Bool.{cases_eq}
use Rattle.std.proofs.lemmas.List.{length-replicate}
use Rattle.std.proofs.lemmas.List.Elements.{All-replicate}
use Rattle.std.specs.List.{All}
use Rattle.gs_model.specs.Terms.{Term}
use Rattle.gs_model.specs.declared.refusals.Refusal.{Refusal}
use Rattle.gs_dict.specs.declared.numbers.TermId.{TermId}
use Rattle.gs_dict.specs.Numbering.{Terms, Numbered, IsNumberOf, Interns}
use Rattle.gs_dict.proofs.NumberLemmas.{interns_number}
use Rattle.gs_triple_lists.specs.Kept.{term_of_number}
use Rattle.gs_staging.specs.declared.keys.Noted.{Noted}
use Rattle.gs_staging.specs.Keys.{Grows}
use Rattle.gs_staging.specs.Noted.{noted_at, IsGuess, AreGuesses, AreNoted}
use Rattle.gs_staging.proofs.KeyLemmas.{interned_grows}

-- among guesses no number is known
guess_at : (ns : List Noted) (n : ℕ) → All IsGuess ns → IsGuess (noted_at ns n)
guess_at [] n h = refl
guess_at (x ∷ ns) zero h = h 0 x (omega arith)
guess_at (x ∷ ns) (suc n) h = guess_at ns n (λ k d low. h (suc k) d (omega arith))

-- so nothing false is noted
guesses_noted : (given : Terms) (terms : List Term) (ns : List Noted) → length terms ≤ length ns → All IsGuess ns → AreNoted given terms ns
guesses_noted given terms ns places h = record { places = places; known = λ n e. absurd (true≢false (sym e ∙ guess_at ns n h)) }

-- nor where all are one guess
pub one_guess_noted : (given : Terms) (terms : List Term) (n : ℕ) (x : Noted) → length terms ≤ n → IsGuess x → AreNoted given terms (replicate n x)
one_guess_noted given terms n x places h = guesses_noted given terms (replicate n x) (omega (arith, places, length-replicate n x)) (All-replicate IsGuess n x h)

-- nor where there is a guess for each term
pub all_guesses_noted : (given : Terms) (terms : List Term) (ns : List Noted) → AreGuesses (length terms) ns → AreNoted given terms ns
all_guesses_noted given terms ns h = guesses_noted given terms ns (omega (arith, h.count)) h.all

-- numbers that are known stay so while the dictionary grows
pub noted_kept : (d e : Numbered) (terms : List Term) (ns : List Noted) → Grows d e → AreNoted d.terms terms ns → AreNoted e.terms terms ns
noted_kept d e terms ns g h = record { places = h.places; known = λ n is. g.terms (noted_at ns n).id.number (term_of_number terms n) (h.known n is) }

-- one number more is known
noted_more : (given : Terms) (terms : List Term) (ns : List Noted) (n : ℕ) (id : TermId) → n < length ns → AreNoted given terms ns → IsNumberOf given id.number (term_of_number terms n) → AreNoted given terms (set ns n (record { id = id; is_known = true }))
noted_more given terms ns n id low h is =
    let x : Noted = record { id = id; is_known = true } in
    let d : Noted = record { id = record { number = 0 }; is_known = false } in
    record {
      places = omega (arith, h.places, length-set ns n x);
      known = λ k was. elim (cases_eq k n) [
        | inl same ↦ subst (λ (y : Noted). IsNumberOf given y.id.number (term_of_number terms k)) (sym (ap (λ j. noted_at (set ns n x) j) same ∙ get_or-set_same ns n x d low)) (subst (λ j. IsNumberOf given id.number (term_of_number terms j)) (sym same) is)
        | inr other ↦
            let e : noted_at (set ns n x) k ≡ noted_at ns k = get_or-set_other ns n k x d other in
            subst (λ (y : Noted). IsNumberOf given y.id.number (term_of_number terms k)) (sym e) (h.known k (sym (ap (λ (y : Noted). y.is_known) e) ∙ was))
      ];
    }

-- whatever the dictionary answers for a term, what is noted stays so
pub noted_still : (d e : Numbered) (t : Term) (r : Result TermId Refusal) (terms : List Term) (ns : List Noted) → Interns d t r e → AreNoted d.terms terms ns → AreNoted e.terms terms ns
noted_still d e t r terms ns h = noted_kept d e terms ns (interned_grows d t r e h)

-- a number that the dictionary gave is known from then on
pub noted_given : (d e : Numbered) (terms : List Term) (ns : List Noted) (n : ℕ) (id : TermId) → n < length terms → AreNoted d.terms terms ns → Interns d (term_of_number terms n) (Ok id) e → AreNoted e.terms terms (set ns n (record { id = id; is_known = true }))
noted_given d e terms ns n id low h given =
    let t = term_of_number terms n in
    noted_more e.terms terms ns n id (omega (arith, h.places)) (noted_kept d e terms ns (interned_grows d t (Ok id) e given) h) (interns_number d e t id given)
