-- A target has no space, so what stands after the first space of a text is its condition.
use Rattle.std.proofs.Common.{◌≡◌, ℕ, cond, List, [], ◌∷◌, ◌++◌, refl, sym, ap, ◌∙◌, subst, Option, Some, None}
use Rattle.std.specs.Prelude.{codes}
use Rattle.gs_model.specs.Texts.{split_first}
use Rattle.gs_model.proofs.TextLemmas.{AllOther, split_first-other}
use Rattle.gs_model.proofs.LineLemmas.{absolute_others, other-append}
use Rattle.gs_term.specs.declared.names.Target.{Target}
use Rattle.gs_term.specs.declared.names.Target.TheVariants.{Default, Named}
use Rattle.gs_commands.specs.Found.{SaysNumber, last_u64}
use Rattle.gs_commands.specs.Targets.{SaysTarget, SaysCondition, SaysTargetSince}
use Rattle.gs_commands.proofs.CommandLemmas.{split_first-some}

-- a target has no space
target_others : (t : Target) (x : List ℕ) → SaysTarget t x → AllOther 32 x
target_others Default x says =
    let P : List ℕ → Type 0 = λ y. AllOther 32 y in
    subst P (sym says) (refl, (refl, (refl, (refl, (refl, (refl, (refl, tt)))))))
target_others (Named name) x says =
    let P : List ℕ → Type 0 = λ y. AllOther 32 y in
    let inside : AllOther 32 name = absolute_others 32 refl refl refl refl name says.1.absolute in
    subst P (sym says.0) (refl, other-append 32 name (62 ∷ []) inside (refl, tt))

-- where the byte does not stand, nothing stands after it
split_first-none : (at : ℕ) (x : List ℕ) → AllOther at x → (split_first at x).1 ≡ []
split_first-none at [] h = refl
split_first-none at (c ∷ cs) h =
    ap (λ b. let p : List ℕ × List ℕ = cond b ([], cs) (c ∷ (split_first at cs).0, (split_first at cs).1) in p.1) h.0 ∙ split_first-none at cs h.1

-- the cut of a target and its condition
condition_cut : (x : List ℕ) (t : Target) (n : ℕ) (says : SaysCondition t n x) → split_first 32 x ≡ (says.target, codes "since " ++ says.digits)
condition_cut x t n says = ap (split_first 32) says.parts ∙ split_first-other 32 says.target (codes "since " ++ says.digits) (target_others t says.target says.says)

-- where nothing stands after a space, a text that is no target says nothing
pub plain_none : (x rest : List ℕ) → rest ≡ (split_first 32 x).1 → rest ≡ [] → ((t : Target) → ¬ SaysTarget t x) → (t : Target) (since : Option ℕ) → ¬ SaysTargetSince t since x
plain_none x rest after empty none t None says = none t says
plain_none x rest after empty none t (Some n) says =
    let e : [] ≡ codes "since " ++ says.digits = sym empty ∙ after ∙ ap (λ p. p.1) (condition_cut x t n says) in cc

-- what stands after a space is no condition
pub other_none : (x rest : List ℕ) → rest ≡ (split_first 32 x).1 → ¬ (rest ≡ []) → ((digits : List ℕ) → ¬ (rest ≡ codes "since " ++ digits)) → (t : Target) (since : Option ℕ) → ¬ SaysTargetSince t since x
other_none x rest after some none t None says = some (after ∙ split_first-none 32 x (target_others t x says))
other_none x rest after some none t (Some n) says = none says.digits (after ∙ ap (λ p. p.1) (condition_cut x t n says))

since_some : (digits : List ℕ) → ¬ (codes "since " ++ digits ≡ [])
since_some digits e = cc

tail_since : (digits other : List ℕ) → codes "since " ++ digits ≡ codes "since " ++ other → digits ≡ other
tail_since digits other e = cc

-- what stands after the words of a condition is no number
pub number_none : (x rest digits : List ℕ) → rest ≡ (split_first 32 x).1 → rest ≡ codes "since " ++ digits → ((n : ℕ) → ¬ SaysNumber last_u64 n digits) → (t : Target) (since : Option ℕ) → ¬ SaysTargetSince t since x
number_none x rest digits after word none t None says = since_some digits (sym word ∙ after ∙ split_first-none 32 x (target_others t x says))
number_none x rest digits after word none t (Some n) says =
    let same : says.digits ≡ digits = sym (tail_since digits says.digits (sym word ∙ after ∙ ap (λ p. p.1) (condition_cut x t n says))) in
    let P : List ℕ → Type 0 = λ y. SaysNumber last_u64 n y in
    none n (subst P same says.number)

-- what stands before a condition is no target
pub front_none : (x front rest digits : List ℕ) → front ≡ (split_first 32 x).0 → rest ≡ (split_first 32 x).1 → rest ≡ codes "since " ++ digits → ((t : Target) → ¬ SaysTarget t front) → (t : Target) (since : Option ℕ) → ¬ SaysTargetSince t since x
front_none x front rest digits before after word none t None says = since_some digits (sym word ∙ after ∙ split_first-none 32 x (target_others t x says))
front_none x front rest digits before after word none t (Some n) says =
    let P : List ℕ → Type 0 = λ y. SaysTarget t y in
    none t (subst P (sym (before ∙ ap (λ p. p.0) (condition_cut x t n says))) says.says)

-- a target, a condition and its number
pub condition_says : (x front rest digits : List ℕ) (t : Target) (n : ℕ) → front ≡ (split_first 32 x).0 → rest ≡ (split_first 32 x).1 → rest ≡ codes "since " ++ digits → SaysTarget t front → SaysNumber last_u64 n digits → SaysCondition t n x
condition_says x front rest digits t n before after word says number =
    let some : ¬ ((split_first 32 x).1 ≡ []) = λ h. since_some digits (sym word ∙ after ∙ h) in
    record {
      target = front;
      digits = digits;
      parts = split_first-some 32 x some ∙ ap (λ z. z ++ 32 ∷ (split_first 32 x).1) (sym before) ∙ ap (λ z. front ++ 32 ∷ z) (sym after ∙ word);
      says = says;
      number = number;
    }
