-- A seat's line and a store's line have one reading.
use Rattle.std.proofs.Common.{◌≡◌, ℕ, ◌≤◌, true, false, cond, ◌==◌, List, [], ◌∷◌, ◌++◌, refl, sym, ap, ◌∙◌, subst, append_assoc, arith, Option, Some, None, ◌⊎◌, inl, inr}
use Rattle.std.proofs.lemmas.Bool.{eqb-true}
use Rattle.gs_model.specs.Limits.{last_number, max_seats}
use Rattle.gs_model.specs.Terms.{numeral}
use Rattle.gs_model.specs.Texts.{split_first, number_of}
use Rattle.gs_model.proofs.TextLemmas.{number_of-numeral, split_first-other, other-numeral}
use Rattle.gs_event.specs.declared.events.Action.{Action}
use Rattle.gs_event.specs.declared.events.Action.TheVariants.{Open, OpenPatch, Stage, Commit, CommitPatch, Delete, Head, Pin, Piece, Cancel}
use Rattle.gs_commands.specs.Found.{Finds, SaysNumber, SaysAfter}
use Rattle.gs_commands.specs.Commands.{SaysAction, SaysStart}

-- what is found is said, and where nothing is found nothing is said
pub found_says : {X : Type 0} (Says : X → List ℕ → Type 0) (text : List ℕ) (found : Option X) → Finds Says text found → (x : X) → found ≡ Some x → Says x text
found_says Says text found finds x is = let P : Option _ → Type 0 = λ f. Finds Says text f in subst P is finds

pub found_none : {X : Type 0} (Says : X → List ℕ → Type 0) (text : List ℕ) (found : Option X) → Finds Says text found → found ≡ None → (x : X) → ¬ Says x text
found_none Says text found finds is = let P : Option _ → Type 0 = λ f. Finds Says text f in subst P is finds

-- where something stands after the first of these, the text is cut there
pub split_first-some : (at : ℕ) (x : List ℕ) → ¬ ((split_first at x).1 ≡ []) → x ≡ (split_first at x).0 ++ at ∷ (split_first at x).1
split_first-some at [] some = absurd (some refl)
split_first-some at (c ∷ cs) some =
    elim (c == at) as (λ b. (c == at) ≡ b → let p : List ℕ × List ℕ = cond b ([], cs) (c ∷ (split_first at cs).0, (split_first at cs).1) in ¬ (p.1 ≡ []) → c ∷ cs ≡ p.0 ++ at ∷ p.1) [
      | true ↦ λ e k. ap (λ z. z ∷ cs) (eqb-true c at e)
      | false ↦ λ e k. ap (λ z. c ∷ z) (split_first-some at cs k)
    ] refl some

zero_some : ◌≡◌ {A = List ℕ} (48 ∷ []) [] → ⊥
zero_some h = cc

pub numeral_some : (n : ℕ) → ¬ (numeral n ≡ [])
unfolding numeral
numeral_some n h =
    let zero : n ≡ 0 = sym (number_of-numeral n) ∙ ap number_of h in
    zero_some (sym (ap numeral zero) ∙ h)

action_some : (a : Action) (x : List ℕ) → SaysAction a x → ¬ (x ≡ [])
action_some (Open k since) x says h = let e = says.parts in cc
action_some (OpenPatch t since) x says h = let e = says.parts in cc
action_some (Stage ts) x says h = let e = says.parts in cc
action_some Commit x says h = cc
action_some (CommitPatch ops) x says h = says
action_some (Delete t since) x says h = let e = says.parts in cc
action_some (Head c) x says h = let e = says.parts in cc
action_some (Pin c) x says h = let e = says.parts in cc
action_some (Piece n) x says h = let e = says.parts in cc
action_some Cancel x says h = cc

pub seat_says : (x word rest : List ℕ) (s : ℕ) (a : Action) → word ≡ (split_first 32 x).0 → rest ≡ (split_first 32 x).1 → word ≡ numeral s → SaysAction a rest → SaysAfter (numeral s ++ 32 ∷ []) (SaysAction a) x
seat_says x word rest s a before after seat says =
    let P : List ℕ → Type 0 = λ y. SaysAction a y in
    let cut = split_first-some 32 x (action_some a (split_first 32 x).1 (subst P after says)) in
    record {
      rest = rest;
      parts = cut ∙ ap (λ z. z ++ 32 ∷ (split_first 32 x).1) (sym before ∙ seat) ∙ ap (λ z. numeral s ++ 32 ∷ z) (sym after) ∙ sym (append_assoc (numeral s) (32 ∷ []) rest);
      says = says;
    }

-- a number, a space, and the rest
pub number_cut : (x rest : List ℕ) (n : ℕ) → x ≡ numeral n ++ 32 ∷ rest → split_first 32 x ≡ (numeral n, rest)
number_cut x rest n parts = ap (split_first 32) parts ∙ split_first-other 32 (numeral n) rest (other-numeral 32 refl n)

pub seat_cut : (x : List ℕ) (s : ℕ) (a : Action) (b : SaysAfter (numeral s ++ 32 ∷ []) (SaysAction a) x) → split_first 32 x ≡ (numeral s, b.rest)
seat_cut x s a b = number_cut x b.rest s (b.parts ∙ append_assoc (numeral s) (32 ∷ []) b.rest)

pub seat_word_none : (x word : List ℕ) → word ≡ (split_first 32 x).0 → ((n : ℕ) → ¬ SaysNumber 65535 n word) → (s : ℕ) (a : Action) → (s ≤ 65535) × SaysAfter (numeral s ++ 32 ∷ []) (SaysAction a) x → ⊥
seat_word_none x word before none s a says = none s (before ∙ ap (λ p. p.0) (seat_cut x s a says.1), says.0)

pub seat_action_none : (x rest : List ℕ) → rest ≡ (split_first 32 x).1 → ((a : Action) → ¬ SaysAction a rest) → (s : ℕ) (a : Action) → (s ≤ 65535) × SaysAfter (numeral s ++ 32 ∷ []) (SaysAction a) x → ⊥
seat_action_none x rest after none s a says =
    let P : List ℕ → Type 0 = λ y. SaysAction a y in
    let same : says.1.rest ≡ rest = sym (after ∙ ap (λ p. p.1) (seat_cut x s a says.1)) in
    none a (subst P same says.1.says)

no_end : (x y : List ℕ) → x ++ 32 ∷ y ≡ [] → ⊥
no_end [] y h = cc
no_end (c ∷ cs) y h = cc

-- the three numbers of a store's line
pub record IsCut (x seats rest commit request : List ℕ) : Type 0 where
  pub seats_is : seats ≡ (split_first 32 x).0
  pub rest_is : rest ≡ (split_first 32 x).1
  pub commit_is : commit ≡ (split_first 32 rest).0
  pub request_is : request ≡ (split_first 32 rest).1

pub start_says : (x seats rest commit request : List ℕ) (a b c : ℕ) → IsCut x seats rest commit request → SaysNumber max_seats a seats → SaysNumber last_number b commit → SaysNumber last_number c request → ¬ (a ≡ 0) → SaysStart a b c x
start_says x seats rest commit request a b c cut p q r some =
    let filled : ¬ ((split_first 32 rest).1 ≡ []) = λ h. numeral_some c (sym r.0 ∙ cut.request_is ∙ h) in
    let second : rest ≡ numeral b ++ 32 ∷ numeral c = split_first-some 32 rest filled ∙ ap (λ z. z ++ 32 ∷ (split_first 32 rest).1) (sym cut.commit_is ∙ q.0) ∙ ap (λ z. numeral b ++ 32 ∷ z) (sym cut.request_is ∙ r.0) in
    let more : ¬ ((split_first 32 x).1 ≡ []) = λ h. let e : numeral b ++ 32 ∷ numeral c ≡ [] = sym second ∙ cut.rest_is ∙ h in no_end (numeral b) (numeral c) e in
    record {
      parts = split_first-some 32 x more ∙ ap (λ z. z ++ 32 ∷ (split_first 32 x).1) (sym cut.seats_is ∙ p.0) ∙ ap (λ z. numeral a ++ 32 ∷ z) (sym cut.rest_is ∙ second);
      some = omega (arith, some);
      most = p.1;
      commit_left = q.1;
      request_left = r.1;
    }

pub start_cut : (x seats rest commit request : List ℕ) → IsCut x seats rest commit request → (a b c : ℕ) → SaysStart a b c x → (seats ≡ numeral a) × (commit ≡ numeral b) × (request ≡ numeral c)
start_cut x seats rest commit request cut a b c says =
    let first : split_first 32 x ≡ (numeral a, numeral b ++ 32 ∷ numeral c) = number_cut x (numeral b ++ 32 ∷ numeral c) a says.parts in
    let second : split_first 32 rest ≡ (numeral b, numeral c) = number_cut rest (numeral c) b (cut.rest_is ∙ ap (λ p. p.1) first) in
    (cut.seats_is ∙ ap (λ p. p.0) first, cut.commit_is ∙ ap (λ p. p.0) second, cut.request_is ∙ ap (λ p. p.1) second)

-- each number of the line
pub start_none : (x seats rest commit request : List ℕ) → IsCut x seats rest commit request
    → (((n : ℕ) → ¬ SaysNumber max_seats n seats) ⊎ (((n : ℕ) → ¬ SaysNumber last_number n commit) ⊎ ((n : ℕ) → ¬ SaysNumber last_number n request)))
    → (p : ℕ × ℕ × ℕ) → ¬ SaysStart p.0 p.1 p.2 x
start_none x seats rest commit request cut (inl none) p says = none p.0 ((start_cut x seats rest commit request cut p.0 p.1 p.2 says).0, says.most)
start_none x seats rest commit request cut (inr (inl none)) p says = none p.1 ((start_cut x seats rest commit request cut p.0 p.1 p.2 says).1, says.commit_left)
start_none x seats rest commit request cut (inr (inr none)) p says = none p.2 ((start_cut x seats rest commit request cut p.0 p.1 p.2 says).2, says.request_left)

-- a store has a seat
pub start_zero : (x seats rest commit request : List ℕ) (n : ℕ) → IsCut x seats rest commit request → seats ≡ numeral n → n ≡ 0 → (p : ℕ × ℕ × ℕ) → ¬ SaysStart p.0 p.1 p.2 x
start_zero x seats rest commit request n cut is zero p says =
    let same : n ≡ p.0 = sym (number_of-numeral n) ∙ ap number_of (sym is ∙ (start_cut x seats rest commit request cut p.0 p.1 p.2 says).0) ∙ number_of-numeral p.0 in
    let some : 1 ≤ p.0 = says.some in omega arith
