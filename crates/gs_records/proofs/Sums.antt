-- Sums over records: waste, and how many are open or in use.
use Rattle.std.proofs.Common.{◌≡◌, ◌≢◌, ℕ, zero, suc, ◌+◌, Bool, true, false, cond, ◌&&◌, List, [], ◌∷◌, ◌++◌, count_by, Option, Some, None, is_none, true≢false, refl, sym, ap, ◌∙◌, inl, inr, arith}
use Rattle.std.specs.List.{sum_by}
use Rattle.std.proofs.lemmas.Bool.{cases_eq}
use Rattle.std.proofs.lemmas.List.Sums.{sum_by-cons, sum_by-append}
use Rattle.gs_term.specs.declared.names.Target.{Target}
use Rattle.gs_event.specs.Waste.{Lifetime}
use Rattle.gs_index.specs.declared.entries.Entry.{Entry}
use Rattle.gs_index.specs.Indexes.{with_death as died}
use Rattle.gs_records.specs.Records.{Record, free, opened, unused, kept, record_at, is_of, is_current, ended, Turns, Ends}
use Rattle.gs_records.specs.Waste.{lifetime_of, lifetimes, waste_in, is_opened, is_in_use}
use Rattle.gs_records.specs.Calls.{Gains, ending, endings, KeepsCounts, UsesOne}
use Rattle.gs_records.proofs.Lifetimes.{second_true}

-- where two functions agree at each number, and are 0 where it is free, so do their sums
pub sum_agrees : (g h : Record → ℕ) (xs ys : List Record) → g free ≡ 0 → h free ≡ 0 → ((m : ℕ) → g (record_at ys m) ≡ h (record_at xs m)) → sum_by g ys ≡ sum_by h xs
sum_agrees g h [] [] p q same = refl
sum_agrees g h [] (y ∷ ys) p q same = omega (arith, sum_by-cons g y ys, same 0, sum_agrees g h [] ys p q (λ m. same (suc m)))
sum_agrees g h (x ∷ xs) [] p q same = omega (arith, sum_by-cons h x xs, same 0, sum_agrees g h xs [] p q (λ m. same (suc m)))
sum_agrees g h (x ∷ xs) (y ∷ ys) p q same = omega (arith, sum_by-cons g y ys, sum_by-cons h x xs, same 0, sum_agrees g h xs ys p q (λ m. same (suc m)))

next_ne : (m n : ℕ) → m ≢ n → suc m ≢ suc n
next_ne m n ne e = ne (omega arith)

-- where one number stands for something else, the sum changes by the difference
pub sum_turned : (g : Record → ℕ) (n : ℕ) (xs ys : List Record) → g free ≡ 0 → ((m : ℕ) → m ≢ n → record_at ys m ≡ record_at xs m) → sum_by g ys + g (record_at xs n) ≡ sum_by g xs + g (record_at ys n)
sum_turned g n [] [] p same = refl
sum_turned g zero [] (y ∷ ys) p same = omega (arith, sum_by-cons g y ys, sum_agrees g g [] ys p p (λ m. ap g (same (suc m) (λ e. absurd (omega arith)))))
sum_turned g (suc n) [] (y ∷ ys) p same = omega (arith, sum_by-cons g y ys, ap g (same 0 (λ e. absurd (omega arith))), sum_turned g n [] ys p (λ m ne. same (suc m) (next_ne m n ne)))
sum_turned g zero (x ∷ xs) [] p same = omega (arith, sum_by-cons g x xs, sum_agrees g g xs [] p p (λ m. ap g (same (suc m) (λ e. absurd (omega arith)))))
sum_turned g (suc n) (x ∷ xs) [] p same = omega (arith, sum_by-cons g x xs, ap g (same 0 (λ e. absurd (omega arith))), sum_turned g n xs [] p (λ m ne. same (suc m) (next_ne m n ne)))
sum_turned g zero (x ∷ xs) (y ∷ ys) p same = omega (arith, sum_by-cons g x xs, sum_by-cons g y ys, sum_agrees g g xs ys p p (λ m. ap g (same (suc m) (λ e. absurd (omega arith)))))
sum_turned g (suc n) (x ∷ xs) (y ∷ ys) p same = omega (arith, sum_by-cons g x xs, sum_by-cons g y ys, ap g (same 0 (λ e. absurd (omega arith))), sum_turned g n xs ys p (λ m ne. same (suc m) (next_ne m n ne)))

-- what f makes of the waste of one record
abbrev pub wasted : (Lifetime → ℕ) → Record → ℕ
wasted f r = sum_by f (lifetimes r)

pub waste_is : (f : Lifetime → ℕ) (rs : List Record) → sum_by f (waste_in rs) ≡ sum_by (wasted f) rs
waste_is f [] = refl
waste_is f (r ∷ rs) = omega (arith, sum_by-append f (lifetimes r) (waste_in rs), sum_by-cons (wasted f) r rs, waste_is f rs)

abbrev pub ended_sum : (Lifetime → ℕ) → Target → ℕ → Record → ℕ
ended_sum f t death r = sum_by f (ending t death r)

endings_is : (f : Lifetime → ℕ) (t : Target) (death : ℕ) (rs : List Record) → sum_by f (endings t death rs) ≡ sum_by (ended_sum f t death) rs
endings_is f t death [] = refl
endings_is f t death (r ∷ rs) = omega (arith, sum_by-append f (ending t death r) (endings t death rs), sum_by-cons (ended_sum f t death) r rs, endings_is f t death rs)

sum_two : (g h : Record → ℕ) (rs : List Record) → sum_by (λ r. g r + h r) rs ≡ sum_by g rs + sum_by h rs
sum_two g h [] = refl
sum_two g h (r ∷ rs) = omega (arith, sum_by-cons (λ x. g x + h x) r rs, sum_by-cons g r rs, sum_by-cons h r rs, sum_two g h rs)

-- one more lifetime, or one fewer, where one number stands for something else
pub waste_turned : (old new : List Record) (n : ℕ) (r : Record) → Turns old new n r → (f : Lifetime → ℕ) → sum_by f (waste_in new) + sum_by f (lifetimes (record_at old n)) ≡ sum_by f (waste_in old) + sum_by f (lifetimes r)
waste_turned old new n r turn f = omega (arith, waste_is f old, waste_is f new, sum_turned (wasted f) n old new refl turn.others, ap (wasted f) turn.changed)

pub gains_turned : (old new : List Record) (n : ℕ) (r s : Record) → record_at old n ≡ s → lifetimes s ≡ [] → Turns old new n r → Gains (waste_in old) (waste_in new) (lifetimes r)
gains_turned old new n r s was none turn f = omega (arith, waste_turned old new n r turn f, ap (λ x. sum_by f (lifetimes x)) was, ap (sum_by f) none)

-- the lifetime of a record that ends
none_death : (birth : ℕ) (o : Option ℕ) → is_none o ≡ true → lifetime_of birth o ≡ []
none_death birth None e = refl
none_death birth (Some d) e = absurd (true≢false (sym e))

-- all that ends joins the waste
pub gains_ended : (old new : List Record) (t : Target) (death : ℕ) → Ends old new t death → Gains (waste_in old) (waste_in new) (endings t death old)
gains_ended old new t death is f =
    omega (
      arith,
      waste_is f old,
      waste_is f new,
      endings_is f t death old,
      sum_two (wasted f) (ended_sum f t death) old,
      sum_agrees (wasted f) (λ r. wasted f r + ended_sum f t death r) old new refl refl (λ m. ap (wasted f) (is m) ∙ one (record_at old m)),
    )
  where
    at : (e : Entry) (b : Bool) → (b ≡ true → is_current e ≡ true) → wasted f (kept (cond b (died e death) e)) ≡ wasted f (kept e) + sum_by f (cond b (record { birth = e.birth; death = death } ∷ []) [])
    at e true h = omega (arith, ap (sum_by f) (none_death e.birth e.death (h refl)))
    at e false h = omega arith

    one : (r : Record) → wasted f (ended t death r) ≡ wasted f r + ended_sum f t death r
    one free = refl
    one opened = refl
    one unused = omega arith
    one (kept e) = at e (is_of t e && is_current e) (λ h. second_true _ _ h)

-- where no number has another lifetime, the waste is the same
waste_agrees : (xs ys : List Record) → ((m : ℕ) → lifetimes (record_at ys m) ≡ lifetimes (record_at xs m)) → waste_in ys ≡ waste_in xs
waste_agrees [] [] same = refl
waste_agrees [] (y ∷ ys) same = ap (λ ls. ls ++ waste_in ys) (same 0) ∙ waste_agrees [] ys (λ m. same (suc m))
waste_agrees (x ∷ xs) [] same = waste_agrees xs [] (λ m. same (suc m)) ∙ ap (λ ls. ls ++ waste_in xs) (same 0)
waste_agrees (x ∷ xs) (y ∷ ys) same = λ i. same 0 i ++ waste_agrees xs ys (λ m. same (suc m)) i

-- nor is it another where one number has no lifetime, before and after
pub waste_same : (old new : List Record) (n : ℕ) (r s : Record) → record_at old n ≡ s → lifetimes s ≡ [] → lifetimes r ≡ [] → Turns old new n r → waste_in new ≡ waste_in old
waste_same old new n r s was before after turn = waste_agrees old new (λ m. elim (cases_eq m n) [
  | inl here ↦ ap (λ k. lifetimes (record_at new k)) here ∙ ap lifetimes turn.changed ∙ after ∙ sym before ∙ sym (ap lifetimes was) ∙ sym (ap (λ k. lifetimes (record_at old k)) here)
  | inr ne ↦ ap lifetimes (turn.others m ne)
])

-- how many pass a test that is false of what is free
pub count_turned : (test : Record → Bool) (old new : List Record) (n : ℕ) (r : Record) → test free ≡ false → Turns old new n r → count_by test new + cond {A = ℕ} (test (record_at old n)) 1 0 ≡ count_by test old + cond {A = ℕ} (test r) 1 0
count_turned test old new n r none turn = omega (arith, sum_turned (λ x. cond {A = ℕ} (test x) 1 0) n old new (ap (λ b. cond {A = ℕ} b 1 0) none) turn.others, ap (λ x. cond {A = ℕ} (test x) 1 0) turn.changed)

pub count_agrees : (test : Record → Bool) (old new : List Record) → test free ≡ false → ((m : ℕ) → test (record_at new m) ≡ test (record_at old m)) → count_by test new ≡ count_by test old
count_agrees test old new none same =
    let zero_free = ap (λ b. cond {A = ℕ} b 1 0) none in
    sum_agrees (λ x. cond {A = ℕ} (test x) 1 0) (λ x. cond {A = ℕ} (test x) 1 0) old new zero_free zero_free (λ m. ap (λ b. cond {A = ℕ} b 1 0) (same m))

-- a record that ends is in use still
pub counts_ended : (old new : List Record) (t : Target) (death : ℕ) → Ends old new t death → KeepsCounts old new
counts_ended old new t death is = record {
  used = count_agrees is_in_use old new refl (λ m. ap is_in_use (is m) ∙ used_still (record_at old m));
  opens = count_agrees is_opened old new refl (λ m. ap is_opened (is m) ∙ open_still (record_at old m));
}
  where
    used_still : (r : Record) → is_in_use (ended t death r) ≡ is_in_use r
    used_still free = refl
    used_still opened = refl
    used_still unused = refl
    used_still (kept e) = refl

    open_still : (r : Record) → is_opened (ended t death r) ≡ is_opened r
    open_still free = refl
    open_still opened = refl
    open_still unused = refl
    open_still (kept e) = refl

-- the number of an open record stands for something else that is in use
pub uses_one : (old new : List Record) (n : ℕ) (r : Record) → record_at old n ≡ opened → is_in_use r ≡ true → is_opened r ≡ false → Turns old new n r → UsesOne old new
uses_one old new n r was used closed turn = record {
  used = omega (arith, count_turned is_in_use old new n r refl turn, ap (λ x. cond {A = ℕ} (is_in_use x) 1 0) was, ap (λ b. cond {A = ℕ} b 1 0) used);
  opens = omega (arith, count_turned is_opened old new n r refl turn, ap (λ x. cond {A = ℕ} (is_opened x) 1 0) was, ap (λ b. cond {A = ℕ} b 1 0) closed);
}
