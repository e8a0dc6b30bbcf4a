-- Among one number more than there are names in a dataset, one makes a name that is free.
use Rattle.std.proofs.Common.{◌≡◌, ◌≢◌, ℕ, zero, suc, ◌+◌, ◌<◌, ◌≤◌, true, false, cond, List, ◌∷◌, ◌++◌, None, is_some, refl, sym, ap, ◌∙◌, subst, arith, codes, drop, ◌==◌}
use Rattle.std.proofs.lemmas.Bool.{eqb-true, eq-eqb}
use Rattle.std.specs.FinMap as fin
use Rattle.std.specs.Ordering.{eq_by_cmp}
use Rattle.std.specs.Cmp.{Equal-is}
use Rattle.std.proofs.lemmas.List.{append_cancel_left}
use Rattle.gs_model.specs.Terms.{numeral}
use Rattle.gs_model.specs.Texts.{number_of}
use Rattle.gs_model.proofs.TextLemmas.{number_of-numeral}
use Rattle.gs_term.specs.declared.names.Target.TheVariants.{Named}
use Rattle.gs_term.specs.Names.{name_cmp}
use Rattle.gs_term.proofs.NameLemmas.{name_total, name_exact}
use Rattle.gs_event.specs.Datasets.{Dataset, is_there, names_in, without_graph}
use Rattle.gs_event.specs.Names.{made_name, first_free, new_name, IsLeastFree}
use Rattle.gs_event.proofs.DatasetLemmas.{names_in-without_name, names_in-some}

differs : (x y : ℕ) → (x == y) ≡ false → x ≢ y
differs x y e same = let clash : true ≡ false = sym (eq-eqb x y same) ∙ e in absurd (Prim.cc)

-- names with different numbers differ
made_name-same : (base : List ℕ) (r j k : ℕ) → made_name base r j ≡ made_name base r k → j ≡ k
made_name-same base r j k e =
    let tails : 45 ∷ numeral j ≡ 45 ∷ numeral k = append_cancel_left (base ++ codes "/graphs/n" ++ numeral r) (45 ∷ numeral j) (45 ∷ numeral k) e in
    sym (number_of-numeral j) ∙ ap (λ t. number_of (drop 1 t)) tails ∙ number_of-numeral k

-- another name stays where one is taken out
still_there : (m : Dataset) (base : List ℕ) (r j k : ℕ) → j ≢ k → is_there m (Named (made_name base r j)) ≡ true → is_there (without_graph m (Named (made_name base r k))) (Named (made_name base r j)) ≡ true
still_there m base r j k other there =
    ap is_some (fin.get-remove name_total m.named (made_name base r k) (made_name base r j))
    ∙ elim (eq_by_cmp name_cmp (made_name base r j) (made_name base r k)) as (λ e. eq_by_cmp name_cmp (made_name base r j) (made_name base r k) ≡ e → is_some (cond e None (fin.get m.named (made_name base r j))) ≡ true) [
      | true ↦ λ e. absurd (other (made_name-same base r j k (name_exact _ _ ((Equal-is _).0 e))))
      | false ↦ λ e. there
    ] refl

-- as many names as there are numbers that make one
all_counted : (n : ℕ) (m : Dataset) (base : List ℕ) (r : ℕ) → ((k : ℕ) → k < n → is_there m (Named (made_name base r k)) ≡ true) → n ≤ names_in m
all_counted zero m base r there = omega arith
all_counted (suc n) m base r there =
    let last : is_there m (Named (made_name base r n)) ≡ true = there n (omega arith) in
    let less = without_graph m (Named (made_name base r n)) in
    let few : n ≤ names_in less = all_counted n less base r (λ k h. still_there m base r k n (λ e. absurd (omega arith)) (there k (omega arith))) in
    omega (arith, few, names_in-without_name m (made_name base r n) last, names_in-some m (made_name base r n) last)

-- what the search among n numbers from k on finds: a free one, or the next after them all
record Finds (m : Dataset) (base : List ℕ) (r n k found : ℕ) : Type 0 where
  from : k ≤ found
  within : found ≤ k + n
  taken : (j : ℕ) → k ≤ j → j < found → is_there m (Named (made_name base r j)) ≡ true
  free : found < k + n → is_there m (Named (made_name base r found)) ≡ false

first_finds : (m : Dataset) (base : List ℕ) (r n k : ℕ) → Finds m base r n k (first_free m base r n k)
first_finds m base r zero k = record { from = omega arith; within = omega arith; taken = λ j a b. absurd (omega arith); free = λ h. absurd (omega arith) }
first_finds m base r (suc n) k =
    elim (is_there m (Named (made_name base r k))) as (λ b. is_there m (Named (made_name base r k)) ≡ b → Finds m base r (suc n) k (cond b (first_free m base r n (k + 1)) k)) [
      | true ↦ λ e.
          let later = first_finds m base r n (k + 1) in
          record {
            from = omega (arith, later.from);
            within = omega (arith, later.within);
            taken = λ j a b. one j (first_free m base r n (k + 1)) e later.taken a b;
            free = λ h. later.free (omega arith);
          }
      | false ↦ λ e. record { from = omega arith; within = omega arith; taken = λ j a b. absurd (omega arith); free = λ h. e }
    ] refl
  where
    one : (j found : ℕ) → is_there m (Named (made_name base r k)) ≡ true → ((i : ℕ) → k + 1 ≤ i → i < found → is_there m (Named (made_name base r i)) ≡ true) → k ≤ j → j < found → is_there m (Named (made_name base r j)) ≡ true
    one j found here later a b = elim (k == j) as (λ t. (k == j) ≡ t → is_there m (Named (made_name base r j)) ≡ true) [
      | true ↦ λ e. subst (λ i. is_there m (Named (made_name base r i)) ≡ true) (eqb-true k j e) here
      | false ↦ λ e. later j (omega (arith, differs k j e)) b
    ] refl

pub new_name-is_least : (base : List ℕ) (m : Dataset) (r : ℕ) → IsLeastFree base m r (new_name base m r)
new_name-is_least base m r =
    let found = first_finds m base r (names_in m) 0 in
    let number = first_free m base r (names_in m) 0 in
    record {
      number = number;
      named = refl;
      free = elim (is_there m (Named (made_name base r number))) as (λ b. is_there m (Named (made_name base r number)) ≡ b → b ≡ false) [
        | true ↦ λ e.
            let all : (k : ℕ) → k < number + 1 → is_there m (Named (made_name base r k)) ≡ true = λ k h. up_to k number e (λ j lt. found.taken j (omega arith) lt) h in
            let many : number + 1 ≤ names_in m = all_counted (number + 1) m base r all in
            let clash : true ≡ false = sym e ∙ found.free (omega (arith, many)) in absurd (Prim.cc)
        | false ↦ λ e. refl
      ] refl;
      least = λ k h. found.taken k (omega arith) h;
    }
  where
    up_to : (k number : ℕ) → is_there m (Named (made_name base r number)) ≡ true → ((j : ℕ) → j < number → is_there m (Named (made_name base r j)) ≡ true) → k < number + 1 → is_there m (Named (made_name base r k)) ≡ true
    up_to k number here before h = elim (k == number) as (λ t. (k == number) ≡ t → is_there m (Named (made_name base r k)) ≡ true) [
      | true ↦ λ e. subst (λ i. is_there m (Named (made_name base r i)) ≡ true) (sym (eqb-true k number e)) here
      | false ↦ λ e. before k (omega (arith, differs k number e))
    ] refl
