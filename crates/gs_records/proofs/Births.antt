-- Which commit made the current record of a graph, and when two lists of records say the same of it.
use Rattle.std.proofs.Common.{◌≡◌, ◌≢◌, ℕ, cond, List, [], ◌∷◌, Some, None, refl, sym, ap, ◌∙◌, inl, inr, true≢false}
use Rattle.std.specs.FinMap as map
use Rattle.std.proofs.lemmas.Bool.{cases_Bool}
use Rattle.gs_term.specs.declared.names.Target.{Target}
use Rattle.gs_term.specs.declared.names.Target.TheVariants.{Default, Named}
use Rattle.gs_term.specs.Names.{name_cmp}
use Rattle.gs_term.proofs.NameLemmas.{name_total, name_exact}
use Rattle.gs_index.specs.declared.entries.Entry.{Entry}
use Rattle.gs_records.specs.Records.{Record, free, opened, unused, kept, is_current}
use Rattle.gs_records.specs.Births.{Births, no_record_births, birth_at, with_birth, without_birth, with_record_birth, births_of}
use Rattle.gs_records.proofs.Found.{Found, NotHere, later, not_in, not_kept, same_kept, cases_target, itself_name, other_name}
use Rattle.gs_records.proofs.Same.{AreOnce, Agrees, same_entry}

-- births that are the same for each target are the same
pub same_births : (b c : Births) → ((t : Target) → birth_at b t ≡ birth_at c t) → b ≡ c
same_births b c same =
    let unnamed = same Default in
    let named = map.same_map name_total name_exact b.named c.named (λ q. same (Named q)) in
    λ i. record { unnamed = unnamed i; named = named i }

-- that of the target that it was given to
pub birth_at-with : (b : Births) (t : Target) (n : ℕ) → birth_at (with_birth b t n) t ≡ Some n
birth_at-with b Default n = refl
birth_at-with b (Named q) n = map.get-insert name_total b.named q n q ∙ ap (λ x. cond x (Some n) (map.get b.named q)) (itself_name q)

-- and those of the others
pub birth_at-with_other : (b : Births) (t u : Target) (n : ℕ) → t ≢ u → birth_at (with_birth b u n) t ≡ birth_at b t
birth_at-with_other b Default Default n ne = absurd (ne refl)
birth_at-with_other b Default (Named q) n ne = refl
birth_at-with_other b (Named q) Default n ne = refl
birth_at-with_other b (Named q) (Named m) n ne = map.get-insert name_total b.named m n q ∙ ap (λ x. cond x (Some n) (map.get b.named q)) (other_name q m ne)

-- that of the target from which it was taken
pub birth_at-without : (b : Births) (t : Target) → birth_at (without_birth b t) t ≡ None
birth_at-without b Default = refl
birth_at-without b (Named q) = map.get-remove name_total b.named q q ∙ ap (λ x. cond x None (map.get b.named q)) (itself_name q)

-- and those of the others
pub birth_at-without_other : (b : Births) (t u : Target) → t ≢ u → birth_at (without_birth b u) t ≡ birth_at b t
birth_at-without_other b Default Default ne = absurd (ne refl)
birth_at-without_other b Default (Named q) ne = refl
birth_at-without_other b (Named q) Default ne = refl
birth_at-without_other b (Named q) (Named m) ne = map.get-remove name_total b.named m q ∙ ap (λ x. cond x None (map.get b.named q)) (other_name q m ne)

-- a birth that is set does not depend on the one before it
pub birth_with-without : (b : Births) (t : Target) (n : ℕ) → with_birth (without_birth b t) t n ≡ with_birth b t n
birth_with-without b t n = same_births _ _ (λ u. elim (cases_target u t) [
  | inl same ↦ ap (birth_at (with_birth (without_birth b t) t n)) same ∙ birth_at-with (without_birth b t) t n ∙ sym (birth_at-with b t n) ∙ ap (birth_at (with_birth b t n)) (sym same)
  | inr other ↦ birth_at-with_other (without_birth b t) u t n other ∙ birth_at-without_other b u t other ∙ sym (birth_at-with_other b u t n other)
])

-- where there is no record there is no birth
birth_at-none : (t : Target) → birth_at no_record_births t ≡ None
birth_at-none Default = refl
birth_at-none (Named q) = map.get-empty name_cmp q

-- the target's birth is that of a current record, or there is none
data Made (rs : List Record) (t : Target) : Type 0 where
  made : (f : Found is_current rs t) → birth_at (births_of rs) t ≡ Some f.entry.birth → Made rs t
  unmade : (Found is_current rs t → ⊥) → birth_at (births_of rs) t ≡ None → Made rs t

-- a head that is no current record of the target is passed over
past : (r : Record) (rs : List Record) (t : Target) → NotHere is_current r t → birth_at (with_record_birth r (births_of rs)) t ≡ birth_at (births_of rs) t → Made rs t → Made (r ∷ rs) t
past r rs t here is (made f e) = made (later is_current r rs t f) (is ∙ e)
past r rs t here is (unmade none e) = unmade (not_in is_current r rs t here none) (is ∙ e)

-- which of the two it is
made_in : (rs : List Record) (t : Target) → Made rs t
made_in [] t = unmade (λ f. not_kept free f.entry refl f.at) (birth_at-none t)
made_in (free ∷ rs) t = past free rs t (λ e is p s. not_kept free e refl is) refl (made_in rs t)
made_in (opened ∷ rs) t = past opened rs t (λ e is p s. not_kept opened e refl is) refl (made_in rs t)
made_in (unused ∷ rs) t = past unused rs t (λ e is p s. not_kept unused e refl is) refl (made_in rs t)
made_in (kept e ∷ rs) t =
    let b = births_of rs in
    elim (cases_Bool (is_current e)) [
      | inr fails ↦ past (kept e) rs t (λ f is p s. true≢false (sym p ∙ ap is_current (sym (same_kept e f is)) ∙ fails)) (ap (λ x. birth_at (cond x (with_birth b e.target e.birth) b) t) fails) (made_in rs t)
      | inl passes ↦
          let one : birth_at (births_of (kept e ∷ rs)) t ≡ birth_at (with_birth b e.target e.birth) t = ap (λ x. birth_at (cond x (with_birth b e.target e.birth) b) t) passes in
          elim (cases_target t e.target) [
            | inl same ↦ made (record { number = 0; entry = e; at = refl; passes = passes; same = sym same }) (one ∙ ap (birth_at (with_birth b e.target e.birth)) same ∙ birth_at-with b e.target e.birth)
            | inr other ↦ past (kept e) rs t (λ f is p s. other (sym s ∙ ap (λ (x : Entry). x.target) (sym (same_kept e f is)))) (one ∙ birth_at-with_other b t e.target e.birth other) (made_in rs t)
          ]
    ]

-- the target's birth is that of the current record that is found
pub birth_found : (rs : List Record) (t : Target) → AreOnce is_current rs → (f : Found is_current rs t) → birth_at (births_of rs) t ≡ Some f.entry.birth
birth_found rs t once f = go (made_in rs t)
  where
    go : Made rs t → birth_at (births_of rs) t ≡ Some f.entry.birth
    go (made g e) = e ∙ ap (λ (x : Entry). Some x.birth) (same_entry rs g.number f.number g.entry f.entry g.at f.at (once t g f))
    go (unmade none e) = absurd (none f)

-- where none is found, the target has none
pub birth_lacking : (rs : List Record) (t : Target) → (Found is_current rs t → ⊥) → birth_at (births_of rs) t ≡ None
birth_lacking rs t not = go (made_in rs t)
  where
    go : Made rs t → birth_at (births_of rs) t ≡ None
    go (made g e) = absurd (not g)
    go (unmade none e) = e

-- where the same is found of a target, its birth is the same
birth_agrees : (rs ss : List Record) (t : Target) → AreOnce is_current ss → Agrees is_current is_current rs ss t → birth_at (births_of rs) t ≡ birth_at (births_of ss) t
birth_agrees rs ss t once a = go (made_in rs t)
  where
    go : Made rs t → birth_at (births_of rs) t ≡ birth_at (births_of ss) t
    go (made f e) = let g = a.there f in e ∙ ap Some (sym g.2) ∙ sym (birth_found ss t once g.0)
    go (unmade none e) = e ∙ sym (birth_lacking ss t (λ g. none (a.back g)))

-- where that is so for each target, all births are the same
pub births_agree : (rs ss : List Record) → AreOnce is_current ss → ((t : Target) → Agrees is_current is_current rs ss t) → births_of rs ≡ births_of ss
births_agree rs ss once a = same_births _ _ (λ t. birth_agrees rs ss t once (a t))

-- where it is so for each target but one, whose birth is another
pub births_and : (rs ss : List Record) (t : Target) (n : ℕ) → AreOnce is_current ss → birth_at (births_of rs) t ≡ Some n → ((u : Target) → u ≢ t → Agrees is_current is_current rs ss u) → births_of rs ≡ with_birth (births_of ss) t n
births_and rs ss t n once here a = same_births _ _ (λ u. elim (cases_target u t) [
  | inl same ↦ ap (birth_at (births_of rs)) same ∙ here ∙ sym (birth_at-with (births_of ss) t n) ∙ ap (birth_at (with_birth (births_of ss) t n)) (sym same)
  | inr other ↦ birth_agrees rs ss u once (a u other) ∙ sym (birth_at-with_other (births_of ss) u t n other)
])

-- where the target has none
pub births_but : (rs ss : List Record) (t : Target) → AreOnce is_current ss → (Found is_current rs t → ⊥) → ((u : Target) → u ≢ t → Agrees is_current is_current rs ss u) → births_of rs ≡ without_birth (births_of ss) t
births_but rs ss t once none a = same_births _ _ (λ u. elim (cases_target u t) [
  | inl same ↦ ap (birth_at (births_of rs)) same ∙ birth_lacking rs t none ∙ sym (birth_at-without (births_of ss) t) ∙ ap (birth_at (without_birth (births_of ss) t)) (sym same)
  | inr other ↦ birth_agrees rs ss u once (a u other) ∙ sym (birth_at-without_other (births_of ss) u t other)
])
