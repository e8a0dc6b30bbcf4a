-- Which versions have a record, and which do once it has ended.
use Rattle.std.proofs.Common.{◌≡◌, ◌≢◌, ℕ, ◌+◌, ◌<◌, ◌≤◌, Bool, true, false, cond, ◌&&◌, List, Option, Some, None, is_none, refl, sym, ap, subst, ◌∙◌, inl, inr, true≢false, arith}
use Rattle.std.proofs.lemmas.Bool.{cases_Bool, le-leb, leb-true, lt-ltb, ltb-true}
use Rattle.gs_term.specs.declared.names.Target.{Target}
use Rattle.gs_index.specs.declared.entries.Entry.{Entry}
use Rattle.gs_index.specs.Indexes.{with_death as died}
use Rattle.gs_records.specs.Records.{Record, free, opened, unused, kept, outlives, has_at, is_current, is_of, ended_entry, ended}
use Rattle.gs_records.specs.Kept.{DiedBy, IsDated, AreSingle}
use Rattle.gs_records.proofs.Found.{same_kept, not_kept, target_same, target_itself}
use Rattle.gs_records.proofs.Same.{AreOnce}

pub both_true : (a b : Bool) → a ≡ true → b ≡ true → (a && b) ≡ true
both_true true b p q = q
both_true false b p q = p

pub first_true : (a b : Bool) → (a && b) ≡ true → a ≡ true
first_true true b p = refl
first_true false b p = p

pub second_true : (a b : Bool) → (a && b) ≡ true → b ≡ true
second_true true b p = p
second_true false b p = absurd (true≢false (sym p))

pub same_Bool : (a b : Bool) → (a ≡ true → b ≡ true) → (b ≡ true → a ≡ true) → a ≡ b
same_Bool true true f g = refl
same_Bool true false f g = absurd (true≢false (sym (f refl)))
same_Bool false true f g = g refl
same_Bool false false f g = refl

-- a version has a record from its birth on, until its death
pub has_from : (v : ℕ) (e : Entry) → e.birth ≤ v → outlives v e.death ≡ true → has_at v e ≡ true
has_from v e born lives = both_true _ _ (le-leb e.birth v born) lives

pub has_birth : (v : ℕ) (e : Entry) → has_at v e ≡ true → e.birth ≤ v
has_birth v e h = leb-true e.birth v (first_true _ _ h)

pub has_lives : (v : ℕ) (e : Entry) → has_at v e ≡ true → outlives v e.death ≡ true
has_lives v e h = second_true _ _ h

pub lives_none : (v : ℕ) (o : Option ℕ) → is_none o ≡ true → outlives v o ≡ true
lives_none v None h = refl
lives_none v (Some d) h = absurd (true≢false (sym h))

-- what has died by this commit no version from there on has
pub lives_past : (v c birth : ℕ) (o : Option ℕ) → DiedBy c birth o → c ≤ v → outlives v o ≡ true → is_none o ≡ true
lives_past v c birth None h le lives = refl
lives_past v c birth (Some d) h le lives = absurd (omega (arith, h.1, ltb-true v d lives))

pub died_later : (c d birth : ℕ) (o : Option ℕ) → c ≤ d → DiedBy c birth o → DiedBy d birth o
died_later c d birth None le h = tt
died_later c d birth (Some x) le h = (h.0, omega (arith, h.1))

-- a record ends where it is of the graph and current, and else stays
pub data EndedCases (t : Target) (death : ℕ) (e : Entry) : Type 0 where
  ends : e.target ≡ t → is_current e ≡ true → ended_entry t death e ≡ died e death → EndedCases t death e
  stays : (e.target ≡ t → is_current e ≡ true → ⊥) → ended_entry t death e ≡ e → EndedCases t death e

pub ended_cases : (t : Target) (death : ℕ) (e : Entry) → EndedCases t death e
ended_cases t death e = elim (cases_Bool (is_of t e && is_current e)) [
  | inl here ↦ ends (sym (target_same t e.target (first_true _ _ here))) (second_true _ _ here) (ap (λ b. cond b (died e death) e) here)
  | inr none ↦ stays (λ same now. true≢false (sym (both_true _ _ (ap (λ x. is_of x e) (sym same) ∙ target_itself e.target) now) ∙ none)) (ap (λ b. cond b (died e death) e) none)
]

-- the rest of it stays
pub target-ended : (t : Target) (death : ℕ) (e : Entry) → (ended_entry t death e).target ≡ e.target
target-ended t death e = go (ended_cases t death e)
  where
    go : EndedCases t death e → (ended_entry t death e).target ≡ e.target
    go (ends s n is) = ap (λ (x : Entry). x.target) is
    go (stays h is) = ap (λ (x : Entry). x.target) is

pub version-ended : (t : Target) (death : ℕ) (e : Entry) → (ended_entry t death e).version ≡ e.version
version-ended t death e = go (ended_cases t death e)
  where
    go : EndedCases t death e → (ended_entry t death e).version ≡ e.version
    go (ends s n is) = ap (λ (x : Entry). x.version) is
    go (stays h is) = ap (λ (x : Entry). x.version) is

pub birth-ended : (t : Target) (death : ℕ) (e : Entry) → (ended_entry t death e).birth ≡ e.birth
birth-ended t death e = go (ended_cases t death e)
  where
    go : EndedCases t death e → (ended_entry t death e).birth ≡ e.birth
    go (ends s n is) = ap (λ (x : Entry). x.birth) is
    go (stays h is) = ap (λ (x : Entry). x.birth) is

-- versions before the death have it as before
pub has-ended : (v : ℕ) (t : Target) (death : ℕ) (e : Entry) → v < death → has_at v (ended_entry t death e) ≡ has_at v e
has-ended v t death e lt = go (ended_cases t death e)
  where
    go : EndedCases t death e → has_at v (ended_entry t death e) ≡ has_at v e
    go (ends s n is) = ap (has_at v) is ∙ same_Bool _ _ (λ h. has_from v e (has_birth v (died e death) h) (lives_none v e.death n)) (λ h. has_from v (died e death) (has_birth v e h) (lt-ltb v death lt))
    go (stays h is) = ap (has_at v) is

-- no version has it that had it not
pub has_ended_had : (v : ℕ) (t : Target) (death : ℕ) (e : Entry) → has_at v (ended_entry t death e) ≡ true → has_at v e ≡ true
has_ended_had v t death e h = go (ended_cases t death e)
  where
    go : EndedCases t death e → has_at v e ≡ true
    go (ends s n is) = has_from v e (has_birth v (died e death) (sym (ap (has_at v) is) ∙ h)) (lives_none v e.death n)
    go (stays s is) = sym (ap (has_at v) is) ∙ h

-- a record of another graph is as current as before, and none of this one is
pub current-ended : (t : Target) (death : ℕ) (e : Entry) → e.target ≢ t → is_current (ended_entry t death e) ≡ is_current e
current-ended t death e ne = go (ended_cases t death e)
  where
    go : EndedCases t death e → is_current (ended_entry t death e) ≡ is_current e
    go (ends s n is) = absurd (ne s)
    go (stays h is) = ap is_current is

pub not_current : (t : Target) (death : ℕ) (e : Entry) → e.target ≡ t → is_current (ended_entry t death e) ≡ true → ⊥
not_current t death e same h = go (ended_cases t death e)
  where
    go : EndedCases t death e → ⊥
    go (ends s n is) = true≢false (sym h ∙ ap is_current is)
    go (stays none is) = none same (sym (ap is_current is) ∙ h)

pub dated-ended : (latest : ℕ) (t : Target) (death : ℕ) (e : Entry) → latest < death → IsDated latest e → IsDated death (ended_entry t death e)
dated-ended latest t death e lt d = go (ended_cases t death e)
  where
    go : EndedCases t death e → IsDated death (ended_entry t death e)
    go (ends s n is) = subst (IsDated death) (sym is) (record { after = d.after; born = omega (arith, d.born); died = (omega (arith, d.born), omega arith) })
    go (stays none is) = subst (IsDated death) (sym is) (record { after = d.after; born = omega (arith, d.born); died = died_later latest death e.birth e.death (omega arith) d.died })

-- what was ended is a record still, and was one
pub ended_is : (t : Target) (death : ℕ) (r : Record) (f : Entry) → ended t death r ≡ kept f → (e : Entry) × (r ≡ kept e) × (f ≡ ended_entry t death e)
ended_is t death free f is = absurd (not_kept free f refl is)
ended_is t death opened f is = absurd (not_kept opened f refl is)
ended_is t death unused f is = absurd (not_kept unused f refl is)
ended_is t death (kept e) f is = (e, refl, sym (same_kept (ended_entry t death e) f is))

-- where no version has two of one graph, at most one is had by each version, and at most one is current
pub once_at : (v : ℕ) (rs : List Record) → AreSingle rs → AreOnce (has_at v) rs
once_at v rs single t f g = single v f.number g.number f.entry g.entry f.at g.at (f.same ∙ sym g.same) f.passes g.passes

pub once_current : (rs : List Record) → AreSingle rs → AreOnce is_current rs
once_current rs single t f g =
    let v = f.entry.birth + g.entry.birth in
    single v f.number g.number f.entry g.entry f.at g.at (f.same ∙ sym g.same)
    (has_from v f.entry (omega arith) (lives_none v f.entry.death f.passes))
    (has_from v g.entry (omega arith) (lives_none v g.entry.death g.passes))
