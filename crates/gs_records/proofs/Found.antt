-- Which record a graph's version is of.
use Rattle.std.proofs.Common.{◌≡◌, ◌≢◌, ◌⊎◌, ℕ, zero, suc, Bool, true, false, cond, List, [], ◌∷◌, Some, None, refl, sym, ap, ◌∙◌, inl, inr, true≢false}
use Rattle.std.specs.Ordering.{is_eq, eq_by_cmp}
use Rattle.std.specs.Cmp.{tied_itself}
use Rattle.std.specs.FinMap as map
use Rattle.std.specs.declared.cmp.Ordering.{Ordering}
use Rattle.std.specs.declared.cmp.Ordering.TheVariants.{Less, Equal, Greater}
use Rattle.std.proofs.lemmas.Bool.{cases_Bool}
use Rattle.std.proofs.lemmas.Slice.Eq.{bytes_eq-Decides}
use Rattle.gs_term.specs.declared.names.Target.{Target}
use Rattle.gs_term.specs.declared.names.Target.TheVariants.{Default, Named}
use Rattle.gs_term.specs.Names.{name_cmp}
use Rattle.gs_term.proofs.NameLemmas.{name_total, name_exact}
use Rattle.gs_catalogue.specs.declared.versions.GraphVersion.{GraphVersion}
use Rattle.gs_catalogue.specs.Catalogues.{GraphVersions, no_versions, version_at, with_version}
use Rattle.gs_index.specs.declared.entries.Entry.{Entry}
use Rattle.gs_index.specs.Ages.{is_target}
use Rattle.gs_records.specs.Records.{Record, free, opened, unused, kept, record_at, is_kept}
use Rattle.gs_records.specs.Graphs.{with_record, graphs_where, without_version}

-- versions that are the same for each target are the same
pub same_versions : (g h : GraphVersions) → ((t : Target) → version_at g t ≡ version_at h t) → g ≡ h
same_versions g h same =
    let unnamed = some_version (same Default) in
    let named = map.same_map name_total name_exact g.named h.named (λ q. same (Named q)) in
    λ i. record { unnamed = unnamed i; named = named i }
  where
    some_version : {a b : GraphVersion} → Some a ≡ Some b → a ≡ b
    some_version e = cc

pub equal_is : (r : Ordering) → is_eq r ≡ true → r ≡ Equal
equal_is Less e = absurd (true≢false (sym e))
equal_is Equal e = refl
equal_is Greater e = absurd (true≢false (sym e))

-- a target is itself alone
pub target_itself : (t : Target) → is_target t t ≡ true
target_itself Default = refl
target_itself (Named n) = (bytes_eq-Decides n n).1 refl

pub target_same : (t u : Target) → is_target t u ≡ true → t ≡ u
target_same Default Default e = refl
target_same Default (Named n) e = absurd (true≢false (sym e))
target_same (Named m) Default e = absurd (true≢false (sym e))
target_same (Named m) (Named n) e = ap Named ((bytes_eq-Decides m n).0 e)

pub target_other : (t u : Target) → t ≢ u → is_target t u ≡ false
target_other t u ne = elim (cases_Bool (is_target t u)) [ inl here ↦ absurd (ne (target_same t u here)) | inr none ↦ none ]

-- a target is another one or not
pub cases_target : (t u : Target) → (t ≡ u) ⊎ (t ≢ u)
cases_target t u = elim (cases_Bool (is_target t u)) [
  | inl here ↦ inl (target_same t u here)
  | inr none ↦ inr (λ e. absurd (true≢false (sym (target_itself t) ∙ ap (λ x. is_target t x) e ∙ none)))
]

tied_name : (q n : List ℕ) → eq_by_cmp name_cmp q n ≡ true → q ≡ n
tied_name q n e = name_exact q n (equal_is (name_cmp q n) e)

pub itself_name : (n : List ℕ) → eq_by_cmp name_cmp n n ≡ true
itself_name n = ap is_eq (tied_itself name_total n)

pub other_name : (q n : List ℕ) → (Named q ≢ Named n) → eq_by_cmp name_cmp q n ≡ false
other_name q n ne = elim (cases_Bool (eq_by_cmp name_cmp q n)) [ inl here ↦ absurd (ne (ap Named (tied_name q n here))) | inr none ↦ none ]

-- the version that was given to the target, and those of the others
pub version_at-with : (g : GraphVersions) (t : Target) (v : GraphVersion) → version_at (with_version g t v) t ≡ Some v
version_at-with g Default v = refl
version_at-with g (Named n) v = map.get-insert name_total g.named n v n ∙ ap (λ b. cond b (Some v) (map.get g.named n)) (itself_name n)

pub version_at-with_other : (g : GraphVersions) (t u : Target) (v : GraphVersion) → t ≢ u → version_at (with_version g u v) t ≡ version_at g t
version_at-with_other g Default Default v ne = absurd (ne refl)
version_at-with_other g Default (Named n) v ne = refl
version_at-with_other g (Named q) Default v ne = refl
version_at-with_other g (Named q) (Named n) v ne = map.get-insert name_total g.named n v q ∙ ap (λ b. cond b (Some v) (map.get g.named q)) (other_name q n ne)

-- without it
pub version_at-without : (g : GraphVersions) (t : Target) → version_at (without_version g t) t ≡ version_at no_versions t
version_at-without g Default = refl
version_at-without g (Named n) = map.get-remove name_total g.named n n ∙ ap (λ b. cond b None (map.get g.named n)) (itself_name n) ∙ sym (map.get-empty name_cmp n)

pub version_at-without_other : (g : GraphVersions) (t u : Target) → t ≢ u → version_at (without_version g u) t ≡ version_at g t
version_at-without_other g Default Default ne = absurd (ne refl)
version_at-without_other g Default (Named n) ne = refl
version_at-without_other g (Named q) Default ne = refl
version_at-without_other g (Named q) (Named n) ne = map.get-remove name_total g.named n q ∙ ap (λ b. cond b None (map.get g.named q)) (other_name q n ne)

-- a record of the target that passes the test
pub record Found (test : Entry → Bool) (rs : List Record) (t : Target) : Type 0 where
  pub number : ℕ
  pub entry : Entry
  pub at : record_at rs number ≡ kept entry
  pub passes : test entry ≡ true
  pub same : entry.target ≡ t

-- the target's version is that of such a record, or there is none
pub data Looked (test : Entry → Bool) (rs : List Record) (t : Target) : Type 0 where
  has : (f : Found test rs t) → version_at (graphs_where test rs) t ≡ Some f.entry.version → Looked test rs t
  lacks : (Found test rs t → ⊥) → version_at (graphs_where test rs) t ≡ version_at no_versions t → Looked test rs t

abbrev pub later : (test : Entry → Bool) (r : Record) (rs : List Record) (t : Target) → Found test rs t → Found test (r ∷ rs) t
later test r rs t f = record { number = suc f.number; entry = f.entry; at = f.at; passes = f.passes; same = f.same }

-- no record is found at the head
abbrev pub NotHere : (Entry → Bool) → Record → Target → Type 0
NotHere test r t = (e : Entry) → r ≡ kept e → test e ≡ true → e.target ≡ t → ⊥

pub not_in : (test : Entry → Bool) (r : Record) (rs : List Record) (t : Target) → NotHere test r t → (Found test rs t → ⊥) → Found test (r ∷ rs) t → ⊥
not_in test r rs t here none f = go f.number f.entry f.at f.passes f.same
  where
    go : (n : ℕ) (e : Entry) → record_at (r ∷ rs) n ≡ kept e → test e ≡ true → e.target ≡ t → ⊥
    go zero e at p s = here e at p s
    go (suc n) e at p s = none (record { number = n; entry = e; at = at; passes = p; same = s })

past : (test : Entry → Bool) (r : Record) (rs : List Record) (t : Target) → NotHere test r t → version_at (with_record test r (graphs_where test rs)) t ≡ version_at (graphs_where test rs) t → Looked test rs t → Looked test (r ∷ rs) t
past test r rs t here is (has f e) = has (later test r rs t f) (is ∙ e)
past test r rs t here is (lacks none e) = lacks (not_in test r rs t here none) (is ∙ e)

-- what a record says that it keeps
pub kept_entry : (d : Entry) → Record → Entry
kept_entry d free = d
kept_entry d opened = d
kept_entry d unused = d
kept_entry d (kept e) = e

pub same_kept : (a b : Entry) → kept a ≡ kept b → a ≡ b
unfolding kept_entry
same_kept a b e = ap (kept_entry a) e

pub not_kept : (r : Record) (e : Entry) → is_kept r ≡ false → r ≡ kept e → ⊥
not_kept r e off is = true≢false (sym (ap is_kept is) ∙ off)

pub looked : (test : Entry → Bool) (rs : List Record) (t : Target) → Looked test rs t
looked test [] t = lacks (λ f. not_kept free f.entry refl f.at) refl
looked test (free ∷ rs) t = past test free rs t (λ e is p s. not_kept free e refl is) refl (looked test rs t)
looked test (opened ∷ rs) t = past test opened rs t (λ e is p s. not_kept opened e refl is) refl (looked test rs t)
looked test (unused ∷ rs) t = past test unused rs t (λ e is p s. not_kept unused e refl is) refl (looked test rs t)
looked test (kept e ∷ rs) t =
    let g = graphs_where test rs in
    elim (cases_Bool (test e)) [
      | inr fails ↦ past test (kept e) rs t (λ f is p s. true≢false (sym p ∙ ap test (sym (same_kept e f is)) ∙ fails)) (ap (λ b. version_at (cond b (with_version g e.target e.version) g) t) fails) (looked test rs t)
      | inl passes ↦
          let one : version_at (graphs_where test (kept e ∷ rs)) t ≡ version_at (with_version g e.target e.version) t = ap (λ b. version_at (cond b (with_version g e.target e.version) g) t) passes in
          elim (cases_target t e.target) [
            | inl same ↦ has (record { number = zero; entry = e; at = refl; passes = passes; same = sym same }) (one ∙ ap (version_at (with_version g e.target e.version)) same ∙ version_at-with g e.target e.version)
            | inr other ↦ past test (kept e) rs t (λ f is p s. other (sym s ∙ ap (λ (x : Entry). x.target) (sym (same_kept e f is)))) (one ∙ version_at-with_other g t e.target e.version other) (looked test rs t)
          ]
    ]
