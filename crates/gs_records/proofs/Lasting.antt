-- The graphs of now are those of the last commit, and one commit ends one record of a graph at most.
use Rattle.std.proofs.Common.{◌≡◌, ℕ, suc, ◌<◌, ◌≤◌, Bool, true, false, cond, ◌&&◌, Option, Some, List, [], ◌∷◌, ◌++◌, length, refl, sym, ap, ◌∙◌, inl, inr, arith}
use Rattle.std.specs.List.{All}
use Rattle.std.proofs.lemmas.Bool.{cases_Bool}
use Rattle.std.proofs.lemmas.List.Elements.{All-nil, All-cons}
use Rattle.gs_term.specs.declared.names.Target.{Target}
use Rattle.gs_event.specs.Waste.{Lifetime}
use Rattle.gs_event.specs.Wasting.{EndsAt}
use Rattle.gs_index.specs.declared.entries.Entry.{Entry}
use Rattle.gs_catalogue.specs.Catalogues.{version_at, with_version}
use Rattle.gs_records.specs.Records.{Record, free, opened, unused, kept, record_at, has_at, is_of, is_current}
use Rattle.gs_records.specs.Graphs.{graphs_where, graphs_at, current, with_record}
use Rattle.gs_records.specs.Births.{birth_at, births_of}
use Rattle.gs_records.specs.Kept.{AreSingle, AreDated, HasNoCurrent}
use Rattle.gs_records.specs.Calls.{endings, is_nothing, records_for, EndsCurrent}
use Rattle.gs_records.specs.Versions.{AreVersions}
use Rattle.gs_records.specs.Laws.{IsOneAt}
use Rattle.gs_records.proofs.Found.{Found, Looked, has, lacks, looked, target_same}
use Rattle.gs_records.proofs.Births.{birth_found}
use Rattle.gs_records.proofs.Lifetimes.{first_true, second_true, same_Bool, has_from, has_lives, lives_none, lives_past, once_current}

-- the versions by two tests that say the same of each record
graphs_same : (p q : Entry → Bool) (rs : List Record) → ((n : ℕ) (e : Entry) → record_at rs n ≡ kept e → p e ≡ q e) → graphs_where p rs ≡ graphs_where q rs
graphs_same p q [] same = refl
graphs_same p q (free ∷ rs) same = graphs_same p q rs (λ n. same (suc n))
graphs_same p q (opened ∷ rs) same = graphs_same p q rs (λ n. same (suc n))
graphs_same p q (unused ∷ rs) same = graphs_same p q rs (λ n. same (suc n))
graphs_same p q (kept e ∷ rs) same =
    ap (λ g. with_record p (kept e) g) (graphs_same p q rs (λ n. same (suc n)))
    ∙ ap (λ b. cond b (with_version (graphs_where q rs) e.target e.version) (graphs_where q rs)) (same 0 e refl)

-- what has not died by the last commit is of each version from there on
pub graphs_last : (v latest : ℕ) (rs : List Record) → AreDated latest rs → latest ≤ v → graphs_at v rs ≡ current rs
graphs_last v latest rs dated le = graphs_same (has_at v) is_current rs (λ n e at.
    let d = dated n e at in
    same_Bool (has_at v e) (is_current e)
    (λ h. lives_past v latest e.birth e.death d.died le (has_lives v e h))
    (λ now. has_from v e (omega (arith, d.born)) (lives_none v e.death now)))

pub single_rest : (r : Record) (rs : List Record) → AreSingle (r ∷ rs) → AreSingle rs
single_rest r rs s v m n e f p q same a b = let one = s v (suc m) (suc n) e f p q same a b in omega (arith, one)

dated_rest : (latest : ℕ) (r : Record) (rs : List Record) → AreDated latest (r ∷ rs) → AreDated latest rs
dated_rest latest r rs d n e at = d (suc n) e at

-- the lifetime that the head leaves
abbrev left_by : Entry → ℕ → Bool → List Lifetime
left_by e death b = cond b (record { birth = e.birth; death = death } ∷ []) []

-- nothing ends where no record of the graph is current
ends_nothing : (t : Target) (death : ℕ) (rs : List Record) → HasNoCurrent rs t → endings t death rs ≡ []
ends_nothing t death [] none = refl
ends_nothing t death (free ∷ rs) none = ends_nothing t death rs (λ n. none (suc n))
ends_nothing t death (opened ∷ rs) none = ends_nothing t death rs (λ n. none (suc n))
ends_nothing t death (unused ∷ rs) none = ends_nothing t death rs (λ n. none (suc n))
ends_nothing t death (kept e ∷ rs) none = elim (cases_Bool (is_of t e && is_current e)) [
  | inl here ↦ absurd (none 0 e refl (sym (target_same t e.target (first_true _ _ here))) (second_true _ _ here))
  | inr off ↦ ap (λ b. left_by e death b ++ endings t death rs) off ∙ ends_nothing t death rs (λ n. none (suc n))
]

-- after a current record of the graph there is none
pub none_after : (t : Target) (e : Entry) (rs : List Record) → AreSingle (kept e ∷ rs) → (is_of t e && is_current e) ≡ true → HasNoCurrent rs t
none_after t e rs single here n f at same now = absurd (omega (arith, once_current (kept e ∷ rs) single t first other))
  where
    first : Found is_current (kept e ∷ rs) t
    first = record { number = 0; entry = e; at = refl; passes = second_true (is_of t e) (is_current e) here; same = sym (target_same t e.target (first_true (is_of t e) (is_current e) here)) }

    other : Found is_current (kept e ∷ rs) t
    other = record { number = suc n; entry = f; at = at; passes = now; same = same }

one_ends : (t : Target) (death : ℕ) (rs : List Record) → AreSingle rs → length (endings t death rs) ≤ 1
one_ends t death [] s = omega arith
one_ends t death (free ∷ rs) s = one_ends t death rs (single_rest free rs s)
one_ends t death (opened ∷ rs) s = one_ends t death rs (single_rest opened rs s)
one_ends t death (unused ∷ rs) s = one_ends t death rs (single_rest unused rs s)
one_ends t death (kept e ∷ rs) s = elim (cases_Bool (is_of t e && is_current e)) [
  | inl here ↦ omega (arith, ap (λ b. length (left_by e death b ++ endings t death rs)) here, ap length (ends_nothing t death rs (none_after t e rs s here)))
  | inr off ↦ omega (arith, ap (λ b. length (left_by e death b ++ endings t death rs)) off, one_ends t death rs (single_rest (kept e) rs s))
]

all_end : (latest commit : ℕ) (t : Target) (rs : List Record) → AreDated latest rs → latest < commit → All (EndsAt commit) (endings t commit rs)
all_end latest commit t [] d lt = All-nil (EndsAt commit)
all_end latest commit t (free ∷ rs) d lt = all_end latest commit t rs (dated_rest latest free rs d) lt
all_end latest commit t (opened ∷ rs) d lt = all_end latest commit t rs (dated_rest latest opened rs d) lt
all_end latest commit t (unused ∷ rs) d lt = all_end latest commit t rs (dated_rest latest unused rs d) lt
all_end latest commit t (kept e ∷ rs) d lt = go (all_end latest commit t rs (dated_rest latest (kept e) rs d) lt) (is_of t e && is_current e)
  where
    go : All (EndsAt commit) (endings t commit rs) → (b : Bool) → All (EndsAt commit) (left_by e commit b ++ endings t commit rs)
    go rest true = All-cons (EndsAt commit) _ _ (omega (arith, (d 0 e refl).born), refl) rest
    go rest false = rest

-- one record ends at most, which was born before
pub commit_ends_one : (latest commit : ℕ) (t : Target) (rs : List Record) → AreSingle rs → AreDated latest rs → latest < commit → IsOneAt commit (endings t commit rs)
commit_ends_one latest commit t rs single dated lt = record { few = one_ends t commit rs single; ended = all_end latest commit t rs dated lt }

-- what is the birth of each current record of the graph is that of each that ends
all_made : (o : Option ℕ) (t : Target) (death : ℕ) (rs : List Record) → ((n : ℕ) (e : Entry) → record_at rs n ≡ kept e → e.target ≡ t → is_current e ≡ true → o ≡ Some e.birth) → All (λ l. o ≡ Some l.birth) (endings t death rs)
all_made o t death [] h = All-nil (λ l. o ≡ Some l.birth)
all_made o t death (free ∷ rs) h = all_made o t death rs (λ n. h (suc n))
all_made o t death (opened ∷ rs) h = all_made o t death rs (λ n. h (suc n))
all_made o t death (unused ∷ rs) h = all_made o t death rs (λ n. h (suc n))
all_made o t death (kept e ∷ rs) h = go (all_made o t death rs (λ n. h (suc n))) (is_of t e && is_current e) refl
  where
    go : All (λ l. o ≡ Some l.birth) (endings t death rs) → (b : Bool) → (is_of t e && is_current e) ≡ b → All (λ l. o ≡ Some l.birth) (left_by e death b ++ endings t death rs)
    go rest true here = All-cons (λ l. o ≡ Some l.birth) _ _ (h 0 e refl (sym (target_same t e.target (first_true _ _ here))) (second_true _ _ here)) rest
    go rest false off = rest

-- it is the graph's current record, where there is one
pub ends_current : (latest commit : ℕ) (t : Target) (rs : List Record) → AreSingle rs → AreDated latest rs → AreVersions rs → latest < commit → EndsCurrent rs t commit
ends_current latest commit t rs single dated versions lt = record {
  few = go (looked is_current rs t);
  ended = all_end latest commit t rs dated lt;
  made = all_made (birth_at (births_of rs) t) t commit rs (λ n e at same now. birth_found rs t (once_current rs single) (record { number = n; entry = e; at = at; passes = now; same = same }));
}
  where
    go : Looked is_current rs t → length (endings t commit rs) ≤ records_for t (version_at (current rs) t)
    go (has f e) =
        let something : is_nothing t f.entry.version ≡ false = ap (λ u. is_nothing u f.entry.version) (sym f.same) ∙ (versions f.number f.entry f.at).something in
        omega (arith, one_ends t commit rs single, ap (records_for t) e, ap (λ b. cond {A = ℕ} b 0 1) something)
    go (lacks none e) = omega (arith, ap length (ends_nothing t commit rs (λ n f at same now. none (record { number = n; entry = f; at = at; passes = now; same = same }))))
