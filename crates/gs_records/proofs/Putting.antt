-- A commit: the graph's current record ends, and an open one is that of the graph, or is given up.
use Rattle.std.proofs.Common.{◌≡◌, ℕ, Bool, true, false, cond, List, [], ◌++◌, Option, Some, None, is_none, refl, sym, ap, subst, ◌∙◌, inl, inr, arith, true≢false}
use Rattle.std.proofs.lemmas.List.Sums.{sum_by-append}
use Rattle.std.proofs.lemmas.Map.Views.{exact_unsigned_eq}
use Rattle.gs_term.specs.declared.names.Target.{Target}
use Rattle.gs_term.specs.declared.names.Target.TheVariants.{Default, Named}
use Rattle.gs_event.specs.Waste.{Lifetime}
use Rattle.gs_catalogue.specs.declared.versions.GraphVersion.{GraphVersion}
use Rattle.gs_catalogue.specs.Catalogues.{GraphVersions, version_at, with_version}
use Rattle.gs_records.specs.Records.{Record, opened, unused, Recorded, record_at, ended}
use Rattle.gs_records.specs.Graphs.{current, without_version}
use Rattle.gs_records.specs.Births.{Births, births_of, with_birth, without_birth}
use Rattle.gs_records.specs.Waste.{lifetimes, waste_in}
use Rattle.gs_records.specs.Calls.{Gains, endings, made_record, is_nothing, placed, births_with, KeepsCounts, UsesOne, GivesUp, RemovesVersion, Places, MakesCurrent}
use Rattle.gs_records.proofs.Found.{same_versions, cases_target, version_at-with, version_at-with_other, version_at-without_other}
use Rattle.gs_records.proofs.Births.{birth_with-without}
use Rattle.gs_records.proofs.Lifetimes.{first_true, second_true}

-- a version that is set does not depend on the one before it
pub with-without : (g : GraphVersions) (t : Target) (v : GraphVersion) → with_version (without_version g t) t v ≡ with_version g t v
with-without g t v = same_versions _ _ (λ u. elim (cases_target u t) [
  | inl same ↦ ap (version_at (with_version (without_version g t) t v)) same ∙ version_at-with (without_version g t) t v ∙ sym (version_at-with g t v) ∙ ap (version_at (with_version g t v)) (sym same)
  | inr other ↦ version_at-with_other (without_version g t) u t v other ∙ version_at-without_other g u t other ∙ sym (version_at-with_other g u t v other)
])

no_root : (o : Option ℕ) → is_none o ≡ true → o ≡ None
no_root None e = refl
no_root (Some x) e = absurd (true≢false (sym e))

-- without a version, the default graph is empty
pub with_nothing : (g : GraphVersions) (t : Target) (v : GraphVersion) → is_nothing t v ≡ true → without_version g t ≡ with_version g t v
with_nothing g Default v e =
    let root = no_root v.root (first_true _ _ e) in
    let none = exact_unsigned_eq v.triples 0 (second_true _ _ e) in
    λ i. record { unnamed = record { root = sym root i; triples = sym none i }; named = g.named }
with_nothing g (Named name) v e = absurd (true≢false (sym e))

-- the births with a version that is nothing, or is something
births_by : (b : Births) (t : Target) (v : GraphVersion) (commit : ℕ) (nothing : Bool) → is_nothing t v ≡ nothing → births_with b t v commit ≡ cond nothing (without_birth b t) (with_birth b t commit)
births_by b t v commit nothing is = ap (λ x. cond x (without_birth b t) (with_birth b t commit)) is

gains_both : (a b c : List Lifetime) (more last : List Lifetime) → Gains a b more → Gains b c last → Gains a c (more ++ last)
gains_both a b c more last first second f = omega (arith, first f, second f, sum_by-append f more last)

uses_after : (a b c : List Record) → KeepsCounts a b → UsesOne b c → UsesOne a c
uses_after a b c k u = record { used = u.used ∙ k.used; opens = u.opens ∙ k.opens }

-- an open record is open still once another ended
pub open_still : (a b : Recorded) (n : ℕ) (t : Target) (commit : ℕ) → record_at a.records n ≡ opened → RemovesVersion a b t commit → record_at b.records n ≡ opened
open_still a b n t commit is r = r.ends n ∙ ap (ended t commit) is

pub puts_nothing : (a b c : Recorded) (n : ℕ) (t : Target) (v : GraphVersion) (commit : ℕ) → is_nothing t v ≡ true → RemovesVersion a b t commit → GivesUp b c n → MakesCurrent a c n t v commit
puts_nothing a b c n t v commit nothing r g =
    let is : placed t v commit ≡ unused = ap (λ x. cond x unused (made_record t v commit)) nothing in
    record {
      turned = g.turns.changed ∙ sym is;
      others = λ m ne. g.turns.others m ne ∙ r.ends m;
      versions = λ w lt. g.graphs.versions w ∙ r.versions w lt;
      now = g.graphs.now ∙ r.now ∙ with_nothing (current a.records) t v nothing;
      births = g.graphs.births ∙ r.births ∙ sym (births_by (births_of a.records) t v commit true nothing);
      waste = subst (λ x. Gains (waste_in a.records) (waste_in c.records) (endings t commit a.records ++ lifetimes x)) (sym is) (gains_both (waste_in a.records) (waste_in b.records) (waste_in c.records) (endings t commit a.records) (lifetimes unused) r.waste g.waste);
      last = r.last;
      counts = uses_after a.records b.records c.records r.counts g.counts;
      latest = g.latest ∙ r.latest;
      limit = g.limit ∙ r.limit;
    }

pub puts_made : (a b c : Recorded) (n : ℕ) (t : Target) (v : GraphVersion) (commit : ℕ) → is_nothing t v ≡ false → RemovesVersion a b t commit → Places b c n t v → MakesCurrent a c n t v commit
puts_made a b c n t v commit something r p =
    let is : placed t v commit ≡ made_record t v commit = ap (λ x. cond x unused (made_record t v commit)) something in
    record {
      turned = p.turns.changed ∙ ap (made_record t v) r.latest ∙ sym is;
      others = λ m ne. p.turns.others m ne ∙ r.ends m;
      versions = λ w lt. p.versions w (omega (arith, lt, r.latest)) ∙ r.versions w lt;
      now = p.now ∙ ap (λ g. with_version g t v) r.now ∙ with-without (current a.records) t v;
      births = p.births ∙ (λ i. with_birth (r.births i) t (r.latest i)) ∙ birth_with-without (births_of a.records) t commit ∙ sym (births_by (births_of a.records) t v commit false something);
      waste = subst (λ x. Gains (waste_in a.records) (waste_in c.records) (endings t commit a.records ++ lifetimes x)) (sym is) (gains_both (waste_in a.records) (waste_in b.records) (waste_in c.records) (endings t commit a.records) [] r.waste p.waste);
      last = r.last;
      counts = uses_after a.records b.records c.records r.counts p.counts;
      latest = p.latest ∙ r.latest;
      limit = p.limit ∙ r.limit;
    }
