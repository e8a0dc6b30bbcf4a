-- One number stands for something else: what it makes of the versions.
use Rattle.std.proofs.Common.{◌≡◌, ◌≢◌, ℕ, Bool, true, false, List, refl, sym, ap, ◌∙◌, inl, inr, true≢false}
use Rattle.std.proofs.lemmas.Bool.{cases_eq}
use Rattle.gs_term.specs.declared.names.Target.{Target}
use Rattle.gs_index.specs.declared.entries.Entry.{Entry}
use Rattle.gs_records.specs.Records.{is_kept, Record, kept, record_at, is_current, Turns}
use Rattle.gs_records.specs.Graphs.{graphs_where}
use Rattle.gs_records.specs.Births.{births_of}
use Rattle.gs_records.specs.Kept.{AreSingle, AreDated}
use Rattle.gs_records.proofs.Found.{same_kept, not_kept}
use Rattle.gs_records.proofs.Same.{AreOnce, Agrees, graphs_agree}
use Rattle.gs_records.proofs.Births.{births_agree}

-- what a number stands for is no record of the graph that passes the test
abbrev pub IsNoneOf : (Entry → Bool) → Target → Record → Type 0
IsNoneOf test t r = (e : Entry) → r ≡ kept e → e.target ≡ t → test e ≡ true → ⊥

pub none_bare : (test : Entry → Bool) (t : Target) (r : Record) → is_kept r ≡ false → IsNoneOf test t r
none_bare test t r bare e is same passes = not_kept r e bare is

pub none_failing : (test : Entry → Bool) (t : Target) (r : Record) (f : Entry) → r ≡ kept f → test f ≡ false → IsNoneOf test t r
none_failing test t r f is fails e at same passes = true≢false (sym passes ∙ ap test (same_kept e f (sym at ∙ is)) ∙ fails)

module _ (test : Entry → Bool) (old new : List Record) (n : ℕ) (r : Record) (t : Target) (turn : Turns old new n r) (before : IsNoneOf test t (record_at old n)) (after : IsNoneOf test t r) where
  -- where it is none of the graph's that pass, before and after, the same is found
  pub turned_agrees : Agrees test test new old t
  turned_agrees = record {
    there = λ f. let ne : f.number ≢ n = λ e. after f.entry (sym turn.changed ∙ ap (record_at new) (sym e) ∙ f.at) f.same f.passes in
        (record { number = f.number; entry = f.entry; at = sym (turn.others f.number ne) ∙ f.at; passes = f.passes; same = f.same }, refl, refl);
    back = λ g. let ne : g.number ≢ n = λ e. before g.entry (ap (record_at old) (sym e) ∙ g.at) g.same g.passes in
        record { number = g.number; entry = g.entry; at = turn.others g.number ne ∙ g.at; passes = g.passes; same = g.same };
  }

-- where it is none of any graph's, all versions stay
pub graphs_turned : (test : Entry → Bool) (old new : List Record) (n : ℕ) (r : Record) → AreOnce test old → Turns old new n r → ((t : Target) → IsNoneOf test t (record_at old n)) → ((t : Target) → IsNoneOf test t r) → graphs_where test new ≡ graphs_where test old
graphs_turned test old new n r once turn before after = graphs_agree test test new old once (λ t. turned_agrees test old new n r t turn (before t) (after t))

-- and where it is no current record of any graph, all births
pub births_turned : (old new : List Record) (n : ℕ) (r : Record) → AreOnce is_current old → Turns old new n r → ((t : Target) → IsNoneOf is_current t (record_at old n)) → ((t : Target) → IsNoneOf is_current t r) → births_of new ≡ births_of old
births_turned old new n r once turn before after = births_agree new old once (λ t. turned_agrees is_current old new n r t turn (before t) (after t))

-- a record after the turn to no record was one before
pub still_kept : (old new : List Record) (n m : ℕ) (r : Record) (e : Entry) → Turns old new n r → is_kept r ≡ false → record_at new m ≡ kept e → record_at old m ≡ kept e
still_kept old new n m r e turn bare at = elim (cases_eq m n) [
  | inl here ↦ absurd (not_kept r e bare (sym turn.changed ∙ ap (record_at new) (sym here) ∙ at))
  | inr ne ↦ sym (turn.others m ne) ∙ at
]

pub single_turned : (old new : List Record) (n : ℕ) (r : Record) → Turns old new n r → is_kept r ≡ false → AreSingle old → AreSingle new
single_turned old new n r turn bare single v i j e f p q = single v i j e f (still_kept old new n i r e turn bare p) (still_kept old new n j r f turn bare q)

pub dated_turned : (latest : ℕ) (old new : List Record) (n : ℕ) (r : Record) → Turns old new n r → is_kept r ≡ false → AreDated latest old → AreDated latest new
dated_turned latest old new n r turn bare dated m e at = dated m e (still_kept old new n m r e turn bare at)
