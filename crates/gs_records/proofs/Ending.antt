-- The current record of a graph ends: what it makes of the versions.
use Rattle.std.proofs.Common.{◌≡◌, ℕ, ◌<◌, Bool, List, sym, ap, subst, ◌∙◌}
use Rattle.gs_term.specs.declared.names.Target.{Target}
use Rattle.gs_index.specs.declared.entries.Entry.{Entry}
use Rattle.gs_records.specs.Records.{Record, kept, record_at, has_at, is_current, ended_entry, ended, Ends}
use Rattle.gs_records.specs.Graphs.{graphs_at, current, without_version}
use Rattle.gs_records.specs.Births.{births_of, without_birth}
use Rattle.gs_records.specs.Kept.{AreSingle, IsDated, AreDated, HasNoCurrent}
use Rattle.gs_records.proofs.Same.{Agrees, graphs_agree, graphs_without}
use Rattle.gs_records.proofs.Births.{births_but}
use Rattle.gs_records.proofs.Lifetimes.{target-ended, version-ended, birth-ended, has-ended, has_ended_had, current-ended, not_current, dated-ended, ended_is, once_at, once_current}

module _ (old new : List Record) (t : Target) (death : ℕ) (ends : Ends old new t death) where
  -- what was a record after it was one before
  was_kept : (m : ℕ) (f : Entry) → record_at new m ≡ kept f → (e : Entry) × (record_at old m ≡ kept e) × (f ≡ ended_entry t death e)
  was_kept m f at = ended_is t death (record_at old m) f (sym (ends m) ∙ at)

  is_kept_still : (m : ℕ) (e : Entry) → record_at old m ≡ kept e → record_at new m ≡ kept (ended_entry t death e)
  is_kept_still m e at = ends m ∙ ap (ended t death) at

  -- the same is found of a graph where the test says the same of its records
  ended_agrees : (test : Entry → Bool) (u : Target) → ((e : Entry) → e.target ≡ u → test (ended_entry t death e) ≡ test e) → Agrees test test new old u
  ended_agrees test u same = record {
    there = λ f.
        let was = was_kept f.number f.entry f.at in
        let of : was.0.target ≡ u = sym (target-ended t death was.0) ∙ sym (ap (λ (x : Entry). x.target) was.2) ∙ f.same in (
          record { number = f.number; entry = was.0; at = was.1; passes = sym (same was.0 of) ∙ sym (ap test was.2) ∙ f.passes; same = of },
          sym (version-ended t death was.0) ∙ sym (ap (λ (x : Entry). x.version) was.2),
          sym (birth-ended t death was.0) ∙ sym (ap (λ (x : Entry). x.birth) was.2),
        );
    back = λ g. record {
      number = g.number;
      entry = ended_entry t death g.entry;
      at = is_kept_still g.number g.entry g.at;
      passes = same g.entry g.same ∙ g.passes;
      same = target-ended t death g.entry ∙ g.same;
    };
  }

  -- versions before the death stay
  pub graphs_at-ended : (v : ℕ) → AreSingle old → v < death → graphs_at v new ≡ graphs_at v old
  graphs_at-ended v single lt = graphs_agree (has_at v) (has_at v) new old (once_at v old single) (λ u. ended_agrees (has_at v) u (λ e of. has-ended v t death e lt))

  -- no record of the graph is current
  pub none_current : HasNoCurrent new t
  none_current m f at of now =
      let was = was_kept m f at in
      not_current t death was.0 (sym (target-ended t death was.0) ∙ sym (ap (λ (x : Entry). x.target) was.2) ∙ of) (sym (ap is_current was.2) ∙ now)

  -- so it is without its version
  pub current-ended_records : AreSingle old → current new ≡ without_version (current old) t
  current-ended_records single = graphs_without is_current is_current new old t (once_current old single)
      (λ f. none_current f.number f.entry f.at f.same f.passes)
      (λ u ne. ended_agrees is_current u (λ e of. current-ended t death e (λ same. ne (sym of ∙ same))))

  -- and without its birth
  pub births-ended : AreSingle old → births_of new ≡ without_birth (births_of old) t
  births-ended single = births_but new old t (once_current old single)
      (λ f. none_current f.number f.entry f.at f.same f.passes)
      (λ u ne. ended_agrees is_current u (λ e of. current-ended t death e (λ same. ne (sym of ∙ same))))

  -- no version has two
  pub single_ended : AreSingle old → AreSingle new
  single_ended single v m n e f p q same has_e has_f =
      let a = was_kept m e p in
      let b = was_kept n f q in
      single v m n a.0 b.0 a.1 b.1
      (sym (target-ended t death a.0) ∙ sym (ap (λ (x : Entry). x.target) a.2) ∙ same ∙ ap (λ (x : Entry). x.target) b.2 ∙ target-ended t death b.0)
      (has_ended_had v t death a.0 (sym (ap (has_at v) a.2) ∙ has_e))
      (has_ended_had v t death b.0 (sym (ap (has_at v) b.2) ∙ has_f))

  pub dated_ended : (latest : ℕ) → latest < death → AreDated latest old → AreDated death new
  dated_ended latest lt dated m f at =
      let was = was_kept m f at in
      subst (IsDated death) (sym was.2) (dated-ended latest t death was.0 lt (dated m was.0 was.1))
