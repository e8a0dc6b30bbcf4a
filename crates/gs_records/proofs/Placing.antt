-- A number that was open stands for a version of a graph, of which none is current: what it makes of the versions.
use Rattle.std.proofs.Common.{◌≡◌, ℕ, ◌<◌, true, false, List, None, is_none, refl, sym, ap, subst, ◌∙◌, inl, inr, arith}
use Rattle.std.proofs.lemmas.Bool.{cases_eq}
use Rattle.gs_catalogue.specs.Catalogues.{with_version}
use Rattle.gs_index.specs.declared.entries.Entry.{Entry}
use Rattle.gs_records.specs.Records.{is_kept, Record, kept, record_at, has_at, is_current, Turns}
use Rattle.gs_records.specs.Graphs.{graphs_at, current}
use Rattle.gs_records.specs.Births.{births_of, with_birth}
use Rattle.gs_records.specs.Kept.{AreSingle, IsDated, AreDated, HasNoCurrent}
use Rattle.gs_records.proofs.Found.{same_kept}
use Rattle.gs_records.proofs.Same.{graphs_with, version_found}
use Rattle.gs_records.proofs.Births.{births_and, birth_found}
use Rattle.gs_records.proofs.Lifetimes.{has_birth, has_lives, lives_past, once_at, once_current}
use Rattle.gs_records.proofs.Turning.{none_bare, turned_agrees, graphs_turned}

module _ (old new : List Record) (n : ℕ) (e : Entry) (turn : Turns old new n (kept e)) (bare : is_kept (record_at old n) ≡ false) (single : AreSingle old) (dated : AreDated e.birth old) (now : e.death ≡ None) (none : HasNoCurrent old e.target) where
  -- versions before its birth stay
  pub graphs_at-placed : (v : ℕ) → v < e.birth → graphs_at v new ≡ graphs_at v old
  graphs_at-placed v lt = graphs_turned (has_at v) old new n (kept e) (once_at v old single) turn
      (λ t. none_bare (has_at v) t (record_at old n) bare)
      (λ t f is of has. absurd (omega (arith, lt, ap (λ (x : Entry). x.birth) (same_kept e f is), has_birth v f has)))

  -- no version has it and another one of its graph
  apart : (v m : ℕ) (f : Entry) → record_at old m ≡ kept f → f.target ≡ e.target → has_at v e ≡ true → has_at v f ≡ true → ⊥
  apart v m f at same has_e has_f =
      let d = dated m f at in
      none m f at same (lives_past v e.birth f.birth f.death d.died (has_birth v e has_e) (has_lives v f has_f))

  pub single_placed : AreSingle new
  single_placed v i j f g p q same has_f has_g = elim (cases_eq i n) [
    | inl here ↦
        let f_is : e ≡ f = same_kept e f (sym turn.changed ∙ ap (record_at new) (sym here) ∙ p) in
        elim (cases_eq j n) [
          | inl there ↦ here ∙ sym there
          | inr ne ↦ absurd (apart v j g (sym (turn.others j ne) ∙ q) (sym same ∙ sym (ap (λ (x : Entry). x.target) f_is)) (ap (has_at v) f_is ∙ has_f) has_g)
        ]
    | inr ne ↦ elim (cases_eq j n) [
      | inl there ↦
          let g_is : e ≡ g = same_kept e g (sym turn.changed ∙ ap (record_at new) (sym there) ∙ q) in
          absurd (apart v i f (sym (turn.others i ne) ∙ p) (same ∙ sym (ap (λ (x : Entry). x.target) g_is)) (ap (has_at v) g_is ∙ has_g) has_f)
      | inr nf ↦ single v i j f g (sym (turn.others i ne) ∙ p) (sym (turn.others j nf) ∙ q) same has_f has_g
    ]
  ]

  pub dated_placed : 0 < e.birth → AreDated e.birth new
  dated_placed after m f at = elim (cases_eq m n) [
    | inl here ↦
        let f_is : e ≡ f = same_kept e f (sym turn.changed ∙ ap (record_at new) (sym here) ∙ at) in
        subst (IsDated e.birth) f_is (record { after = after; born = omega arith; died = subst (Rattle.gs_records.specs.Kept.DiedBy e.birth e.birth) (sym now) tt })
    | inr ne ↦ dated m f (sym (turn.others m ne) ∙ at)
  ]

  -- its version is its graph's now
  pub current-placed : current new ≡ with_version (current old) e.target e.version
  current-placed = graphs_with is_current is_current new old e.target e.version (once_current old single)
      (version_found is_current new e.target (once_current new single_placed) (record { number = n; entry = e; at = turn.changed; passes = ap is_none now; same = refl }))
      (λ u ne. turned_agrees is_current old new n (kept e) u turn (none_bare is_current u (record_at old n) bare) (λ f is of has. ne (sym of ∙ sym (ap (λ (x : Entry). x.target) (same_kept e f is)))))

  -- and its birth is its graph's
  pub births-placed : births_of new ≡ with_birth (births_of old) e.target e.birth
  births-placed = births_and new old e.target e.birth (once_current old single)
      (birth_found new e.target (once_current new single_placed) (record { number = n; entry = e; at = turn.changed; passes = ap is_none now; same = refl }))
      (λ u ne. turned_agrees is_current old new n (kept e) u turn (none_bare is_current u (record_at old n) bare) (λ f is of has. ne (sym of ∙ sym (ap (λ (x : Entry). x.target) (same_kept e f is)))))
