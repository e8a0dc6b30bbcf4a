-- The commit numbers of last writes, once a graph was written or deleted.
use Rattle.std.proofs.Common.{◌≡◌, ◌+◌, ℕ, cond, Option, Some, true, false, refl, sym, ap, ◌∙◌}
use Rattle.std.specs.Option.{unwrap_or}
use Rattle.std.proofs.lemmas.Option.{none-some, same_Some}
use Rattle.gs_term.specs.declared.names.Target.{Target}
use Rattle.gs_term.specs.declared.names.Target.TheVariants.{Default, Named}
use Rattle.gs_event.specs.Conditions.{with_write, with_delete}
use Rattle.gs_event.specs.Waste.{Lifetime}
use Rattle.gs_event.specs.Wasting.{EndsAt, EndsRecord}
use Rattle.gs_catalogue.specs.declared.versions.GraphVersion.{GraphVersion}
use Rattle.gs_records.specs.Births.{Births, births_of, birth_at, with_birth, without_birth}
use Rattle.gs_records.specs.Calls.{is_nothing, births_with}
use Rattle.gs_tree_store.specs.declared.books.Books.{Books}
use Rattle.gs_tree_store.specs.LastWrites.{last_writes_of, WasWritten, by_target}
use Rattle.gs_tree_store.specs.Books.{totals_of}

-- the commits that made the current records
abbrev births : Books → Births
births b = births_of b.records.records

-- a version of the default graph changes nothing of the names
names_stay : (h : Births) (v : GraphVersion) (commit : ℕ) → (births_with h Default v commit).named ≡ h.named
names_stay h v commit = elim (is_nothing Default v) as (λ x. (cond {A = Births} x (without_birth h Default) (with_birth h Default commit)).named ≡ h.named) [ true ↦ refl | false ↦ refl ]

-- and it has a record by this commit, if any
made_now : (h : Births) (v : GraphVersion) (commit n : ℕ) → (births_with h Default v commit).unnamed ≡ Some n → n ≡ commit
made_now h v commit n = elim (is_nothing Default v) as (λ x. (cond {A = Births} x (without_birth h Default) (with_birth h Default commit)).unnamed ≡ Some n → n ≡ commit) [
  | true ↦ λ e. absurd (none-some n e)
  | false ↦ λ e. sym (same_Some commit n e)
]

-- A commit of this number made the books from others.
module _ (b new : Books) (commit : ℕ) where
  -- the target's graph was written
  pub put_writes : (t : Target) (v : GraphVersion) → births new ≡ births_with (births b) t v commit → new.default_write ≡ by_target t commit b.default_write → new.last_delete ≡ b.last_delete → last_writes_of new ≡ with_write (last_writes_of b) commit t
  put_writes Default v made write delete =
      let named = ap (λ (h : Births). h.named) made ∙ names_stay (births b) v commit in
      λ i. record { unnamed = write i; named = named i; removed = delete i }
  put_writes (Named name) v made write delete = λ i. record { unnamed = write i; named = (made i).named; removed = delete i }

  pub put_written : (t : Target) (v : GraphVersion) → births new ≡ births_with (births b) t v commit → new.default_write ≡ by_target t commit b.default_write → WasWritten b.records b.default_write → WasWritten new.records new.default_write
  put_written Default v made write was n e = made_now (births b) v commit n (sym (ap (λ (h : Births). h.unnamed) made) ∙ e) ∙ sym write
  put_written (Named name) v made write was n e = was n (sym (ap (λ (h : Births). h.unnamed) made) ∙ e) ∙ sym write

  -- or deleted
  pub delete_writes : (t : Target) → births new ≡ without_birth (births b) t → new.default_write ≡ by_target t commit b.default_write → new.last_delete ≡ by_target t b.last_delete commit → last_writes_of new ≡ with_delete (last_writes_of b) commit t
  delete_writes Default gone write delete = λ i. record { unnamed = write i; named = (gone i).named; removed = delete i }
  delete_writes (Named name) gone write delete = λ i. record { unnamed = write i; named = (gone i).named; removed = delete i }

  pub delete_written : (t : Target) → births new ≡ without_birth (births b) t → new.default_write ≡ by_target t commit b.default_write → WasWritten b.records b.default_write → WasWritten new.records new.default_write
  delete_written Default gone write was n e = absurd (none-some n (sym (ap (λ (h : Births). h.unnamed) gone) ∙ e))
  delete_written (Named name) gone write was n e = was n (sym (ap (λ (h : Births). h.unnamed) gone) ∙ e) ∙ sym write

-- what ends with the current record of a graph began by the last write on it
pub ends_record : (b : Books) (t : Target) (commit : ℕ) (l : Lifetime) → WasWritten b.records b.default_write → commit ≡ b.versions.commit + 1 → birth_at (births_of b.records.records) t ≡ Some l.birth → EndsAt commit l → EndsRecord (totals_of b) t l
ends_record b Default commit l was next made ends = (was l.birth made, ends.1 ∙ next)
ends_record b (Named name) commit l was next made ends = (sym (ap (λ (o : Option ℕ). unwrap_or o b.last_delete) made), ends.1 ∙ next)
