-- The versions that records are of stay so, whatever a call makes of the records.
use Rattle.std.proofs.Common.{◌≡◌, ℕ, false, List, Option, refl, sym, ap, subst, ◌∙◌, inl, inr}
use Rattle.std.proofs.lemmas.Bool.{cases_eq}
use Rattle.gs_term.specs.declared.names.Target.{Target}
use Rattle.gs_index.specs.declared.entries.Entry.{Entry}
use Rattle.gs_records.specs.Records.{Record, free, kept, record_at, is_kept, ended_entry, Turns, Ends}
use Rattle.gs_records.specs.Reclaims.{StaysOrGoes}
use Rattle.gs_records.specs.Versions.{IsVersionEntry, AreVersions}
use Rattle.gs_records.proofs.Found.{same_kept, not_kept}
use Rattle.gs_records.proofs.Lifetimes.{EndedCases, ends, stays, ended_cases, ended_is}
use Rattle.gs_records.proofs.Turning.{still_kept}

-- where there is no record
pub versions_none : (rs : List Record) → ((n : ℕ) → record_at rs n ≡ free) → AreVersions rs
versions_none rs none n e at = absurd (not_kept free e refl (sym (none n) ∙ at))

-- one number is that of no record
pub versions_bare : (old new : List Record) (n : ℕ) (r : Record) → Turns old new n r → is_kept r ≡ false → AreVersions old → AreVersions new
versions_bare old new n r turn bare h m e at = h m e (still_kept old new n m r e turn bare at)

-- one is that of such a version
pub versions_placed : (old new : List Record) (n : ℕ) (e : Entry) → Turns old new n (kept e) → IsVersionEntry e → AreVersions old → AreVersions new
versions_placed old new n e turn v h m f at = elim (cases_eq m n) [
  | inl here ↦ subst IsVersionEntry (same_kept e f (sym turn.changed ∙ ap (record_at new) (sym here) ∙ at)) v
  | inr ne ↦ h m f (sym (turn.others m ne) ∙ at)
]

-- one that ends is of the version that it was of
version_ended : (t : Target) (death : ℕ) (e : Entry) → IsVersionEntry e → IsVersionEntry (ended_entry t death e)
version_ended t death e v = go (ended_cases t death e)
  where
    go : EndedCases t death e → IsVersionEntry (ended_entry t death e)
    go (ends s n is) = subst IsVersionEntry (sym is) (record { small = v.small; something = v.something })
    go (stays h is) = subst IsVersionEntry (sym is) v

pub versions_ended : (old new : List Record) (t : Target) (death : ℕ) → Ends old new t death → AreVersions old → AreVersions new
versions_ended old new t death is h m f at =
    let was = ended_is t death (record_at old m) f (sym (is m) ∙ at) in
    subst IsVersionEntry (sym was.2) (version_ended t death was.0 (h m was.0 was.1))

-- some are free
pub versions_dropped : (pins : List (Option ℕ)) (old new : List Record) → ((m : ℕ) → StaysOrGoes pins (record_at old m) (record_at new m)) → AreVersions old → AreVersions new
versions_dropped pins old new each h n e at = go (each n)
  where
    go : StaysOrGoes pins (record_at old n) (record_at new n) → IsVersionEntry e
    go (inl same) = h n e (sym same ∙ at)
    go (inr gone) = absurd (not_kept free e refl (sym gone.0 ∙ at))
