-- Calls of gs_records leave a version what it has.
use Rattle.std.proofs.Common.{◌≡◌, ◌≢◌, ℕ, ◌<◌, Bool, true, false, cond, ◌&&◌, List, slice_index_or, Option, Some, None, refl, sym, ap, subst, ◌∙◌, inl, inr, true≢false}
use Rattle.std.proofs.lemmas.Bool.{cases_eq, lt-leb}
use Rattle.gs_term.specs.declared.names.Target.{Target}
use Rattle.gs_catalogue.specs.declared.versions.GraphVersion.{GraphVersion}
use Rattle.gs_index.specs.Ages.{age_of}
use Rattle.gs_records.specs.Records.{Record, free, opened, unused, kept, Recorded, record_at, has_at, is_kept, ended}
use Rattle.gs_records.specs.Order.{entry_of}
use Rattle.gs_records.specs.Calls.{made_record, is_nothing, placed}
use Rattle.gs_records.specs.Reclaims.{IsUnneeded, StaysOrGoes}
use Rattle.gs_records.proofs.Lifetimes.{target-ended, version-ended, birth-ended, has-ended}
use Rattle.gs_records.proofs.Dropping.{unneeded_had}
use Rattle.gs_quads.specs.Laws.{HasSame, CallsKeep}

-- whether a version has what a number stands for
abbrev had : ℕ → Record → Bool
had v r = is_kept r && has_at v (entry_of r)

-- its graph and version
abbrev graph_of : Record → Target × GraphVersion
graph_of r = ((entry_of r).target, (entry_of r).version)

-- what a number stood for and what it stands for are the same to a version
record IsSameTo (v : ℕ) (old new : Record) : Type 0 where
  has : had v new ≡ had v old
  graph : had v old ≡ true → graph_of new ≡ graph_of old
  age : had v old ≡ true → age_of (entry_of new) ≡ age_of (entry_of old)

-- where all are, the version has the same
all_same : (v : ℕ) (old new : Recorded) → ((n : ℕ) → IsSameTo v (record_at old.records n) (record_at new.records n)) → HasSame v old new
all_same v old new each = record { numbers = λ n. (each n).has; graphs = λ n has. (each n).graph has; ages = λ n has. (each n).age has }

-- what it stood for is the same
itself : (v : ℕ) (old new : Record) → new ≡ old → IsSameTo v old new
itself v old new is = record {
  has = ap (had v) is;
  graph = λ has. ap graph_of is;
  age = λ has. ap (λ (r : Record). age_of (entry_of r)) is;
}

-- so is what the version has neither before nor after
neither : (v : ℕ) (old new : Record) → had v old ≡ false → had v new ≡ false → IsSameTo v old new
neither v old new before after = record {
  has = after ∙ sym before;
  graph = λ has. absurd (true≢false (sym has ∙ before));
  age = λ has. absurd (true≢false (sym has ∙ before));
}

-- what ends at a later commit
ended_later : (v : ℕ) (t : Target) (death : ℕ) (r : Record) → v < death → IsSameTo v r (ended t death r)
ended_later v t death free lt = itself v free free refl
ended_later v t death opened lt = itself v opened opened refl
ended_later v t death unused lt = itself v unused unused refl
ended_later v t death (kept e) lt = record {
  has = has-ended v t death e lt;
  graph = λ has. (λ i. (target-ended t death e i, version-ended t death e i));
  age = λ has. (λ i. record { target = target-ended t death e i; birth = birth-ended t death e i });
}

-- what is made at a later commit the version has not
placed_later : (v : ℕ) (t : Target) (g : GraphVersion) (commit : ℕ) → v < commit → had v (placed t g commit) ≡ false
placed_later v t g commit lt = go (is_nothing t g)
  where
    go : (b : Bool) → had v (cond b unused (made_record t g commit)) ≡ false
    go true = refl
    go false = ap (λ b. b && true) (lt-leb commit v lt)

-- nor what no pinned version needs, where it is pinned
not_had : (pins : List (Option ℕ)) (seat v : ℕ) → slice_index_or pins seat None ≡ Some v → (r : Record) → IsUnneeded pins r → had v r ≡ false
not_had pins seat v pinned free u = refl
not_had pins seat v pinned opened u = refl
not_had pins seat v pinned unused u = refl
not_had pins seat v pinned (kept e) u = go (has_at v e) refl
  where
    go : (b : Bool) → has_at v e ≡ b → has_at v e ≡ false
    go true is = absurd (unneeded_had pins seat v pinned (kept e) u e.target e refl refl is)
    go false is = is

-- what stays or goes in a reclaim
reclaimed_same : (pins : List (Option ℕ)) (seat v : ℕ) → slice_index_or pins seat None ≡ Some v → (old new : Record) → StaysOrGoes pins old new → IsSameTo v old new
reclaimed_same pins seat v pinned old new (inl same) = itself v old new same
reclaimed_same pins seat v pinned old new (inr gone) = neither v old new (not_had pins seat v pinned old gone.1) (ap (had v) gone.0)

-- one number that the version has neither before nor after, and others that are the same to it
others_same : (v : ℕ) (old new : Recorded) (n : ℕ) → had v (record_at old.records n) ≡ false → had v (record_at new.records n) ≡ false
    → ((m : ℕ) → m ≢ n → IsSameTo v (record_at old.records m) (record_at new.records m)) → HasSame v old new
others_same v old new n before after others = all_same v old new (λ m. elim (cases_eq m n) [
  | inl here ↦
      let old_is : record_at old.records m ≡ record_at old.records n = ap (record_at old.records) here in
      let new_is : record_at new.records m ≡ record_at new.records n = ap (record_at new.records) here in
      neither v (record_at old.records m) (record_at new.records m) (ap (had v) old_is ∙ before) (ap (had v) new_is ∙ after)
  | inr ne ↦ others m ne
])

-- each call leaves a version what it has
pub calls_keep : (v : ℕ) → CallsKeep v
calls_keep v = record {
  then = λ old mid new a b. record {
    numbers = λ n. b.numbers n ∙ a.numbers n;
    graphs = λ n has. b.graphs n (a.numbers n ∙ has) ∙ a.graphs n has;
    ages = λ n has. b.ages n (a.numbers n ∙ has) ∙ a.ages n has;
  };
  opens = λ old new n o. others_same v old new n (ap (had v) o.was) (ap (had v) o.turns.changed)
      (λ m ne. itself v (record_at old.records m) (record_at new.records m) (o.turns.others m ne));
  gives_up = λ old new n was g. others_same v old new n (ap (had v) was) (ap (had v) g.turns.changed)
      (λ m ne. itself v (record_at old.records m) (record_at new.records m) (g.turns.others m ne));
  removes = λ old new t commit lt r. all_same v old new (λ m. subst (IsSameTo v (record_at old.records m)) (sym (r.ends m)) (ended_later v t commit (record_at old.records m) lt));
  puts = λ old new n t g commit lt was p. others_same v old new n (ap (had v) was) (ap (had v) p.turned ∙ placed_later v t g commit lt)
      (λ m ne. subst (IsSameTo v (record_at old.records m)) (sym (p.others m ne)) (ended_later v t commit (record_at old.records m) lt));
  reclaims = λ old new pins seat most freed left pinned r. all_same v old new (λ m. reclaimed_same pins seat v pinned (record_at old.records m) (record_at new.records m) (r.each m));
}
