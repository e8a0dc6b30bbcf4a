-- What a Delete makes of a seat and of its books.
use Rattle.std.proofs.Common.{◌≡◌, ◌+◌, ◌<◌, ◌≤◌, ◌&&◌, ℕ, true, false, cond, Option, Some, None, is_some, refl, sym, ap, subst, ◌∙◌, true≢false}
use Rattle.std.proofs.lemmas.List.{set-get_or}
use Rattle.gs_model.specs.Limits.{last_number}
use Rattle.gs_model.specs.declared.refusals.Refusal.TheVariants.{LastNumber}
use Rattle.gs_term.specs.declared.names.Target.{Target}
use Rattle.gs_event.specs.declared.events.Action.TheVariants.{Delete}
use Rattle.gs_event.specs.declared.answers.Answer.TheVariants.{Refused, Status}
use Rattle.gs_event.specs.Datasets.{Dataset, without_graph, is_there, size_at}
use Rattle.gs_event.specs.Operations.{Deletes, after, is_success}
use Rattle.gs_event.specs.Conditions.{asked_since, is_above, is_late, last_write_on, with_delete}
use Rattle.gs_event.specs.Views.{state_of}
use Rattle.gs_event.specs.Born.{DeleteBears}
use Rattle.gs_event.specs.Wasting.{DeleteNodes}
use Rattle.gs_staging.proofs.KeyLemmas.{still_grows}
use Rattle.gs_ledger.specs.Marks.{dead_at, waste_at}
use Rattle.gs_catalogue.specs.declared.versions.GraphVersion.{GraphVersion}
use Rattle.gs_datasets.specs.Standing.{graph_trees}
use Rattle.gs_datasets.proofs.Sizes.{is_there-is}
use Rattle.gs_commit.proofs.LawLemmas.{leaf_upload}
use Rattle.gs_tree_store.specs.declared.books.Books.{Books}
use Rattle.gs_tree_store.specs.declared.books.Seat.TheVariants.{Idle}
use Rattle.gs_tree_store.specs.LastWrites.{last_writes_of, late_write_of}
use Rattle.gs_tree_store.specs.Books.{graphs_of, books_setting, dataset_of, totals_of, IsFound, IsReady}
use Rattle.gs_tree_store.specs.Births.{graph_births}
use Rattle.gs_tree_store.specs.Writes.{EndsOneVersion, Removes}
use Rattle.gs_tree_store.specs.Actions.{bearing_by, Acts}
use Rattle.gs_tree_store.proofs.BornLemmas.{equal_births}
use Rattle.gs_tree_store.proofs.ConditionLemmas.{ComesTo, fits_so, totals_so, comes_late, comes_done, comes_undone, no_number, change_late}
use Rattle.gs_tree_store.proofs.UndoneLemmas.{nothing_done}
use Rattle.gs_tree_store.proofs.WriteLemmas.{idle_ledger, same_use}

-- whether the target was found is whether it is there
pub found_missing : (b : Books) (t : Target) (found : Option GraphVersion) → IsFound b t found → is_some found ≡ false → is_there (dataset_of b) t ≡ false
found_missing b t found is none = is_there-is b.dict.terms b.pool (graphs_of b) t ∙ ap is_some (sym is) ∙ none

pub found_there : (b : Books) (t : Target) (found : Option GraphVersion) → IsFound b t found → is_some found ≡ true → is_there (dataset_of b) t ≡ true
found_there b t found is some = is_there-is b.dict.terms b.pool (graphs_of b) t ∙ ap is_some (sym is) ∙ some

-- a Delete with effect
pub deleted : (old new : Books) (s : ℕ) (t : Target) (since : Option ℕ) (status number : ℕ) → Removes old new t → is_late (state_of (totals_of old)) since (Deletes t) ≡ false → is_there (dataset_of old) t ≡ true → status ≡ 204 → old.versions.commit < last_number
    → number ≡ new.versions.commit → IsReady old s Idle → Acts old new s Idle Idle (Delete t since) (Status status None number)
deleted old new s t since status number removes in_time there is left last ready =
    let m = dataset_of old in
    let q = asked_since since (Deletes t) in
    let kept = removes.kept in
    let well : is_success status ≡ true = ap is_success is in
    let comes = comes_done (totals_of old) q in_time status None (is ∙ sym (ap (λ x. cond x 204 404) there)) well refl in
    let dataset = removes.dataset ∙ sym (ap (λ x. cond x (without_graph m t) m) there) in
    let state : state_of (totals_of new) ≡ record { dataset = after (books_setting old) m (Deletes t); commit = old.versions.commit + 1; last_writes = with_delete (last_writes_of old) (old.versions.commit + 1) t } =
    λ i. record { dataset = dataset i; commit = kept.commit i; last_writes = removes.last_writes i } in
    subst (λ n. Acts old new s Idle Idle (Delete t since) (Status status None n)) (sym (last ∙ kept.commit))
    (record {
      fits = fits_so (totals_of old) q status None (old.versions.commit + 1) _ comes (λ well. left);
      totals = totals_so old new q _ comes.state_is (λ i. record { base = kept.base i; limits = kept.limits i }) kept.request state;
      seat = refl;
      pins = kept.pins ∙ sym (set-get_or old.versions.seats s None);
      sound = removes.sound;
      known = tt;
      version = tt;
      grows = still_grows old.dict new.dict kept.dict;
      ledgers = λ us rs l.
          let e : EndsOneVersion old new (size_at m t) (graph_births old t) us rs = removes.ledgers us rs ((leaf_upload old.pool old.versions (graph_trees old.pool (graphs_of old)) us rs (dead_at old.pool)).1 l.ledger) in
          record {
            ledger = idle_ledger new s us rs l.there l.read e.ledger;
            waste = subst (λ b. DeleteNodes (totals_of old) t b (waste_at old.pool) (waste_at new.pool)) (sym well) e.waste;
          };
      takes = same_use old.pool new.pool kept.nodes;
      born =
          let own = ready.ledger in
          let gs = graph_trees old.pool (graphs_of old) in
          let e : EndsOneVersion old new (size_at m t) (graph_births old t) own.uploads own.reads = removes.ledgers own.uploads own.reads ((leaf_upload old.pool old.versions gs own.uploads own.reads (dead_at old.pool)).1 own.ledger.ledger) in
          subst (λ x. DeleteBears old.versions.commit t x (bearing_by old new Idle Idle)) (sym well)
          ((λ u other. equal_births (graph_births old u) (graph_births new u) (removes.births.others u other)), removes.births.own, e.leave, λ f. refl);
    })

-- a Delete without effect: nothing changes
pub not_deleted : (b : Books) (s : ℕ) (t : Target) (since : Option ℕ) (status number : ℕ) → ComesTo (totals_of b) (asked_since since (Deletes t)) status None number (state_of (totals_of b)) → is_success status ≡ false
    → IsReady b s Idle → Acts b b s Idle Idle (Delete t since) (Status status None number)
not_deleted b s t since status number comes fails ready =
    let q = asked_since since (Deletes t) in
    record {
      fits = fits_so (totals_of b) q status None number (state_of (totals_of b)) comes (λ well. absurd (true≢false (sym well ∙ fails)));
      totals = totals_so b b q (state_of (totals_of b)) comes.state_is refl refl refl;
      seat = refl;
      pins = sym (set-get_or b.versions.seats s None);
      sound = ready.sound;
      known = tt;
      version = tt;
      grows = still_grows b.dict b.dict refl;
      ledgers = λ us rs l. record {
        ledger = idle_ledger b s us rs l.there l.read ((leaf_upload b.pool b.versions (graph_trees b.pool (graphs_of b)) us rs (dead_at b.pool)).1 l.ledger);
        waste = subst (λ x. DeleteNodes (totals_of b) t x (waste_at b.pool) (waste_at b.pool)) (sym fails) refl;
      };
      takes = refl;
      born = subst (λ x. DeleteBears b.versions.commit t x (bearing_by b b Idle Idle)) (sym fails) (λ u f. refl, λ f. refl);
    }

pub delete_missing : (b : Books) (s : ℕ) (t : Target) (since : Option ℕ) → is_there (dataset_of b) t ≡ false → IsReady b s Idle → Acts b b s Idle Idle (Delete t since) (Status 404 None b.versions.commit)
delete_missing b s t since missing =
    let m = dataset_of b in
    let in_time = ap (λ y. y && is_above (last_write_on (last_writes_of b) t) since) missing in
    let status = sym (ap (λ y. cond {A = ℕ} y 204 404) missing) in
    let dataset = ap (λ y. cond {A = Dataset} y (without_graph m t) m) missing in
    not_deleted b s t since 404 b.versions.commit (comes_undone (totals_of b) (asked_since since (Deletes t)) in_time 404 None status refl refl dataset) refl

pub delete_late : (b : Books) (s : ℕ) (t : Target) (since : Option ℕ) (number : ℕ) → is_there (dataset_of b) t ≡ true → Some number ≡ late_write_of b t since → IsReady b s Idle → Acts b b s Idle Idle (Delete t since) (Status 412 None number)
delete_late b s t since number there is =
    let late = change_late b t since there number is in
    not_deleted b s t since 412 number (comes_late (totals_of b) (asked_since since (Deletes t)) number late.0 refl late.1) refl

-- and one that finds no number left
pub delete_refused : (b : Books) (s : ℕ) (t : Target) (since : Option ℕ) → is_late (state_of (totals_of b)) since (Deletes t) ≡ false → is_there (dataset_of b) t ≡ true → last_number ≤ b.versions.commit → IsReady b s Idle → Acts b b s Idle Idle (Delete t since) (Refused LastNumber)
delete_refused b s t since in_time there last =
    let would = ap (λ y. is_success (cond {A = ℕ} y 204 404)) there in
    nothing_done b s Idle (Delete t since) (Refused LastNumber) (no_number (totals_of b) (asked_since since (Deletes t)) in_time would last) refl refl refl refl refl (λ x none. none)
