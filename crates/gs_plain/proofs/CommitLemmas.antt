-- What commits rest on: room for a graph's triples, and the last commit number.
use Rattle.std.proofs.Common.{◌≡◌, ℕ, ◌+◌, ◌<◌, ◌≤◌, true, cond, List, Option, Some, None, refl, sym, ap, ◌∙◌, subst, add-zero, string_bytes}
use Rattle.gs_model.specs.Graphs.{Graph}
use Rattle.gs_model.specs.Limits.{last_number}
use Rattle.gs_model.specs.declared.refusals.Refusal.TheVariants.{LastNumber}
use Rattle.gs_term.specs.declared.names.Target.TheVariants.{Named}
use Rattle.gs_event.specs.declared.events.UploadKind.TheVariants.{New}
use Rattle.gs_event.specs.declared.events.Action.TheVariants.{Commit}
use Rattle.gs_event.specs.declared.answers.Answer.TheVariants.{Refused, Status}
use Rattle.gs_event.specs.Datasets.{with_graph, is_there}
use Rattle.gs_event.specs.Names.{new_name}
use Rattle.gs_event.specs.Operations.{Creates, is_within, is_success, stored_status}
use Rattle.gs_event.specs.Conditions.{asked_since, with_write}
use Rattle.gs_event.specs.Phases as phase
use Rattle.gs_event.specs.Views.{FitsWrite, next_totals}
use Rattle.gs_plain.specs.declared.books.Books.{Books}
use Rattle.gs_plain.specs.declared.books.Seat.TheVariants.{Writing}
use Rattle.gs_plain.specs.Books.{dataset_of, books_setting, totals_of}
use Rattle.gs_plain.specs.LastWrites.{last_writes_of}
use Rattle.gs_plain.specs.Versions.{KeepsBooks}
use Rattle.gs_plain.specs.Actions.{IsReady, Acts}
use Rattle.gs_plain.proofs.WriteLemmas.{same_rows, stored_well}

-- at the last commit number a new graph is refused, and nothing changes
pub last_new : (b : Books) (r : ℕ) (g : Graph) (since : Option ℕ) (name : List ℕ) → name ≡ new_name (string_bytes b.base) (dataset_of b.rows.items) r → is_within b.limits (with_graph (dataset_of b.rows.items) (Named name) g) ≡ true → last_number ≤ b.commit → IsReady b (Writing New r g since) → Acts b b (Writing New r g since) (Writing New r g since) Commit (Refused LastNumber)
last_new b r g since name is within last ready =
    let m = dataset_of b.rows.items in
    let fits : is_within b.limits (with_graph m (Named (new_name (string_bytes b.base) m r)) g) ≡ true = subst (λ n. is_within b.limits (with_graph m (Named n) g) ≡ true) is within in
    record {
      fits = (stored_well (totals_of b).setting m (Named (new_name (string_bytes b.base) m r)) g fits, last);
      totals = λ i. record { setting = (totals_of b).setting; dataset = m; request = sym (add-zero b.request) i; commit = b.commit; last_writes = last_writes_of b };
      seat = refl;
      pin = refl;
      known = tt;
      rows = same_rows b.commit b.rows.items;
      counted = ready.counted;
      staged = refl;
    }

-- a new graph's status, name and number
pub new_fits : (b : Books) (r : ℕ) (g : Graph) (since : Option ℕ) (name location : List ℕ) (status number : ℕ) → name ≡ new_name (string_bytes b.base) (dataset_of b.rows.items) r → location ≡ new_name (string_bytes b.base) (dataset_of b.rows.items) r → is_within b.limits (with_graph (dataset_of b.rows.items) (Named name) g) ≡ true
    → status ≡ cond (is_there (dataset_of b.rows.items) (Named name)) 204 201 → b.commit < last_number → number ≡ b.commit + 1 → FitsWrite (totals_of b) (asked_since since (Creates r g)) (Status status (Some location) number)
new_fits b r g since name location status number is place within made left own_number =
    let m = dataset_of b.rows.items in
    let own = new_name (string_bytes b.base) m r in
    let fits : is_within b.limits (with_graph m (Named own) g) ≡ true = subst (λ n. is_within b.limits (with_graph m (Named n) g) ≡ true) is within in
    let well : is_success (stored_status (books_setting b) m (Named own) g) ≡ true = stored_well (books_setting b) m (Named own) g fits in (
      made ∙ ap (λ n. cond (is_there m (Named n)) 204 201) is ∙ sym (ap (λ x. cond x (cond (is_there m (Named own)) 204 201) 507) fits),
      ap Some place ∙ sym (ap (λ x. cond x (Some own) None) fits),
      λ _. left,
      own_number ∙ sym (ap (λ x. cond x (b.commit + 1) b.commit) well),
    )

-- what a new graph makes of the totals
pub new_totals : (old new : Books) (r : ℕ) (g : Graph) (since : Option ℕ) (name location : List ℕ) (status number : ℕ) → name ≡ new_name (string_bytes old.base) (dataset_of old.rows.items) r → is_within old.limits (with_graph (dataset_of old.rows.items) (Named name) g) ≡ true
    → dataset_of new.rows.items ≡ with_graph (dataset_of old.rows.items) (Named name) g → last_writes_of new ≡ with_write (last_writes_of old) (old.commit + 1) (Named name) → KeepsBooks old new
    → totals_of new ≡ next_totals (totals_of old) (phase.Writing New r g since) Commit (Status status (Some location) number)
new_totals old new r g since name location status number is within dataset written kept =
    let m = dataset_of old.rows.items in
    let own = new_name (string_bytes old.base) m r in
    let fits : is_within old.limits (with_graph m (Named own) g) ≡ true = subst (λ n. is_within old.limits (with_graph m (Named n) g) ≡ true) is within in
    let well : is_success (stored_status (books_setting old) m (Named own) g) ≡ true = stored_well (books_setting old) m (Named own) g fits in
    let after : dataset_of new.rows.items ≡ cond (is_within old.limits (with_graph m (Named own) g)) (with_graph m (Named own) g) m = dataset ∙ ap (λ n. with_graph m (Named n) g) is ∙ sym (ap (λ b. cond b (with_graph m (Named own) g) m) fits) in
    let request : new.request ≡ old.request + 0 = kept.request ∙ sym (add-zero old.request) in
    let commit : new.commit ≡ old.commit + cond (is_success (stored_status (books_setting old) m (Named own) g)) 1 0 = kept.commit ∙ sym (ap (λ b. old.commit + cond b 1 0) well) in
    let last : last_writes_of new ≡ cond (is_success (stored_status (books_setting old) m (Named own) g)) (with_write (last_writes_of old) (old.commit + 1) (Named own)) (last_writes_of old) =
    written ∙ ap (λ n. with_write (last_writes_of old) (old.commit + 1) (Named n)) is ∙ sym (ap (λ b. cond b (with_write (last_writes_of old) (old.commit + 1) (Named own)) (last_writes_of old)) well) in
    λ i. record { setting = record { base = kept.base i; limits = kept.limits i }; dataset = after i; request = request i; commit = commit i; last_writes = last i }
