-- What a Stage makes of the books and of the seat.
use Rattle.std.proofs.Common.{◌≡◌, ℕ, ◌+◌, ◌^◌, ◌<◌, List, length, Option, None, refl, sym, ap, subst, ◌∙◌, arith}
use Rattle.std.proofs.lemmas.List.{set-get_or}
use Rattle.std.proofs.lemmas.List.Elements.{All-head}
use Rattle.gs_model.specs.Triples.{RdfTriple}
use Rattle.gs_model.specs.Graphs.{size_of, with_triples}
use Rattle.gs_model.specs.declared.refusals.Refusal.TheVariants.{NoMemory}
use Rattle.gs_triple_lists.specs.Lists.{Listed}
use Rattle.gs_event.specs.declared.events.UploadKind.{UploadKind}
use Rattle.gs_event.specs.declared.events.Action.TheVariants.{Stage}
use Rattle.gs_event.specs.declared.answers.Answer.TheVariants.{Staged, Refused}
use Rattle.gs_event.specs.Phases as phase
use Rattle.gs_dict.specs.Numbering.{Numbered}
use Rattle.gs_pool.specs.Pool.{Nodes, in_use, aside_count}
use Rattle.gs_tree.specs.declared.unions.Merged.{Merged}
use Rattle.gs_tree.specs.Tree.{Descends, BirthAtMost, tree_at}
use Rattle.gs_tree.specs.Steps.{BornAt}
use Rattle.gs_keys.specs.Texts.{key_cmp}
use Rattle.gs_keys.specs.Roots.{graph_of_root}
use Rattle.gs_changes.proofs.AddLemmas.{few_keys}
use Rattle.gs_staging.specs.Keys.{Grows}
use Rattle.gs_staging.specs.Staging.{Stages}
use Rattle.gs_catalogue.specs.declared.versions.GraphVersion.{GraphVersion}
use Rattle.gs_ledger.specs.Ledger.{IsTreeOf}
use Rattle.gs_datasets.specs.Standing.{graph_trees}
use Rattle.gs_datasets.specs.Trees.{Outlasts}
use Rattle.gs_datasets.proofs.Outlasting.{keys_outlast}
use Rattle.gs_tree_store.specs.declared.books.Books.{Books}
use Rattle.gs_tree_store.specs.declared.books.Seat.{Seat}
use Rattle.gs_tree_store.specs.declared.books.Seat.TheVariants.{Writing}
use Rattle.gs_tree_store.specs.Books.{graphs_of, IsReady}
use Rattle.gs_tree_store.specs.Births.{graph_births}
use Rattle.gs_tree_store.specs.Actions.{Acts, ActsAny, IsReadyAny}
use Rattle.gs_tree_store.proofs.SeatLemmas.{same_totals, same_graphs, ledger_stays}
use Rattle.gs_tree_store.proofs.UploadLemmas.{moved_graphs, moved_ledger, moved_waste, moved_births}
use Rattle.gs_tree_store.proofs.BornLemmas.{equal_births, trees_bear}

-- an upload has no more triples than there are numbers of nodes
few_here : (b : Books) (s : ℕ) (k : UploadKind) (r birth : ℕ) (v : GraphVersion) (o : ℕ) (since : Option ℕ) (d : Numbered) (q : Nodes) (ts : List RdfTriple) (m : Merged) → length q.nodes < 2 ^ 32 → Stages birth b.dict.terms d.terms b.pool q v.root ts m
    → IsReady b s (Writing k r v o since) → v.triples + m.added < 2 ^ 32
few_here b s k r birth v o since d q ts m small stages ready =
    let few = few_keys (key_cmp d.terms) q m.root stages.unites.set small in
    omega (arith, few, stages.unites.counted, ready.known.counted)

pub few_triples : (b : Books) (seat : Seat) (k : UploadKind) (r birth : ℕ) (v : GraphVersion) (o : ℕ) (since : Option ℕ) (d : Numbered) (q : Nodes) (ts : List RdfTriple) (m : Merged) → seat ≡ Writing k r v o since → length q.nodes < 2 ^ 32 → Stages birth b.dict.terms d.terms b.pool q v.root ts m
    → IsReadyAny b seat → v.triples + m.added < 2 ^ 32
few_triples b seat k r birth v o since d q ts m writes small stages =
    subst (λ x. IsReadyAny b x → v.triples + m.added < 2 ^ 32) (sym writes)
    (λ (any : IsReadyAny b (Writing k r v o since)). few_here b any.number k r birth v o since d q ts m small stages any.ready)

-- a piece that was refused: there may be new terms
refused_here : (b : Books) (s : ℕ) (k : UploadKind) (r : ℕ) (v : GraphVersion) (o : ℕ) (since : Option ℕ) (ts : Listed) (d : Numbered) → Grows b.dict d → IsReady b s (Writing k r v o since)
    → Acts b (record b { dict = d }) s (Writing k r v o since) (Writing k r v o since) (Stage ts) (Refused NoMemory)
refused_here b s k r v o since ts d grows ready =
    let terms = b.dict.terms in
    let p = b.pool in
    let tree = tree_at p v.root in
    let kept = same_graphs b d p b.versions ready.sound grows (λ j w h. refl) ready.sound.none_aside refl in
    let outlasts : Outlasts terms d.terms tree = keys_outlast terms d.terms grows.terms tree ready.known.keyed in
    record {
      fits = tt;
      totals = same_totals b (record b { dict = d }) refl kept.dataset refl refl refl;
      seat = ap (λ g. phase.Writing k r g since) outlasts.same;
      pins = sym (set-get_or b.versions.seats s None);
      sound = kept.sound;
      known = record { root_is = ready.known.root_is; keyed = outlasts.keyed; counted = ready.known.counted };
      version = tt;
      grows = grows;
      ledgers = λ us rs l. record { ledger = ledger_stays (record b { dict = d }) s (Writing k r v o since) us rs l.read l.there l.ledger; waste = refl };
      takes = refl;
      born = (λ u f. refl, λ f. refl);
    }

pub stage_refused : (b : Books) (seat : Seat) (k : UploadKind) (r : ℕ) (v : GraphVersion) (o : ℕ) (since : Option ℕ) (ts : Listed) (d : Numbered) (q : Nodes) → seat ≡ Writing k r v o since → Grows b.dict d → q ≡ b.pool
    → ActsAny b (record b { dict = d; pool = q }) seat (Writing k r v o since) (Stage ts) (Refused NoMemory)
stage_refused b seat k r v o since ts d q writes grows same s =
    subst (λ x. IsReady b s x → Acts b (record b { dict = d; pool = q }) s x (Writing k r v o since) (Stage ts) (Refused NoMemory)) (sym writes)
    (λ ready. subst (λ y. Acts b (record b { dict = d; pool = y }) s (Writing k r v o since) (Writing k r v o since) (Stage ts) (Refused NoMemory)) (sym same) (refused_here b s k r v o since ts d grows ready))

-- a piece that went in
staged : (b : Books) (s : ℕ) (k : UploadKind) (r birth : ℕ) (v : GraphVersion) (o : ℕ) (since : Option ℕ) (ts : Listed) (d : Numbered) (q : Nodes) (m : Merged) → birth ≡ b.versions.commit + 1 → Grows b.dict d
    → Stages birth b.dict.terms d.terms b.pool q v.root ts.items m → IsReady b s (Writing k r v o since)
    → Acts b (record b { dict = d; pool = q }) s (Writing k r v o since) (Writing k r (record { root = m.root; triples = v.triples + m.added }) o since) (Stage ts) Staged
staged b s k r birth v o since ts d q m born grows stages ready =
    let p = b.pool in
    let w = b.versions in
    let g = graphs_of b in
    let gs = graph_trees p g in
    let old = tree_at p v.root in
    let new = tree_at q m.root in
    let u = stages.unites in
    let some = ready.ledger in
    let was : IsTreeOf p (w.commit + 1) old = All-head (IsTreeOf p (w.commit + 1)) old some.uploads some.ledger.ledger.staged in
    let births = subst (λ n. Descends new × BirthAtMost n new) born (u.births was.descends (subst (λ n. BirthAtMost n old) (sym born) was.born)) in
    let tree : IsTreeOf q (w.commit + 1) new = record { stands = u.set.stands; descends = births.0; born = births.1 } in
    let now = record b { dict = d; pool = q } in
    let used : in_use q ≡ in_use p + m.added = u.in_place refl in
    let none : aside_count q ≡ 0 = omega (arith, used, u.exact, ready.sound.none_aside) in
    let kept = moved_graphs b d q birth old new grows ready.sound u.step tree none some.uploads some.reads some.ledger.ledger in
    let larger : size_of (with_triples (graph_of_root b.dict.terms p v.root) ts.items) ≡ size_of (graph_of_root b.dict.terms p v.root) + m.added = sym (ap size_of stages.graph) ∙ stages.added in
    record {
      fits = tt;
      totals = same_totals b now refl kept.dataset refl refl refl;
      seat = ap (λ x. phase.Writing k r x since) stages.graph;
      pins = sym (set-get_or w.seats s None);
      sound = kept.sound;
      known = record {
        root_is = sym u.set.root_is;
        keyed = record { balanced = u.set.balanced; rising = u.set.rising; given = stages.staged.given };
        counted = ap (λ n. n + m.added) ready.known.counted ∙ sym u.counted;
      };
      version = tt;
      grows = grows;
      ledgers = λ us rs l. record {
        ledger = ledger_stays now s (Writing k r (record { root = m.root; triples = v.triples + m.added }) o since) us rs l.read l.there (moved_ledger b d q birth old new grows ready.sound u.step tree none some.uploads some.reads some.ledger.ledger us rs l.ledger);
        waste = moved_waste b d q birth old new grows ready.sound u.step tree none some.uploads some.reads some.ledger.ledger;
      };
      takes = omega (arith, used, larger);
      born = (
        (λ x. equal_births (graph_births b x) (graph_births now x) (trees_bear b now refl kept.trees x)),
        moved_births b d q birth old new grows ready.sound u.step tree none some.uploads some.reads some.ledger.ledger (subst (λ n. BornAt n p q) born u.step.born),
      );
    }

pub stage_done : (b : Books) (seat : Seat) (k : UploadKind) (r birth : ℕ) (v : GraphVersion) (o : ℕ) (since : Option ℕ) (ts : Listed) (d : Numbered) (q : Nodes) (m : Merged) → seat ≡ Writing k r v o since → birth ≡ b.versions.commit + 1
    → Grows b.dict d → Stages birth b.dict.terms d.terms b.pool q v.root ts.items m
    → ActsAny b (record b { dict = d; pool = q }) seat (Writing k r (record { root = m.root; triples = v.triples + m.added }) o since) (Stage ts) Staged
stage_done b seat k r birth v o since ts d q m writes born grows stages s =
    subst (λ x. IsReady b s x → Acts b (record b { dict = d; pool = q }) s x (Writing k r (record { root = m.root; triples = v.triples + m.added }) o since) (Stage ts) Staged) (sym writes)
    (staged b s k r birth v o since ts d q m born grows stages)
