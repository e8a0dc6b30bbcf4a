-- A whole GET of all graphs is given the lines of the dataset at its pin.
use Rattle.std.proofs.Common.{◌≡◌, ℕ, List, [], ◌∷◌, ◌++◌, Some, refl, sym, ap, ◌∙◌}
use Rattle.std.specs.FinMap as fin
use Rattle.std.specs.List.{concat}
use Rattle.std.proofs.lemmas.List.Concat.{flat_map-append}
use Rattle.gs_model.specs.Graphs.{Graph, lines_of}
use Rattle.gs_term.specs.declared.names.Target.{Target}
use Rattle.gs_term.specs.declared.names.Target.TheVariants.{Default, Named}
use Rattle.gs_event.specs.declared.events.Scope.TheVariants.{All}
use Rattle.gs_event.specs.Datasets.{Dataset, graph_at, named_lines, quads_of}
use Rattle.gs_event.specs.Operations.{Puts}
use Rattle.gs_event.specs.Conditions.{asked_since}
use Rattle.gs_event.specs.Histories.{History, Start, IsLegal, dataset_after, state_after}
use Rattle.gs_protocol_laws.specs.AllGraphs.{AllGetsGiveTheDataset, AllHeadsAreOk, AllPinsAreOk, WriteNothing, AllGetsAgree, HasLinesOf, AllGetsHaveEachGraph, PutsAreInAllGets}
use Rattle.gs_protocol_laws.proofs.WriteLemmas.{took_by, put_own}
use Rattle.gs_protocol_laws.proofs.FitLemmas.{legal_before, took_effect, head_status, pin_status}
use Rattle.gs_protocol_laws.proofs.ReadLemmas.{gets_give}
use Rattle.gs_protocol_laws.proofs.ReadBackLemmas.{left_after, pinned_legal}
use Rattle.gs_protocol_laws.proofs.UnchangedLemmas.{only_writes}
use Rattle.gs_protocol_laws.proofs.DatasetLineLemmas.{named_rest, found_parts, grouped}

pub all_gets_give : AllGetsGiveTheDataset
all_gets_give start before whole seat bytes legal g = gets_give start before whole seat All bytes legal g

pub all_heads : AllHeadsAreOk
all_heads start h seat s number name legal = head_status start h seat All s name number legal

pub all_pins : AllPinsAreOk
all_pins start h seat s number legal = pin_status start h seat All s number legal

-- the dataset stays where nothing is written
unwritten_stays : (start : Start) (before later : History) → IsLegal start (later ++ before) → WriteNothing later
    → dataset_after start (later ++ before) ≡ dataset_after start before
unwritten_stays start before [] legal n = refl
unwritten_stays start before (x ∷ later) legal n = only_writes start (later ++ before) x legal n.1 ∙ unwritten_stays start before later legal.0 n.0

pub all_gets_agree : AllGetsAgree
all_gets_agree start before later whole whole_later seat seat_later bytes bytes_later legal legal_later n g g_later =
    all_gets_give start (later ++ before) whole_later seat_later bytes_later legal_later g_later
    ∙ ap (λ m. concat (quads_of m)) (unwritten_stays start before later (pinned_legal start (later ++ before) whole_later seat_later All bytes_later legal_later g_later) n)
    ∙ sym (all_gets_give start before whole seat bytes legal g)

-- bytes that are a dataset's lines have those of each graph that is there
has_lines : (m : Dataset) (t : Target) (g : Graph) (bytes : List ℕ) → bytes ≡ concat (quads_of m) → graph_at m t ≡ Some g → HasLinesOf t g (quads_of m) bytes
has_lines m Default g bytes is there =
    let same : m.unnamed ≡ g = cc in
    record { given = is; front = []; back = named_rest (fin.entries m.named); whole = ap (λ u. lines_of u ++ named_rest (fin.entries m.named)) same }
has_lines m (Named n) g bytes is there =
    let at = found_parts (fin.entries m.named) n g (sym (fin.get-entries m.named n) ∙ there) in
    record {
      given = is;
      front = lines_of m.unnamed ++ named_rest at.front;
      back = named_rest at.back;
      whole = ap (λ es. lines_of m.unnamed ++ named_rest es) at.whole
          ∙ ap (λ xs. lines_of m.unnamed ++ xs) (flat_map-append named_lines at.front ((n, g) ∷ at.back))
          ∙ grouped (lines_of m.unnamed) (named_rest at.front) (named_lines (n, g)) (named_rest at.back);
    }

pub all_gets_have : AllGetsHaveEachGraph
all_gets_have start before whole seat t g bytes legal get is =
    has_lines (dataset_after start before) t g bytes (all_gets_give start before whole seat bytes legal get) is

pub puts_in_all : PutsAreInAllGets
puts_in_all start before later whole x t g seat bytes legal write spared get =
    let all : IsLegal start (later ++ x ∷ before) = pinned_legal start (later ++ x ∷ before) whole seat All bytes legal get in
    let sound : IsLegal start (x ∷ before) = legal_before start (x ∷ before) later all in
    let effect = (took_by start.setting (state_after start before) (asked_since write.condition (Puts t g)) (took_effect start before x (asked_since write.condition (Puts t g)) sound write.asks write.success)).status in
    let stays = left_after start before x (Puts t g) t (Some g) later all write spared (put_own start.setting (dataset_after start before) t g effect) in
    all_gets_have start (later ++ x ∷ before) whole seat t g bytes legal get stays
