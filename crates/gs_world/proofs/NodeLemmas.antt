-- What a seat gives the abstract store has blank nodes of its own request alone.
use Rattle.std.proofs.Common.{◌<◌, inl, inr, ℕ, List, [], ◌∷◌, map, sym, subst}
use Rattle.std.specs.List.{All}
use Rattle.std.specs.FinMap as fin
use Rattle.std.specs.FinMap.Entries.{put, by_order}
use Rattle.std.specs.declared.cmp.Ordering.{Ordering}
use Rattle.std.specs.declared.cmp.Ordering.TheVariants.{Less, Equal, Greater}
use Rattle.std.proofs.lemmas.List.Elements.{All-nil, All-cons, All-head, All-tail, All-same}
use Rattle.gs_model.specs.Triples.{RdfTriple, triple_cmp}
use Rattle.gs_model.specs.Graphs.{triples_of, graph_of}
use Rattle.gs_model.proofs.GraphLemmas.{triple_total, triples_of-empty}
use Rattle.gs_event.specs.declared.events.UploadKind.{UploadKind}
use Rattle.gs_event.specs.declared.events.UploadKind.TheVariants.{Put, Post, New}
use Rattle.gs_event.specs.Conditions.{Asked as AskedOfStore}
use Rattle.gs_event.specs.Phases.{Idle, write_of}
use Rattle.gs_event.specs.Histories.{History}
use Rattle.gs_upload.specs.declared.languages.Language.TheVariants.{NTriples, Turtle}
use Rattle.gs_own_nodes.specs.Own.{HasOwn, DocumentsNameTheirOwn}
use Rattle.gs_own_nodes.proofs.LineLemmas.{lines_own}
use Rattle.gs_own_nodes.proofs.DocumentLemmas.{document_own}
use Rattle.gs_own_nodes.proofs.UpdateLemmas.{update_own}
use Rattle.gs_verdict.specs.declared.verdicts.Asked.{Asked}
use Rattle.gs_stream.specs.Requests.{Request, Denied, Asks, Breaks, Waits}
use Rattle.gs_talk.specs.Plans.{Plan, Uploads, Patches, Deletes, Looks, Reads, NoPlan, plan_of}
use Rattle.gs_talk.specs.Bodies.{text_base, document_language}
use Rattle.gs_talk.specs.Seats.{Point, asked_in}
use Rattle.gs_talk.specs.Points.{IsAskedBy, IsPointOf, ArePointsOf}
use Rattle.gs_talk.specs.Logs.{Server}
use Rattle.gs_world.specs.declared.worlds.World.{World}
use Rattle.gs_world.specs.Happenings.{Past, deeds_at}
use Rattle.gs_world.specs.Worlds.{LeadsToWorld}
use Rattle.gs_world.specs.Nodes.{BringsOwn}
use Rattle.gs_world.proofs.RunLemmas.{serves_all}

-- the triples of entries
abbrev firsts : List (RdfTriple × Unit {0}) → List RdfTriple
firsts es = map (λ e. e.0) es

-- what holds of each triple of a graph, and of one more, holds of each triple of both
put_keeps : (P : RdfTriple → Type 0) (t : RdfTriple) (es : List (RdfTriple × Unit {0})) → P t → All P (firsts es) → All P (firsts (put triple_cmp t tt es))
put_keeps P t [] p h = All-cons P t [] p h
put_keeps P t (e ∷ es) p h = go (triple_cmp t e.0) (put_keeps P t es p (All-tail P e.0 (firsts es) h)) where
  go : (o : Ordering) → All P (firsts (put triple_cmp t tt es)) → All P (firsts (by_order o ((t, tt) ∷ e ∷ es) ((e.0, tt) ∷ es) (e ∷ put triple_cmp t tt es)))
  go Less k = All-cons P t (firsts (e ∷ es)) p h
  go Equal k = h
  go Greater k = All-cons P e.0 (firsts (put triple_cmp t tt es)) (All-head P e.0 (firsts es) h) k

-- what holds of each triple of a list holds of each triple of its graph
graph_keeps : (P : RdfTriple → Type 0) (ts : List RdfTriple) → All P ts → All P (triples_of (graph_of ts))
graph_keeps P [] h = All-same P _ [] triples_of-empty h
graph_keeps P (t ∷ ts) h =
    subst (λ (es : List (RdfTriple × Unit {0})). All P (firsts es)) (sym (fin.entries-insert triple_total (graph_of ts) t tt))
    (put_keeps P t (fin.entries (graph_of ts)) (All-head P t ts h) (graph_keeps P ts (All-tail P t ts h)))

-- each blank node of a document is one of its request
documents_own : DocumentsNameTheirOwn
documents_own NTriples base r x = lines_own r x
documents_own Turtle base r x = document_own base r x

-- so is each of an upload
write_own : (k : UploadKind) (r : ℕ) (g : List RdfTriple) → All (HasOwn r) g → BringsOwn r (write_of k r (graph_of g))
write_own (Put t) r g h = graph_keeps (HasOwn r) g h
write_own (Post t) r g h = graph_keeps (HasOwn r) g h
write_own New r g h = graph_keeps (HasOwn r) g h

-- so is each of what a request asks by its plan
asked_own : (base : List ℕ) (a : Asked) (body : List ℕ) (p : Plan) (q : Point) → IsAskedBy base a body p q → BringsOwn q.0 q.1.operation
asked_own base a body (Uploads k since) q m =
    subst (λ (o : AskedOfStore). BringsOwn q.0 o.operation) (sym m.2)
    (write_own k q.0 m.0 (All-same (HasOwn q.0) m.0 _ m.1.1 (documents_own (document_language a.body) (text_base base a.graph) q.0 body)))
asked_own base a body (Patches t since) q m = subst (λ (o : AskedOfStore). BringsOwn q.0 o.operation) (sym m.2) (update_own (text_base base a.graph) q.0 body m.0 m.1)
asked_own base a body (Deletes t since) q m = subst (λ (o : AskedOfStore). BringsOwn q.0 o.operation) (sym m) tt
asked_own base a body (Looks c) q m = subst (λ (o : AskedOfStore). BringsOwn q.0 o.operation) (sym m) tt
asked_own base a body (Reads c) q m = subst (λ (o : AskedOfStore). BringsOwn q.0 o.operation) (sym m) tt
asked_own base a body NoPlan q m = absurd m

-- so is each of what any request asks
point_own : (base : List ℕ) (r : Request) (q : Point) → IsPointOf base r q → BringsOwn q.0 q.1.operation
point_own base (Asks a body) q m = asked_own base a body (plan_of a) q m
point_own base (Denied d) q m = absurd m
point_own base (Breaks a front st) q m = absurd m
point_own base (Waits a front) q m = absurd m

-- so is each of what many requests ask
points_own : (base : List ℕ) (rs : List Request) (qs : List Point) → ArePointsOf base rs qs → All (λ (q : Point). BringsOwn q.0 q.1.operation) qs
points_own base rs [] k = All-nil (λ (q : Point). BringsOwn q.0 q.1.operation)
points_own base [] (q ∷ qs) k = absurd k
points_own base (r ∷ rs) (q ∷ qs) (inl k) = All-cons (λ (q : Point). BringsOwn q.0 q.1.operation) q qs (point_own base r q k.0) (points_own base rs qs k.1)
points_own base (r ∷ rs) (q ∷ qs) (inr k) = points_own base rs (q ∷ qs) k

-- So is each of what a seat of a world asks.
pub seat_own : (p : Server) (count : ℕ) (w : World) (past : Past) (history : History) → LeadsToWorld p count w past history → (c : ℕ) → c < count
    → All (λ (q : Point). BringsOwn q.0 q.1.operation) (asked_in Idle (deeds_at c history))
seat_own p count w past history st c l = points_own p.base _ _ ((serves_all p count w past history st).served c l).points
