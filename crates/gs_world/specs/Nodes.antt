-- Blank nodes of different requests are different, over all connections (RDF 1.1 Concepts, section 3.4).
use Rattle.std.specs.Prelude.{◌≡◌, ◌≢◌, ◌<◌, ◌⊎◌, ℕ, Bool, true, false, cond, List, [], ◌∷◌, ◌++◌, Some}
use Rattle.std.specs.List.{All, Contains, flat_map, slice_get}
use Rattle.gs_model.specs.Terms.{Term, Blank}
use Rattle.gs_model.specs.Triples.{RdfTriple}
use Rattle.gs_model.specs.Graphs.{triples_of}
use Rattle.gs_term.specs.declared.patterns.Part.{Part}
use Rattle.gs_term.specs.declared.patterns.Part.TheVariants.{Term as TheTerm, Variable}
use Rattle.gs_term.specs.declared.patterns.Pattern.{Pattern}
use Rattle.gs_event.specs.declared.updates.Op.{Op}
use Rattle.gs_event.specs.declared.updates.Op.TheVariants.{Insert, DeleteData, DeleteWhere}
use Rattle.gs_event.specs.Operations.{Operation, Puts, Posts, Creates, Patches}
use Rattle.gs_event.specs.Histories.{History}
use Rattle.gs_own_nodes.specs.Own.{HasOwn, SaysOwn}
use Rattle.gs_talk.specs.Seats.{Point}
use Rattle.gs_talk.specs.Logs.{Server}
use Rattle.gs_world.specs.declared.worlds.World.{World}
use Rattle.gs_world.specs.Happenings.{Past}
use Rattle.gs_world.specs.Merging.{asked_at}
use Rattle.gs_world.specs.Worlds.{LeadsToWorld}

-- each blank node that the abstract store is given is one of this request
abbrev pub BringsOwn : ℕ → Operation → Type 0
BringsOwn r (Puts t g) = All (HasOwn r) (triples_of g)
BringsOwn r (Posts t g) = All (HasOwn r) (triples_of g)
BringsOwn r (Creates n g) = All (HasOwn r) (triples_of g)
BringsOwn r (Patches t ops) = All (SaysOwn r) ops
BringsOwn r q = Unit {0}

-- it is given triples or patterns
abbrev pub brings : Operation → Bool
brings (Puts t g) = true
brings (Posts t g) = true
brings (Creates n g) = true
brings (Patches t ops) = true
brings q = false

-- the numbers of the requests that give it some
abbrev pub numbers_bringing : List Point → List ℕ
numbers_bringing [] = []
numbers_bringing (q ∷ qs) = cond (brings q.1.operation) (q.0 ∷ numbers_bringing qs) (numbers_bringing qs)

-- those of a seat
abbrev pub request_numbers : ℕ → History → List ℕ
request_numbers seat h = numbers_bringing (asked_at seat h)

-- each number is above the one before it
abbrev pub RiseFrom : ℕ → List ℕ → Type 0
RiseFrom n [] = Unit {0}
RiseFrom n (m ∷ ms) = (n < m) × RiseFrom m ms

-- the terms of a triple
abbrev pub terms_of : RdfTriple → List Term
terms_of t = t.subject ∷ t.predicate ∷ t.object ∷ []

-- the term of a part of a pattern, if it is no variable
abbrev pub term_of_part : Part → List Term
term_of_part (TheTerm t) = t ∷ []
term_of_part (Variable x) = []

-- the terms of a pattern
abbrev pub pattern_terms : Pattern → List Term
pattern_terms p = term_of_part p.subject ++ term_of_part p.predicate ++ term_of_part p.object

-- those of an operation of an update
abbrev pub op_terms : Op → List Term
op_terms (Insert ts) = flat_map terms_of ts.items
op_terms (DeleteData ts) = flat_map terms_of ts.items
op_terms (DeleteWhere ps) = flat_map pattern_terms ps.items

-- all terms that the abstract store is given
abbrev pub terms_brought : Operation → List Term
terms_brought (Puts t g) = flat_map terms_of (triples_of g)
terms_brought (Posts t g) = flat_map terms_of (triples_of g)
terms_brought (Creates n g) = flat_map terms_of (triples_of g)
terms_brought (Patches t ops) = flat_map op_terms ops
terms_brought q = []

-- the term stands in what is brought by one request of a seat: the i-th of those that asked something
abbrev pub IsBroughtIn : History → ℕ → ℕ → Term → Type 0
IsBroughtIn h seat i n = (q : Point) × (slice_get (asked_at seat h) i ≡ Some q) × Contains (terms_brought q.1.operation) n

-- No two requests share a blank node: none stands in what both bring, whichever connections they came on.
abbrev pub NoneShareANode : ℕ → History → Type 0
NoneShareANode count h = (c d i j r k : ℕ) → c < count → d < count → (c ≢ d) ⊎ (i ≢ j) → IsBroughtIn h c i (Blank r k) → IsBroughtIn h d j (Blank r k) → ⊥

-- What a seat gives the abstract store has blank nodes of its own request alone; the numbers of a seat's requests rise, and no two
-- seats have one in common; so no two requests share a blank node.
pub record ShareNone (count : ℕ) (history : History) : Type 0 where
  pub own : (c : ℕ) → c < count → All (λ q. BringsOwn q.0 q.1.operation) (asked_at c history)
  pub rise : (c : ℕ) → c < count → RiseFrom 0 (request_numbers c history)
  pub apart : (c d r : ℕ) → c < count → d < count → c ≢ d → Contains (request_numbers c history) r → Contains (request_numbers d history) r → ⊥
  pub shared : NoneShareANode count history

-- It is so in every world, whichever connections bring them.
abbrev pub RequestsShareNoNode : Type 0
RequestsShareNoNode = (p : Server) (count : ℕ) (w : World) (past : Past) (history : History) → LeadsToWorld p count w past history → ShareNone count history
