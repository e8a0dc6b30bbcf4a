-- What the counts decide is what the abstract store says.
use Rattle.std.proofs.Common.{◌≡◌, ◌<◌, ◌≤◌, ℕ, ◌+◌, ◌-◌, Bool, true, false, cond, ◌||◌, ◌&&◌, nat_le, nat_lt, length, refl, sym, ap, ◌∙◌, subst, arith}
use Rattle.std.proofs.lemmas.Bool.Decides.{nat_tests}
use Rattle.gs_model.specs.Limits.{last_number}
use Rattle.gs_model.specs.Graphs.{Graph, size_of}
use Rattle.gs_term.specs.declared.names.Target.{Target}
use Rattle.gs_term.specs.declared.names.Target.TheVariants.{Default, Named}
use Rattle.gs_event.specs.declared.verdicts.Change.TheVariants.{Stores, Removes}
use Rattle.gs_event.specs.declared.verdicts.Verdict.{Verdict}
use Rattle.gs_event.specs.declared.verdicts.Verdict.TheVariants.{Missing, Full, LastNumber, Granted}
use Rattle.gs_event.specs.Updates.{patched}
use Rattle.gs_event.specs.Datasets.{Dataset, graph_at, is_there, lines_at, with_graph, without_graph, triples_in, names_in}
use Rattle.gs_event.specs.Names.{new_name}
use Rattle.gs_event.specs.Operations.{Setting, Operation, Puts, Posts, Creates, Patches, Deletes, Looks, Reads, is_within, united, stored, stored_status, after, status_of, is_success}
use Rattle.gs_event.specs.Verdicts.{verdict_of, granted_of, stored_of, holdings_of, place_in, is_named, Decides, IsDecided, DecidesStore, DecidesChange, DecidesRemoval}
use Rattle.gs_event.proofs.DatasetLemmas.{triples_in-with_graph, triples_in-without_graph, names_in-with_graph, names_in-without_name}

below : (a b : ℕ) → nat_lt a b ≡ true → a < b
below a b e = grind (arith, nat_tests)

not_below : (a b : ℕ) → nat_lt a b ≡ false → b ≤ a
not_below a b e = grind (arith, nat_tests)

-- the triples over all graphs, once the target's graph has others
triples_then : (m : Dataset) (t : Target) (g : Graph) → triples_in m - length (lines_at m t) + size_of g ≡ triples_in (with_graph m t g)
triples_then m t g = omega (arith, triples_in-with_graph m t g, triples_in-without_graph m t)

-- the names, once the target has a graph
names_then : (m : Dataset) (t : Target) (g : Graph) → names_in m + cond (is_there m t) 0 1 ≡ names_in (with_graph m t g)
names_then m t g =
    elim (is_there m t) as (λ b. names_in m + cond b 0 1 ≡ cond b (names_in m) (names_in m + 1)) [ true ↦ omega arith | false ↦ refl ]
    ∙ sym (names_in-with_graph m t g)

-- by the three tests
by_tests : (w : Setting) (m : Dataset) (c : ℕ) (t : Target) (g : Graph) (within left : Bool) → is_within w.limits (with_graph m t g) ≡ within → nat_lt c last_number ≡ left
    → DecidesStore w m c t g (cond within (cond left (Granted (cond (is_there m t) 204 201) (triples_in (with_graph m t g)) (names_in (with_graph m t g))) LastNumber) Full)
by_tests w m c t g true true e l = (e, refl, below c last_number l, refl, refl)
by_tests w m c t g true false e l = (e, not_below c last_number l)
by_tests w m c t g false left e l = e

-- a write that stores g
pub store_decided : (w : Setting) (m : Dataset) (c : ℕ) (t : Target) (g : Graph) → DecidesStore w m c t g (stored_of (holdings_of w m c) (place_in m t) (size_of g))
store_decided w m c t g =
    let made = λ (n k : ℕ). cond (nat_le n w.limits.triples && nat_le k w.limits.names) (granted_of c (cond (is_there m t) 204 201) n k) Full in
    let same : made (triples_in (with_graph m t g)) (names_in (with_graph m t g)) ≡ stored_of (holdings_of w m c) (place_in m t) (size_of g) =
    ap (λ n. made n (names_in (with_graph m t g))) (sym (triples_then m t g)) ∙ ap (made (triples_in m - length (lines_at m t) + size_of g)) (sym (names_then m t g)) in
    subst (DecidesStore w m c t g) same (by_tests w m c t g _ _ refl refl)

-- it may create
pub store_may : (w : Setting) (m : Dataset) (c : ℕ) (t : Target) (g : Graph) → DecidesStore w m c t g (verdict_of (holdings_of w m c) (place_in m t) (Stores (size_of g) true))
store_may w m c t g =
    elim (is_there m t) as (λ b. DecidesStore w m c t g (cond (b || true) (stored_of (holdings_of w m c) (place_in m t) (size_of g)) Missing)) [
      | true ↦ store_decided w m c t g
      | false ↦ store_decided w m c t g
    ]

with_graph_there : (w : Setting) (m : Dataset) (c : ℕ) (t : Target) (g : Graph) (v : Verdict) → is_there m t ≡ true → DecidesStore w m c t g v → DecidesChange w m c t g v
with_graph_there w m c t g Missing there h = absurd h
with_graph_there w m c t g Full there h = (there, h)
with_graph_there w m c t g LastNumber there h = (there, h)
with_graph_there w m c t g (Granted s n k) there h = (there, h)

must_by : (w : Setting) (m : Dataset) (c : ℕ) (t : Target) (g : Graph) (b : Bool) → is_there m t ≡ b
    → DecidesChange w m c t g (cond (b || false) (stored_of (holdings_of w m c) (place_in m t) (size_of g)) Missing)
must_by w m c t g true there = with_graph_there w m c t g (stored_of (holdings_of w m c) (place_in m t) (size_of g)) there (store_decided w m c t g)
must_by w m c t g false there = there

-- it may not create
pub store_must : (w : Setting) (m : Dataset) (c : ℕ) (t : Target) (g : Graph) → DecidesChange w m c t g (verdict_of (holdings_of w m c) (place_in m t) (Stores (size_of g) false))
store_must w m c t g = must_by w m c t g (is_there m t) refl

-- over a graph or in a new one, a write took effect
pub made_well : (b : Bool) → is_success (cond b 204 201) ≡ true
made_well true = refl
made_well false = refl

-- what that says of an operation which stores g
stores_so : (w : Setting) (m : Dataset) (c : ℕ) (t : Target) (g : Graph) (q : Operation) (v : Verdict) → status_of w m q ≡ stored_status w m t g → after w m q ≡ stored w m t g → DecidesStore w m c t g v → Decides w m c q v
stores_so w m c t g q Missing status next h = absurd h
stores_so w m c t g q Full status next h = status ∙ ap (λ b. cond b (cond (is_there m t) 204 201) 507) h
stores_so w m c t g q LastNumber status next h = (ap is_success (status ∙ ap (λ b. cond b (cond (is_there m t) 204 201) 507) h.0) ∙ made_well (is_there m t), h.1)
stores_so w m c t g q (Granted s n k) status next h =
    let now : status_of w m q ≡ s = status ∙ ap (λ b. cond b (cond (is_there m t) 204 201) 507) h.0 ∙ sym h.1 in
    let dataset : after w m q ≡ with_graph m t g = next ∙ ap (λ b. cond b (with_graph m t g) m) h.0 in
    (now, ap is_success h.1 ∙ made_well (is_there m t), h.2, h.3 ∙ sym (ap triples_in dataset), h.4 ∙ sym (ap names_in dataset))

there_so : (w : Setting) (m : Dataset) (c : ℕ) (t : Target) (g : Graph) (q : Operation) (v : Verdict) → status_of w m q ≡ cond (is_there m t) (stored_status w m t g) 404
    → after w m q ≡ cond (is_there m t) (stored w m t g) m → is_there m t ≡ true → DecidesStore w m c t g v → Decides w m c q v
there_so w m c t g q v status next there h =
    stores_so w m c t g q v (status ∙ ap (λ b. cond b (stored_status w m t g) 404) there) (next ∙ ap (λ b. cond b (stored w m t g) m) there) h

-- and of an operation which stores g where there is a graph, and else is 404
changes_so : (w : Setting) (m : Dataset) (c : ℕ) (t : Target) (g : Graph) (q : Operation) (v : Verdict) → status_of w m q ≡ cond (is_there m t) (stored_status w m t g) 404
    → after w m q ≡ cond (is_there m t) (stored w m t g) m → DecidesChange w m c t g v → Decides w m c q v
changes_so w m c t g q Missing status next h = status ∙ ap (λ b. cond b (stored_status w m t g) 404) h
changes_so w m c t g q Full status next h = there_so w m c t g q Full status next h.0 h.1
changes_so w m c t g q LastNumber status next h = there_so w m c t g q LastNumber status next h.0 h.1
changes_so w m c t g q (Granted s n k) status next h = there_so w m c t g q (Granted s n k) status next h.0 h.1

names_gone : (m : Dataset) (t : Target) → is_there m t ≡ true → names_in m - cond (is_named t) 1 0 ≡ names_in (without_graph m t)
names_gone m Default there = omega arith
names_gone m (Named n) there = sym (names_in-without_name m n there)

-- a write that takes a graph away, by the two tests
removal_by_tests : (m : Dataset) (c : ℕ) (t : Target) (there left : Bool) → is_there m t ≡ there → nat_lt c last_number ≡ left
    → DecidesRemoval m c t (cond there (cond left (Granted 204 (triples_in m - length (lines_at m t)) (names_in m - cond (is_named t) 1 0)) LastNumber) Missing)
removal_by_tests m c t true true e l = (e, refl, below c last_number l, omega (arith, triples_in-without_graph m t), names_gone m t e)
removal_by_tests m c t true false e l = (e, not_below c last_number l)
removal_by_tests m c t false left e l = e

pub removal_decided : (w : Setting) (m : Dataset) (c : ℕ) (t : Target) → DecidesRemoval m c t (verdict_of (holdings_of w m c) (place_in m t) Removes)
removal_decided w m c t = removal_by_tests m c t _ _ refl refl

-- what that says of a DELETE
removal_so : (w : Setting) (m : Dataset) (c : ℕ) (t : Target) (v : Verdict) → DecidesRemoval m c t v → Decides w m c (Deletes t) v
removal_so w m c t Missing h = ap (λ b. cond b 204 404) h
removal_so w m c t Full h = absurd h
removal_so w m c t LastNumber h = (ap (λ b. is_success (cond b 204 404)) h.0, h.1)
removal_so w m c t (Granted s n k) h =
    let dataset : after w m (Deletes t) ≡ without_graph m t = ap (λ b. cond b (without_graph m t) m) h.0 in
    (ap (λ b. cond b 204 404) h.0 ∙ sym h.1, ap is_success h.1, h.2, h.3 ∙ sym (ap triples_in dataset), h.4 ∙ sym (ap names_in dataset))

-- each write
pub decided : (w : Setting) (m : Dataset) (c : ℕ) (q : Operation) → IsDecided w m c q
decided w m c (Puts t g) = stores_so w m c t g (Puts t g) _ refl refl (store_may w m c t g)
decided w m c (Posts t g) = stores_so w m c t (united (graph_at m t) g) (Posts t g) _ refl refl (store_may w m c t (united (graph_at m t) g))
decided w m c (Creates r g) = stores_so w m c (Named (new_name w.base m r)) g (Creates r g) _ refl refl (store_may w m c (Named (new_name w.base m r)) g)
decided w m c (Patches t ops) = changes_so w m c t (patched (graph_at m t) ops) (Patches t ops) _ refl refl (store_must w m c t (patched (graph_at m t) ops))
decided w m c (Deletes t) = removal_so w m c t _ (removal_decided w m c t)
decided w m c (Looks t) = tt
decided w m c (Reads t) = tt
