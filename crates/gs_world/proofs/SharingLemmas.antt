-- No blank node stands in what two requests bring.
use Rattle.std.proofs.Common.{◌≡◌, ◌≢◌, ◌<◌, inl, inr, ◌⊎◌, arith, ℕ, zero, suc, nat_eq, nat_lt, Bool, true, false, cond, List, [], ◌∷◌, ◌++◌, Some, refl, sym, ap, subst}
use Rattle.std.specs.List.{slice_get, All, Contains, flat_map}
use Rattle.std.proofs.lemmas.Bool.{eqb-true, eqb-false, ltb-true, ltb-false}
use Rattle.std.proofs.lemmas.List.Elements.{All-nil, All-cons, All-head, All-tail, All-append, All-weaker, All-contains, Contains-append_right}
use Rattle.gs_model.specs.Terms.{Term, Blank}
use Rattle.gs_model.specs.Triples.{RdfTriple}
use Rattle.gs_model.specs.Graphs.{triples_of}
use Rattle.gs_term.specs.declared.patterns.Part.{Part}
use Rattle.gs_term.specs.declared.patterns.Part.TheVariants.{Term as TheTerm, Variable}
use Rattle.gs_term.specs.declared.patterns.Pattern.{Pattern}
use Rattle.gs_event.specs.declared.updates.Op.{Op}
use Rattle.gs_event.specs.declared.updates.Op.TheVariants.{Insert, DeleteData, DeleteWhere}
use Rattle.gs_event.specs.Operations.{Operation, Puts, Posts, Creates, Patches, Deletes, Looks, Reads}
use Rattle.gs_event.specs.Histories.{History, Start, IsLegal}
use Rattle.gs_own_nodes.specs.Own.{NamesOwn, HasOwn, IsOwnPart, MatchesOwn, SaysOwn}
use Rattle.gs_talk.specs.Seats.{Point}
use Rattle.gs_world.specs.Merging.{asked_at}
use Rattle.gs_world.specs.Nodes.{BringsOwn, brings, numbers_bringing, request_numbers, RiseFrom, terms_of, term_of_part, pattern_terms, op_terms, terms_brought, IsBroughtIn, NoneShareANode}
use Rattle.gs_world.proofs.NumberLemmas.{numbers_rise, numbers_apart}

-- each term of what a request brings is no blank node, or one of its own

-- all of these terms are
abbrev AreOwn : ℕ → List Term → Type 0
AreOwn r ns = All (NamesOwn r) ns

one_own : (r : ℕ) (n : Term) (ns : List Term) → NamesOwn r n → AreOwn r ns → AreOwn r (n ∷ ns)
one_own r n ns h k = All-cons (NamesOwn r) n ns h k

none_own : (r : ℕ) → AreOwn r []
none_own r = All-nil (NamesOwn r)

each_own : {X : Type 0} (P : X → Type 0) (terms : X → List Term) (r : ℕ) → ((x : X) → P x → AreOwn r (terms x)) → (xs : List X) → All P xs → AreOwn r (flat_map terms xs)
each_own P terms r own [] h = none_own r
each_own P terms r own (x ∷ xs) h = All-append (NamesOwn r) (terms x) (flat_map terms xs) (own x (All-head P x xs h)) (each_own P terms r own xs (All-tail P x xs h))

triple_own : (r : ℕ) (t : RdfTriple) → HasOwn r t → AreOwn r (terms_of t)
triple_own r t h =
    one_own r t.subject (t.predicate ∷ t.object ∷ []) h.0 (one_own r t.predicate (t.object ∷ []) h.1 (one_own r t.object [] h.2 (none_own r)))

triples_own : (r : ℕ) (ts : List RdfTriple) → All (HasOwn r) ts → AreOwn r (flat_map terms_of ts)
triples_own r ts h = each_own (HasOwn r) terms_of r (triple_own r) ts h

part_own : (r : ℕ) (part : Part) → IsOwnPart r part → AreOwn r (term_of_part part)
part_own r (TheTerm t) h = one_own r t [] h (none_own r)
part_own r (Variable x) h = none_own r

pattern_own : (r : ℕ) (p : Pattern) → MatchesOwn r p → AreOwn r (pattern_terms p)
pattern_own r p h =
    All-append (NamesOwn r) (term_of_part p.subject ++ term_of_part p.predicate) (term_of_part p.object)
    (All-append (NamesOwn r) (term_of_part p.subject) (term_of_part p.predicate) (part_own r p.subject h.0) (part_own r p.predicate h.1)) (part_own r p.object h.2)

op_own : (r : ℕ) (op : Op) → SaysOwn r op → AreOwn r (op_terms op)
op_own r (Insert ts) h = triples_own r ts.items h
op_own r (DeleteData ts) h = triples_own r ts.items h
op_own r (DeleteWhere ps) h = each_own (MatchesOwn r) pattern_terms r (pattern_own r) ps.items h

brought_own : (r : ℕ) (q : Operation) → BringsOwn r q → AreOwn r (terms_brought q)
brought_own r (Puts t g) h = triples_own r (triples_of g) h
brought_own r (Posts t g) h = triples_own r (triples_of g) h
brought_own r (Creates n g) h = triples_own r (triples_of g) h
brought_own r (Patches t ops) h = each_own (SaysOwn r) op_terms r (op_own r) ops h
brought_own r (Deletes t) h = none_own r
brought_own r (Looks c) h = none_own r
brought_own r (Reads c) h = none_own r

-- what brings a term brings something
none_there : (n : Term) → Contains [] n → ⊥
none_there n k = omega (arith, k.1)

brings_some : (q : Operation) (n : Term) → Contains (terms_brought q) n → brings q ≡ true
brings_some (Puts t g) n k = refl
brings_some (Posts t g) n k = refl
brings_some (Creates m g) n k = refl
brings_some (Patches t ops) n k = refl
brings_some (Deletes t) n k = absurd (none_there n k)
brings_some (Looks c) n k = absurd (none_there n k)
brings_some (Reads c) n k = absurd (none_there n k)

-- numbers at places

contains_first : {X : Type 0} (x : X) (xs : List X) → Contains (x ∷ xs) x
contains_first x xs = (0, omega arith, refl)

contains_at : {X : Type 0} (xs : List X) (i : ℕ) (x : X) → slice_get xs i ≡ Some x → Contains xs x
contains_at [] i x e = cc
contains_at (z ∷ zs) zero x e = (0, omega arith, cc e)
contains_at (z ∷ zs) (suc i) x e = Contains-append_right (z ∷ []) zs x (contains_at zs i x e)

-- the numbers of a point that brings something, and of others
brought_numbers : (x : Point) (qs : List Point) → brings x.1.operation ≡ true → numbers_bringing (x ∷ qs) ≡ x.0 ∷ numbers_bringing qs
brought_numbers x qs b = ap (λ (v : Bool). cond v (x.0 ∷ numbers_bringing qs) (numbers_bringing qs)) b

more_numbers : (x : Point) (qs : List Point) (r : ℕ) → Contains (numbers_bringing qs) r → Contains (numbers_bringing (x ∷ qs)) r
more_numbers x qs r k = go (brings x.1.operation) where
  go : (b : Bool) → Contains (cond b (x.0 ∷ numbers_bringing qs) (numbers_bringing qs)) r
  go true = Contains-append_right (x.0 ∷ []) (numbers_bringing qs) r k
  go false = k

number_at : (qs : List Point) (i : ℕ) (q : Point) → slice_get qs i ≡ Some q → brings q.1.operation ≡ true → Contains (numbers_bringing qs) q.0
number_at [] i q e b = cc
number_at (x ∷ qs) zero q e b = go (cc e) where
  go : q ≡ x → Contains (numbers_bringing (x ∷ qs)) q.0
  go same =
      subst (λ (z : Point). Contains (numbers_bringing (z ∷ qs)) q.0) same
      (subst (λ (ns : List ℕ). Contains ns q.0) (sym (brought_numbers q qs b)) (contains_first q.0 (numbers_bringing qs)))
number_at (x ∷ qs) (suc i) q e b = more_numbers x qs q.0 (number_at qs i q e b)

-- numbers that rise from n are above it
rise_above : (n : ℕ) (ms : List ℕ) → RiseFrom n ms → All (λ m. n < m) ms
rise_above n [] h = All-nil (λ m. n < m)
rise_above n (m ∷ ms) h = All-cons (λ m. n < m) m ms h.0 (All-weaker (λ k. m < k) (λ k. n < k) (λ k l. omega (arith, h.0, l)) ms (rise_above m ms h.1))

-- the number at a later place is above the one at an earlier place
later_number : (n : ℕ) (qs : List Point) (i j : ℕ) (q s : Point) → RiseFrom n (numbers_bringing qs) → i < j → slice_get qs i ≡ Some q → slice_get qs j ≡ Some s
    → brings q.1.operation ≡ true → brings s.1.operation ≡ true → q.0 < s.0
later_number n [] i j q s h l e f b d = cc
later_number n (x ∷ qs) zero zero q s h l e f b d = absurd (omega (arith, l))
later_number n (x ∷ qs) zero (suc j) q s h l e f b d = go (cc e) where
  go : x ≡ q → q.0 < s.0
  go same = All-contains (λ m. q.0 < m) (numbers_bringing qs) s.0 (rise_above q.0 (numbers_bringing qs) above.1) (number_at qs j s f d) where
    above : RiseFrom n (q.0 ∷ numbers_bringing qs)
    above = subst (λ (ns : List ℕ). RiseFrom n ns) (brought_numbers q qs b) (subst (λ (z : Point). RiseFrom n (numbers_bringing (z ∷ qs))) same h)
later_number n (x ∷ qs) (suc i) zero q s h l e f b d = absurd (omega (arith, l))
later_number n (x ∷ qs) (suc i) (suc j) q s h l e f b d = go (brings x.1.operation) h (λ m k. later_number m qs i j q s k (omega (arith, l)) e f b d) where
  go : (v : Bool) → RiseFrom n (cond v (x.0 ∷ numbers_bringing qs) (numbers_bringing qs)) → ((m : ℕ) → RiseFrom m (numbers_bringing qs) → q.0 < s.0) → q.0 < s.0
  go true k again = again x.0 k.1
  go false k again = again n k

-- two requests

module _ (start : Start) (h : History) (legal : IsLegal start h) (own : (c : ℕ) → c < start.seats → All (λ (q : Point). BringsOwn q.0 q.1.operation) (asked_at c h)) where
  -- a request that brings a blank node has the number that this one has
  own_number : (c i r k : ℕ) → c < start.seats → (n : IsBroughtIn h c i (Blank r k)) → r ≡ (n.0).0
  own_number c i r k l n =
      All-contains (NamesOwn (n.0).0) (terms_brought (n.0).1.operation) (Blank r k)
      (brought_own (n.0).0 (n.0).1.operation (All-contains (λ (q : Point). BringsOwn q.0 q.1.operation) (asked_at c h) n.0 (own c l) (contains_at (asked_at c h) i n.0 n.1))) n.2

  some_brought : (c i r k : ℕ) (n : IsBroughtIn h c i (Blank r k)) → brings (n.0).1.operation ≡ true
  some_brought c i r k n = brings_some (n.0).1.operation (Blank r k) n.2

  has_number : (c i r k : ℕ) → c < start.seats → IsBroughtIn h c i (Blank r k) → Contains (request_numbers c h) r
  has_number c i r k l n =
      subst (λ (m : ℕ). Contains (request_numbers c h) m) (sym (own_number c i r k l n)) (number_at (asked_at c h) i n.0 n.1 (some_brought c i r k n))

  -- on two connections
  apart_share_none : (c d i j r k : ℕ) → c < start.seats → d < start.seats → c ≢ d → IsBroughtIn h c i (Blank r k) → IsBroughtIn h d j (Blank r k) → ⊥
  apart_share_none c d i j r k l m ne n o = numbers_apart start c d r h ne legal (has_number c i r k l n) (has_number d j r k m o)

  -- one after the other on one connection
  later_shares_none : (c i j r k : ℕ) → c < start.seats → i < j → IsBroughtIn h c i (Blank r k) → IsBroughtIn h c j (Blank r k) → ⊥
  later_shares_none c i j r k l before n o =
      omega (
        arith,
        own_number c i r k l n,
        own_number c j r k l o,
        later_number 0 (asked_at c h) i j n.0 o.0 (numbers_rise start c h legal) before n.1 o.1 (some_brought c i r k n) (some_brought c j r k o),
      )

  own_shares_none : (c i j r k : ℕ) → c < start.seats → i ≢ j → IsBroughtIn h c i (Blank r k) → IsBroughtIn h c j (Blank r k) → ⊥
  own_shares_none c i j r k l ne n o = go (nat_lt i j) refl where
    go : (b : Bool) → nat_lt i j ≡ b → ⊥
    go true e = later_shares_none c i j r k l (ltb-true i j e) n o
    go false e = later_shares_none c j i r k l (omega (arith, ltb-false i j e, ne)) o n

  -- No two requests share a blank node.
  pub shares_none : NoneShareANode start.seats h
  shares_none c d i j r k l m other n o = go (nat_eq c d) refl other where
    same : c ≡ d → (c ≢ d) ⊎ (i ≢ j) → ⊥
    same e (inl ne) = ne e
    same e (inr ne) = own_shares_none c i j r k l ne n (subst (λ (s : ℕ). IsBroughtIn h s j (Blank r k)) (sym e) o)

    go : (b : Bool) → nat_eq c d ≡ b → (c ≢ d) ⊎ (i ≢ j) → ⊥
    go true e other = same (eqb-true c d e) other
    go false e other = apart_share_none c d i j r k l m (eqb-false c d e) n o
