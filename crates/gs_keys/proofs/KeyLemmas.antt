-- Keys whose numbers have terms are ordered, and equal, as their triples are.
use Rattle.std.proofs.Common.{◌≡◌, ℕ, Bool, true, false, nat_eq, List, [], ◌∷◌, map, is_some, Option, Some, None, refl, sym, ap, ◌∙◌, inl, inr, arith}
use Rattle.std.specs.Option.{option_map, unwrap_or}
use Rattle.std.specs.List.{AllByRecursion}
use Rattle.std.specs.List.Sorted.{IsStrictlySortedBy}
use Rattle.std.specs.Ordering.{ordering_then, nat_cmp}
use Rattle.std.specs.Cmp.Lexicographic.{slice_cmp}
use Rattle.std.specs.declared.cmp.Ordering.{Ordering}
use Rattle.std.specs.declared.cmp.Ordering.TheVariants.{Less, Equal, Greater}
use Rattle.std.proofs.lemmas.Bool.Decides.{nat_tests}
use Rattle.std.proofs.lemmas.Map.Lookups.{exact_bytes}
use Rattle.std.proofs.lemmas.Slice.Eq.{bytes_eq-Decides}
use Rattle.gs_model.specs.Terms.{Term, Iri, Blank, Literal, text_of}
use Rattle.gs_model.specs.Triples.{triple_cmp, term_eq}
use Rattle.gs_model.specs.Graphs.{triples_of, graph_of}
use Rattle.gs_model.proofs.TextLemmas.{text_of-injective}
use Rattle.gs_model.proofs.GraphLemmas.{triples_of-graph_of}
use Rattle.gs_dict.specs.Numbering.{IsDistinct, term_given}
use Rattle.gs_dict.proofs.NumberLemmas.{has_number}
use Rattle.gs_pool.specs.declared.nodes.Key.{Key}
use Rattle.gs_tree.specs.Keys.{AllKeys, IsRising}
use Rattle.gs_keys.specs.Texts.{Terms, term_at, triple_at, text_at, number_cmp, key_cmp, HasTerm, IsGiven}

-- the text of a number with a term is that of the term
pub text_read : (terms : Terms) (n : ℕ) → HasTerm terms n → text_at terms n ≡ text_of (term_at terms n)
text_read terms n h = ap (λ o. unwrap_or (option_map text_of o) []) (has_number terms n h)

-- that of one without a term is empty
pub no_text : (terms : Terms) (n : ℕ) → term_given terms n ≡ None → text_at terms n ≡ []
no_text terms n h = ap (λ o. unwrap_or (option_map text_of o) []) h

-- numbers of one term are one
pub one_number : (terms : Terms) (m n : ℕ) → IsDistinct terms → HasTerm terms m → HasTerm terms n → text_of (term_at terms m) ≡ text_of (term_at terms n) → m ≡ n
one_number terms m n distinct hm hn e =
    let same : term_at terms m ≡ term_at terms n = text_of-injective (term_at terms m) (term_at terms n) e in
    distinct m n (term_at terms n) (has_number terms m hm ∙ ap Some same) (has_number terms n hn)

-- terms are equal where their numbers are
pub term_eq_is : (terms : Terms) (m n : ℕ) → IsDistinct terms → HasTerm terms m → HasTerm terms n → term_eq (term_at terms m) (term_at terms n) ≡ nat_eq m n
term_eq_is terms m n distinct hm hn = alike (term_eq (term_at terms m) (term_at terms n)) (nat_eq m n) refl refl
  where
    T : ℕ → List ℕ
    T k = text_of (term_at terms k)

    alike : (r s : Bool) → term_eq (term_at terms m) (term_at terms n) ≡ r → nat_eq m n ≡ s → r ≡ s
    alike true true e f = refl
    alike false false e f = refl
    alike true false e f = absurd (let is : m ≡ n = one_number terms m n distinct hm hn ((bytes_eq-Decides (T m) (T n)).0 e) in grind (arith, nat_tests))
    alike false true e f = absurd (
        let is : m ≡ n = grind (arith, nat_tests) in
        let no : true ≡ false = sym ((bytes_eq-Decides (T m) (T n)).1 (ap T is)) ∙ e in
        cc
        )

-- numbers with terms are ordered as their terms are
number_cmp_is : (terms : Terms) (m n : ℕ) → HasTerm terms m → HasTerm terms n → number_cmp terms m n ≡ slice_cmp nat_cmp (text_of (term_at terms m)) (text_of (term_at terms n))
number_cmp_is terms m n hm hn = ap (λ x. slice_cmp nat_cmp x (text_at terms n)) (text_read terms m hm) ∙ ap (slice_cmp nat_cmp (text_of (term_at terms m))) (text_read terms n hn)

-- numbers with texts that compare as equal are one
pub tied_numbers : (terms : Terms) (m n : ℕ) → IsDistinct terms → HasTerm terms m → HasTerm terms n → number_cmp terms m n ≡ Equal → m ≡ n
tied_numbers terms m n distinct hm hn e = one_number terms m n distinct hm hn (exact_bytes (text_of (term_at terms m)) (text_of (term_at terms n)) (sym (number_cmp_is terms m n hm hn) ∙ e))

-- keys are ordered as their triples are
pub key_cmp_is : (terms : Terms) (a b : Key) → IsGiven terms a → IsGiven terms b → key_cmp terms a b ≡ triple_cmp (triple_at terms a) (triple_at terms b)
key_cmp_is terms a b ga gb =
    ap (λ o. ordering_then o (ordering_then (number_cmp terms a.predicate b.predicate) (number_cmp terms a.object b.object))) (number_cmp_is terms a.subject b.subject ga.subject gb.subject)
    ∙ ap (λ o. ordering_then (slice_cmp nat_cmp (text_of (term_at terms a.subject)) (text_of (term_at terms b.subject))) (ordering_then o (number_cmp terms a.object b.object))) (number_cmp_is terms a.predicate b.predicate ga.predicate gb.predicate)
    ∙ ap (λ o. ordering_then (slice_cmp nat_cmp (text_of (term_at terms a.subject)) (text_of (term_at terms b.subject))) (ordering_then (slice_cmp nat_cmp (text_of (term_at terms a.predicate)) (text_of (term_at terms b.predicate))) o)) (number_cmp_is terms a.object b.object ga.object gb.object)

-- the first of two that are equal one after the other
tied_first : (o p : Ordering) → ordering_then o p ≡ Equal → (o ≡ Equal) × (p ≡ Equal)
tied_first Less p e = absurd (cc)
tied_first Equal p e = (refl, e)
tied_first Greater p e = absurd (cc)

-- keys that compare as equal are one
pub tied_keys : (terms : Terms) (a b : Key) → IsDistinct terms → IsGiven terms a → IsGiven terms b → key_cmp terms a b ≡ Equal → a ≡ b
tied_keys terms a b distinct ga gb e =
    let s = tied_first (number_cmp terms a.subject b.subject) (ordering_then (number_cmp terms a.predicate b.predicate) (number_cmp terms a.object b.object)) e in
    let p = tied_first (number_cmp terms a.predicate b.predicate) (number_cmp terms a.object b.object) s.1 in
    let s_is = tied_numbers terms a.subject b.subject distinct ga.subject gb.subject s.0 in
    let p_is = tied_numbers terms a.predicate b.predicate distinct ga.predicate gb.predicate p.0 in
    let o_is = tied_numbers terms a.object b.object distinct ga.object gb.object p.1 in
    λ i. record { subject = s_is i; predicate = p_is i; object = o_is i }

-- each text has a first byte
pub some_text : (t : Term) → slice_cmp nat_cmp [] (text_of t) ≡ Less
some_text (Iri text) = refl
some_text (Blank r k) = refl
some_text (Literal lexical kind) = refl

-- a number without a term is below all that have one
pub no_text_first : (terms : Terms) (m n : ℕ) → term_given terms m ≡ None → HasTerm terms n → number_cmp terms m n ≡ Less
no_text_first terms m n hm hn = ap (λ x. slice_cmp nat_cmp x (text_at terms n)) (no_text terms m hm) ∙ ap (slice_cmp nat_cmp []) (text_read terms n hn) ∙ some_text (term_at terms n)

-- a number that compares as equal to one with a term has a term
given_number : (terms : Terms) (m n : ℕ) → HasTerm terms n → number_cmp terms m n ≡ Equal → HasTerm terms m
given_number terms m n h e = by_term (term_given terms m) refl
  where
    by_term : (o : Option Term) → term_given terms m ≡ o → is_some (term_given terms m) ≡ true
    by_term (Some t) is = ap is_some is
    by_term None is = absurd (let bad : Less ≡ Equal = sym (no_text_first terms m n is h) ∙ e in cc)

-- so is a key
pub tied_given : (terms : Terms) (a b : Key) → IsGiven terms b → key_cmp terms a b ≡ Equal → IsGiven terms a
tied_given terms a b g e =
    let s = tied_first (number_cmp terms a.subject b.subject) (ordering_then (number_cmp terms a.predicate b.predicate) (number_cmp terms a.object b.object)) e in
    let p = tied_first (number_cmp terms a.predicate b.predicate) (number_cmp terms a.object b.object) s.1 in
    record {
      subject = given_number terms a.subject b.subject g.subject s.0;
      predicate = given_number terms a.predicate b.predicate g.predicate p.0;
      object = given_number terms a.object b.object g.object p.1;
    }

-- triples of keys that are above one
above_all : (terms : Terms) (k : Key) (ks : List Key) → IsGiven terms k → AllKeys (IsGiven terms) ks → AllKeys (λ y. key_cmp terms k y ≡ Less) ks → AllByRecursion (λ u. triple_cmp (triple_at terms k) u ≡ Less) (map (triple_at terms) ks)
above_all terms k [] g gs h = tt
above_all terms k (y ∷ ks) g gs h = (sym (key_cmp_is terms k y g gs.0) ∙ h.0, above_all terms k ks g gs.1 h.1)

-- keys that rise have triples that rise
pub triples_rise : (terms : Terms) (ks : List Key) → IsRising (key_cmp terms) ks → AllKeys (IsGiven terms) ks → IsStrictlySortedBy triple_cmp (map (triple_at terms) ks)
unfolding IsStrictlySortedBy
triples_rise terms [] rising given = tt
triples_rise terms (k ∷ ks) rising given = (above_all terms k ks given.0 given.1 rising.0, triples_rise terms ks rising.1 given.1)

-- the triples of keys that rise are those of their graph
pub triples_of_keys : (terms : Terms) (ks : List Key) → IsRising (key_cmp terms) ks → AllKeys (IsGiven terms) ks → triples_of (graph_of (map (triple_at terms) ks)) ≡ map (triple_at terms) ks
triples_of_keys terms ks rising given = triples_of-graph_of (map (triple_at terms) ks) (triples_rise terms ks rising given)
