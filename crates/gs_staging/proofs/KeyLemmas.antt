-- A dictionary that grows by the terms of triples, and the keys that it gives them.
use Rattle.std.proofs.Common.{◌≡◌, ◌<◌, ℕ, List, [], ◌∷◌, ◌++◌, length, slice_get, get_or, Some, Result, Err, inl, inr, refl, sym, ap, subst, ◌∙◌}
use Rattle.std.specs.Option.{option_map}
use Rattle.std.proofs.lemmas.List.{map-append}
use Rattle.std.proofs.lemmas.Option.{slice_get-get_or, slice_get-map}
use Rattle.gs_model.specs.Terms.{Term}
use Rattle.gs_model.specs.Triples.{RdfTriple}
use Rattle.gs_model.specs.declared.refusals.Refusal.{Refusal}
use Rattle.gs_model.specs.declared.refusals.Refusal.TheVariants.{NoMemory, WrongPhase, BadSeat, LastNumber, Syntax, TermTooLong, StoreFull, NotInProfile, Closed}
use Rattle.gs_dict.specs.declared.numbers.TermId.{TermId}
use Rattle.gs_dict.specs.Numbering.{Numbered, Interns}
use Rattle.gs_dict.proofs.NumberLemmas.{keep_same, keep_both, number_has, number_term, interns_keeps, interns_last, interns_only}
use Rattle.gs_triple_lists.specs.declared.lists.TripleNumbers.{TripleNumbers}
use Rattle.gs_triple_lists.specs.Kept.{triple_of_numbers, triples_of_numbers}
use Rattle.gs_pool.specs.declared.nodes.Key.{Key}
use Rattle.gs_tree.specs.Keys.{AllKeys}
use Rattle.gs_keys.specs.Texts.{Terms, term_at, triple_at, KeepTerms, IsGiven}
use Rattle.gs_keys.proofs.RootLemmas.{triples_kept, all_given_kept}
use Rattle.gs_staging.specs.Keys.{Grows, GivesOnly, IsTermOf, IsTermIn, IsKeyOf, AreKeysOf}

-- a dictionary that stays as it is has grown by nothing
pub still_grows : (d e : Numbered) → e ≡ d → Grows d e
still_grows d e is = record { terms = subst (λ (n : Numbered). KeepTerms d.terms n.terms) (sym is) (keep_same d.terms); last = ap (λ n. n.last) is }

-- growing twice is growing
pub grows_twice : (d e f : Numbered) → Grows d e → Grows e f → Grows d f
grows_twice d e f a b = record { terms = keep_both d.terms e.terms f.terms a.terms b.terms; last = b.last ∙ a.last }

-- a dictionary that gave a term its number has grown
pub interned_grows : (d : Numbered) (t : Term) (r : Result TermId Refusal) (e : Numbered) → Interns d t r e → Grows d e
interned_grows d t r e h = record { terms = interns_keeps d e t r h; last = interns_last d e t r h }

-- and a refusal is for memory
pub refused_memory : (d : Numbered) (t : Term) (refusal : Refusal) (e : Numbered) → Interns d t (Err refusal) e → refusal ≡ NoMemory
refused_memory d t NoMemory e h = refl
refused_memory d t WrongPhase e h = absurd h
refused_memory d t BadSeat e h = absurd h
refused_memory d t LastNumber e h = absurd h
refused_memory d t (Syntax n) e h = absurd h
refused_memory d t TermTooLong e h = absurd h
refused_memory d t StoreFull e h = absurd h
refused_memory d t NotInProfile e h = absurd h
refused_memory d t Closed e h = absurd h

-- numbers that were given in two steps
pub only_twice : {P Q : Term → Type 0} (a b c : Terms) → GivesOnly P a b → ((u : Term) → Q u → P u) → GivesOnly Q b c → GivesOnly P a c
only_twice a b c first wider second n u h = elim (second n u h) [
  | inl old ↦ first n u old
  | inr is ↦ inr (wider u is)
]

-- the first two terms of a triple were given their numbers, and no other was
pub pair_only :
    (t : RdfTriple) (d e f : Numbered) (s p : Result TermId Refusal) → Interns d t.subject s e → Interns e t.predicate p f
    → GivesOnly (IsTermOf t) d.terms f.terms
pair_only t d e f s p subject predicate =
    let first : GivesOnly (IsTermOf t) d.terms e.terms = only_twice d.terms d.terms e.terms (λ n u old. inl old) (λ u is. inl is) (interns_only d e t.subject s subject) in
    only_twice d.terms e.terms f.terms first (λ u is. inr (inl is)) (interns_only e f t.predicate p predicate)

-- the terms of a triple were given their numbers, one after the other
module _ (t : RdfTriple) (d e f g : Numbered) (s p o : Result TermId Refusal) (subject : Interns d t.subject s e) (predicate : Interns e t.predicate p f) (object : Interns f t.object o g) where
  pub triple_grows : Grows d g
  triple_grows = grows_twice d f g (grows_twice d e f (interned_grows d t.subject s e subject) (interned_grows e t.predicate p f predicate)) (interned_grows f t.object o g object)

  pub triple_only : GivesOnly (IsTermOf t) d.terms g.terms
  triple_only = only_twice d.terms f.terms g.terms (pair_only t d e f s p subject predicate) (λ u is. inr (inr is)) (interns_only f g t.object o object)

-- and to the terms of one triple more of a list
pub only_in : (a b c : Terms) (ts : List RdfTriple) (i : ℕ) (t : RdfTriple) → GivesOnly (IsTermIn ts) a b → slice_get ts i ≡ Some t → GivesOnly (IsTermOf t) b c → GivesOnly (IsTermIn ts) a c
only_in a b c ts i t first there second = only_twice a b c first (λ u is. record { place = i; triple = t; there = there; term = is }) second

-- three numbers of a list are those of a triple of it
pub triple_there : (terms : List Term) (ns : List TripleNumbers) (ts : List RdfTriple) (i : ℕ) (n : TripleNumbers) → triples_of_numbers terms ns ≡ ts → i < length ns → slice_get ts i ≡ Some (triple_of_numbers terms (get_or ns i n))
triple_there terms ns ts i n are low =
    ap (λ us. slice_get us i) (sym are) ∙ slice_get-map (triple_of_numbers terms) ns i ∙ ap (option_map (triple_of_numbers terms)) (slice_get-get_or ns i n low)

-- a key of a triple has numbers with terms, and says the triple
pub key_given : (ts : Terms) (t : RdfTriple) (k : Key) → IsKeyOf ts t k → IsGiven ts k
key_given ts t k h = record { subject = number_has ts k.subject t.subject h.subject; predicate = number_has ts k.predicate t.predicate h.predicate; object = number_has ts k.object t.object h.object }

pub key_says : (ts : Terms) (t : RdfTriple) (k : Key) → IsKeyOf ts t k → triple_at ts k ≡ t
key_says ts t k h =
    let s : term_at ts k.subject ≡ t.subject = number_term ts k.subject t.subject h.subject in
    let p : term_at ts k.predicate ≡ t.predicate = number_term ts k.predicate t.predicate h.predicate in
    let o : term_at ts k.object ≡ t.object = number_term ts k.object t.object h.object in
    λ i. record { subject = s i; predicate = p i; object = o i }

-- what holds of two lists holds of them joined
pub all_append : (P : Key → Type 0) (xs ys : List Key) → AllKeys P xs → AllKeys P ys → AllKeys P (xs ++ ys)
all_append P [] ys h k = k
all_append P (x ∷ xs) ys h k = (h.0, all_append P xs ys h.1 k)

-- keys of triples stay their keys
pub keys_kept : (d e : Numbered) → Grows d e → (ts : List RdfTriple) (ks : List Key) → AreKeysOf d.terms ts ks → AreKeysOf e.terms ts ks
keys_kept d e g ts ks h = record {
  said = triples_kept d.terms e.terms g.terms ks h.given ∙ h.said;
  given = all_given_kept d.terms e.terms g.terms ks h.given;
}

-- no triple has no key
pub no_keys : (terms : Terms) → AreKeysOf terms [] []
no_keys terms = record { said = refl; given = tt }

-- a key more is that of a triple more
pub keys_more : (d e : Numbered) → Grows d e → (ts : List RdfTriple) (ks : List Key) (t : RdfTriple) (k : Key) → AreKeysOf d.terms ts ks → IsKeyOf e.terms t k → AreKeysOf e.terms (ts ++ t ∷ []) (ks ++ k ∷ [])
keys_more d e g ts ks t k h one =
    let before = keys_kept d e g ts ks h in
    record {
      said = map-append (triple_at e.terms) ks (k ∷ []) ∙ ap (λ xs. xs ++ triple_at e.terms k ∷ []) before.said ∙ ap (λ x. ts ++ x ∷ []) (key_says e.terms t k one);
      given = all_append (IsGiven e.terms) ks (k ∷ []) before.given (key_given e.terms t k one, tt);
    }
