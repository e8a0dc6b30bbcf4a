-- What is found by number is what is found by terms.
use Rattle.std.proofs.Common.{◌≡◌, ℕ, Bool, true, false, cond, nat_eq, List, [], ◌∷◌, ◌++◌, map, Option, Some, None, refl, sym, ap, ◌∙◌, subst, inl, inr}
use Rattle.std.specs.List.{flat_map}
use Rattle.std.specs.Option.{option_map, option_and_then}
use Rattle.std.specs.Str.{bytes_eq}
use Rattle.std.proofs.lemmas.List.{map-append}
use Rattle.std.proofs.lemmas.Slice.Eq.{bytes_eq-Decides}
use Rattle.gs_model.specs.Terms.{text_of}
use Rattle.gs_model.specs.Triples.{RdfTriple, term_eq}
use Rattle.gs_model.proofs.TextLemmas.{text_of-injective}
use Rattle.gs_term.specs.declared.patterns.Part.{Part}
use Rattle.gs_term.specs.declared.patterns.Part.TheVariants.{Term as TheTerm, Variable as TheVariable}
use Rattle.gs_term.specs.declared.patterns.Pattern.{Pattern}
use Rattle.gs_event.specs.Solutions.{Bindings, term_for, with_term, bind, bind_triple}
use Rattle.gs_graphs.specs.Solving.{found_if, found_from}
use Rattle.gs_dict.specs.Numbering.{IsDistinct}
use Rattle.gs_dict.proofs.NumberLemmas.{has_number}
use Rattle.gs_pool.specs.declared.nodes.Key.{Key}
use Rattle.gs_tree.specs.Keys.{AllKeys}
use Rattle.gs_keys.specs.Texts.{Terms, term_at, triple_at, HasTerm, IsGiven}
use Rattle.gs_keys.proofs.KeyLemmas.{term_eq_is}
use Rattle.gs_joins.specs.declared.sought.Item.{Item}
use Rattle.gs_joins.specs.declared.sought.Item.TheVariants.{Number, Variable}
use Rattle.gs_joins.specs.declared.sought.Sought.{Sought}
use Rattle.gs_joins.specs.Numbers.{BoundNumbers, number_for, bound_to_number, bind_number, bind_key}
use Rattle.gs_match.specs.Patterns.{part_of, pattern_of, IsGivenItem, IsGivenSought, AreGiven, IsLackingPart, IsLacking, OneLacks}
use Rattle.gs_match.specs.Found.{keys_if, found_keys, found_at}

-- bindings with terms in the place of numbers
abbrev pub lifted : Terms → BoundNumbers → Bindings
lifted terms b = map (λ (e : List ℕ × ℕ). (e.0, term_at terms e.1)) b

-- each number that is bound has a term
abbrev pub AllBound : Terms → BoundNumbers → Type 0
AllBound terms [] = Unit {0}
AllBound terms (e ∷ b) = HasTerm terms e.1 × AllBound terms b

-- the number that a variable is bound to has a term
bound_given : (terms : Terms) (b : BoundNumbers) (x : List ℕ) (m : ℕ) → AllBound terms b → number_for b x ≡ Some m → HasTerm terms m
bound_given terms [] x m all e = absurd (cc)
bound_given terms (p ∷ b) x m all e = by_name (bytes_eq p.0 x) e (bound_given terms b x m all.1)
  where
    some_is : (k l : ℕ) → Some k ≡ Some l → k ≡ l
    some_is k l e = cc

    by_name : (r : Bool) → cond r (Some p.1) (number_for b x) ≡ Some m → (number_for b x ≡ Some m → HasTerm terms m) → HasTerm terms m
    by_name true e later = subst (HasTerm terms) (some_is p.1 m e) all.0
    by_name false e later = later e

-- the term that a variable is bound to is that of its number
term_for_is : (terms : Terms) (b : BoundNumbers) (x : List ℕ) → term_for (lifted terms b) x ≡ option_map (term_at terms) (number_for b x)
term_for_is terms [] x = refl
term_for_is terms (p ∷ b) x = by_name (bytes_eq p.0 x) (term_for_is terms b x)
  where
    by_name : (r : Bool) → term_for (lifted terms b) x ≡ option_map (term_at terms) (number_for b x)
        → cond r (Some (term_at terms p.1)) (term_for (lifted terms b) x) ≡ option_map (term_at terms) (cond r (Some p.1) (number_for b x))
    by_name true later = refl
    by_name false later = later

module _ (terms : Terms) (distinct : IsDistinct terms) where
  -- bindings stay where two numbers are one
  same_if : (b : BoundNumbers) (m n : ℕ) → HasTerm terms m → HasTerm terms n → cond (term_eq (term_at terms m) (term_at terms n)) (Some (lifted terms b)) None ≡ option_map (lifted terms) (cond (nat_eq m n) (Some b) None)
  same_if b m n hm hn = ap (λ r. cond r (Some (lifted terms b)) None) (term_eq_is terms m n distinct hm hn) ∙ by_test (nat_eq m n)
    where
      by_test : (r : Bool) → cond r (Some (lifted terms b)) None ≡ option_map (lifted terms) (cond r (Some b) None)
      by_test true = refl
      by_test false = refl

  -- a variable is bound to a number where it is to its term
  with_is : (b : BoundNumbers) (x : List ℕ) (n : ℕ) (o : Option ℕ) → ((m : ℕ) → o ≡ Some m → HasTerm terms m) → HasTerm terms n
      → with_term (lifted terms b) x (term_at terms n) (option_map (term_at terms) o) ≡ option_map (lifted terms) (bound_to_number b x n o)
  with_is b x n None h hn = refl
  with_is b x n (Some m) h hn = same_if b m n (h m refl) hn

  -- a number is bound where its term is
  bind_is : (b : BoundNumbers) (i : Item) (n : ℕ) → AllBound terms b → IsGivenItem terms i → HasTerm terms n → bind (lifted terms b) (part_of terms i) (term_at terms n) ≡ option_map (lifted terms) (bind_number b i n)
  bind_is b (Number m) n all g hn = same_if b m n g hn
  bind_is b (Variable x) n all g hn = ap (with_term (lifted terms b) x.now (term_at terms n)) (term_for_is terms b x.now) ∙ with_is b x.now n (number_for b x.now) (λ m. bound_given terms b x.now m all) hn

  -- the numbers of bindings that stay have terms
  kept_if : (b c : BoundNumbers) (r : Bool) → cond r (Some b) None ≡ Some c → AllBound terms b → AllBound terms c
  kept_if b c true e all = subst (AllBound terms) (some_is b c e) all
    where
      some_is : (k l : BoundNumbers) → Some k ≡ Some l → k ≡ l
      some_is k l e = cc
  kept_if b c false e all = absurd (cc)

  -- so do those with a variable more
  kept_with : (b c : BoundNumbers) (x : List ℕ) (n : ℕ) (o : Option ℕ) → bound_to_number b x n o ≡ Some c → HasTerm terms n → AllBound terms b → AllBound terms c
  kept_with b c x n None e h all = subst (AllBound terms) (some_is ((x, n) ∷ b) c e) (h, all)
    where
      some_is : (k l : BoundNumbers) → Some k ≡ Some l → k ≡ l
      some_is k l e = cc
  kept_with b c x n (Some m) e h all = kept_if b c (nat_eq m n) e all

  -- the numbers that are bound then have terms
  kept_by : (b c : BoundNumbers) (i : Item) (n : ℕ) → bind_number b i n ≡ Some c → HasTerm terms n → AllBound terms b → AllBound terms c
  kept_by b c (Number m) n e h all = kept_if b c (nat_eq m n) e all
  kept_by b c (Variable x) n e h all = kept_with b c x.now n (number_for b x.now) e h all

  -- a key is a pattern's instance where its triple is
  pub key_is : (b : BoundNumbers) (s : Sought) (k : Key) → AllBound terms b → IsGivenSought terms s → IsGiven terms k → bind_triple (lifted terms b) (pattern_of terms s) (triple_at terms k) ≡ option_map (lifted terms) (bind_key b s k)
  key_is b s k all g gk = by_subject (bind_number b s.subject k.subject) refl (bind_is b s.subject k.subject all g.subject gk.subject)
    where
      object_of : Bindings → Option Bindings
      object_of d = bind d (part_of terms s.object) (term_at terms k.object)

      predicate_of : Bindings → Option Bindings
      predicate_of c = option_and_then object_of (bind c (part_of terms s.predicate) (term_at terms k.predicate))

      object_then : BoundNumbers → Option BoundNumbers
      object_then d = bind_number d s.object k.object

      predicate_then : BoundNumbers → Option BoundNumbers
      predicate_then c = option_and_then object_then (bind_number c s.predicate k.predicate)

      by_predicate : (c : BoundNumbers) → AllBound terms c → (o : Option BoundNumbers) → bind_number c s.predicate k.predicate ≡ o → bind (lifted terms c) (part_of terms s.predicate) (term_at terms k.predicate) ≡ option_map (lifted terms) (bind_number c s.predicate k.predicate)
          → predicate_of (lifted terms c) ≡ option_map (lifted terms) (predicate_then c)
      by_predicate c all_c None e is = ap (option_and_then object_of) (is ∙ ap (option_map (lifted terms)) e) ∙ sym (ap (λ o. option_map (lifted terms) (option_and_then object_then o)) e)
      by_predicate c all_c (Some d) e is =
          ap (option_and_then object_of) (is ∙ ap (option_map (lifted terms)) e)
          ∙ bind_is d s.object k.object (kept_by c d s.predicate k.predicate e gk.predicate all_c) g.object gk.object
          ∙ sym (ap (λ o. option_map (lifted terms) (option_and_then object_then o)) e)

      by_subject : (o : Option BoundNumbers) → bind_number b s.subject k.subject ≡ o → bind (lifted terms b) (part_of terms s.subject) (term_at terms k.subject) ≡ option_map (lifted terms) (bind_number b s.subject k.subject)
          → bind_triple (lifted terms b) (pattern_of terms s) (triple_at terms k) ≡ option_map (lifted terms) (bind_key b s k)
      by_subject None e is = ap (option_and_then predicate_of) (is ∙ ap (option_map (lifted terms)) e) ∙ sym (ap (λ o. option_map (lifted terms) (option_and_then predicate_then o)) e)
      by_subject (Some c) e is =
          let all_c : AllBound terms c = kept_by b c s.subject k.subject e gk.subject all in
          ap (option_and_then predicate_of) (is ∙ ap (option_map (lifted terms)) e)
          ∙ by_predicate c all_c (bind_number c s.predicate k.predicate) refl (bind_is c s.predicate k.predicate all_c g.predicate gk.predicate)
          ∙ sym (ap (λ o. option_map (lifted terms) (option_and_then predicate_then o)) e)

  -- the numbers that are bound then have terms
  pub kept_key : (b c : BoundNumbers) (s : Sought) (k : Key) → bind_key b s k ≡ Some c → IsGiven terms k → AllBound terms b → AllBound terms c
  kept_key b c s k e gk all = by_subject (bind_number b s.subject k.subject) refl e
    where
      by_predicate : (a : BoundNumbers) → AllBound terms a → (o : Option BoundNumbers) → bind_number a s.predicate k.predicate ≡ o → option_and_then (λ d. bind_number d s.object k.object) o ≡ Some c → AllBound terms c
      by_predicate a all_a None e f = absurd (cc)
      by_predicate a all_a (Some d) e f = kept_by d c s.object k.object f gk.object (kept_by a d s.predicate k.predicate e gk.predicate all_a)

      by_subject : (o : Option BoundNumbers) → bind_number b s.subject k.subject ≡ o → option_and_then (λ a. option_and_then (λ d. bind_number d s.object k.object) (bind_number a s.predicate k.predicate)) o ≡ Some c → AllBound terms c
      by_subject None e f = absurd (cc)
      by_subject (Some a) e f = by_predicate a (kept_by b a s.subject k.subject e gk.subject all) (bind_number a s.predicate k.predicate) refl f

  module _ (ks : List Key) (given : AllKeys (IsGiven terms) ks) where
    -- what is found at each of some keys
    found_each : (f : Key → List Key) (g : RdfTriple → List RdfTriple) → ((k : Key) → IsGiven terms k → map (triple_at terms) (f k) ≡ g (triple_at terms k)) → (zs : List Key) → AllKeys (IsGiven terms) zs
        → map (triple_at terms) (flat_map f zs) ≡ flat_map g (map (triple_at terms) zs)
    found_each f g h [] gs = refl
    found_each f g h (z ∷ zs) gs = map-append (triple_at terms) (f z) (flat_map f zs) ∙ ap (λ xs. xs ++ map (triple_at terms) (flat_map f zs)) (h z gs.0) ∙ ap (λ xs. g (triple_at terms z) ++ xs) (found_each f g h zs gs.1)

    -- the triples of the keys that are found are those that are found
    pub found_is : (ss : List Sought) (b : BoundNumbers) (chosen : List Key) → AreGiven terms ss → AllBound terms b
        → map (triple_at terms) (found_keys ks ss b chosen) ≡ found_from (map (triple_at terms) ks) (map (pattern_of terms) ss) (lifted terms b) (map (triple_at terms) chosen)
    found_is [] b chosen gs all = refl
    found_is (s ∷ ss) b chosen gs all =
        found_each (found_at ks s ss b chosen) (λ t. found_if (λ c. found_from (map (triple_at terms) ks) (map (pattern_of terms) ss) c (map (triple_at terms) chosen ++ t ∷ [])) (bind_triple (lifted terms b) (pattern_of terms s) t))
        (λ k g. at_key k g (bind_key b s k) refl (λ c e. found_is ss c (chosen ++ k ∷ []) gs.1 (kept_key b c s k e g all))) ks given
      where
        again : RdfTriple → Bindings → List RdfTriple
        again t c = found_from (map (triple_at terms) ks) (map (pattern_of terms) ss) c (map (triple_at terms) chosen ++ t ∷ [])

        at_key : (k : Key) → IsGiven terms k → (o : Option BoundNumbers) → bind_key b s k ≡ o
            → ((c : BoundNumbers) → bind_key b s k ≡ Some c → map (triple_at terms) (found_keys ks ss c (chosen ++ k ∷ [])) ≡ found_from (map (triple_at terms) ks) (map (pattern_of terms) ss) (lifted terms c) (map (triple_at terms) (chosen ++ k ∷ [])))
            → map (triple_at terms) (keys_if (λ c. found_keys ks ss c (chosen ++ k ∷ [])) (bind_key b s k)) ≡ found_if (again (triple_at terms k)) (bind_triple (lifted terms b) (pattern_of terms s) (triple_at terms k))
        at_key k g None e later = ap (λ o. map (triple_at terms) (keys_if (λ c. found_keys ks ss c (chosen ++ k ∷ [])) o)) e ∙ sym (ap (found_if (again (triple_at terms k))) (key_is b s k all gs.0 g ∙ ap (option_map (lifted terms)) e))
        at_key k g (Some c) e later =
            ap (λ o. map (triple_at terms) (keys_if (λ c. found_keys ks ss c (chosen ++ k ∷ [])) o)) e
            ∙ later c e ∙ ap (found_from (map (triple_at terms) ks) (map (pattern_of terms) ss) (lifted terms c)) (map-append (triple_at terms) chosen (k ∷ []))
            ∙ sym (ap (found_if (again (triple_at terms k))) (key_is b s k all gs.0 g ∙ ap (option_map (lifted terms)) e))

-- a part that is a term without a number stands for no term of a number
lacking_part : (terms : Terms) (b : Bindings) (p : Part) (n : ℕ) → IsLackingPart terms p → HasTerm terms n → bind b p (term_at terms n) ≡ None
lacking_part terms b (TheTerm t) n new h = by_test (term_eq t (term_at terms n)) refl
  where
    by_test : (r : Bool) → term_eq t (term_at terms n) ≡ r → cond (term_eq t (term_at terms n)) (Some b) None ≡ None
    by_test true e = absurd (
        let same : t ≡ term_at terms n = text_of-injective t (term_at terms n) ((bytes_eq-Decides (text_of t) (text_of (term_at terms n))).0 e) in
        new n (has_number terms n h ∙ ap Some (sym same))
        )
    by_test false e = ap (λ r. cond r (Some b) None) e
lacking_part terms b (TheVariable x) n new h = absurd new

-- so does a pattern with such a part
lacking : (terms : Terms) (b : Bindings) (p : Pattern) (k : Key) → IsLacking terms p → IsGiven terms k → bind_triple b p (triple_at terms k) ≡ None
lacking terms b p k lacks g = elim lacks [
  | inl s ↦ ap (option_and_then predicate_of) (lacking_part terms b p.subject k.subject s g.subject)
  | inr rest ↦ elim rest [
    | inl v ↦ none_then (bind b p.subject (term_at terms k.subject)) predicate_of (λ c. ap (option_and_then object_of) (lacking_part terms c p.predicate k.predicate v g.predicate))
    | inr o ↦ none_then (bind b p.subject (term_at terms k.subject)) predicate_of (λ c. none_then (bind c p.predicate (term_at terms k.predicate)) object_of (λ d. lacking_part terms d p.object k.object o g.object))
  ]
]
  where
    object_of : Bindings → Option Bindings
    object_of d = bind d p.object (term_at terms k.object)

    predicate_of : Bindings → Option Bindings
    predicate_of c = option_and_then object_of (bind c p.predicate (term_at terms k.predicate))

    none_then : (o : Option Bindings) (f : Bindings → Option Bindings) → ((c : Bindings) → f c ≡ None) → option_and_then f o ≡ None
    none_then None f h = refl
    none_then (Some c) f h = h c

-- where a term of a pattern has no number nothing is found
pub lacks_all : (terms : Terms) (ks : List Key) → AllKeys (IsGiven terms) ks → (ps : List Pattern) (b : Bindings) (chosen : List RdfTriple) → OneLacks terms ps → found_from (map (triple_at terms) ks) ps b chosen ≡ []
lacks_all terms ks given [] b chosen lacks = absurd lacks
lacks_all terms ks given (p ∷ ps) b chosen lacks = elim lacks [
  | inl here ↦ none_each (λ t. found_if (λ c. found_from (map (triple_at terms) ks) ps c (chosen ++ t ∷ [])) (bind_triple b p t)) (λ k g. ap (found_if (λ c. found_from (map (triple_at terms) ks) ps c (chosen ++ triple_at terms k ∷ []))) (lacking terms b p k here g)) ks given
  | inr later ↦ none_each (λ t. found_if (λ c. found_from (map (triple_at terms) ks) ps c (chosen ++ t ∷ [])) (bind_triple b p t)) (λ k g. none_found (λ c. found_from (map (triple_at terms) ks) ps c (chosen ++ triple_at terms k ∷ [])) (λ c. lacks_all terms ks given ps c (chosen ++ triple_at terms k ∷ []) later) (bind_triple b p (triple_at terms k))) ks given
]
  where
    none_each : (f : RdfTriple → List RdfTriple) → ((k : Key) → IsGiven terms k → f (triple_at terms k) ≡ []) → (zs : List Key) → AllKeys (IsGiven terms) zs → flat_map f (map (triple_at terms) zs) ≡ []
    none_each f h [] gs = refl
    none_each f h (z ∷ zs) gs = ap (λ xs. xs ++ flat_map f (map (triple_at terms) zs)) (h z gs.0) ∙ none_each f h zs gs.1

    none_found : (again : Bindings → List RdfTriple) → ((c : Bindings) → again c ≡ []) → (o : Option Bindings) → found_if again o ≡ []
    none_found again h None = refl
    none_found again h (Some c) = h c
