-- The texts of triples come three by three.
use Rattle.std.proofs.Common.{◌≡◌, ℕ, List, [], ◌∷◌, ◌++◌, Option, Some, None, refl, sym, ap, ◌∙◌, subst, append_assoc}
use Rattle.std.specs.List.{All}
use Rattle.std.proofs.lemmas.List.Elements.{All-head, All-tail, All-push, All-nil}
use Rattle.gs_model.specs.Terms.{Term, text_of}
use Rattle.gs_model.specs.Triples.{RdfTriple, IsTriple}
use Rattle.gs_model.proofs.TextLemmas.{term_of-text_of}
use Rattle.gs_packed_texts.specs.Texts.{split_bytes, Gives}
use Rattle.gs_packed_texts.specs.declared.readers.SplitText.{SplitText}
use Rattle.gs_packed_triples.specs.Formed.{triple_of_texts, triples_unpacked, texts_in, AreFormed, IsFormed}

-- the triple of a triple's texts
triple_of_texts-text_of : (t : RdfTriple) → triple_of_texts (text_of t.subject) (text_of t.predicate) (text_of t.object) ≡ t
triple_of_texts-text_of t = λ i. record {
  subject = term_of-text_of t.subject i;
  predicate = term_of-text_of t.predicate i;
  object = term_of-text_of t.object i;
}

-- texts of triples are of no others
triples_in-texts_in : (ts : List RdfTriple) → triples_unpacked (texts_in ts) ≡ ts
triples_in-texts_in [] = refl
triples_in-texts_in (t ∷ ts) = λ i. triple_of_texts-text_of t i ∷ triples_in-texts_in ts i

-- the texts of one triple more are three more
texts_in-push : (ts : List RdfTriple) (t : RdfTriple) → texts_in (ts ++ t ∷ []) ≡ texts_in ts ++ text_of t.subject ∷ text_of t.predicate ∷ text_of t.object ∷ []
texts_in-push [] t = refl
texts_in-push (u ∷ ts) t = ap (λ xs. text_of u.subject ∷ text_of u.predicate ∷ text_of u.object ∷ xs) (texts_in-push ts t)

-- the texts are those of one triple more
pub record Pushed (xs ys : List (List ℕ)) (t : RdfTriple) : Type 0 where
  pub formed : AreFormed ys
  pub triples : triples_unpacked ys ≡ triples_unpacked xs ++ t ∷ []

pushed : (xs ys : List (List ℕ)) (t : RdfTriple) → AreFormed xs → IsTriple t → ys ≡ texts_in (triples_unpacked xs ++ t ∷ []) → Pushed xs ys t
pushed xs ys t formed is more =
    let triples : triples_unpacked ys ≡ triples_unpacked xs ++ t ∷ [] = ap triples_unpacked more ∙ triples_in-texts_in (triples_unpacked xs ++ t ∷ []) in
    record {
      formed = record {
        texts = more ∙ ap texts_in (sym triples);
        triples = subst (All IsTriple) (sym triples) (All-push IsTriple (triples_unpacked xs) t formed.triples is);
      };
      triples = triples;
    }

-- the same, where the three texts of a triple were added one after another
pub texts_pushed :
    (ws xs ys zs : List (List ℕ)) (s p o : Term) (t : RdfTriple) → AreFormed ws → IsTriple t
    → xs ≡ ws ++ text_of s ∷ [] → ys ≡ xs ++ text_of p ∷ [] → zs ≡ ys ++ text_of o ∷ []
    → s ≡ t.subject → p ≡ t.predicate → o ≡ t.object → Pushed ws zs t
texts_pushed ws xs ys zs s p o t formed is first second third subject predicate object =
    let x : List ℕ = text_of t.subject in
    let y : List ℕ = text_of t.predicate in
    let z : List ℕ = text_of t.object in
    let added : zs ≡ ((ws ++ x ∷ []) ++ y ∷ []) ++ z ∷ [] =
    third
    ∙ ap (λ v. ys ++ text_of v ∷ []) object
    ∙ ap (λ v. v ++ z ∷ []) (second ∙ ap (λ v. xs ++ text_of v ∷ []) predicate ∙ ap (λ v. v ++ y ∷ []) (first ∙ ap (λ v. ws ++ text_of v ∷ []) subject))
    in
    pushed ws zs t formed is
    (added
    ∙ append_assoc (ws ++ x ∷ []) (y ∷ []) (z ∷ [])
    ∙ append_assoc ws (x ∷ []) (y ∷ z ∷ [])
    ∙ ap (λ v. v ++ x ∷ y ∷ z ∷ []) formed.texts
    ∙ sym (texts_in-push (triples_unpacked ws) t))

-- no texts are formed
AreFormed-nil : AreFormed []
AreFormed-nil = record { texts = refl; triples = All-nil IsTriple }

-- the first three texts are a triple's, and so are those after them
pub record Taken (s p o : List ℕ) (xs : List (List ℕ)) : Type 0 where
  pub first : IsFormed s p o
  pub rest : AreFormed xs

taken : (s p o : List ℕ) (xs : List (List ℕ)) → AreFormed (s ∷ p ∷ o ∷ xs) → Taken s p o xs
taken s p o xs formed =
    let is : IsTriple (triple_of_texts s p o) = All-head IsTriple (triple_of_texts s p o) (triples_unpacked xs) formed.triples in
    record {
      first = record {
        subject = record { canonical = cc formed.texts; valid = is.subject_is };
        predicate = record { canonical = cc formed.texts; valid = is.predicate_is };
        object = record { canonical = cc formed.texts; valid = is.object_is };
        kinds = is.kinds;
      };
      rest = record {
        texts = cc formed.texts;
        triples = All-tail IsTriple (triple_of_texts s p o) (triples_unpacked xs) formed.triples;
      };
    }

-- the same, where three texts were taken one after another
pub texts_taken : (ws xs ys zs : List (List ℕ)) (s p o : List ℕ) → AreFormed ws → ws ≡ s ∷ xs → xs ≡ p ∷ ys → ys ≡ o ∷ zs → Taken s p o zs
texts_taken ws xs ys zs s p o formed first second third =
    let whole : ws ≡ s ∷ p ∷ o ∷ zs = first ∙ ap (λ z. s ∷ z) (second ∙ ap (λ z. p ∷ z) third) in
    taken s p o zs (subst AreFormed whole formed)

-- the same for what is left, also where the third text was not there
pub rest_formed : (ws xs ys zs : List (List ℕ)) (s p : List ℕ) (o : Option SplitText) → AreFormed ws → ws ≡ s ∷ xs → xs ≡ p ∷ ys → Gives ys o zs → AreFormed zs
rest_formed ws xs ys zs s p None formed first second third = subst AreFormed (sym third.1) AreFormed-nil
rest_formed ws xs ys zs s p (Some o) formed first second third = (texts_taken ws xs ys zs s p (split_bytes o) formed first second third).rest
