-- Keys as triples, and their order. Numbers are those of a dictionary, which has a term for each, or none.
use Rattle.std.specs.Prelude.{◌≡◌, ℕ, List, []}
use Rattle.std.specs.Option.{option_map, unwrap_or}
use Rattle.std.specs.Ordering.{ordering_then, nat_cmp}
use Rattle.std.specs.Cmp.{IsTotalOrder}
use Rattle.std.specs.Cmp.Lexicographic.{slice_cmp}
use Rattle.std.proofs.lemmas.Cmp.{then_total, on_total, nat_list_cmp_total}
use Rattle.std.specs.declared.cmp.Ordering.{Ordering}
use Rattle.gs_model.specs.Terms.{text_of}
use Rattle.gs_model.specs.Triples.{RdfTriple}
use Rattle.gs_dict.specs.Numbering.{Numbered, term_given}
pub use Rattle.gs_dict.specs.Numbering.{Terms, term_at, HasTerm, KeepTerms}
use Rattle.gs_pool.specs.declared.nodes.Key.{Key}
use Rattle.gs_keys.specs.declared.texts.ByText.{ByText}

-- the triple of a key: the terms of its numbers
abbrev pub triple_at : Terms → Key → RdfTriple
triple_at terms k = record { subject = term_at terms k.subject; predicate = term_at terms k.predicate; object = term_at terms k.object }

-- each of the key's numbers has a term
pub record IsGiven (terms : Terms) (k : Key) : Type 0 where
  pub subject : HasTerm terms k.subject
  pub predicate : HasTerm terms k.predicate
  pub object : HasTerm terms k.object

-- each of the key's numbers has the same term in both, or none in either
pub record AgreeOn (terms later : Terms) (k : Key) : Type 0 where
  pub subject : term_given later k.subject ≡ term_given terms k.subject
  pub predicate : term_given later k.predicate ≡ term_given terms k.predicate
  pub object : term_given later k.object ≡ term_given terms k.object

-- the text of a number, which is empty where it has no term
abbrev pub text_at : Terms → ℕ → List ℕ
text_at terms n = unwrap_or (option_map text_of (term_given terms n)) []

-- numbers are ordered by the bytes of their texts
abbrev pub number_cmp : Terms → ℕ → ℕ → Ordering
number_cmp terms m n = slice_cmp nat_cmp (text_at terms m) (text_at terms n)

-- keys are ordered by subject, then predicate, then object
abbrev pub key_cmp : Terms → Key → Key → Ordering
key_cmp terms a b = ordering_then (number_cmp terms a.subject b.subject) (ordering_then (number_cmp terms a.predicate b.predicate) (number_cmp terms a.object b.object))

-- the dictionary by whose texts an order puts keys
abbrev pub dict_of : ByText → Numbered
dict_of order = order.dict.now

-- that is a total order
pub key_total : (terms : Terms) → IsTotalOrder (key_cmp terms)
key_total terms =
    then_total (on_total (λ (k : Key). text_at terms k.subject) nat_list_cmp_total)
    (then_total (on_total (λ (k : Key). text_at terms k.predicate) nat_list_cmp_total) (on_total (λ (k : Key). text_at terms k.object) nat_list_cmp_total))
