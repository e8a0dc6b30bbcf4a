use Rattle.std.proofs.Common.{◌≡◌, ◌≤◌, ◌∙◌, ℕ, List, length, ap, sym, subst}
use Rattle.gs_model.specs.Limits.{max_term_bytes}
use Rattle.gs_model.specs.Terms.{Term, text_of, IsTerm}
use Rattle.gs_model.specs.Texts.{IsCanonical}
use Rattle.gs_model.specs.Triples.{has_kinds}
use Rattle.gs_term.proofs.MakingLemmas.{term_of-bytes, canonical}
use Rattle.gs_triple_lists.proofs.ListLemmas.{same_triple}
use Rattle.gs_triple_lists_tests.proofs.lists.push_texts.Goals as goal

-- the text of a term is canonical
text_is_canonical : (t : Term) (x : List ℕ) → x ≡ text_of t → IsTerm t → IsCanonical x
text_is_canonical t x e is =
    let P : List ℕ → Type 0 = λ y. length y ≤ max_term_bytes in
    canonical t x e is.formed is.spelled (subst P (sym e) is.short)

pub push_texts-requires : goal.push_texts-requires
push_texts-requires c =
    let s = c.as_bytes-subject in
    let p = c.as_bytes-predicate in
    let o = c.as_bytes-object in
    let subject = term_of-bytes _ s.result.now s.ensures.text ∙ c.subject.ensures in
    let predicate = term_of-bytes _ p.result.now p.ensures.text ∙ c.predicate.ensures in
    let object = term_of-bytes _ o.result.now o.ensures.text ∙ c.object.ensures in
    record {
      subject_canonical = text_is_canonical _ s.result.now s.ensures.text s.ensures.valid;
      predicate_canonical = text_is_canonical _ p.result.now p.ensures.text p.ensures.valid;
      object_canonical = text_is_canonical _ o.result.now o.ensures.text o.ensures.valid;
      kinds = ap has_kinds (same_triple subject predicate object) ∙ c.known.ensures.kinds;
    }
