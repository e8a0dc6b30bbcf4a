use Rattle.std.proofs.Common.{◌≡◌, ◌++◌, [], ◌∷◌, ap, sym, ◌∙◌, take}
use Rattle.gs_triple_lists.specs.Kept.{triple_of_numbers}
use Rattle.gs_packed_texts.specs.Closed.{closed_texts}
use Rattle.gs_small_triples.specs.Kept.{terms_of, terms_split, numbers_in}
use Rattle.gs_small_triples.specs.Small.{small_triples}
use Rattle.gs_small_triples.proofs.SplitLemmas.{next_triple}
use Rattle.gs_small_triples.proofs.triples.SmallTriples.to_vec.Goals as goal

pub loop-place-preserved : goal.loop-place-preserved
loop-place-preserved c =
    let s = c.args.self.now in
    let k = c.at.result in
    let terms : terms_split c.deref.result.now ≡ terms_of (closed_texts s.texts) = ap terms_split c.deref.ensures.value ∙ ap terms_of c.in_ok-texts.ensures in
    let triple : c.in_ok-triple.field-0 ≡ triple_of_numbers (terms_of (closed_texts s.texts)) k = c.in_ok-triple.ensures ∙ ap (λ ts. triple_of_numbers ts k) terms in
    c.in_ok-push.ensures.items
    ∙ ap (λ ts. ts ++ c.in_ok-triple.field-0 ∷ []) c.loop-place.invariant
    ∙ ap (λ t. take c.loop-place.place (small_triples s) ++ t ∷ []) triple
    ∙ sym (next_triple (terms_of (closed_texts s.texts)) (numbers_in s.numbers) c.loop-place.place k c.at.ensures)
