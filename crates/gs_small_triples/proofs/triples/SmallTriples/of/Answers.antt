use Rattle.std.proofs.Common.{ap, sym, subst, ◌∙◌}
use Rattle.std.specs.List.{All}
use Rattle.gs_model.specs.Texts.{IsCanonical}
use Rattle.gs_triple_lists.specs.Kept.{AreTriplesIn, triples_of_numbers}
use Rattle.gs_packed_texts.specs.Texts.{texts_of}
use Rattle.gs_small_triples.specs.Kept.{terms_of, numbers_in}
use Rattle.gs_small_triples.proofs.MoveLemmas.{all_have_places, triples_moved, all_known_moved}
use Rattle.gs_small_triples.proofs.triples.SmallTriples.of.Goals as goal

pub numbers-requires : goal.numbers-requires
numbers-requires c = all_have_places c.parts.result.0.now c.in_ok-packing.packing c.in_ok-packing.ensures.placed c.parts.result.1.now c.parts.ensures.known

pub invariant_of-result : goal.invariant_of-result
invariant_of-result c =
    let packing = c.in_ok-packing.packing in
    let known = subst (AreTriplesIn (terms_of (texts_of packing.texts))) (sym c.in_ok-numbers.ensures)
    (all_known_moved c.parts.result.0.now packing c.in_ok-packing.ensures.placed c.parts.result.1.now c.parts.ensures.known) in
    record {
      canonical = subst (All IsCanonical) (sym c.closed.ensures.texts) packing.canonical;
      known = subst (λ xs. AreTriplesIn (terms_of xs) (numbers_in c.in_ok-numbers.numbers)) (sym c.closed.ensures.texts) known;
    }

pub returns : goal.returns
returns c =
    let packing = c.in_ok-packing.packing in
    ap (λ xs. triples_of_numbers (terms_of xs) (numbers_in c.in_ok-numbers.numbers)) c.closed.ensures.texts
    ∙ (ap (triples_of_numbers (terms_of (texts_of packing.texts))) c.in_ok-numbers.ensures
    ∙ (triples_moved c.parts.result.0.now packing c.in_ok-packing.ensures.placed c.parts.result.1.now c.parts.ensures.known
    ∙ c.parts.ensures.triples))
