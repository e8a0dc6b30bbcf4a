use Rattle.std.proofs.Common.{◌≡◌, ◌++◌, [], ◌∷◌, length, ap, ◌∙◌, arith}
use Rattle.std.proofs.lemmas.List.{length_push}
use Rattle.gs_packed_texts.specs.Texts.{texts_of}
use Rattle.gs_small_triples.proofs.PlaceLemmas.{placed_now, placed_still, canonical_still}
use Rattle.gs_small_triples.proofs.packings.Packing.pack.Goals as goal

pub invariant_of-self-2 : goal.invariant_of-self-2
invariant_of-self-2 c =
    let xs = texts_of c.args.self.now.texts in
    let x = c.as_bytes-text.result.now in
    let added : texts_of c.push.new.self ≡ xs ++ x ∷ [] = c.push.ensures.texts ∙ ap (λ ys. ys ++ x ∷ []) c.make_room.ensures.texts in
    let last : c.in-Ok.place ≡ length xs = omega (arith, c.in-Ok.ensures, c.args.self.now.counted) in
    record {
      counted = omega (arith, c.args.self.now.counted, ap length added, length_push xs x);
      few = omega (arith, c.in-Ok.ensures);
      canonical = canonical_still xs _ c.args.self.now.places.items c.args.terms.now c.args.number c.in-Ok.place _ x added last
          (omega (arith, c.requires.inside, c.requires.noted)) c.requires.inside c.index-terms-number.is c.as_bytes-text.ensures.text
          c.args.self.now.canonical c.as_bytes-text.ensures.valid;
    }

pub returns-clause-placed : goal.returns-clause-placed
returns-clause-placed c =
    let xs = texts_of c.args.self.now.texts in
    let x = c.as_bytes-text.result.now in
    let added : texts_of c.push.new.self ≡ xs ++ x ∷ [] = c.push.ensures.texts ∙ ap (λ ys. ys ++ x ∷ []) c.make_room.ensures.texts in
    let last : c.in-Ok.place ≡ length xs = omega (arith, c.in-Ok.ensures, c.args.self.now.counted) in
    placed_now xs _ c.args.self.now.places.items c.args.terms.now c.args.number c.in-Ok.place _ x added last
    (omega (arith, c.requires.inside, c.requires.noted)) c.requires.inside c.index-terms-number.is c.as_bytes-text.ensures.text

pub returns-clause-stay : goal.returns-clause-stay
returns-clause-stay c =
    let xs = texts_of c.args.self.now.texts in
    let x = c.as_bytes-text.result.now in
    let added : texts_of c.push.new.self ≡ xs ++ x ∷ [] = c.push.ensures.texts ∙ ap (λ ys. ys ++ x ∷ []) c.make_room.ensures.texts in
    let last : c.in-Ok.place ≡ length xs = omega (arith, c.in-Ok.ensures, c.args.self.now.counted) in
    placed_still xs _ c.args.self.now.places.items c.args.terms.now c.args.number c.in-Ok.place _ x added last
    (omega (arith, c.requires.inside, c.requires.noted)) c.requires.inside c.index-terms-number.is c.as_bytes-text.ensures.text
