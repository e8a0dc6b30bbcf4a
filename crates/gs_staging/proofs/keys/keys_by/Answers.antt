use Rattle.std.proofs.Common.{◌+◌, ◌∷◌, ◌++◌, [], take, get_or, refl, sym, subst, arith}
use Rattle.std.proofs.lemmas.List.{map_more}
use Rattle.gs_triple_lists.specs.declared.lists.TripleNumbers.{TripleNumbers}
use Rattle.gs_triple_lists.specs.Kept.{triple_of_numbers, triples_of_numbers}
use Rattle.gs_staging.specs.Keys.{AreKeysOf}
use Rattle.gs_staging.proofs.KeyLemmas.{grows_twice, only_in, triple_there, keys_more}
use Rattle.gs_staging.proofs.keys.keys_by.Goals as goal

-- what stands in the place of three numbers past the end of a list
abbrev none : TripleNumbers
none = record { subject = 0; predicate = 0; object = 0 }

pub returns-in_err-key-clause-only : goal.returns-in_err-key-clause-only
returns-in_err-key-clause-only c =
    let terms = c.args.terms.now in
    let ns = c.args.numbers.now in
    let ts = triples_of_numbers terms ns in
    let i = c.loop-three.three-index in
    only_in c.args.dict.now.terms c.loop-three.dict.terms c.key_of.new.dict.terms ts i (triple_of_numbers terms (get_or ns i none)) c.loop-three.invariant.only
    (triple_there terms ns ts i none refl c.loop-three-test.true) c.key_of.ensures.only

pub loop-three-preserved : goal.loop-three-preserved
loop-three-preserved c =
    let terms = c.args.terms.now in
    let ns = c.args.numbers.now in
    let ts = triples_of_numbers terms ns in
    let i = c.loop-three.three-index in
    let t = triple_of_numbers terms (get_or ns i none) in
    let ks = c.loop-three.keys.items in
    let e = c.key_of.new.dict in
    let grows = c.key_of.ensures.grows in
    let all = keys_more c.loop-three.dict e grows (triples_of_numbers terms (take i ns)) ks t c.in_ok-key.key c.loop-three.invariant.keys c.in_ok-key.ensures.ok in
    let gone = map_more (triple_of_numbers terms) ns i none c.loop-three-test.true in record {
      grows = grows_twice c.args.dict.now c.loop-three.dict e c.loop-three.invariant.grows grows;
      only = only_in c.args.dict.now.terms c.loop-three.dict.terms e.terms ts i t c.loop-three.invariant.only (triple_there terms ns ts i none refl c.loop-three-test.true) c.key_of.ensures.only;
      noted = c.key_of.ensures.noted;
      keys = subst (AreKeysOf e.terms (triples_of_numbers terms (take (i + 1) ns))) (sym c.push_reserved.ensures.items) (subst (λ us. AreKeysOf e.terms us (ks ++ c.in_ok-key.key ∷ [])) (sym gone) all);
      room = omega (arith, c.push_reserved.ensures.capacity, c.loop-three.invariant.room);
      count = omega (arith, c.push_reserved.ensures.len, c.loop-three.invariant.count);
    }
