use Rattle.gs_triple_lists.specs.Kept.{triple_of_numbers}
use Rattle.gs_dict.proofs.NumberLemmas.{interns_number}
use Rattle.gs_staging.proofs.KeyLemmas.{interned_grows, grows_twice, pair_only, triple_grows, triple_only}
use Rattle.gs_staging.proofs.keys.key_of.Goals as goal

pub returns-in_err-predicate-clause-only : goal.returns-in_err-predicate-clause-only
returns-in_err-predicate-clause-only c =
    let t = triple_of_numbers c.args.terms.now c.args.numbers in
    pair_only t c.args.dict.now c.number_of.new.dict c.number_of-2.new.dict c.number_of.result c.number_of-2.result c.number_of.ensures.value c.number_of-2.ensures.value

pub returns-in_err-object-clause-grows : goal.returns-in_err-object-clause-grows
returns-in_err-object-clause-grows c =
    let t = triple_of_numbers c.args.terms.now c.args.numbers in
    triple_grows t c.args.dict.now c.number_of.new.dict c.number_of-2.new.dict c.number_of-3.new.dict c.number_of.result c.number_of-2.result c.number_of-3.result c.number_of.ensures.value c.number_of-2.ensures.value c.number_of-3.ensures.value

pub returns-in_err-object-clause-only : goal.returns-in_err-object-clause-only
returns-in_err-object-clause-only c =
    let t = triple_of_numbers c.args.terms.now c.args.numbers in
    triple_only t c.args.dict.now c.number_of.new.dict c.number_of-2.new.dict c.number_of-3.new.dict c.number_of.result c.number_of-2.result c.number_of-3.result c.number_of.ensures.value c.number_of-2.ensures.value c.number_of-3.ensures.value

pub returns-clause-grows : goal.returns-clause-grows
returns-clause-grows c =
    let t = triple_of_numbers c.args.terms.now c.args.numbers in
    triple_grows t c.args.dict.now c.number_of.new.dict c.number_of-2.new.dict c.number_of-3.new.dict c.number_of.result c.number_of-2.result c.number_of-3.result c.number_of.ensures.value c.number_of-2.ensures.value c.number_of-3.ensures.value

pub returns-clause-only : goal.returns-clause-only
returns-clause-only c =
    let t = triple_of_numbers c.args.terms.now c.args.numbers in
    triple_only t c.args.dict.now c.number_of.new.dict c.number_of-2.new.dict c.number_of-3.new.dict c.number_of.result c.number_of-2.result c.number_of-3.result c.number_of.ensures.value c.number_of-2.ensures.value c.number_of-3.ensures.value

pub returns-clause-ok : goal.returns-clause-ok
returns-clause-ok c =
    let d = c.args.dict.now in
    let e = c.number_of.new.dict in
    let f = c.number_of-2.new.dict in
    let g = c.number_of-3.new.dict in
    let t = triple_of_numbers c.args.terms.now c.args.numbers in
    let first = interned_grows e t.predicate c.number_of-2.result f c.number_of-2.ensures.value in
    let second = interned_grows f t.object c.number_of-3.result g c.number_of-3.ensures.value in
    record {
      subject = (grows_twice e f g first second).terms c.in_ok-subject.subject.number t.subject (interns_number d e t.subject c.in_ok-subject.subject c.in_ok-subject.ensures.value);
      predicate = second.terms c.in_ok-predicate.predicate.number t.predicate (interns_number e f t.predicate c.in_ok-predicate.predicate c.in_ok-predicate.ensures.value);
      object = interns_number f g t.object c.in_ok-object.object c.in_ok-object.ensures.value;
    }
