use Rattle.std.proofs.Common.{◌≤◌, Some, None, inl, inr, refl, ap, not, ◌∙◌}
use Rattle.std.proofs.lemmas.Result.{err_from_is_err_and}
use Rattle.gs_dict.specs.Numbering.{GivesNumber}
use Rattle.gs_dict.specs.Kept.{IsDict}
use Rattle.gs_dict.proofs.TermLemmas.{shown, new_term, text_number, meets_as, terms_distinct, terms_kept, terms_fit}
use Rattle.gs_dict.proofs.DictLemmas.{dict_kept, full_by_entries, room_left, next_fits, joined}
use Rattle.gs_dict.proofs.dict.Dict.intern.Goals as goal
use Rattle.gs_dict.proofs.dict.Dict.intern.Goals.{else-full-via-then-full+else-is_none, else-full-via-else-full}

pub returns-in-Some-clause-value : goal.returns-in-Some-clause-value
returns-in-Some-clause-value c =
    let m = meets_as _ _ _ _ _ _ c.args.term.now (Some c.in-Some.number) c.in-Some.ensures c.deref.ensures.value c.as_bytes-text.ensures.text c.hash_of-hash.ensures in
    inl (record { there = rw (← c.self.view_is) (text_number _ _ _ _ m.0 m.1.1); same = refl })

pub returns-in-Some-clause-distinct : goal.returns-in-Some-clause-distinct
returns-in-Some-clause-distinct c = rw (← c.self.view_is) (terms_distinct _ _ _ _ _ c.self.invariant)

pub returns-in-Some-clause-fits : goal.returns-in-Some-clause-fits
returns-in-Some-clause-fits c = rw (← c.self.view_is) (terms_fit _ _ _ _ _ c.self.invariant)

pub returns-then-is_none-clause-value : goal.returns-then-is_none-clause-value
returns-then-is_none-clause-value c =
    (rw (← c.self.view_is) (new_term _ _ _ _ _ c.self.invariant _ (meets_as _ _ _ _ _ _ c.args.term.now None c.in_default.ensures c.deref.ensures.value c.as_bytes-text.ensures.text c.hash_of-hash.ensures)), c.self.view_is)

pub returns-then-is_none-clause-distinct : goal.returns-then-is_none-clause-distinct
returns-then-is_none-clause-distinct c = terms_distinct _ _ _ _ _ c.self.invariant

pub returns-then-is_none-clause-fits : goal.returns-then-is_none-clause-fits
returns-then-is_none-clause-fits c = terms_fit _ _ _ _ _ c.self.invariant

pub returns-in_err-number-clause-value : goal.returns-in_err-number-clause-value
returns-in_err-number-clause-value c =
    let p = err_from_is_err_and c.from_residual.result c.from_residual.ensures.1 in
    rw (p.1, p.2) (
      rw (← c.self.view_is) (new_term _ _ _ _ _ c.self.invariant _ (meets_as _ _ _ _ _ _ c.args.term.now None c.in_default.ensures c.deref.ensures.value c.as_bytes-text.ensures.text c.hash_of-hash.ensures)),
      ap (λ ts. record { terms = ts; last = c.self.inside.last }) (terms_kept _ _ _ _ c.in_err-number.ensures.value.0 c.in_err-number.ensures.value.1) ∙ c.self.view_is,
    )

pub returns-in_err-number-clause-distinct : goal.returns-in_err-number-clause-distinct
returns-in_err-number-clause-distinct c =
    terms_distinct _ _ _ _ _ (dict_kept _ _ _ _ _ _ _ _ c.self.invariant c.put.ensures.table c.in_err-number.ensures.value.0 c.in_err-number.ensures.value.1)

pub returns-in_err-number-clause-fits : goal.returns-in_err-number-clause-fits
returns-in_err-number-clause-fits c =
    terms_fit _ _ _ _ _ (dict_kept _ _ _ _ _ _ _ _ c.self.invariant c.put.ensures.table c.in_err-number.ensures.value.0 c.in_err-number.ensures.value.1)

pub put-requires-clause-room : goal.put-requires-clause-room
put-requires-clause-room c =
    next_fits c.next_empty-empty.result c.is_full-full.result _ c.self.inside.last
    (elim c.else-full.branch [
      | else-full-via-then-full+else-is_none w ↦ inr (w.is_none.ensures ∙ ap not w.if-is_none.false)
      | else-full-via-else-full w ↦ inl w.if-full.false
    ])
    (full_by_entries _ _ _ _ _ c.self.view_is c.is_full-full.ensures) c.self.invariant.bounded

-- the number is not past the last
within : (c : goal.In_ok-number) → c.in_ok-number.number ≤ c.self.inside.last
within c =
    let gives = c.in_ok-number.ensures.value in
    room_left c.next_empty-empty.result c.is_full-full.result _ _ _ _ c.put.ensures.count
    (elim c.else-full.branch [
      | else-full-via-then-full+else-is_none w ↦ inr (w.is_none.ensures ∙ ap not w.if-is_none.false)
      | else-full-via-else-full w ↦ inl w.if-full.false
    ])
    (full_by_entries _ _ _ _ _ c.self.view_is c.is_full-full.ensures) gives.count gives.within c.self.invariant.few

-- what the whole call leaves
whole :
    (c : goal.In_ok-number)
    → IsDict c.put.new.texts c.put.new.entries.items c.put.new.heads.items c.self.inside.seeded c.self.inside.last
    × GivesNumber (shown c.self.inside.texts c.self.inside.entries.items c.self.inside.last) c.args.term.now c.in_ok-number.number
    (shown c.put.new.texts c.put.new.entries.items c.self.inside.last)
whole c =
    joined _ _ _ _ _ _ _ _ c.args.term.now _ _ _ c.self.invariant c.as_bytes-text.ensures.valid c.as_bytes-text.ensures.text
    c.hash_of-hash.ensures
    (meets_as _ _ _ _ _ _ c.args.term.now None c.in_default.ensures c.deref.ensures.value c.as_bytes-text.ensures.text c.hash_of-hash.ensures)
    c.put.ensures.table c.in_ok-number.ensures.value (within c)

pub invariant_of-self-2 : goal.invariant_of-self-2
invariant_of-self-2 c = (whole c).0

pub returns-clause-value : goal.returns-clause-value
returns-clause-value c = rw (← c.self.view_is) (inr (whole c).1)

pub returns-clause-distinct : goal.returns-clause-distinct
returns-clause-distinct c = terms_distinct _ _ _ _ _ (whole c).0

pub returns-clause-fits : goal.returns-clause-fits
returns-clause-fits c = terms_fit _ _ _ _ _ (whole c).0
