use Rattle.std.proofs.Common.{Some, None}
use Rattle.gs_dict.proofs.TermLemmas.{new_term, text_number, meets_as}
use Rattle.gs_dict.proofs.dict.Dict.find.Goals as goal

pub returns-in_err-number : goal.returns-in_err-number
returns-in_err-number c =
    rw (c.from_residual.ensures, ← c.self.view_is)
    (new_term _ _ _ _ _ c.self.invariant _ (meets_as _ _ _ _ _ _ c.args.term.now None c.in_err-number.ensures c.deref.ensures.value c.as_bytes-text.ensures.text c.hash_of-hash.ensures))

pub returns : goal.returns
returns c =
    let m = meets_as _ _ _ _ _ _ c.args.term.now (Some c.in_ok-number.number) c.in_ok-number.ensures c.deref.ensures.value c.as_bytes-text.ensures.text c.hash_of-hash.ensures in
    rw (← c.self.view_is) (text_number _ _ _ _ m.0 m.1.1)
