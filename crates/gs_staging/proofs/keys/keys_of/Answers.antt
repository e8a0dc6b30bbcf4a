use Rattle.std.proofs.Common.{sym, subst, refl}
use Rattle.gs_staging.specs.Noted.{AreNoted}
use Rattle.gs_staging.proofs.NotedLemmas.{one_guess_noted, all_guesses_noted}
use Rattle.gs_staging.proofs.keys.keys_of.Goals as goal

pub keys_by-requires-clause-noted : goal.keys_by-requires-clause-noted
keys_by-requires-clause-noted c =
    subst (AreNoted c.args.dict.now.terms c.args.terms.now) (sym c.as_mut_slice.ensures.value) (one_guess_noted c.args.dict.now.terms c.args.terms.now 64 _ c.if-terms-le-FEW.true refl)

pub keys_by-requires-2-clause-noted : goal.keys_by-requires-2-clause-noted
keys_by-requires-2-clause-noted c =
    subst (AreNoted c.args.dict.now.terms c.args.terms.now) (sym c.as_mut_slice-2.ensures.value) (all_guesses_noted c.args.dict.now.terms c.args.terms.now c.in_ok-noted.noted.items c.in_ok-noted.ensures)
