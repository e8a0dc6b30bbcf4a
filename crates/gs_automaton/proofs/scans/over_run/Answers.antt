use Rattle.std.proofs.Common.{◌≡◌, ◌⊎◌, inl, inr, sym, subst}
use Rattle.gs_automaton.specs.Runs.{Stays, plain_name}
use Rattle.gs_automaton.specs.declared.states.State.{State}
use Rattle.gs_automaton.specs.declared.states.State.TheVariants as at
use Rattle.gs_automaton.proofs.RunLemmas.{stays-word, stays-word-more, stays-local, stays-label}
use Rattle.gs_automaton.proofs.scans.over_run.Goals as goal

stays_in_names : (q : State) → (q ≡ at.Word) ⊎ ((q ≡ at.WordMore) ⊎ ((q ≡ at.Local) ⊎ (q ≡ at.Label))) → Stays plain_name q
stays_in_names q (inl e) = subst (Stays plain_name) (sym e) stays-word
stays_in_names q (inr (inl e)) = subst (Stays plain_name) (sym e) stays-word-more
stays_in_names q (inr (inr (inl e))) = subst (Stays plain_name) (sym e) stays-local
stays_in_names q (inr (inr (inr e))) = subst (Stays plain_name) (sym e) stays-label

pub over_run_of-requires-in-Word-clause-stays : goal.over_run_of-requires-in-Word-clause-stays
over_run_of-requires-in-Word-clause-stays c = stays_in_names c.args.scan.state c.in-Word.is
