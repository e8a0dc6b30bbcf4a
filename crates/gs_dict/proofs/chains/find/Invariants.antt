use Rattle.std.proofs.Common.{length}
use Rattle.gs_dict.specs.Chains.{IsAlong}
use Rattle.gs_dict.proofs.chains.find.Given as goal

abbrev pub invariant-loop-link : goal.invariant-loop-link
invariant-loop-link l = IsAlong l.texts l.entries (length l.heads) l.hash l.text l.link

abbrev pub decreases-loop-link : goal.decreases-loop-link
decreases-loop-link l = l.link
