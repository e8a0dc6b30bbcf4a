use Rattle.std.proofs.lemmas.Result.{on_ok_weaker}
use Rattle.gs_dict.proofs.BuilderLemmas.{number_within, line_gathered}
use Rattle.gs_dict.proofs.builders.TermLinesBuilder.push.Goals as goal

pub place_of-subject-requires : goal.place_of-subject-requires
place_of-subject-requires c = number_within _ _ _ _ c.self.view_is c.requires.subject

pub place_of-predicate-requires : goal.place_of-predicate-requires
place_of-predicate-requires c = number_within _ _ _ _ c.self.view_is c.requires.predicate

pub place_of-object-requires : goal.place_of-object-requires
place_of-object-requires c = number_within _ _ _ _ c.self.view_is c.requires.object

pub push-requires-clause-subject : goal.push-requires-clause-subject
push-requires-clause-subject c =
    rw c.place_of-subject.ensures (c.self.invariant.placed.lies _ (number_within _ _ _ _ c.self.view_is c.requires.subject))

pub push-requires-clause-predicate : goal.push-requires-clause-predicate
push-requires-clause-predicate c =
    rw c.place_of-predicate.ensures (c.self.invariant.placed.lies _ (number_within _ _ _ _ c.self.view_is c.requires.predicate))

pub push-requires-clause-object : goal.push-requires-clause-object
push-requires-clause-object c =
    rw c.place_of-object.ensures (c.self.invariant.placed.lies _ (number_within _ _ _ _ c.self.view_is c.requires.object))

pub returns-clause-ok : goal.returns-clause-ok
returns-clause-ok c =
    on_ok_weaker c.push.result
    (line_gathered _ _ _ _ _ _ _ c.self.invariant c.self.view_is c.requires.subject c.requires.predicate c.requires.object)
    (rw (← c.place_of-subject.ensures, ← c.place_of-predicate.ensures, ← c.place_of-object.ensures) c.push.ensures.ok)
