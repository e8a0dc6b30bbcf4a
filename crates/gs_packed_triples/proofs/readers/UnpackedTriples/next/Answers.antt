use Rattle.gs_packed_triples.proofs.FormedLemmas.{texts_taken, rest_formed}
use Rattle.gs_packed_triples.proofs.readers.UnpackedTriples.next.Goals as goal

pub invariant_of-self-2 : goal.invariant_of-self-2
invariant_of-self-2 c =
    record { formed = rest_formed _ _ _ _ _ _ _ c.args.self.now.formed c.in_ok-subject.ensures c.in_ok-predicate.ensures c.next-3.ensures }

pub invariant_of-result : goal.invariant_of-result
invariant_of-result c =
    record { formed = (texts_taken _ _ _ _ _ _ _ c.args.self.now.formed c.in_ok-subject.ensures c.in_ok-predicate.ensures c.in_ok-object.ensures).first }
