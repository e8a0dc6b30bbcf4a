use Rattle.std.proofs.Common.{length, ap, arith, []}
use Rattle.std.proofs.lemmas.List.{length_push}
use Rattle.gs_triple_lists.specs.Readers.{triple_listed}
use Rattle.gs_packed_texts.specs.Texts.{texts_of}
use Rattle.gs_packed_triples.specs.Formed.{triples_unpacked}
use Rattle.gs_packed_triples.proofs.FormedLemmas.{texts_pushed}
use Rattle.gs_packed_triples.proofs.RoomLemmas.{room_before_subject, room_after_subject, room_after_predicate, room_after_object, room_for_text}
use Rattle.gs_packed_triples.proofs.triples.PackedTriples.add_one.Goals as goal

pub push_term-requires : goal.push_term-requires
push_term-requires c = room_for_text _ _ _ _ _ _ (room_before_subject _ (triple_listed c.args.triple) [] c.requires.texts) c.subject.ensures (omega arith) (omega arith)

pub push_term-requires-2 : goal.push_term-requires-2
push_term-requires-2 c =
    let t = triple_listed c.args.triple in
    room_for_text _ _ _ _ _ _ (room_after_subject _ _ _ t [] c.push_term.ensures.room c.subject.ensures c.requires.texts) c.predicate.ensures (omega arith) (omega arith)

pub push_term-requires-3 : goal.push_term-requires-3
push_term-requires-3 c =
    let t = triple_listed c.args.triple in
    room_for_text _ _ _ _ _ _
    (room_after_predicate _ _ _ t [] c.push_term-2.ensures.room c.predicate.ensures
    (room_after_subject _ _ _ t [] c.push_term.ensures.room c.subject.ensures c.requires.texts))
    c.object.ensures (omega arith) (omega arith)

pub invariant_of-self : goal.invariant_of-self
invariant_of-self c =
    let p = texts_pushed _ _ _ _ _ _ _ (triple_listed c.args.triple) c.args.self.now.formed c.known.ensures c.push_term.ensures.texts c.push_term-2.ensures.texts c.push_term-3.ensures.texts c.subject.ensures c.predicate.ensures c.object.ensures in
    record { formed = p.formed; counted = omega (arith, c.args.self.now.counted, ap length p.triples, length_push (triples_unpacked (texts_of c.args.self.now.texts)) (triple_listed c.args.triple)) }

pub returns-clause-triples : goal.returns-clause-triples
returns-clause-triples c =
    (texts_pushed _ _ _ _ _ _ _ (triple_listed c.args.triple) c.args.self.now.formed c.known.ensures c.push_term.ensures.texts c.push_term-2.ensures.texts c.push_term-3.ensures.texts c.subject.ensures c.predicate.ensures c.object.ensures).triples

pub returns-clause-room : goal.returns-clause-room
returns-clause-room c = λ ts room.
    let t = triple_listed c.args.triple in
    record {
      texts = room_after_object _ _ _ t ts c.push_term-3.ensures.room c.object.ensures
          (room_after_predicate _ _ _ t ts c.push_term-2.ensures.room c.predicate.ensures (room_after_subject _ _ _ t ts c.push_term.ensures.room c.subject.ensures room.texts));
      count = omega (arith, room.count);
    }
