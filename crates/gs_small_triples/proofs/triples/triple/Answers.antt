use Rattle.std.proofs.Common.{ap, ◌∙◌}
use Rattle.gs_model.specs.Triples.{has_kinds}
use Rattle.gs_small_triples.proofs.SplitLemmas.{canonical_at, triple_at}
use Rattle.gs_small_triples.proofs.triples.triple.Goals as goal

pub term-requires : goal.term-requires
term-requires c = canonical_at c.args.texts.now _ _ c.requires.canonical c.requires.known.subject

pub term-requires-2 : goal.term-requires-2
term-requires-2 c = canonical_at c.args.texts.now _ _ c.requires.canonical c.requires.known.predicate

pub term-requires-3 : goal.term-requires-3
term-requires-3 c = canonical_at c.args.texts.now _ _ c.requires.canonical c.requires.known.object

pub new-requires : goal.new-requires
new-requires c =
    ap has_kinds (triple_at c.args.texts.now c.args.numbers _ _ _ _ c.requires.known c.in_ok-subject.ensures c.in_ok-predicate.ensures c.in_ok-object.ensures)
    ∙ c.requires.known.kinds

pub returns : goal.returns
returns c = c.new.ensures ∙ triple_at c.args.texts.now c.args.numbers _ _ _ _ c.requires.known c.in_ok-subject.ensures c.in_ok-predicate.ensures c.in_ok-object.ensures
