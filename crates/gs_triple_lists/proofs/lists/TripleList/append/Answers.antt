use Rattle.std.proofs.Common.{rules, ◌∙◌, ap, sym, subst}
use Rattle.std.specs.Prelude.{length, take}
use Rattle.gs_triple_lists.specs.Lists.{listed}
use Rattle.gs_triple_lists.proofs.ListLemmas.{Moves, moves_none, moves_next, moves_all, moves_back}
use Rattle.gs_triple_lists.proofs.lists.TripleList.append.Goals as goal

pub loop-triple-init : goal.loop-triple-init
loop-triple-init c = moves_none c.args.self.now.items c.args.triples.now.items c.reverse.new.self.items c.reverse.ensures.items

pub returns-in-Err-clause-kept : goal.returns-in-Err-clause-kept
returns-in-Err-clause-kept c =
    let old = c.args.self.now.items in
    c.truncate.ensures
    ∙ ap listed (ap (λ n. take n c.push.new.self.items) c.len-count.ensures
    ∙ (ap (λ l. take (length old) l.items) c.in-Err.ensures.kept ∙ moves_back old c.args.triples.now.items c.loop-triple.self.items c.loop-triple.triples.items c.loop-triple.invariant))

pub loop-triple-preserved : goal.loop-triple-preserved
loop-triple-preserved c =
    let old = c.args.self.now.items in
    let given = c.args.triples.now.items in
    subst (λ l. Moves old given l.items c.pop.new.self.items) (sym c.in_default-push.ensures.added)
    (moves_next old given c.loop-triple.self.items c.loop-triple.triples.items c.pop.new.self.items c.in-Some.triple c.loop-triple.invariant c.in-Some.ensures.items)

pub returns-clause-added : goal.returns-clause-added
returns-clause-added c =
    ap listed (moves_all c.args.self.now.items c.args.triples.now.items c.loop-triple.self.items c.loop-triple.triples.items c.loop-triple.invariant (search rules))
