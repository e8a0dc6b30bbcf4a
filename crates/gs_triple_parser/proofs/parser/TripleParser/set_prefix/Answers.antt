use Rattle.gs_triple_parser.proofs.LanguageLemmas.{prefix_declared}
use Rattle.gs_triple_parser.proofs.parser.TripleParser.set_prefix.Goals as goal

pub returns : goal.returns
returns g c =
    prefix_declared g.L.Language.language c.args.self.now c.set_prefix.new.self c.args.prefix.now c.args.text.now c.set_prefix.result
    c.set_prefix.ensures.context c.set_prefix.ensures.numbers
