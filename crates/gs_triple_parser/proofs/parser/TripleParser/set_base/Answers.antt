use Rattle.gs_triple_parser.proofs.LanguageLemmas.{base_declared}
use Rattle.gs_triple_parser.proofs.parser.TripleParser.set_base.Goals as goal

pub returns : goal.returns
returns g c = base_declared g.L.Language.language c.args.self.now c.set_base.new.self c.args.text.now c.set_base.result c.set_base.ensures.context c.set_base.ensures.numbers
