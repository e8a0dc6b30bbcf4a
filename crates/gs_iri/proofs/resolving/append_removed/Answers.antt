use Rattle.std.proofs.Common.{◌++◌}
use Rattle.std.specs.Prelude.{codes}
use Rattle.std.specs.Option.{option_copied}
use Rattle.std.specs.String.{string_bytes}
use Rattle.gs_iri.specs.Dots.{dots}
use Rattle.gs_iri.specs.Resolving.{scheme_text, marked, parts_text, front_text}
use Rattle.gs_iri.proofs.TextLemmas.{three_parts, on_ok}
use Rattle.gs_iri.proofs.resolving.append_removed.Goals as goal

pub returns-clause-ok : goal.returns-clause-ok
unfolding parts_text
returns-clause-ok c =
    on_ok c.append_tail.result
    (three_parts (string_bytes c.args.resolved.now)
    (scheme_text (option_copied c.args.target.now.scheme)) (marked (codes "//") (option_copied c.args.target.now.authority))
    (dots (front_text (option_copied c.args.front) ++ c.args.target.now.path.now))
    (marked (codes "?") (option_copied c.args.target.now.query)) (marked (codes "#") (option_copied c.args.target.now.fragment))
    (string_bytes c.append_head.new.resolved) (string_bytes c.append_dots.new.resolved) (string_bytes c.append_tail.new.resolved)
    c.in_ok-append_head.ensures.ok c.in_ok-append_dots.ensures.ok)
    c.append_tail.ensures.ok
