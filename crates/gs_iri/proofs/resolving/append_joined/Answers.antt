use Rattle.std.specs.Prelude.{codes}
use Rattle.std.specs.Option.{option_copied}
use Rattle.std.specs.String.{string_bytes}
use Rattle.gs_iri.specs.Resolving.{scheme_text, marked, parts_text}
use Rattle.gs_iri.proofs.TextLemmas.{three_parts, front_along, front_of_append, on_ok}
use Rattle.gs_iri.proofs.resolving.append_joined.Goals as goal

pub returns-clause-ok : goal.returns-clause-ok
unfolding parts_text
returns-clause-ok c =
    on_ok c.append_tail.result
    (three_parts (string_bytes c.args.resolved.now)
    (scheme_text (option_copied c.args.target.now.scheme)) (marked (codes "//") (option_copied c.args.target.now.authority))
    c.args.target.now.path.now
    (marked (codes "?") (option_copied c.args.target.now.query)) (marked (codes "#") (option_copied c.args.target.now.fragment))
    (string_bytes c.append_head.new.resolved) (string_bytes c.push_str.new.self) (string_bytes c.append_tail.new.resolved)
    c.in_ok-append_head.ensures.ok c.in_ok-push_str.ensures.bytes)
    c.append_tail.ensures.ok

pub returns-clause-front : goal.returns-clause-front
returns-clause-front c =
    front_along (string_bytes c.args.resolved.now) (string_bytes c.append_head.new.resolved) (string_bytes c.append_tail.new.resolved)
    c.append_head.ensures.front
    (front_along (string_bytes c.append_head.new.resolved) (string_bytes c.push_str.new.self) (string_bytes c.append_tail.new.resolved)
    (front_of_append (string_bytes c.append_head.new.resolved) (string_bytes c.push_str.new.self) c.args.target.now.path.now c.in_ok-push_str.ensures.bytes)
    c.append_tail.ensures.front)
