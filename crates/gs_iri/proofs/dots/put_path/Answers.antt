use Rattle.std.proofs.Common.{◌∙◌, [], ap, sym, drop}
use Rattle.std.specs.String.{string_bytes}
use Rattle.gs_iri.specs.Output.{put}
use Rattle.gs_iri.specs.Dots.{segments_of}
use Rattle.gs_iri.proofs.DotsLemmas.{closed_dots, closed_plain}
use Rattle.gs_iri.proofs.dots.put_path.Goals as goal

pub returns-in_ok-put_segment-clause-output : goal.returns-in_ok-put_segment-clause-output
returns-in_ok-put_segment-clause-output c =
    ap (λ z. z.1) (c.in_ok-put_segment.ensures.output
    ∙ ap (λ z. put z []) c.in_ok-more.ensures.output
    ∙ sym (closed_dots (c.args.begun, drop c.args.start (string_bytes c.args.resolved.now)) (segments_of c.args.path.now) c.in_ok-more.last.now c.in_ok-more.ensures.last (sym c.is_dots.ensures ∙ c.if-is_dots.true)))

pub returns-else-is_dots-clause-output : goal.returns-else-is_dots-clause-output
returns-else-is_dots-clause-output c =
    ap (λ z. z.1) (c.in_ok-more.ensures.output
    ∙ sym (closed_plain (c.args.begun, drop c.args.start (string_bytes c.args.resolved.now)) (segments_of c.args.path.now) c.in_ok-more.last.now c.in_ok-more.ensures.last (sym c.is_dots.ensures ∙ c.if-is_dots.false)))
