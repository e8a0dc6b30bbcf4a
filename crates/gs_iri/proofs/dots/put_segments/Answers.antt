use Rattle.std.proofs.Common.{◌∙◌, ap, sym, drop}
use Rattle.std.specs.Prelude.{fold}
use Rattle.std.specs.String.{string_bytes}
use Rattle.gs_iri.specs.Dots.{segments_of, last_of}
use Rattle.gs_iri.specs.Output.{put}
use Rattle.gs_iri.proofs.DotsLemmas.{put_more, put_last, last_more, rest_is_shorter}
use Rattle.gs_iri.proofs.dots.put_segments.Goals as goal

pub returns-in-None-clause-output : goal.returns-in-None-clause-output
returns-in-None-clause-output c =
    c.in_ok-begun.ensures.output
    ∙ sym (ap (fold put (c.segments.begun, drop c.args.start (string_bytes c.segments.resolved))) (put_last c.segments.rest.now c.cut.result.0.now c.cut.result.1.now c.cut.ensures.front c.cut.ensures.back (sym c.in-None.ensures.value)))
    ∙ c.segments.invariant.output

pub returns-in-None-clause-last : goal.returns-in-None-clause-last
returns-in-None-clause-last c =
    sym (ap last_of (put_last c.segments.rest.now c.cut.result.0.now c.cut.result.1.now c.cut.ensures.front c.cut.ensures.back (sym c.in-None.ensures.value))) ∙ c.segments.invariant.last

pub segments-smaller : goal.segments-smaller
segments-smaller c = rest_is_shorter c.segments.rest.now c.cut.result.1.now c.in-Some.more.now c.cut.ensures.back (sym c.in-Some.ensures.value)

pub segments-preserved : goal.segments-preserved
segments-preserved c = record {
  text = c.in-Some.ensures.text;
  within = c.in_ok-begun.ensures.within;
  front = c.in_ok-begun.ensures.front ∙ c.segments.invariant.front;
  output =
      ap (λ z. fold put z (segments_of c.in-Some.more.now)) c.in_ok-begun.ensures.output
      ∙ sym (put_more (c.segments.begun, drop c.args.start (string_bytes c.segments.resolved)) c.segments.rest.now c.cut.result.0.now c.cut.result.1.now c.in-Some.more.now c.cut.ensures.front c.cut.ensures.back (sym c.in-Some.ensures.value))
      ∙ c.segments.invariant.output;
  last =
      sym (last_more c.segments.rest.now c.cut.result.0.now c.cut.result.1.now c.in-Some.more.now c.cut.ensures.front c.cut.ensures.back (sym c.in-Some.ensures.value))
      ∙ c.segments.invariant.last;
}
