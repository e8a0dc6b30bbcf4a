use Rattle.std.proofs.Common.{◌≡◌, ◌∙◌, ◌++◌, false, ap, sym, length, arith}
use Rattle.std.specs.Prelude.{fold}
use Rattle.std.specs.Option.{option_copied}
use Rattle.std.specs.String.{string_bytes}
use Rattle.std.proofs.lemmas.Str.{IsUtf8-string_bytes}
use Rattle.gs_iri.specs.Dots.{segments_of, closed, dots}
use Rattle.gs_iri.specs.Output.{put}
use Rattle.gs_iri.specs.Resolving.{front_text}
use Rattle.gs_iri.proofs.DotsLemmas.{dots-text, dots_after}
use Rattle.gs_iri.proofs.TextLemmas.{spelled_whole, spelled_along, drop_whole, appended, on_ok}
use Rattle.gs_iri.proofs.dots.append_dots.Goals as goal

pub put_path-requires-clause-spelled : goal.put_path-requires-clause-spelled
put_path-requires-clause-spelled c =
    let start : c.len-start.result ≡ length (string_bytes c.args.resolved.now) = omega arith in
    spelled_whole (string_bytes c.args.resolved.now) c.len-start.result start (IsUtf8-string_bytes c.args.resolved.now)

pub put_segments-requires-clause-spelled : goal.put_segments-requires-clause-spelled
put_segments-requires-clause-spelled c =
    let start : c.len-start.result ≡ length (string_bytes c.args.resolved.now) = omega arith in
    spelled_whole (string_bytes c.args.resolved.now) c.len-start.result start (IsUtf8-string_bytes c.args.resolved.now)

pub put_path-requires-in-Some-clause-spelled : goal.put_path-requires-in-Some-clause-spelled
put_path-requires-in-Some-clause-spelled c =
    let start : c.len-start.result ≡ length (string_bytes c.args.resolved.now) = omega arith in
    spelled_along (string_bytes c.args.resolved.now) (string_bytes c.put_segments.new.resolved) c.len-start.result c.put_segments.ensures.front
    (spelled_whole (string_bytes c.args.resolved.now) c.len-start.result start (IsUtf8-string_bytes c.args.resolved.now))

pub returns-in-None-clause-ok : goal.returns-in-None-clause-ok
unfolding front_text
returns-in-None-clause-ok c =
    let start : c.len-start.result ≡ length (string_bytes c.args.resolved.now) = omega arith in
    on_ok c.put_path.result
    (λ h. appended (string_bytes c.args.resolved.now) (string_bytes c.put_path.new.resolved) _ c.len-start.result start c.put_path.ensures.front
    (h ∙ ap (λ z. (fold put (false, z) (closed (segments_of c.args.path.now))).1) (drop_whole (string_bytes c.args.resolved.now) c.len-start.result start)
    ∙ dots-text c.args.path.now ∙ ap (λ o. dots (front_text (option_copied o) ++ c.args.path.now)) (sym c.in-None.is)))
    c.put_path.ensures.output

pub returns-in_ok-begun-in-Some-clause-ok : goal.returns-in_ok-begun-in-Some-clause-ok
unfolding front_text
returns-in_ok-begun-in-Some-clause-ok c =
    let start : c.len-start.result ≡ length (string_bytes c.args.resolved.now) = omega arith in
    on_ok c.put_path-in-Some.result
    (λ h. appended (string_bytes c.args.resolved.now) (string_bytes c.put_path-in-Some.new.resolved) _ c.len-start.result start (c.put_path-in-Some.ensures.front ∙ c.put_segments.ensures.front)
    (h ∙ ap (λ z. (fold put z (closed (segments_of c.args.path.now))).1) (c.in_ok-begun-in-Some.ensures.output ∙ ap (λ z. fold put (false, z) (segments_of c.in-Some.segments.now)) (drop_whole (string_bytes c.args.resolved.now) c.len-start.result start))
    ∙ dots_after c.in-Some.segments.now c.args.path.now ∙ ap (λ o. dots (front_text (option_copied o) ++ c.args.path.now)) (sym c.in-Some.is)))
    c.put_path-in-Some.ensures.output
