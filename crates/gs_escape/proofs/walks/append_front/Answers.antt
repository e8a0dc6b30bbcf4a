use Rattle.std.proofs.Common.{◌∙◌, ◌<◌, ap, sym, refl, arith, length, length-drop}
use Rattle.std.specs.Prelude.{Some, encode_utf8}
use Rattle.std.specs.Option.{is_some}
use Rattle.std.specs.String.{string_bytes}
use Rattle.std.proofs.lemmas.Bool.{eqb-true, eqb-false}
use Rattle.std.proofs.lemmas.Bool.Decides.{when_true}
use Rattle.gs_iri.proofs.TextLemmas.{front_along}
use Rattle.gs_escape.specs.Meanings.{meant_after, unescaped}
use Rattle.gs_escape.specs.Runs.{run_of}
use Rattle.gs_escape.proofs.WalkLemmas.{is_some-meant_after, unescaped-end, unescaped-turn, unescaped-none, two_puts, front_escape-shorter}
use Rattle.gs_escape.proofs.walks.append_front.Goals as goal

pub returns-then-room-clause-value : goal.returns-then-room-clause-value
returns-then-room-clause-value c =
    let put = when_true _ (Unit {0}) c.if-room.true c.put_text-room.ensures.value in
    let empty = eqb-true (length c.cut_run.result.1.now) 0 (sym c.is_empty.ensures ∙ c.if-is_empty.true) in
    ap Some put.1
    ∙ sym (ap (meant_after (string_bytes c.parts.out)) (unescaped-end c.args.form c.parts.rest.now c.cut_run.result.0.now c.cut_run.result.1.now c.cut_run.ensures.front c.cut_run.ensures.back empty))
    ∙ c.parts.invariant.value put.0

pub returns-then-room-clause-refused : goal.returns-then-room-clause-refused
returns-then-room-clause-refused c =
    let empty = eqb-true (length c.cut_run.result.1.now) 0 (sym c.is_empty.ensures ∙ c.if-is_empty.true) in
    sym c.parts.invariant.alike
    ∙ ap is_some (unescaped-end c.args.form c.parts.rest.now c.cut_run.result.0.now c.cut_run.result.1.now c.cut_run.ensures.front c.cut_run.ensures.back empty)

pub returns-else-room-clause-refused : goal.returns-else-room-clause-refused
returns-else-room-clause-refused c =
    let empty = eqb-true (length c.cut_run.result.1.now) 0 (sym c.is_empty.ensures ∙ c.if-is_empty.true) in
    sym c.parts.invariant.alike
    ∙ ap is_some (unescaped-end c.args.form c.parts.rest.now c.cut_run.result.0.now c.cut_run.result.1.now c.cut_run.ensures.front c.cut_run.ensures.back empty)

pub returns-in-None-clause-refused : goal.returns-in-None-clause-refused
returns-in-None-clause-refused c =
    let more = eqb-false (length c.cut_run.result.1.now) 0 (sym c.is_empty.ensures ∙ c.if-is_empty.false) in
    (unescaped-none c.args.form c.args.text.now c.parts.rest.now c.cut_run.result.0.now c.cut_run.result.1.now c.parts.invariant.alike c.cut_run.ensures.front c.cut_run.ensures.back more c.in-None.ensures.value, refl)

pub parts-smaller : goal.parts-smaller
parts-smaller c =
    let short : length c.in-Some.more.now < length c.cut_run.result.1.now = front_escape-shorter c.args.form c.cut_run.result.1.now c.in-Some.c c.in-Some.more.now (sym c.in-Some.ensures.value) in
    omega (arith, short, ap length c.cut_run.ensures.back, length-drop (run_of c.args.form c.parts.rest.now) c.parts.rest.now)

pub parts-preserved : goal.parts-preserved
parts-preserved c =
    let more = eqb-false (length c.cut_run.result.1.now) 0 (sym c.is_empty.ensures ∙ c.if-is_empty.false) in
    let turn = unescaped-turn c.args.form c.parts.rest.now c.cut_run.result.0.now c.cut_run.result.1.now c.in-Some.c c.in-Some.more.now c.cut_run.ensures.front c.cut_run.ensures.back more c.in-Some.ensures.value in
    record {
      text = c.in-Some.ensures.text;
      value = λ r.
          let second = when_true _ (Unit {0}) r c.put_character-room.ensures.value in
          let first = when_true _ (Unit {0}) second.0 c.put_text-room.ensures.value in
          two_puts (string_bytes c.parts.out) (string_bytes c.put_text-room.new.unescaped) (string_bytes c.put_character-room.new.unescaped)
          c.cut_run.result.0.now (encode_utf8 c.in-Some.c) (unescaped c.args.form 0 c.in-Some.more.now) first.1 second.1
          ∙ sym (ap (meant_after (string_bytes c.parts.out)) turn)
          ∙ c.parts.invariant.value first.0;
      alike =
          sym (ap is_some turn
          ∙ is_some-meant_after c.cut_run.result.0.now (meant_after (encode_utf8 c.in-Some.c) (unescaped c.args.form 0 c.in-Some.more.now))
          ∙ is_some-meant_after (encode_utf8 c.in-Some.c) (unescaped c.args.form 0 c.in-Some.more.now))
          ∙ c.parts.invariant.alike;
      front =
          front_along (string_bytes c.args.out.now) (string_bytes c.parts.out) (string_bytes c.put_character-room.new.unescaped)
          c.parts.invariant.front
          (front_along (string_bytes c.parts.out) (string_bytes c.put_text-room.new.unescaped) (string_bytes c.put_character-room.new.unescaped)
          c.put_text-room.ensures.front c.put_character-room.ensures.front);
    }
