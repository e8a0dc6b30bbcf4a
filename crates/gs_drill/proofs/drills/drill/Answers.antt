use Rattle.std.proofs.Common.{inl}
use Rattle.gs_drill.proofs.WritingLemmas.{Appends-none}
use Rattle.gs_drill.proofs.RunLemmas.{ends_kept, ends_breaks, finishes, stops_said, halts_said, fails_said}
use Rattle.gs_drill.proofs.drills.drill.Goals as goal

pub returns-in_default-Err-clause-front : goal.returns-in_default-Err-clause-front
returns-in_default-Err-clause-front g c =
    let held = g.W.Write.contents in
    let given = g.R.Read.remaining c.args.reader.now in
    ends_breaks given (held c.args.out.now) (held c.flush-flushed.new.self) c.read_and_play-ended.result
    (ends_kept given (held c.args.out.now) (held c.read_and_play-ended.new.out) (held c.flush-flushed.new.self) c.read_and_play-ended.result c.flush-flushed.ensures.bytes c.read_and_play-ended.ensures.ends)

pub returns-in-Ok-Ok-clause-front : goal.returns-in-Ok-Ok-clause-front
returns-in-Ok-Ok-clause-front g c =
    let held = g.W.Write.contents in
    let given = g.R.Read.remaining c.args.reader.now in
    ends_breaks given (held c.args.out.now) (held c.flush-flushed.new.self) c.read_and_play-ended.result
    (ends_kept given (held c.args.out.now) (held c.read_and_play-ended.new.out) (held c.flush-flushed.new.self) c.read_and_play-ended.result c.flush-flushed.ensures.bytes c.read_and_play-ended.ensures.ends)

pub returns-in-Err-Ok-clause-front : goal.returns-in-Err-Ok-clause-front
returns-in-Err-Ok-clause-front g c =
    let held = g.W.Write.contents in
    let given = g.R.Read.remaining c.args.reader.now in
    ends_breaks given (held c.args.out.now) (held c.flush-flushed.new.self) c.read_and_play-ended.result
    (ends_kept given (held c.args.out.now) (held c.read_and_play-ended.new.out) (held c.flush-flushed.new.self) c.read_and_play-ended.result c.flush-flushed.ensures.bytes c.read_and_play-ended.ensures.ends)

pub returns-in_default-Err-clause-failed : goal.returns-in_default-Err-clause-failed
returns-in_default-Err-clause-failed g c = λ one.
    let held = g.W.Write.contents in
    let given = g.R.Read.remaining c.args.reader.now in
    inl (
      ends_breaks given (held c.args.out.now) (held c.flush-flushed.new.self) c.read_and_play-ended.result
          (ends_kept given (held c.args.out.now) (held c.read_and_play-ended.new.out) (held c.flush-flushed.new.self) c.read_and_play-ended.result c.flush-flushed.ensures.bytes c.read_and_play-ended.ensures.ends),
      Appends-none (g.E.Write.contents c.args.err.now),
    )

pub returns-in-Ok-Ok-clause-finished : goal.returns-in-Ok-Ok-clause-finished
returns-in-Ok-Ok-clause-finished g c = λ zero.
    let held = g.W.Write.contents in
    let given = g.R.Read.remaining c.args.reader.now in (
      finishes given (held c.args.out.now) (held c.flush-flushed.new.self) c.read_and_play-ended.result c.in-Ok-Ok.field-0-0 c.in-Ok-Ok.is-0
          (ends_kept given (held c.args.out.now) (held c.read_and_play-ended.new.out) (held c.flush-flushed.new.self) c.read_and_play-ended.result c.flush-flushed.ensures.bytes c.read_and_play-ended.ensures.ends),
      Appends-none (g.E.Write.contents c.args.err.now),
    )

pub returns-in-Err-Ok-clause-failed : goal.returns-in-Err-Ok-clause-failed
returns-in-Err-Ok-clause-failed g c = λ one.
    let held = g.W.Write.contents in
    let said = g.E.Write.contents in
    let given = g.R.Read.remaining c.args.reader.now in
    fails_said given (held c.args.out.now) (held c.flush-flushed.new.self) (said c.args.err.now) (said c.report.new.err) c.read_and_play-ended.result c.in-Err-Ok.stop c.in-Err-Ok.line c.in-Err-Ok.is-0
    (ends_kept given (held c.args.out.now) (held c.read_and_play-ended.new.out) (held c.flush-flushed.new.self) c.read_and_play-ended.result c.flush-flushed.ensures.bytes c.read_and_play-ended.ensures.ends)
    (c.report.ensures.failed one)

pub returns-in-Err-Ok-clause-no_command : goal.returns-in-Err-Ok-clause-no_command
returns-in-Err-Ok-clause-no_command g c = λ two.
    let held = g.W.Write.contents in
    let said = g.E.Write.contents in
    let given = g.R.Read.remaining c.args.reader.now in
    stops_said given (held c.args.out.now) (held c.flush-flushed.new.self) (said c.args.err.now) (said c.report.new.err) c.read_and_play-ended.result c.in-Err-Ok.stop c.in-Err-Ok.line c.in-Err-Ok.is-0
    (ends_kept given (held c.args.out.now) (held c.read_and_play-ended.new.out) (held c.flush-flushed.new.self) c.read_and_play-ended.result c.flush-flushed.ensures.bytes c.read_and_play-ended.ensures.ends)
    (c.report.ensures.no_command two)

pub returns-in-Err-Ok-clause-no_memory : goal.returns-in-Err-Ok-clause-no_memory
returns-in-Err-Ok-clause-no_memory g c = λ three.
    let held = g.W.Write.contents in
    let given = g.R.Read.remaining c.args.reader.now in
    let halts = c.report.ensures.no_memory three in (
      halts_said given (held c.args.out.now) (held c.flush-flushed.new.self) c.read_and_play-ended.result c.in-Err-Ok.stop c.in-Err-Ok.line c.in-Err-Ok.is-0
          (ends_kept given (held c.args.out.now) (held c.read_and_play-ended.new.out) (held c.flush-flushed.new.self) c.read_and_play-ended.result c.flush-flushed.ensures.bytes c.read_and_play-ended.ensures.ends)
          halts.0,
      halts.1,
    )
