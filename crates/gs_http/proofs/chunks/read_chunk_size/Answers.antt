-- Each answer of the parser says which size the bytes write.
use Rattle.std.proofs.Common.{sym, arith, rules, tests}
use Rattle.gs_http.proofs.ChunkAnswers.{some, none_longer, none_partial, none_error}
use Rattle.gs_http.proofs.chunks.read_chunk_size.Goals as goal

pub returns-then-is_whole_line : goal.returns-then-is_whole_line
returns-then-is_whole_line c =
    let of = rw c.in-Ok-Complete.field-0-is at c.in-Ok-Complete.ensures.complete in
    sym (some c.args.line.now c.in-Ok-Complete.len c.in-Ok-Complete.size of.0 of.1 (omega (arith, tests, c.if-is_whole_line.ensures)))

pub returns-else-is_whole_line : goal.returns-else-is_whole_line
returns-else-is_whole_line c =
    let of = rw c.in-Ok-Complete.field-0-is at c.in-Ok-Complete.ensures.complete in
    sym (none_longer c.args.line.now c.in-Ok-Complete.len c.in-Ok-Complete.size of.0 of.1 (λ e. search (rules, tests, arith)))

pub returns-in-Ok-Partial : goal.returns-in-Ok-Partial
returns-in-Ok-Partial c = sym (none_partial c.args.line.now (rw c.in-Ok-Partial.field-0-is at c.in-Ok-Partial.ensures.partial))

pub returns-in-Err : goal.returns-in-Err
returns-in-Err c = sym (none_error c.args.line.now c.in-Err.ensures.invalid)
