-- Each answer of the parser says which head the bytes are.
use Rattle.std.proofs.Common.{◌≡◌, sym, ap, ◌∙◌, length, ◌/◌, arith, rules, tests, take}
use Rattle.std.specs.Prelude.{option_map}
use Rattle.gs_http.specs.Heads.{parts_of}
use Rattle.gs_http.proofs.HeadAnswers.{some, none_longer, none_partial, none_overflow, same_parts, put_whole}
use Rattle.gs_http.proofs.spans.read_spans.Goals as goal

pub returns-then-not-is_whole_head-clause-value : goal.returns-then-not-is_whole_head-clause-value
returns-then-not-is_whole_head-clause-value c =
    let of = rw c.in-Ok-Complete.field-0-is at c.in-Ok-Complete.ensures.complete in
    let within = rw c.in-Ok-Complete.field-0-is at c.in-Ok-Complete.ensures.within in
    sym (ap (option_map parts_of) (none_longer c.args.head.now of.0 c.in-Ok-Complete.parsed.len of.1.reads within.section.len_fits (λ e. search (rules, tests, arith))))

pub returns-else-not-is_whole_head-clause-value : goal.returns-else-not-is_whole_head-clause-value
returns-else-not-is_whole_head-clause-value c =
    let of = rw c.in-Ok-Complete.field-0-is at c.in-Ok-Complete.ensures.complete in
    let it = some c.args.head.now of.0 c.in-Ok-Complete.parsed.len of.1.reads (omega (arith, tests, c.if-not-is_whole_head.ensures)) in
    same_parts c.args.head.now of.0 (record { method = c.in-Ok-Complete.parsed.method; target = c.in-Ok-Complete.parsed.path; minor = c.in-Ok-Complete.parsed.version; fields = c.truncate.new.self }) c.parse_request.new.headers c.in-Ok-Complete.parsed.headers it of.1.method of.1.path of.1.version of.1.fields (c.truncate.ensures.items ∙ ap (take c.in-Ok-Complete.parsed.headers) (put_whole c.parse_request.new.headers c.in_ok-fields.fields.items c.in_ok-fields.fields.len (omega (arith, c.in_ok-fields.ensures.len, c.most_fields.ensures)) (omega (arith, c.in_ok-fields.ensures.len, c.most_fields.ensures))))

pub returns-in-Ok-Partial-clause-value : goal.returns-in-Ok-Partial-clause-value
returns-in-Ok-Partial-clause-value c =
    sym (ap (option_map parts_of) (none_partial c.args.head.now (rw c.in-Ok-Partial.field-0-is at c.in-Ok-Partial.ensures.partial)))

pub returns-in-Err-clause-value : goal.returns-in-Err-clause-value
returns-in-Err-clause-value c =
    let n : length c.as_mut_slice.result.now ≡ length c.args.head.now / 3 = omega (arith, c.in_ok-fields.ensures.len, c.most_fields.ensures) in
    sym (ap (option_map parts_of) (none_overflow c.args.head.now _ n c.in-Err.ensures.no_room))
