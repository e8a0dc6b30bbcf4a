use Rattle.std.proofs.Common.{rules, arith, ◌≡◌, ◌≤◌, true, length}
use Rattle.gs_model.specs.Limits.{max_term_bytes}
use Rattle.gs_model.specs.Iris.{is_absolute}
use Rattle.gs_model.specs.Terms.{Literal, Typed, text_of}
use Rattle.gs_term.proofs.MakingLemmas.{canonical, term_of-bytes, length-literal, literal_bytes, long_datatype}
use Rattle.gs_term.proofs.terms.TermText.typed.Goals as goal

pub returns-then-datatype-gt-MAX_TERM_BYTES : goal.returns-then-datatype-gt-MAX_TERM_BYTES
returns-then-datatype-gt-MAX_TERM_BYTES c =
    let formed : is_absolute c.args.datatype.now ≡ true = search rules in (formed, omega (arith, length-literal c.args.lexical.now (Typed c.args.datatype.now), long_datatype c.args.datatype.now c.if-datatype-gt-MAX_TERM_BYTES.true))

pub returns-in_default : goal.returns-in_default
returns-in_default c =
    let formed : is_absolute c.args.datatype.now ≡ true = search rules in (formed, omega (arith, length-literal c.args.lexical.now (Typed c.args.datatype.now), c.in_default.ensures.long, c.datatype_len-after.ensures))

pub returns-in_err-bytes : goal.returns-in_err-bytes
returns-in_err-bytes c =
    let formed : is_absolute c.args.datatype.now ≡ true = search rules in
    let short : length (text_of (Literal c.args.lexical.now (Typed c.args.datatype.now))) ≤ max_term_bytes = omega (arith, length-literal c.args.lexical.now (Typed c.args.datatype.now), c.in-Some.ensures.fits, c.datatype_len-after.ensures) in
    search (rules, formed, short)

pub returns-in_err-push_datatype : goal.returns-in_err-push_datatype
returns-in_err-push_datatype c =
    let formed : is_absolute c.args.datatype.now ≡ true = search rules in
    let short : length (text_of (Literal c.args.lexical.now (Typed c.args.datatype.now))) ≤ max_term_bytes = omega (arith, length-literal c.args.lexical.now (Typed c.args.datatype.now), c.in-Some.ensures.fits, c.datatype_len-after.ensures) in
    search (rules, formed, short)

pub invariant_of-result : goal.invariant_of-result
invariant_of-result c =
    let formed : is_absolute c.args.datatype.now ≡ true = search rules in
    let short : length (text_of (Literal c.args.lexical.now (Typed c.args.datatype.now))) ≤ max_term_bytes = omega (arith, length-literal c.args.lexical.now (Typed c.args.datatype.now), c.in-Some.ensures.fits, c.datatype_len-after.ensures) in
    let e : c.push_datatype.new.bytes.items ≡ text_of (Literal c.args.lexical.now (Typed c.args.datatype.now)) = rw (c.in_ok-push_datatype.ensures, c.in_ok-bytes.ensures) (literal_bytes c.args.lexical.now (Typed c.args.datatype.now)) in
    canonical (Literal c.args.lexical.now (Typed c.args.datatype.now)) _ e formed (c.utf8.lexical, c.utf8.datatype) (rw e short)

pub returns : goal.returns
returns c =
    let formed : is_absolute c.args.datatype.now ≡ true = search rules in
    let short : length (text_of (Literal c.args.lexical.now (Typed c.args.datatype.now))) ≤ max_term_bytes = omega (arith, length-literal c.args.lexical.now (Typed c.args.datatype.now), c.in-Some.ensures.fits, c.datatype_len-after.ensures) in
    let e : c.push_datatype.new.bytes.items ≡ text_of (Literal c.args.lexical.now (Typed c.args.datatype.now)) = rw (c.in_ok-push_datatype.ensures, c.in_ok-bytes.ensures) (literal_bytes c.args.lexical.now (Typed c.args.datatype.now)) in
    (term_of-bytes (Literal c.args.lexical.now (Typed c.args.datatype.now)) _ e, formed, short)
