use Rattle.std.proofs.Common.{◌++◌, ◌∙◌, length-append, arith}
use Rattle.gs_model.specs.Terms.{Literal}
use Rattle.gs_model.specs.Texts.{kind_of}
use Rattle.gs_token_terms.proofs.BufferLemmas.{too_long, short_enough, literal_text, literal_size, literal_canonical}
use Rattle.gs_token_terms.proofs.buffers.plain_literal.Goals as goal

pub returns-then-form-gt-MAX_TERM_BYTES : goal.returns-then-form-gt-MAX_TERM_BYTES
returns-then-form-gt-MAX_TERM_BYTES c =
    let x = c.args.form.now in
    let after = c.args.mark.now ++ c.args.after.now in
    too_long (Literal x (kind_of after)) _ c.requires.after.formed (literal_size x after c.requires.plain c.requires.after) (omega (arith, length-append c.args.mark.now c.args.after.now))

pub returns-then-size-gt-MAX_TERM_BYTES : goal.returns-then-size-gt-MAX_TERM_BYTES
returns-then-size-gt-MAX_TERM_BYTES c =
    let x = c.args.form.now in
    let after = c.args.mark.now ++ c.args.after.now in
    too_long (Literal x (kind_of after)) _ c.requires.after.formed (literal_size x after c.requires.plain c.requires.after) (omega (arith, length-append c.args.mark.now c.args.after.now))

pub from_canonical-requires : goal.from_canonical-requires
from_canonical-requires c =
    literal_canonical c.args.form.now (c.args.mark.now ++ c.args.after.now) c.in_ok-bytes.bytes.items c.requires.plain c.requires.after c.utf8.form c.in_ok-bytes.ensures (omega (arith, length-append c.args.mark.now c.args.after.now))

pub returns : goal.returns
returns c =
    let x = c.args.form.now in
    let after = c.args.mark.now ++ c.args.after.now in
    short_enough (Literal x (kind_of after)) c.from_canonical.result c.in_ok-bytes.bytes.items _ c.requires.after.formed (literal_size x after c.requires.plain c.requires.after) (omega (arith, length-append c.args.mark.now c.args.after.now))
    (c.in_ok-bytes.ensures ∙ literal_text x after c.requires.plain c.requires.after) c.from_canonical.ensures
