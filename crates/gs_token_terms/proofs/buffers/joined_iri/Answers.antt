use Rattle.std.proofs.Common.{◌++◌, ◌∙◌, ap, arith}
use Rattle.gs_model.specs.Terms.{Iri}
use Rattle.gs_model.specs.Triples.{is_iri}
use Rattle.gs_term.proofs.MakingLemmas.{term_of-bytes}
use Rattle.gs_token_terms.proofs.BufferLemmas.{too_long, short_enough, absolute_on, iri_size, iri_canonical}
use Rattle.gs_token_terms.proofs.buffers.joined_iri.Goals as goal

pub returns-then-front-gt-MAX_TERM_BYTES-clause-value : goal.returns-then-front-gt-MAX_TERM_BYTES-clause-value
returns-then-front-gt-MAX_TERM_BYTES-clause-value c =
    let x = c.args.front.now in
    let y = c.args.back.now in
    too_long (Iri (x ++ y)) _ (absolute_on x y c.requires.absolute c.requires.characters) (iri_size x y) (omega arith)

pub returns-then-size-gt-MAX_TERM_BYTES-clause-value : goal.returns-then-size-gt-MAX_TERM_BYTES-clause-value
returns-then-size-gt-MAX_TERM_BYTES-clause-value c =
    let x = c.args.front.now in
    let y = c.args.back.now in
    too_long (Iri (x ++ y)) _ (absolute_on x y c.requires.absolute c.requires.characters) (iri_size x y) (omega arith)

pub from_canonical-requires : goal.from_canonical-requires
from_canonical-requires c =
    iri_canonical c.args.front.now c.args.back.now c.in_ok-bytes.bytes.items c.requires.absolute c.requires.characters c.utf8.front c.utf8.back c.in_ok-bytes.ensures (omega arith)

pub returns-clause-value : goal.returns-clause-value
returns-clause-value c =
    let x = c.args.front.now in
    let y = c.args.back.now in
    short_enough (Iri (x ++ y)) c.from_canonical.result c.in_ok-bytes.bytes.items _ (absolute_on x y c.requires.absolute c.requires.characters) (iri_size x y) (omega arith) c.in_ok-bytes.ensures c.from_canonical.ensures

pub returns-clause-kind : goal.returns-clause-kind
returns-clause-kind c = ap is_iri (c.from_canonical.ensures ∙ term_of-bytes (Iri (c.args.front.now ++ c.args.back.now)) c.in_ok-bytes.bytes.items c.in_ok-bytes.ensures)
