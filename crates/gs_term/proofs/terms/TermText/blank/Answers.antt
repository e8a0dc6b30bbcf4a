use Rattle.std.proofs.Common.{rules}
use Rattle.gs_model.specs.Terms.{Blank}
use Rattle.gs_term.proofs.MakingLemmas.{canonical, term_of-bytes, blank_formed, blank_short}
use Rattle.gs_term.proofs.terms.TermText.blank.Goals as goal

pub returns-in_err-bytes : goal.returns-in_err-bytes
returns-in_err-bytes c =
    let formed = blank_formed c.args.request c.args.number c.ranges.request.fits c.ranges.number.fits in
    let short = blank_short c.args.request c.args.number c.ranges.request.fits c.ranges.number.fits in
    search (rules, formed, short)

pub invariant_of-result : goal.invariant_of-result
invariant_of-result c =
    let short = blank_short c.args.request c.args.number c.ranges.request.fits c.ranges.number.fits in
    canonical (Blank c.args.request c.args.number) _ c.in_ok-bytes.ensures (blank_formed _ _ c.ranges.request.fits c.ranges.number.fits) tt (rw c.in_ok-bytes.ensures short)

pub returns : goal.returns
returns c = (
  term_of-bytes (Blank c.args.request c.args.number) _ c.in_ok-bytes.ensures,
  blank_formed _ _ c.ranges.request.fits c.ranges.number.fits,
  blank_short _ _ c.ranges.request.fits c.ranges.number.fits,
)
