use Rattle.gs_token_terms.proofs.BufferLemmas.{text_is_canonical, same_term}
use Rattle.gs_triple_values.proofs.triple_terms.copied.Goals as goal

pub of_canonical-requires : goal.of_canonical-requires
of_canonical-requires c = text_is_canonical c.args.term.now c.as_bytes.result.now c.as_bytes.ensures.text c.as_bytes.ensures.valid

pub returns : goal.returns
returns c = same_term c.args.term.now c.as_bytes.result.now c.of_canonical.result c.as_bytes.ensures.text c.of_canonical.ensures
