use Rattle.std.proofs.Common.{sym, ◌∙◌, ◌++◌, ◌∷◌, [], append-nil, append_assoc}
use Rattle.gs_term.proofs.MakingLemmas.{suffix_plain, suffix_other}
use Rattle.gs_term.proofs.literals.push_datatype.Goals as goal

pub returns-then-eq : goal.returns-then-eq
returns-then-eq c = rw (suffix_plain c.args.datatype.now c.if-eq.ensures) (sym (append-nil c.args.bytes.now.items))

pub returns : goal.returns
returns c =
    rw (suffix_other c.args.datatype.now c.if-eq.ensures, c.in_ok-push.ensures.items, c.in_ok-extend_from_slice-2.ensures.items, c.in_ok-extend_from_slice.ensures.items, c.as_bytes.ensures.value)
    (append_assoc (c.args.bytes.now.items ++ 94 ∷ 94 ∷ 60 ∷ []) c.args.datatype.now (62 ∷ []) ∙ append_assoc c.args.bytes.now.items (94 ∷ 94 ∷ 60 ∷ []) (c.args.datatype.now ++ 62 ∷ []))
