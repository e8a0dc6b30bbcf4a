use Rattle.std.proofs.Common.{◌≡◌, ◌+◌, cond, take, List, ℕ, subst, arith}
use Rattle.std.specs.Str.{bytes_eq}
use Rattle.std.proofs.lemmas.List.{take_rest}
use Rattle.gs_ntterm.specs.Wholes.{DatatypeFront, string_suffix}
use Rattle.gs_ntterm.proofs.WholeLemmas.{datatype_both, literal_text, datatype_within}
use Rattle.gs_ntterm.proofs.wholes.typed_len.Goals as goal

pub returns : goal.returns
returns c =
    let x = c.args.piece.now in
    let q = c.args.quoted in
    let n = c.datatype_len-n.result in
    let named = subst (λ (z : List ℕ). DatatypeFront z n) (take_rest x q) (c.datatype_len-n.ensures (omega arith)) in
    let end = subst (λ (z : List ℕ). c.text_len.result ≡ cond (bytes_eq (take n z) string_suffix) q (q + n)) (take_rest x q) c.text_len.ensures in
    literal_text x _ _ (datatype_within x q c.requires n _ named end) (datatype_both x q c.requires n c.text_len.result named (omega arith) end)
