use Rattle.std.proofs.Common.{◌≡◌, length, sym, ap, ◌∙◌, subst, arith}
use Rattle.std.proofs.lemmas.Bool.Decides.{nat_tests}
use Rattle.gs_tree.specs.Keys.{AllKeys}
use Rattle.gs_keys.specs.Texts.{IsGiven}
use Rattle.gs_lines.specs.Pieces.{bytes_of}
use Rattle.gs_lines.proofs.PieceLemmas.{kept_given, piece_is}
use Rattle.gs_lines.proofs.pieces.next_piece.Goals as goal

pub lines-requires : goal.lines-requires
lines-requires c =
    subst (AllKeys (IsGiven c.args.dict.now.terms)) (sym c.as_slice-kept.ensures.value)
    (kept_given c.args.dict.now.terms c.args.pool.now c.args.root c.requires.graph c.args.from c.args.count _ _ c.in_ok-keys.ensures c.truncate.ensures.items)

pub returns : goal.returns
returns c =
    let long : c.len.result ≡ length c.in_ok-keys.keys.items = omega arith in
    piece_is c.args.dict.now.terms c.args.pool.now c.args.root c.requires.graph c.args.from c.args.count c.in_ok-keys.keys.items c.truncate.new.self.items _ c.requires.some
    c.in_ok-keys.ensures c.truncate.ensures.items
    (c.in_ok-lines.ensures ∙ ap (bytes_of c.args.dict.now.terms) c.as_slice-kept.ensures.value) (cc) (grind (arith, nat_tests))
