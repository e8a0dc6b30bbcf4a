use Rattle.std.proofs.Common.{[], ◌++◌, ap, ◌∙◌, sym, append-nil, drop}
use Rattle.std.specs.Prelude.{Result, Ok, Err, OnErr}
use Rattle.gs_lex.proofs.StandingLemmas.{stands-held}
use Rattle.gs_lex.proofs.pieces.PieceLexer.hold.Goals as goal

pub returns-clause-taken : goal.returns-clause-taken
returns-clause-taken c u x ts =
    let l = c.args.self.now in
    let piece = c.args.piece.now in
    stands-held u l.at c.without_cut-self.result l.held.items c.extend_from_slice.new.self.items piece x ts
    c.without_cut-self.ensures (c.in_ok-extend_from_slice.ensures.items ∙ ap (λ z. z ++ piece) c.drop_front.ensures)

on_err : {T E P : Type 0} (r : Result T E) → P → OnErr r P
on_err (Ok x) p = tt
on_err (Err e) p = p

pub returns-in_err-extend_from_slice-clause-refused : goal.returns-in_err-extend_from_slice-clause-refused
returns-in_err-extend_from_slice-clause-refused c =
    let l = c.args.self.now in
    on_err c.from_residual.result (λ u x ts.
    stands-held u l.at c.without_cut-self.result l.held.items c.extend_from_slice.new.self.items [] x ts
    c.without_cut-self.ensures (c.in_err-extend_from_slice.ensures.items ∙ c.drop_front.ensures ∙ sym (append-nil (drop l.at.cut l.held.items))))
