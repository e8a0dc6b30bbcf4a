use Rattle.std.proofs.Common.{◌≡◌, ◌<◌, ◌-◌, ℕ, List, true, length, drop, take, get_or, sym, ◌∙◌, subst, arith}
use Rattle.std.specs.List.{list_all}
use Rattle.std.proofs.lemmas.List.{take_rest}
use Rattle.gs_model.specs.Iris.{is_absolute}
use Rattle.gs_ntterm.specs.Runs.{runs_in_iri}
use Rattle.gs_ntterm.proofs.WholeLemmas.{iri_characters, iri_front}
use Rattle.gs_ntterm.proofs.wholes.iri_len.Goals as goal

pub has_scheme-requires : goal.has_scheme-requires
has_scheme-requires c = iri_characters (take c.run_len-n.result (take (length c.args.piece.now - 1) (drop 1 c.args.piece.now))) c.run_len-n.ensures.all

pub returns : goal.returns
returns c = λ h.
    let x = c.args.piece.now in
    let n = c.run_len-n.result in
    let all = subst (λ (z : List ℕ). list_all runs_in_iri (take n z) ≡ true) (take_rest x 1) c.run_len-n.ensures.all in
    let absolute = subst (λ (z : List ℕ). is_absolute (take n z) ≡ true) (take_rest x 1) (sym c.has_scheme.ensures ∙ c.if-not-has_scheme.false) in
    let mark = subst (λ (z : List ℕ). get_or z n 0 ≡ 62) (take_rest x 1) c.if-text-n-ne62.false in
    let here = subst (λ (z : List ℕ). n < length z) (take_rest x 1) c.if-n-text.false in
    iri_front x n (omega arith) (omega arith) here mark all absolute (omega arith)
