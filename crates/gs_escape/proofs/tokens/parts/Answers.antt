use Rattle.std.proofs.Common.{◌∙◌, ◌+◌, ap, take, drop, List, ℕ}
use Rattle.std.specs.Prelude.{Some, option_map}
use Rattle.gs_escape.proofs.RunLemmas.{rest_whole}
use Rattle.gs_escape.proofs.tokens.parts.Goals as goal

pub returns-in-None : goal.returns-in-None
returns-in-None c = ap (option_map (λ (i : ℕ). let p : List ℕ × List ℕ = (take i c.args.text.now, drop (i + 1) c.args.text.now) in p)) c.in-None.ensures

pub returns-in-Some : goal.returns-in-Some
returns-in-Some c =
    let parts = λ (i : ℕ). let p : List ℕ × List ℕ = (take i c.args.text.now, drop (i + 1) c.args.text.now) in p in
    let made = λ (y : List ℕ). let p : List ℕ × List ℕ = (take c.in-Some.i c.args.text.now, y) in Some p in
    ap made (rest_whole c.args.text.now (c.in-Some.i + 1)) ∙ ap (option_map parts) c.in-Some.ensures
