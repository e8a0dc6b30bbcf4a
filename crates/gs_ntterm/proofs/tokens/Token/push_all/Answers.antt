use Rattle.std.proofs.Common.{ap, ◌∙◌, string_bytes, arith}
use Rattle.gs_ntterm.specs.Forms.{form_after}
use Rattle.gs_ntterm.specs.declared.forms.Form.{Form}
use Rattle.gs_ntterm.proofs.RunLemmas.{add_each-still_long, add_each-too_long, add_each-fits}
use Rattle.gs_ntterm.proofs.tokens.Token.push_all.Goals as goal

pub returns-then-self : goal.returns-then-self
returns-then-self c = add_each-still_long _ _ _ _ c.args.bytes.now c.if-self.true c.after-self.ensures

pub returns-then-bytes-room : goal.returns-then-bytes-room
returns-then-bytes-room c =
    add_each-too_long _ _ _ _ (string_bytes c.args.self.now.text) _ c.args.bytes.now c.if-self.false c.let_go.ensures.long
    (c.after-self-then-bytes-room.ensures ∙ ap (λ (f : Form). form_after f c.args.bytes.now) c.let_go.ensures.form) (omega arith) (omega arith)

pub returns : goal.returns
returns c =
    let s = c.args.self.now in
    let t = string_bytes s.text in
    add_each-fits c.push_ascii.result s.is_long s.form t c.args.bytes.now (string_bytes c.push_ascii.new.text) c.if-self.false (λ some. omega arith)
    c.push_ascii.ensures
