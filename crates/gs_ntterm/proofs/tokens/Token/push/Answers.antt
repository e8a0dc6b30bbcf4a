use Rattle.std.proofs.Common.{ap, ◌∙◌, string_bytes, arith}
use Rattle.std.specs.Char.{encode_utf8}
use Rattle.std.proofs.lemmas.Str.{length-encode}
use Rattle.gs_iri.proofs.TextLemmas.{on_ok}
use Rattle.gs_ntterm.specs.Forms.{form_after}
use Rattle.gs_ntterm.specs.Tokens.{Long}
use Rattle.gs_ntterm.specs.declared.forms.Form.{Form}
use Rattle.gs_ntterm.proofs.Holding.{add-grown}
use Rattle.gs_ntterm.proofs.tokens.Token.push.Goals as goal

pub returns-then-len_utf8-room : goal.returns-then-len_utf8-room
returns-then-len_utf8-room c =
    let s = c.args.self.now in
    let x = encode_utf8 c.args.c in
    on_ok c.follow-then-len_utf8-room.result
    (λ h. h ∙ ap (λ (f : Form). Long (form_after f x)) c.let_go.ensures.form ∙ add-grown s.is_long s.form (string_bytes s.text) x c.if-self.false (omega (arith, length-encode c.args.c)))
    c.follow-then-len_utf8-room.ensures
