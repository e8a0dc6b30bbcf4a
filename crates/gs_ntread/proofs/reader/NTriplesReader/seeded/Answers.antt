use Rattle.std.proofs.Common.{◌≡◌, [], sym, ap, subst, ◌∙◌}
use Rattle.gs_machine.specs.Utf8.{Decoding, Ready}
use Rattle.gs_body.specs.Leading.{IsLed}
use Rattle.gs_body.proofs.LeadingLemmas.{led-start}
use Rattle.gs_blank.specs.Numbers.{Numbers}
use Rattle.gs_ntread.specs.States.{LineState, line_start}
use Rattle.gs_ntread.specs.Reader.{Led, ntriples, nothing_read}
use Rattle.gs_ntread.specs.Views.{cursor_state}
use Rattle.gs_ntread.proofs.reader.NTriplesReader.seeded.Goals as goal

pub returns-clause-fresh : goal.returns-clause-fresh
returns-clause-fresh c =
    let e : (c.new.result, (0, (cursor_state c.new-2.result, c.new-3.result))) ≡ nothing_read =
    ap (λ (d : Decoding). (d, (0, (cursor_state c.new-2.result, c.new-3.result)))) c.new.ensures
    ∙ ap (λ (q : LineState). (Ready, (0, (q, c.new-3.result)))) c.new-2.ensures
    ∙ ap (λ (n : Numbers). (Ready, (0, (line_start, n)))) c.new-3.ensures in
    subst (λ (s : Led). IsLed (ntriples c.args.request) nothing_read s 0 [] []) (sym e) (led-start (ntriples c.args.request) nothing_read)
