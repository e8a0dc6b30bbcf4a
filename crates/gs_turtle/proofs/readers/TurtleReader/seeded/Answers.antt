use Rattle.std.proofs.Common.{◌≡◌, ℕ, [], sym, ap, subst, ◌∙◌}
use Rattle.std.specs.Prelude.{string_bytes}
use Rattle.gs_blank.specs.Numbers.{no_numbers}
use Rattle.gs_body.specs.Leading.{IsLed}
use Rattle.gs_body.proofs.LeadingLemmas.{led-start}
use Rattle.gs_document.specs.Documents.{start}
use Rattle.gs_document.specs.States.{DocumentState, Between}
use Rattle.gs_document.specs.Machine.{turtle}
use Rattle.gs_parse.specs.Views.{state_of}
use Rattle.gs_turtle.proofs.readers.TurtleReader.seeded.Goals as goal

pub returns-clause-fresh : goal.returns-clause-fresh
returns-clause-fresh c =
    let p = c.in_ok-new.field-0 in
    let at : DocumentState = Between (start (string_bytes c.in_ok-from_str.field-0) c.args.request) no_numbers in
    let e : state_of p ≡ at = c.in_ok-new.ensures.state ∙ ap (λ z. Between (start z c.args.request) no_numbers) (sym c.in_ok-from_str.ensures.ok) in
    record {
      lexemes = [];
      lexed = c.new.ensures;
      parsed = subst (λ (n : ℕ). IsLed turtle at (state_of p) n [] []) (sym c.in_ok-new.ensures.last)
          (subst (λ (s : DocumentState). IsLed turtle at s 0 [] []) (sym e) (led-start turtle at));
    }
