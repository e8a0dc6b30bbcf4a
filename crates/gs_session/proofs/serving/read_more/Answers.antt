use Rattle.std.proofs.Common.{◌≡◌, true, false, [], refl, sym, subst, ◌∙◌, append-nil}
use Rattle.std.proofs.KnownBytes.{Consumes-nil, Consumes-kept}
use Rattle.gs_session.specs.Turns.{Leads}
use Rattle.gs_session.proofs.serving.read_more.Goals as goal

pub returns-else-ne-clause-ok : goal.returns-else-ne-clause-ok
returns-else-ne-clause-ok g c =
    let s = c.args.session.now in
    let unread = g.R.Read.remaining c.args.reader.now in
    let left = g.R.Read.remaining c.read.new.self in (
      refl,
      λ e. (let clash : false ≡ true = sym c.requires ∙ e in absurd (cc)),
      λ x h w l. ([], Consumes-kept unread unread left [] (Consumes-nil unread) c.in-Err.ensures.bytes, subst (λ z. Leads s z h w) (sym (append-nil x)) l),
    )
