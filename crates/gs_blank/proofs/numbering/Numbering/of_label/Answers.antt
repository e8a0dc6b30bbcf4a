use Rattle.std.proofs.Common.{◌≡◌, ℕ, ◌+◌, ap, sym, ◌∙◌, Some, None, string_bytes, List}
use Rattle.std.specs.Ordering.{nat_cmp}
use Rattle.std.specs.Cmp.Lexicographic.{slice_cmp}
use Rattle.std.specs.FinMap as finite
use Rattle.std.proofs.lemmas.Result.{IfOk-at_ok}
use Rattle.gs_blank.specs.Numbers.{Numbers, known}
use Rattle.gs_blank.proofs.NumbersLemmas.{number-known, number-new, look-up, texts-insert, texts_of}
use Rattle.gs_blank.proofs.numbering.Numbering.of_label.Goals as goal

pub returns-in-Some-clause-value : goal.returns-in-Some-clause-value
returns-in-Some-clause-value c =
    let e : known c.args.self.now c.args.label.now ≡ Some c.in-Some.number = look-up _ c.self.inside.labels _ _ c.self.view_is ∙ sym c.get.ensures.value ∙ sym c.copied.ensures ∙ c.in-Some.is in
    ap (λ u. u.0) (sym (number-known _ _ _ e))

pub returns-in-Some-clause-ok : goal.returns-in-Some-clause-ok
returns-in-Some-clause-ok c =
    let e : known c.args.self.now c.args.label.now ≡ Some c.in-Some.number = look-up _ c.self.inside.labels _ _ c.self.view_is ∙ sym c.get.ensures.value ∙ sym c.copied.ensures ∙ c.in-Some.is in
    ap (λ u. u.1) (sym (number-known _ _ _ e))

pub returns-clause-value : goal.returns-clause-value
returns-clause-value c =
    let e : known c.args.self.now c.args.label.now ≡ None = look-up _ c.self.inside.labels _ _ c.self.view_is ∙ sym c.get.ensures.value ∙ sym c.copied.ensures ∙ c.in-None.is in
    c.in_ok-number.ensures.value ∙ ap (λ (u : Numbers). u.1 + 1) c.self.view_is ∙ ap (λ u. u.0) (sym (number-new _ _ e))

pub returns-clause-ok : goal.returns-clause-ok
returns-clause-ok c =
    let e : known c.args.self.now c.args.label.now ≡ None = look-up _ c.self.inside.labels _ _ c.self.view_is ∙ sym c.get.ensures.value ∙ sym c.copied.ensures ∙ c.in-None.is in
    let key_is : string_bytes c.in_ok-key.key ≡ c.args.label.now = IfOk-at_ok (λ s. string_bytes s ≡ c.args.label.now) c.in_ok-key.was c.from_str.ensures.ok in
    let l : c.in_ok-number.number ≡ c.args.self.now.1 + 1 = c.in_ok-number.ensures.value ∙ ap (λ (u : Numbers). u.1 + 1) c.self.view_is in
    let m = texts-insert c.self.inside.labels c.insert.new.self (string_bytes c.in_ok-key.key) c.in_ok-number.number c.in_ok-insert.ensures.updates in
    ap (λ (x : finite.FinMap (slice_cmp nat_cmp) ℕ). (x, c.in_ok-number.number)) m
    ∙ ap (λ (t : List ℕ). (finite.insert (texts_of c.self.inside.labels) t c.in_ok-number.number, c.in_ok-number.number)) key_is
    ∙ ap (λ (k : ℕ). (finite.insert (texts_of c.self.inside.labels) c.args.label.now k, k)) l
    ∙ ap (λ (u : Numbers). (finite.insert u.0 c.args.label.now (c.args.self.now.1 + 1), c.args.self.now.1 + 1)) c.self.view_is
    ∙ ap (λ u. u.1) (sym (number-new _ _ e))
