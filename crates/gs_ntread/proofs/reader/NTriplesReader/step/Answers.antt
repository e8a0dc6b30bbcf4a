use Rattle.std.proofs.Common.{◌≡◌, ℕ, arith, refl, sym, ap, ◌∙◌, [], ◌∷◌}
use Rattle.std.specs.Option.{option_to_list}
use Rattle.gs_machine.specs.Utf8.{Decoding, Ready, decode_step}
use Rattle.gs_ntread.specs.Readers.{led_of}
use Rattle.gs_ntread.proofs.Whole.{byte-none, byte-some}
use Rattle.gs_ntread.proofs.RunLemmas.{ready_is, at_ascii}
use Rattle.gs_ntread.proofs.Takes.{on_ok, took-none, took-from}
use Rattle.gs_ntread.proofs.reader.NTriplesReader.step.Goals as goal

pub returns-in-None-clause-ok : goal.returns-in-None-clause-ok
returns-in-None-clause-ok c =
    let s = c.args.self.now in
    let e : (c.decode.new.self, []) ≡ decode_step s.decoder c.args.byte = ap (λ o. (c.decode.new.self, option_to_list o)) (sym c.in-None.is) ∙ c.decode.ensures in
    took-none s _ c.args.triples.now.items _ (byte-none s.request s.decoder c.decode.new.self (led_of s).1 c.args.byte e) refl refl refl

pub returns-in-Some-clause-ok : goal.returns-in-Some-clause-ok
returns-in-Some-clause-ok c =
    let s = c.args.self.now in
    let e : (c.decode.new.self, c.in-Some.c ∷ []) ≡ decode_step s.decoder c.args.byte = ap (λ o. (c.decode.new.self, option_to_list o)) (sym c.in-Some.is) ∙ c.decode.ensures in
    on_ok c.character-in-Some.result _ _
    (took-from s _ c.character-in-Some.new.self c.args.triples.now.items c.character-in-Some.new.triples.items _ _ refl refl refl
    (byte-some s.request s.decoder c.decode.new.self (led_of s).1 c.args.byte c.in-Some.c e))
    c.character-in-Some.ensures.ok

pub returns-then-is_ready-clause-ok : goal.returns-then-is_ready-clause-ok
returns-then-is_ready-clause-ok c =
    let s = c.args.self.now in
    let b = c.args.byte in
    let d : s.decoder ≡ Ready = ready_is s.decoder (sym c.is_ready.ensures ∙ c.if-is_ready.true) in
    let e : (s.decoder, c.from.result ∷ []) ≡ decode_step s.decoder b = ap (λ (z : ℕ). (s.decoder, z ∷ [])) c.from.ensures ∙ ap (λ (u : Decoding). (u, b ∷ [])) d ∙ at_ascii b (omega arith) ∙ ap (λ (u : Decoding). decode_step u b) (sym d) in
    on_ok c.character.result _ _
    (took-from s _ c.character.new.self c.args.triples.now.items c.character.new.triples.items _ _ refl refl refl
    (byte-some s.request s.decoder s.decoder (led_of s).1 b c.from.result e))
    c.character.ensures.ok
