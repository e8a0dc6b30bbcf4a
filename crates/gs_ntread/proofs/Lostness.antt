-- Where the decoder is lost the grammar is broken.
use Rattle.std.proofs.Common.{◌≡◌, ℕ, zero, suc, ◌*◌, ◌+◌, ◌-◌, Bool, true, false, cond, List, [], ◌∷◌, refl, sym, ap, subst, Result, Ok, Err}
use Rattle.std.specs.Prelude.{◌==◌, nat_lt}
use Rattle.gs_model.specs.Terms.{Term}
use Rattle.gs_model.specs.Triples.{RdfTriple}
use Rattle.gs_model.specs.declared.faults.Fault.{Fault}
use Rattle.gs_model.specs.declared.faults.Fault.TheVariants.{Syntax}
use Rattle.gs_model.specs.Escapes.{echar_meaning}
use Rattle.gs_machine.specs.Machines.{steps, composed}
use Rattle.gs_machine.specs.Utf8.{Decoding, Ready, Within, Lost, bad, decode_step, lead, character_goes_on}
use Rattle.gs_body.specs.Bodies.{Statement}
use Rattle.gs_body.specs.Leading.{IsLed}
use Rattle.gs_blank.specs.Numbers.{Numbers}
use Rattle.gs_ntterm.specs.Marks.{char_end}
use Rattle.gs_ntterm.specs.LineTerms.{LineTerm}
use Rattle.gs_ntterm.specs.Terminals.{Plain, Escape, Digits}
use Rattle.gs_ntterm.specs.Tokens.{Held, plain_held, tagged_held}
use Rattle.gs_ntterm.proofs.Branches.{either_way}
use Rattle.gs_ntread.specs.States.{LineState, LineTransition, Stage, AtSubject, AtPredicate, AtObject, AtSuffix, AtDatatype, AtDot, AtEnd, TokenMode, Between, Comment, InIri, InString, Underscore, Colon, InLabel, InDots, Caret, AtSign, InTag, Hyphen, Broken, broken, no_triple}
use Rattle.gs_ntread.specs.Lines.{end_state, after_literal}
use Rattle.gs_ntread.specs.Transitions.{transition, tag_transition}
use Rattle.gs_ntread.specs.Reader.{keeping, placing, ntriples, Led, nothing_read}
use Rattle.gs_ntread.specs.Readers.{IsStopped, Sound}

bad_literal : (s : LineTerm) (p : Term) (r : Result Term Fault) (n : ℕ) → IsStopped (after_literal s p r bad n).0
bad_literal s p (Ok t) n = tt
bad_literal s p (Err e) n = tt

bad_tag : (s : LineTerm) (p : Term) (l h : Held) (d : Bool) (n : ℕ) → IsStopped (transition (AtSuffix s p l) (InTag d h) bad n).0
bad_tag s p l h true n = bad_literal s p (tagged_held l h) n
bad_tag s p l h false n = bad_literal s p (tagged_held l h) n

bad_part : (g : Stage) (h : Held) (d : Bool) (n : ℕ) → (tag_transition g h bad n ≡ no_triple (broken Syntax)) → IsStopped (transition g (InTag d h) bad n).0
bad_part g h true n e = subst (λ (t : LineTransition). IsStopped t.0) (sym e) tt
bad_part g h false n e = subst (λ (t : LineTransition). IsStopped t.0) (sym e) tt

-- the mark of ill-formed bytes breaks each state
pub transition_bad : (g : Stage) (m : TokenMode) (n : ℕ) → IsStopped (transition g m bad n).0
unfolding echar_meaning
transition_bad AtSubject Between n = tt
transition_bad (AtPredicate s) Between n = tt
transition_bad (AtObject s p) Between n = tt
transition_bad (AtSuffix s p l) Between n = bad_literal s p (plain_held l) n
transition_bad (AtDatatype s p l) Between n = tt
transition_bad (AtDot s p o) Between n = tt
transition_bad AtEnd Between n = tt
transition_bad g Comment n = tt
transition_bad g (InIri Plain h) n = tt
transition_bad g (InIri Escape h) n = tt
transition_bad g (InIri (Digits l v) h) n = tt
transition_bad g (InString Plain h) n = tt
transition_bad g (InString Escape h) n = tt
transition_bad g (InString (Digits l v) h) n = tt
transition_bad g Underscore n = tt
transition_bad g Colon n = tt
transition_bad AtSubject (InLabel h) n = tt
transition_bad (AtPredicate s) (InLabel h) n = tt
transition_bad (AtObject s p) (InLabel h) n = tt
transition_bad (AtSuffix s p l) (InLabel h) n = tt
transition_bad (AtDatatype s p l) (InLabel h) n = tt
transition_bad (AtDot s p o) (InLabel h) n = tt
transition_bad AtEnd (InLabel h) n = tt
transition_bad AtSubject (InDots h f k) n = tt
transition_bad (AtPredicate s) (InDots h f k) n = tt
transition_bad (AtObject s p) (InDots h f k) n = either_way IsStopped (k == 0) (end_state bad) (broken Syntax) tt tt
transition_bad (AtSuffix s p l) (InDots h f k) n = tt
transition_bad (AtDatatype s p l) (InDots h f k) n = tt
transition_bad (AtDot s p o) (InDots h f k) n = tt
transition_bad AtEnd (InDots h f k) n = tt
transition_bad g Caret n = tt
transition_bad g AtSign n = tt
transition_bad AtSubject (InTag d h) n = bad_part AtSubject h d n refl
transition_bad (AtPredicate s) (InTag d h) n = bad_part (AtPredicate s) h d n refl
transition_bad (AtObject s p) (InTag d h) n = bad_part (AtObject s p) h d n refl
transition_bad (AtSuffix s p l) (InTag d h) n = bad_tag s p l h d n
transition_bad (AtDatatype s p l) (InTag d h) n = bad_part (AtDatatype s p l) h d n refl
transition_bad (AtDot s p o) (InTag d h) n = bad_part (AtDot s p o) h d n refl
transition_bad AtEnd (InTag d h) n = bad_part AtEnd h d n refl
transition_bad g (Hyphen h) n = tt
transition_bad g (Broken e) n = tt

-- a decoder that gets lost marks it
abbrev Marks : Decoding × List ℕ → Type 0
Marks t = t.0 ≡ Lost → t.1 ≡ bad ∷ []

marks_lost : Marks (Lost, bad ∷ [])
marks_lost e = refl

marks_ready : (os : List ℕ) → Marks (Ready, os)
marks_ready os e = absurd (Prim.cc)

marks_within : (n v l h : ℕ) (os : List ℕ) → Marks (Within n v l h, os)
marks_within n v l h os e = absurd (Prim.cc)

marks_on : (n v : ℕ) → Marks (character_goes_on n v)
marks_on zero v = marks_ready (v ∷ [])
marks_on (suc n) v = marks_within n v 128 191 []

marks_lead : (b : ℕ) → Marks (lead b)
marks_lead b =
    either_way Marks (nat_lt b 128) _ _ (marks_ready (b ∷ []))
    (either_way Marks (nat_lt b 194) _ _ marks_lost
    (either_way Marks (nat_lt b 224) _ _ (marks_within 0 (b - 192) 128 191 [])
    (either_way Marks (nat_lt b 240) _ _ (marks_within 1 (b - 224) (cond (b == 224) 160 128) (cond (b == 237) 159 191) [])
    (either_way Marks (nat_lt b 245) _ _ (marks_within 2 (b - 240) (cond (b == 240) 144 128) (cond (b == 244) 143 191) []) marks_lost))))

marks_step : (n v l h b : ℕ) → Marks (decode_step (Within n v l h) b)
marks_step n v l h b =
    either_way Marks (nat_lt b l) _ _ marks_lost
    (either_way Marks (nat_lt h b) _ _ marks_lost (marks_on n (v * 64 + (b - 128))))

-- the reading after some characters
abbrev after_all : ℕ → ℕ × (LineState × Numbers) → List ℕ → LineState
after_all r p os = (steps (placing r) p os).0.1.0

after_bad : (r : ℕ) (p : ℕ × (LineState × Numbers)) → IsStopped (after_all r p (bad ∷ []))
unfolding steps composed keeping
after_bad r p = transition_bad p.1.0.0 p.1.0.1 (char_end p.0 bad)

lost_at : (r : ℕ) (p : ℕ × (LineState × Numbers)) (t : Decoding × List ℕ) → Marks t → t.0 ≡ Lost → IsStopped (after_all r p t.1)
lost_at r p t m e = subst (λ (os : List ℕ). IsStopped (after_all r p os)) (sym (m e)) (after_bad r p)

sound-step : (r : ℕ) (d : Decoding) (p : ℕ × (LineState × Numbers)) (b : ℕ) → Sound (d, p) → Sound ((ntriples r).step (d, p) b).0
unfolding composed steps
sound-step r Ready p b h e = lost_at r p (lead b) (marks_lead b) e
sound-step r (Within n v l k) p b h e = lost_at r p (decode_step (Within n v l k) b) (marks_step n v l k b) e
sound-step r Lost p b h e = h refl

pub sound-steps : (r : ℕ) (s : Led) (x : List ℕ) → Sound s → Sound (steps (ntriples r) s x).0
unfolding steps
sound-steps r s [] h = h
sound-steps r s (b ∷ bs) h = sound-steps r ((ntriples r).step s b).0 bs (sound-step r s.0 s.1 b h)

-- so it is where a text leads
pub sound-led : (r : ℕ) (s : Led) (n : ℕ) (x : List ℕ) (ts : List RdfTriple) → IsLed (ntriples r) nothing_read s n x ts → Sound s
sound-led r s n x ts l = subst Sound (ap (λ (t : Led × List Statement). t.0) l.run) (sound-steps r nothing_read x (λ e. absurd (Prim.cc)))
