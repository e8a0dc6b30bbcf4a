-- What the steps of a lexer of a whole text give.
use Rattle.std.proofs.Common.{◌≡◌, ℕ, ◌+◌, Bool, true, List, [], ◌∷◌, ◌++◌, refl, sym, subst, append_assoc, append-nil, take, drop}
use Rattle.std.proofs.Math.ListN.{take-append-drop}
use Rattle.std.proofs.lemmas.List.{drop-drop}
use Rattle.gs_lex.specs.Tokens.{IsCut, CutEnd, AtFault, Lexeme, lexeme_at}
use Rattle.gs_lex.specs.Cuts.{text_cut_from}
use Rattle.gs_lex.specs.Readings.{CutFrom, Passes, FindsToken, Fails, passed_of, found_of, reading_at_start, gap_of}
use Rattle.gs_automaton.specs.Scans.{IsBarrenTo}
use Rattle.gs_lex.specs.Cutting.{HasCutOff}
use Rattle.gs_lex.specs.declared.kinds.TokenKind.{TokenKind}
use Rattle.gs_lex.specs.declared.steps.Reading.{Reading}
use Rattle.gs_lex.proofs.BarrenLemmas.{barren-none, read-end, read-fresh}
use Rattle.gs_automaton.proofs.BecomeLemmas.{becomes-self}
use Rattle.gs_lex.proofs.CutLemmas.{cut-from}
use Rattle.gs_lex.proofs.FinishLemmas.{fails-at}
use Rattle.gs_automaton.proofs.ScanLemmas.{scan-fresh}

-- what is left after so many bytes more
left_more : (r : Reading) (x : List ℕ) (count : ℕ) → drop count (drop r.cut x) ≡ drop (r.cut + count) x
left_more r x count = drop-drop count r.cut x

-- at the start of a text
pub cut-start : (u : Bool) (r : Reading) (x : List ℕ) → r ≡ reading_at_start u → HasCutOff u r x []
cut-start u r x e = subst (λ (s : Reading). HasCutOff u s x []) (sym e) (record { reads = refl; read = read-end (reading_at_start u) x (read-fresh u x); rest = λ us end c. c })

-- after bytes that are no part of a token
pub cut-passed : (u : Bool) (r : Reading) (x : List ℕ) (ts : List Lexeme) (count : ℕ) (c : Bool) → HasCutOff u r x ts → Passes true r (drop r.cut x) count c → HasCutOff u (passed_of r count c) x ts
cut-passed u r x ts count c h p =
    let left = drop r.cut x in
    record {
      reads = h.reads;
      read = record { scanned = scan-fresh r.updates (drop (r.cut + count) x); barren = barren-none true r.updates (drop (r.cut + count) x) };
      rest = λ us e t.
          h.rest us e (subst (λ z. CutFrom r z us e) (take-append-drop count left)
          (p.cut (drop count left) us e (becomes-self true (drop count left)) (subst (λ z. CutFrom (passed_of r count c) z us e) (sym (left_more r x count)) t)));
    }

-- after a token
pub cut-found : (u : Bool) (r : Reading) (x : List ℕ) (ts : List Lexeme) (k : TokenKind) (count b : ℕ) → HasCutOff u r x ts → FindsToken true r (drop r.cut x) k count b
    → HasCutOff u (found_of r count b) x (ts ++ lexeme_at k r.place (take count (drop r.cut x)) ∷ [])
cut-found u r x ts k count b h f =
    let left = drop r.cut x in
    let t = lexeme_at k r.place (take count left) in
    record {
      reads = h.reads;
      read = record { scanned = scan-fresh r.updates (drop (r.cut + count) x); barren = subst (λ z. IsBarrenTo true r.updates z b) (left_more r x count) f.stays };
      rest = λ us e c.
          subst (λ z. IsCut u x z e) (sym (append_assoc ts (t ∷ []) us))
          (h.rest (t ∷ us) e (subst (λ z. CutFrom r z (t ∷ us) e) (take-append-drop count left)
          (f.cut (drop count left) us e (becomes-self true (drop count left)) (subst (λ z. CutFrom (found_of r count b) z us e) (sym (left_more r x count)) c))));
    }

-- no token comes more
pub cut-ends : (u : Bool) (r : Reading) (x : List ℕ) (ts : List Lexeme) (e : CutEnd) → HasCutOff u r x ts → CutFrom r (drop r.cut x) [] e → IsCut u x ts e
cut-ends u r x ts e h c = subst (λ z. IsCut u x z e) (append-nil ts) (h.rest [] e c)

-- something that is no token comes
pub cut-fails : (u : Bool) (r : Reading) (x : List ℕ) (ts : List Lexeme) → HasCutOff u r x ts → Fails true r (drop r.cut x) → IsCut u x ts (AtFault r.last)
cut-fails u r x ts h f = cut-ends u r x ts (AtFault r.last) h (fails-at r (drop r.cut x) f)

-- the text has a cut that begins with the tokens that were given
pub cut-goes-on : (u : Bool) (r : Reading) (x : List ℕ) (ts : List Lexeme) → HasCutOff u r x ts → (us : List Lexeme) × ((e : CutEnd) × IsCut u x (ts ++ us) e)
cut-goes-on u r x ts h =
    let p = text_cut_from r.updates (gap_of r.in_comment) r.place r.last (drop r.cut x) in
    (p.0, (p.1, h.rest p.0 p.1 (cut-from r.updates (gap_of r.in_comment) r.place r.last (drop r.cut x))))
