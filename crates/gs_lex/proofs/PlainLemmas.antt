-- Laws of tokens that are known at once.
use Rattle.std.proofs.Common.{◌≡◌, ℕ, ◌+◌, ◌^◌, ◌<◌, ◌≤◌, Bool, true, false, List, [], ◌∷◌, ◌++◌, refl, sym, ap, ◌∙◌, arith, subst, length, Some, take, drop, encode_utf8_all}
use Rattle.std.proofs.lemmas.List.{drop-drop}
use Rattle.gs_automaton.specs.Fronts.{GoesOver}
use Rattle.gs_lex.specs.Plains.{IsPlainToken, IsPlainAhead, plain_of}
use Rattle.gs_lex.specs.Readings.{FindsToken, passed_of, found_of}
use Rattle.gs_automaton.specs.Scans.{IsScanned, MayBecome, fresh}
use Rattle.gs_lex.specs.Standing.{StandsAfter}
use Rattle.gs_lex.specs.Tokens.{Lexeme, lexeme_at, place_after, token_kind}
use Rattle.gs_automaton.specs.declared.terminals.Terminal.{Terminal}
use Rattle.gs_lex.specs.declared.kinds.TokenKind.{TokenKind}
use Rattle.gs_lex.specs.declared.plains.Plain.{Plain}
use Rattle.gs_automaton.specs.declared.scans.Scan.{Scan}
use Rattle.gs_lex.specs.declared.steps.Reading.{Reading}
use Rattle.gs_lex.proofs.BarrenLemmas.{barren-none, some_bytes_of}
use Rattle.gs_lex.proofs.LongestLemmas.{Finds}
use Rattle.gs_lex.proofs.RunLemmas.{pass-spaces}
use Rattle.gs_automaton.proofs.ScanLemmas.{scan-fresh}
use Rattle.gs_lex.proofs.StandingLemmas.{stands-passed, stands-found, stands-scanned}
use Rattle.gs_lex.proofs.StepLemmas.{find-token, stuck-finds}

-- a scan that went straight on to where no longer token comes has found the token
pub plain-found : (u : Bool) (x : List ℕ) (r : Scan × Bool) (t : Terminal) (k : TokenKind) → GoesOver x (fresh u) r → r.1 ≡ true → r.0.best ≡ Some t → 0 < r.0.best_len
    → token_kind u t (take r.0.best_len x) ≡ Some k → IsPlainToken u x k r.0.best_len
plain-found u x r t k g e b some d = record {
  some = some;
  within = within;
  found = λ is_end q m between.
      find-token is_end q x t r.0.best_len 0 k between
      (subst (λ v. (text : List ℕ) → MayBecome is_end x text → Finds v x text t r.0.best_len) (sym m) (stuck-finds is_end u x r.0 t scanned (g.last e is_end u) b))
      (subst (λ v. token_kind v t (take r.0.best_len x) ≡ Some k) (sym m) d) within
      (barren-none is_end q.updates (drop r.0.best_len x));
}
  where
    within : r.0.best_len ≤ length x
    within = omega (arith, g.went.within, g.went.best_within)

    scanned : IsScanned u x r.0
    scanned = g.went.scanned u (scan-fresh u x)

-- no bytes are no characters
no_characters : (cs : List ℕ) → length (encode_utf8_all cs) ≡ 0 → cs ≡ []
no_characters [] e = refl
no_characters (c ∷ cs) e = absurd (omega (arith, e, some_bytes_of (c ∷ cs) (λ p. Prim.cc p)))

-- of any text a scan that has read nothing has read nothing
pub scan-nothing : (u : Bool) (x y : List ℕ) (s : Scan) → s.len ≡ 0 → IsScanned u x s → IsScanned u y s
scan-nothing u x y s e h =
    let none : h.chars ≡ [] = no_characters h.chars (sym h.count ∙ e) in
    record {
      chars = h.chars;
      after = y;
      parts = ap (λ z. encode_utf8_all z ++ y) (sym none);
      count = h.count;
      characters = h.characters;
      stands = h.stands;
      is_best = h.is_best;
    }

-- after white space and a token that is known at once
pub stands-plain : (is_end u : Bool) (r : Reading) (at_hand x : List ℕ) (ts : List Lexeme) (p : Plain) → r.in_comment ≡ false → r.scan.len ≡ 0 → r.place < 2 ^ 64
    → IsPlainAhead r.updates (drop r.cut at_hand) p → StandsAfter is_end u r (drop r.cut at_hand) x ts
    → StandsAfter is_end u (plain_of r p.space p.count) (drop (r.cut + p.space + p.count) at_hand) x (ts ++ lexeme_at p.kind (place_after r.place p.space) (take p.count (drop (r.cut + p.space) at_hand)) ∷ [])
stands-plain is_end u r at_hand x ts p e n fits a h =
    let q = passed_of r p.space false in
    let passed : StandsAfter is_end u q (drop (r.cut + p.space) at_hand) x ts =
    stands-passed is_end u r at_hand x ts p.space false h (pass-spaces is_end r (drop r.cut at_hand) p.space e (omega (arith, a.within)) fits a.spaces) in
    let finds : FindsToken is_end q (drop q.cut at_hand) p.kind p.count 0 =
    subst (λ z. FindsToken is_end q z p.kind p.count 0) (drop-drop p.space r.cut at_hand) (a.token.found is_end q refl refl) in
    let left = drop (r.cut + p.space + p.count) at_hand in
    let us = ts ++ lexeme_at p.kind (place_after r.place p.space) (take p.count (drop (r.cut + p.space) at_hand)) ∷ [] in
    let found : StandsAfter is_end u (found_of q p.count 0) left x us = stands-found is_end u q at_hand x ts p.kind p.count 0 passed finds in
    subst (λ b. StandsAfter is_end u (record (plain_of r p.space p.count) { in_comment = b }) left x us) (sym e)
    (stands-scanned is_end u (found_of q p.count 0) left x us r.scan found (scan-nothing r.updates (drop r.cut at_hand) left r.scan n h.read.scanned))
