-- Each text has a cut, which is read off its characters.
use Rattle.std.proofs.Common.{◌≡◌, ◌≢◌, ℕ, zero, suc, ◌<◌, ◌≤◌, Bool, true, false, List, [], ◌∷◌, ◌++◌, refl, sym, ap, ◌∙◌, arith, inl, subst, append_assoc, length, length-append, Option, Some, None, encode_utf8, encode_utf8_all, eq-eqb, if◌then◌else◌}
use Rattle.std.proofs.lemmas.Bool.{eqb-true, and_parts, and_from}
use Rattle.std.proofs.lemmas.Bool.Decides.{nat_tests}
use Rattle.std.proofs.lemmas.Str.{encode_same, len_utf8_bounds, length-encode}
use Rattle.std.proofs.str.Laws.{one}
use Rattle.std.specs.Prelude.{◌==◌}
use Rattle.std.specs.Char.{IsScalar}
use Rattle.std.specs.Str.{all_scalars, StartsWithNoChar}
use lib.Utf8.{scalar}
use Rattle.gs_machine.specs.Utf8.{bad, Spells, nothing, char, fault, symbols}
use Rattle.gs_machine.proofs.Encodings.{scalar_from}
use Rattle.gs_machine.proofs.Utf8Lemmas.{spelt}
use Rattle.gs_automaton.proofs.BecomeLemmas.{becomes-on, no_end}
use Rattle.gs_automaton.specs.Automata.{Found, run_from, kind_at, Recognizes, longest}
use Rattle.gs_automaton.specs.Classes.{is_ws, is_line_end}
use Rattle.gs_lex.specs.Cuts.{PartedTokens, parted, from_kind, from_found, text_cut_from}
use Rattle.gs_lex.specs.Lexers.{LeadsLexer}
use Rattle.gs_lex.specs.Standing.{StandsAfter}
use Rattle.gs_lex.specs.Readings.{BeginsToken, gap_of}
use Rattle.gs_automaton.specs.States.{tokens, state_after, start_of}
use Rattle.gs_lex.specs.Tokens.{Cut, Gap, Between, InComment, CutEnd, Lexeme, Longest, NoTerminal, EndsLine, IsCut, place_after, token_kind, ended, space, hash, comment, line_end, bad_comment, token, no_kind, no_token}
use Rattle.gs_lex.specs.declared.kinds.TokenKind.{TokenKind}
use Rattle.gs_automaton.specs.declared.terminals.Terminal.{Terminal}
use Rattle.gs_lex.specs.declared.lexers.Lexer.{Lexer}
use Rattle.gs_lex.specs.declared.steps.Reading.{Reading}
use Rattle.gs_automaton.specs.declared.states.State.{State}
use Rattle.gs_automaton.specs.declared.states.State.TheVariants as at
use Rattle.gs_automaton.specs.declared.states.Mark.TheVariants as mark
use Rattle.gs_automaton.specs.declared.states.Text.TheVariants as text
use Rattle.gs_automaton.proofs.AutomatonLemmas.{Best, best, IsSplit, longest-split, nonempty, shorter}
use Rattle.gs_lex.proofs.LongestLemmas.{no_start}
use Rattle.gs_automaton.proofs.TerminalLemmas.{accepted-terminal, terminal-accepted}
use Rattle.gs_lex.proofs.StepLemmas.{space_low, line_end_low}

-- no token ends with bytes that are no character
bad_none : (u : Bool) (q : State) → kind_at (tokens u) (state_after q bad) ≡ None
bad_none u (at.Inside text.Iri) = refl
bad_none u (at.Inside (text.Short mark.Quote)) = refl
bad_none u (at.Inside (text.Short mark.Apostrophe)) = refl
bad_none u (at.Inside (text.Long mark.Quote)) = refl
bad_none u (at.Inside (text.Long mark.Apostrophe)) = refl
bad_none u (at.Escape text.Iri) = refl
bad_none u (at.Escape (text.Short m)) = refl
bad_none u (at.Escape (text.Long m)) = refl
bad_none u (at.First mark.Quote) = refl
bad_none u (at.First mark.Apostrophe) = refl
bad_none u (at.Empty mark.Quote) = refl
bad_none u (at.Empty mark.Apostrophe) = refl
bad_none u (at.Opened mark.Quote) = refl
bad_none u (at.Opened mark.Apostrophe) = refl
bad_none u (at.OneMark mark.Quote) = refl
bad_none u (at.OneMark mark.Apostrophe) = refl
bad_none u (at.TwoMarks mark.Quote) = refl
bad_none u (at.TwoMarks mark.Apostrophe) = refl
bad_none u _ = refl

-- the bytes x are the characters w, and then bytes that the characters r spell
pub record Spelt (x w r : List ℕ) : Type 0 where
  pub rest : List ℕ
  pub parts : x ≡ encode_utf8_all w ++ rest
  pub characters : all_scalars w ≡ true
  pub spells : Spells rest r

-- one character before them
one_more : (c : ℕ) (o x w r : List ℕ) → IsScalar c → x ≡ encode_utf8 c ++ o → Spelt o w r → Spelt x (c ∷ w) r
one_more c o x w r k e s = record {
  rest = s.rest;
  parts = e ∙ ap (λ z. encode_utf8 c ++ z) s.parts ∙ sym (append_assoc (encode_utf8 c) (encode_utf8_all w) s.rest);
  characters = and_from (scalar c) (all_scalars w) k s.characters;
  spells = s.spells;
}

-- characters with such bytes among them are no token
bad_inside : (u : Bool) (q : State) (t : Terminal) (c : ℕ) (w r : List ℕ) → bad ∷ [] ≡ c ∷ (w ++ r) → kind_at (tokens u) (run_from (tokens u) (state_after q c) w) ≡ Some t → ⊥
bad_inside u q t c [] r e k =
    let same : bad ≡ c = Prim.cc e in
    let none : kind_at (tokens u) (state_after q c) ≡ None = subst (λ z. kind_at (tokens u) (state_after q z) ≡ None) same (bad_none u q) in
    Prim.cc (sym none ∙ k)
bad_inside u q t c (d ∷ w) r e k = Prim.cc e

-- the bytes of a token
accepted_spelt : (u : Bool) (o : Option State) (t : Terminal) (w r x cs : List ℕ) → Spells x cs → cs ≡ w ++ r → kind_at (tokens u) (run_from (tokens u) o w) ≡ Some t → Spelt x w r
accepted_spelt u o t [] r x cs s e k = record { rest = x; parts = refl; characters = refl; spells = subst (Spells x) e s }
accepted_spelt u None t (c ∷ w) r x cs s e k = Prim.cc k
accepted_spelt u (Some q) t (c ∷ w) r _ _ nothing e k = Prim.cc e
accepted_spelt u (Some q) t (c ∷ w) r x _ (char d o cs s p h) e k =
    let same : d ≡ c = Prim.cc e in
    let others : cs ≡ w ++ r = Prim.cc e in
    one_more c o x w r (subst IsScalar same s) (p ∙ ap (λ z. encode_utf8 z ++ o) same) (accepted_spelt u (state_after q c) t w r o cs h others k)
accepted_spelt u (Some q) t (c ∷ w) r x _ (fault n h) e k = absurd (bad_inside u q t c w r e k)

no_encode : (c : ℕ) (o : List ℕ) → [] ≡ encode_utf8 c ++ o → ⊥
no_encode c o e =
    let h = len_utf8_bounds c in
    let k : 0 ≡ length (encode_utf8 c ++ o) = ap length e in
    omega (arith, length-append (encode_utf8 c) o, length-encode c, h.0, k)

-- characters at the front of bytes are the first that the bytes spell
front_spelt : (v s x cs : List ℕ) → Spells x cs → x ≡ encode_utf8_all v ++ s → all_scalars v ≡ true → (d : List ℕ) × (cs ≡ v ++ d)
front_spelt [] s x cs h e g = (cs, refl)
front_spelt (c ∷ v) s _ _ nothing e g = absurd (no_encode c (encode_utf8_all v ++ s) (e ∙ append_assoc (encode_utf8 c) (encode_utf8_all v) s))
front_spelt (c ∷ v) s x _ (char d o cs j p h) e g =
    let k = encode_same d c o (encode_utf8_all v ++ s) (sym p ∙ e ∙ append_assoc (encode_utf8 c) (encode_utf8_all v) s) in
    let r = front_spelt v s o cs h k.1 (and_parts (scalar c) (all_scalars v) g).1 in
    (r.0, ap (λ z. z ∷ cs) k.0 ∙ ap (λ z. c ∷ z) r.1)
front_spelt (c ∷ v) s x _ (fault n j) e g = absurd (j c (encode_utf8_all v ++ s) (and_parts (scalar c) (all_scalars v) g).0 (e ∙ append_assoc (encode_utf8 c) (encode_utf8_all v) s))

none_at : (u : Bool) (cs : List ℕ) → Best (tokens u) (Some (start_of u)) cs None → (t : Terminal) (v d : List ℕ) → cs ≡ v ++ d → Recognizes (tokens u) t v → ⊥
none_at u cs b t [] d p a = no_start u t a
none_at u cs b t (c ∷ v) d p a = b t (c ∷ v) d p (nonempty c v) a

-- where the automaton finds no token, there is none
found_none : (u : Bool) (x cs : List ℕ) → Spells x cs → Best (tokens u) (Some (start_of u)) cs None → NoTerminal u x
found_none u x cs h b t v s p g m = let d = front_spelt v s x cs h p g in none_at u cs b t v d.0 d.1 (terminal-accepted u t v m)

-- and the token that it finds is the longest
found_longest : (u : Bool) (x cs : List ℕ) (t : Terminal × List ℕ × List ℕ) → Spells x cs → Best (tokens u) (Some (start_of u)) cs (Some t) → (k : Spelt x t.1 t.2) → Longest u x t.0 t.1 k.rest
found_longest u x cs t h b k = record {
  parts = k.parts;
  characters = k.characters;
  is_terminal = accepted-terminal u t.0 t.1 b.0;
  most = λ j v s p g m. let d = front_spelt v s x cs h p g in b.1 j v d.0 d.1 (terminal-accepted u j v m);
}

-- the text x is cut so
abbrev pub IsParted : Bool → Gap → ℕ → ℕ → List ℕ → PartedTokens → Type 0
IsParted u m n l x p = Cut u m n l x p.0 p.1

-- after the longest token, whether it has a kind or not
kind_parted : (u : Bool) (n l : ℕ) (x : List ℕ) (t : Terminal) (w r cs : List ℕ) (go : ℕ → List ℕ → PartedTokens) (k : Option TokenKind) → Longest u x t w r → token_kind u t (encode_utf8_all w) ≡ k
    → IsParted u Between (place_after n (length (encode_utf8_all w))) (place_after n (length (encode_utf8_all w))) r (go (place_after n (length (encode_utf8_all w))) cs)
    → IsParted u Between n l x (from_kind go n l (encode_utf8_all w) cs k)
kind_parted u n l x t w r cs go None g e d = no_kind t w r g e
kind_parted u n l x t w r cs go (Some k) g e d = token t w r k g e d

-- where a token begins, whether the automaton finds one or not
found_parted : (u : Bool) (n l : ℕ) (x cs : List ℕ) (go : ℕ → List ℕ → PartedTokens) (f : Found Terminal ℕ) → Spells x cs → IsSplit cs f → Best (tokens u) (Some (start_of u)) cs f → BeginsToken x
    → ((k : ℕ) (y ds : List ℕ) → Spells y ds → length ds < length cs → IsParted u Between k k y (go k ds)) → IsParted u Between n l x (from_found go u n l f)
found_parted u n l x cs go None h s b t d = no_token t.first t.others t.parts t.no_space t.no_hash (found_none u x cs h b)
found_parted u n l x cs go (Some t) h s b i d =
    let k = accepted_spelt u (Some (start_of u)) t.0 t.1 t.2 x cs h s.parts b.0 in
    let place = place_after n (length (encode_utf8_all t.1)) in
    kind_parted u n l x t.0 t.1 k.rest t.2 go (token_kind u t.0 (encode_utf8_all t.1)) (found_longest u x cs t h b k) refl (d place k.rest t.2 k.spells (shorter s))

end_space : (c : ℕ) → is_line_end c ≡ true → is_ws c ≡ true
end_space c h = grind (arith, nat_tests)

-- some bytes, of which the first is neither white space nor '#' where it is a character of its own
begins : (x : List ℕ) → x ≢ [] → ((d : ℕ) (r : List ℕ) → x ≡ encode_utf8 d ++ r → d < 128 → (is_ws d ≡ false) × (d ≢ 35)) → BeginsToken x
begins [] n f = absurd (n refl)
begins (d ∷ r) n f = record { first = d; others = r; parts = refl; no_space = by_space (is_ws d) refl; no_hash = λ e. (low (omega (arith, e))).1 e }
  where
    low : d < 128 → (is_ws d ≡ false) × (d ≢ 35)
    low h = f d r (ap (λ z. z ++ r) (sym (one d h))) h

    by_space : (b : Bool) → is_ws d ≡ b → is_ws d ≡ false
    by_space true e = (low (space_low d e)).0
    by_space false e = e

-- where a character begins that is neither white space nor '#', or none, a token begins
begins_char : (x : List ℕ) (c : ℕ) (o : List ℕ) → x ≡ encode_utf8 c ++ o → is_ws c ≡ false → (c == 35) ≡ false → BeginsToken x
begins_char x c o e s h = begins x (λ k. no_encode c o (sym k ∙ e)) (λ d r p l.
    let same = (encode_same d c r o (sym p ∙ e)).0 in
    (ap is_ws same ∙ s, λ k. Prim.cc (sym h ∙ eq-eqb c 35 (sym same ∙ k))))

begins_bad : (x : List ℕ) → x ≢ [] → StartsWithNoChar x → BeginsToken x
begins_bad x n j = begins x n (λ d r p l. absurd (j d r (scalar_from d (inl (omega arith))) p))

-- either way of a test
by_test : (P : PartedTokens → Type 0) (b : Bool) (p q : PartedTokens) → (b ≡ true → P p) → (b ≡ false → P q) → P (if b then p else q)
by_test P true p q f g = f refl
by_test P false p q f g = g refl

no_scalar : (c : ℕ) → IsScalar c → (c == bad) ≡ true → ⊥
no_scalar c k e = let h : IsScalar bad = subst IsScalar (eqb-true c bad e) k in Prim.cc h

-- after the end of a comment's line
line_parted : (u : Bool) (n l : ℕ) (x : List ℕ) (c : ℕ) (o : List ℕ) (p : PartedTokens) → x ≡ encode_utf8 c ++ o → is_line_end c ≡ true → IsParted u Between (place_after n 1) l o p → IsParted u InComment n l x p
line_parted u n l x c o p e t d =
    let q : x ≡ c ∷ o = e ∙ ap (λ z. z ++ o) (one c (line_end_low c t)) in
    line_end (subst EndsLine (sym q) t) (space c o q (end_space c t) d)

one_byte : (x : List ℕ) (c : ℕ) (o : List ℕ) → x ≡ encode_utf8 c ++ o → c < 128 → x ≡ c ∷ o
one_byte x c o e h = e ∙ ap (λ z. z ++ o) (one c h)

hash_parts : (x : List ℕ) (c : ℕ) (o : List ℕ) → x ≡ encode_utf8 c ++ o → (c == 35) ≡ true → x ≡ 35 ∷ o
hash_parts x c o e h = let k = eqb-true c 35 h in one_byte x c o e (omega (arith, k)) ∙ ap (λ z. z ∷ o) k

-- the cut of the characters that a text spells, where there are enough steps for them
pub parted-cut : (f : ℕ) (u : Bool) (m : Gap) (n l : ℕ) (x cs : List ℕ) → Spells x cs → length cs ≤ f → IsParted u m n l x (parted f u m n l cs)
unfolding parted
parted-cut f u Between n l _ _ nothing h = ended refl
parted-cut f u InComment n l _ _ nothing h = line_end tt (ended refl)
parted-cut zero u m n l x _ (char c o cs s e q) h = absurd (omega arith)
parted-cut zero u m n l x _ (fault k j) h = absurd (omega arith)
parted-cut (suc f) u InComment n l x _ (fault k j) h = bad_comment k j
parted-cut (suc f) u InComment n l x _ (char c o cs s e q) h =
    let P = IsParted u InComment n l x in
    by_test P (c == bad) _ _ (λ t. absurd (no_scalar c s t)) (λ _.
    by_test P (is_line_end c) _ _ (λ t. line_parted u n l x c o _ e t (parted-cut f u Between (place_after n 1) l o cs q (omega (arith, h)))) (λ t.
    comment c o e s t (parted-cut f u InComment (place_after n (length (encode_utf8 c))) l o cs q (omega (arith, h)))))
parted-cut (suc f) u Between n l x _ (fault k j) h =
    found_parted u n l x (bad ∷ []) (λ k ds. parted f u Between k k ds) (longest (tokens u) (bad ∷ [])) (fault k j) (longest-split (tokens u) (Some (start_of u)) (bad ∷ [])) (best (tokens u) (Some (start_of u)) (bad ∷ [])) (begins_bad x k j)
    (λ p y ds g i. parted-cut f u Between p p y ds g (omega (arith, h, i)))
parted-cut (suc f) u Between n l x _ (char c o cs s e q) h =
    let P = IsParted u Between n l x in
    by_test P (is_ws c) _ _ (λ t. space c o (one_byte x c o e (space_low c t)) t (parted-cut f u Between (place_after n 1) l o cs q (omega (arith, h)))) (λ w.
    by_test P (c == 35) _ _ (λ t. hash o (hash_parts x c o e t) (parted-cut f u InComment (place_after n 1) l o cs q (omega (arith, h)))) (λ i.
    found_parted u n l x (c ∷ cs) (λ k ds. parted f u Between k k ds) (longest (tokens u) (c ∷ cs)) (char c o cs s e q) (longest-split (tokens u) (Some (start_of u)) (c ∷ cs)) (best (tokens u) (Some (start_of u)) (c ∷ cs)) (begins_char x c o e w i)
    (λ p y ds g j. parted-cut f u Between p p y ds g (omega (arith, h, j)))))

-- each text has a cut, from each place
pub cut-from : (u : Bool) (m : Gap) (n l : ℕ) (x : List ℕ) → Cut u m n l x (text_cut_from u m n l x).0 (text_cut_from u m n l x).1
cut-from u m n l x = parted-cut (length (symbols x)) u m n l x (symbols x) (spelt x) (omega arith)

-- where a lexer of pieces that were fed stands
pub leads-stands : (u : Bool) (l : Lexer) (x : List ℕ) (ts : List Lexeme) → LeadsLexer u l x ts → StandsAfter false u l.at l.held.items x ts
leads-stands u l x ts h = record { reads = h.reads; read = h.read; before = h.before; parts = h.parts; characters = h.characters; rest = h.rest }

-- a text of which a reading has cut some tokens has a cut, however it goes on, and they are its first
pub stands-goes-on : (u : Bool) (r : Reading) (left x : List ℕ) (ts : List Lexeme) → StandsAfter false u r left x ts → (y : List ℕ) → (us : List Lexeme) × (e : CutEnd) × IsCut u (x ++ y) (ts ++ us) e
stands-goes-on u r left x ts h y =
    let p = text_cut_from r.updates (gap_of r.in_comment) r.place r.last (left ++ y) in
    let c = h.rest (left ++ y) p.0 p.1 (becomes-on false left y (no_end y)) (cut-from r.updates (gap_of r.in_comment) r.place r.last (left ++ y)) in
    (p.0, p.1, subst (λ z. IsCut u z (ts ++ p.0) p.1) (sym (append_assoc h.before left y) ∙ ap (λ z. z ++ y) (sym h.parts)) c)

-- so has a text that a lexer was fed
pub leads-goes-on : (u : Bool) (l : Lexer) (x : List ℕ) (ts : List Lexeme) → LeadsLexer u l x ts → (y : List ℕ) → (us : List Lexeme) × (e : CutEnd) × IsCut u (x ++ y) (ts ++ us) e
leads-goes-on u l x ts h y = stands-goes-on u l.at l.held.items x ts (leads-stands u l x ts h) y
