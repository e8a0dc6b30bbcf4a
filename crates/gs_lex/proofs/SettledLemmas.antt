-- Each token is given as soon as no continuation of the text changes it, and the text may go on quietly.
use Rattle.std.proofs.Common.{◌≡◌, ◌≢◌, ℕ, ◌<◌, Bool, true, false, List, [], ◌∷◌, ◌++◌, refl, sym, ap, ◌∙◌, arith, subst, append_assoc, append-nil, length, length-append, Some, encode_utf8, encode_utf8_all, if◌then◌else◌}
use Rattle.std.proofs.lemmas.Bool.{eqb-true}
use Rattle.std.proofs.lemmas.Str.{encodes-append, len_utf8_bounds, length-encode, IsUtf8-nil, IsUtf8-append}
use Rattle.std.proofs.str.Laws.{one as one_byte}
use Rattle.std.specs.Str.{all_scalars, IsUtf8}
use Rattle.gs_machine.specs.Machines.{Begins}
use Rattle.gs_machine.specs.Utf8.{IsLongestFront}
use Rattle.gs_machine.proofs.FrontLemmas.{front_of_parts, one_front}
use Rattle.gs_automaton.specs.Automata.{Recognizes, run, run_from, kind_at}
use Rattle.gs_automaton.specs.Regexes.{Matches, One, Then, both, one}
use Rattle.gs_automaton.specs.States.{tokens, start_of}
use Rattle.gs_automaton.specs.Scans.{IsScanned, recut}
use Rattle.gs_automaton.specs.Symbols.{IsShort}
use Rattle.gs_automaton.specs.Terminals.{has_char, Caret}
use Rattle.gs_lex.specs.Tokens.{Cut, Between, InComment, CutEnd, AtEnd, AtFault, Lexeme, IsCut, lexeme_at, has_text, token_kind, Longest, NoTerminal, ended, token, no_token, line_end}
use Rattle.gs_lex.specs.Readings.{CutFrom, Waits, inside, between, begun, gap_of}
use Rattle.gs_lex.specs.Cuts.{text_cut_from}
use Rattle.gs_lex.specs.Lexers.{Stay, MayGoQuietly}
use Rattle.gs_lex.specs.Standing.{StandsAfter, Awaits}
use Rattle.gs_lex.specs.declared.kinds.TokenKind.{TokenKind}
use Rattle.gs_automaton.specs.declared.terminals.Terminal.{Terminal}
use Rattle.gs_automaton.specs.declared.terminals.Terminal.TheVariants as kind
use Rattle.gs_automaton.specs.declared.states.State.{State}
use Rattle.gs_automaton.specs.declared.states.State.TheVariants as at
use Rattle.gs_lex.specs.declared.steps.Reading.{Reading}
use Rattle.gs_automaton.proofs.AutomatonLemmas.{run-append}
use Rattle.gs_lex.proofs.BarrenLemmas.{scalars-join}
use Rattle.gs_automaton.proofs.BecomeLemmas.{short-begins, short-nothing}
use Rattle.gs_lex.proofs.LongestLemmas.{Compared, within, beyond, compare, no_start}
use Rattle.gs_automaton.proofs.ScanLemmas.{scan-after}
use Rattle.gs_automaton.proofs.TerminalLemmas.{accepted-terminal, terminal-accepted}
use Rattle.gs_lex.proofs.CutLemmas.{cut-from}
use Rattle.gs_lex.proofs.OneCutLemmas.{cut-one}
use Rattle.gs_lex.proofs.WayLemmas.{Ways, Goes, goes, ended as has_ended, caret, may-go}

no_encode : (c : ℕ) (o : List ℕ) → [] ≡ encode_utf8 c ++ o → ⊥
no_encode c o e =
    let h = len_utf8_bounds c in
    let k : 0 ≡ length (encode_utf8 c ++ o) = ap length e in
    omega (arith, length-append (encode_utf8 c) o, length-encode c, h.0, k)

first_begins : {O : Type 0} (a b : O) (us m n : List O) (c : O) → a ∷ [] ≡ (c ∷ us) ++ m → b ∷ [] ≡ (c ∷ us) ++ n → a ≡ b
first_begins a b us m n c e f = Prim.cc

-- a front of two lists that differ in their last item
begins_both : {O : Type 0} (ts us : List O) (a b : O) → Begins (ts ++ a ∷ []) us → Begins (ts ++ b ∷ []) us → a ≢ b → Begins ts us
begins_both ts [] a b h k n = (ts, refl)
begins_both [] (c ∷ us) a b h k n = absurd (n (first_begins a b us h.0 k.0 c h.1 k.1))
begins_both (t ∷ ts) (c ∷ us) a b h k n =
    let same : t ≡ c = Prim.cc (h.1) in
    let one : ts ++ a ∷ [] ≡ us ++ h.0 = Prim.cc (h.1) in
    let other : ts ++ b ∷ [] ≡ us ++ k.0 = Prim.cc (k.1) in
    let r = begins_both ts us a b (h.0, one) (k.0, other) n in
    (r.0, ap (λ z. z ∷ ts) same ∙ ap (λ z. c ∷ z) r.1)

-- a text that is a token is its longest
whole_longest : (u : Bool) (x w : List ℕ) (t : Terminal) → x ≡ encode_utf8_all w → all_scalars w ≡ true → Recognizes (tokens u) t w → Longest u x t w []
whole_longest u x w t e g a = record {
  parts = e ∙ sym (append-nil (encode_utf8_all w));
  characters = g;
  is_terminal = accepted-terminal u t w a;
  most = λ j v s p h k. elim (compare v w s [] (sym p ∙ e ∙ sym (append-nil (encode_utf8_all w)))) [
    | within d q ↦ omega (arith, ap length q, length-append v d)
    | beyond c d q r ↦ absurd (no_encode c (encode_utf8_all d ++ s) r)
  ];
}

whole_cut : (u : Bool) (n l : ℕ) (x w : List ℕ) (t : Terminal) (k : TokenKind) → x ≡ encode_utf8_all w → all_scalars w ≡ true → Recognizes (tokens u) t w → token_kind u t (encode_utf8_all w) ≡ Some k
    → Cut u Between n l x (lexeme_at k n (encode_utf8_all w) ∷ []) AtEnd
whole_cut u n l x w t k e g a i = token t w [] k (whole_longest u x w t e g a) i (ended refl)

-- one '^' is no token
two_chars : (a b c : ℕ) (cs : List ℕ) → a ≡ 94 → (a ∷ []) ++ (b ∷ []) ≡ (c ∷ cs) ++ 94 ∷ [] → c ∷ cs ≡ 94 ∷ []
two_chars a b c [] e p = let same : a ≡ c = Prim.cc p in ap (λ z. z ∷ []) (sym same ∙ e)
two_chars a b c (d ∷ cs) e p = let short = ap length p in absurd (omega (arith, short, length-append cs (94 ∷ [])))

no_caret : (u : Bool) → start_of u ≡ at.Caret → ⊥
no_caret false e = Prim.cc e
no_caret true e = Prim.cc e

caret_chars : (x : List ℕ) (c : ℕ) (cs : List ℕ) → Matches has_char (Then (One Caret) (One Caret)) x → x ≡ (c ∷ cs) ++ 94 ∷ [] → c ∷ cs ≡ 94 ∷ []
caret_chars _ c cs (both _ _ p (one {c = a} h) (one {c = b} k)) e = two_chars a b c cs (eqb-true a 94 h) (sym p ∙ e)

caret_alone : (u : Bool) (cs : List ℕ) → run (tokens u) cs ≡ Some at.Caret → cs ≡ 94 ∷ []
caret_alone u [] h = absurd (no_caret u (Prim.cc h))
caret_alone u (c ∷ cs) h =
    let carets : Recognizes (tokens u) kind.Carets ((c ∷ cs) ++ 94 ∷ []) = ap (kind_at (tokens u)) (run-append (tokens u) (Some (tokens u).start) (c ∷ cs) (94 ∷ []) ∙ ap (λ o. run_from (tokens u) o (94 ∷ [])) h) in
    caret_chars ((c ∷ cs) ++ 94 ∷ []) c cs (accepted-terminal u kind.Carets ((c ∷ cs) ++ 94 ∷ []) carets) refl

no_caret_token : (u : Bool) (t : Terminal) (v d : List ℕ) → v ++ d ≡ 94 ∷ [] → Recognizes (tokens u) t v → ⊥
no_caret_token u t [] d e a = no_start u t a
no_caret_token false t (c ∷ []) d e a =
    let same : c ≡ 94 = Prim.cc e in
    let k = subst (λ z. Recognizes (tokens false) t (z ∷ [])) same a in Prim.cc k
no_caret_token true t (c ∷ []) d e a =
    let same : c ≡ 94 = Prim.cc e in
    let k = subst (λ z. Recognizes (tokens true) t (z ∷ [])) same a in Prim.cc k
no_caret_token u t (c ∷ b ∷ v) d e a = absurd (omega (arith, ap length e, length-append v d))

-- how a text may go on: so that no token comes, or so that one comes, of a kind that has a text, or another
pub data GoesOn (u : Bool) (x : List ℕ) (ts : List Lexeme) : Type 0 where
  nothing_more : (y : List ℕ) (e : CutEnd) → IsCut u (x ++ y) (ts ++ []) e → GoesOn u x ts
  one_or_other : (y z : List ℕ) (a b : Lexeme) → has_text a.kind ≡ true → a ≢ b → IsCut u (x ++ y) (ts ++ a ∷ []) AtEnd → IsCut u (x ++ z) (ts ++ b ∷ []) AtEnd → GoesOn u x ts

-- then the tokens that each continuation has are those before it
on-all : (u : Bool) (x : List ℕ) (ts : List Lexeme) → GoesOn u x ts → (more : List Lexeme) → Stay u x more → Begins ts more
on-all u x ts (nothing_more y e c) us f = subst (λ z. Begins z us) (append-nil ts) (f y (ts ++ []) e c)
on-all u x ts (one_or_other y z a b h n c d) us f = begins_both ts us a b (f y (ts ++ a ∷ []) AtEnd c) (f z (ts ++ b ∷ []) AtEnd d) n

-- and one of its continuations is quiet
on-quietly : (u : Bool) (x : List ℕ) (ts : List Lexeme) → GoesOn u x ts → MayGoQuietly u x ts
on-quietly u x ts (nothing_more y e c) = record { onward = y; last = []; ending = e; quiet = tt; cut = c }
on-quietly u x ts (one_or_other y z a b h n c d) = record { onward = y; last = a ∷ []; ending = AtEnd; quiet = h; cut = c }

-- Where a reading stands in the text x, and front is the longest front of x that ends between two characters: the characters that
-- are held, and that front cut from there on, however it goes on.
record FromFront (u : Bool) (l : Reading) (front : List ℕ) (ts : List Lexeme) (held : List ℕ) : Type 0 where
  pub on : (y : List ℕ) (us : List Lexeme) (e : CutEnd) → CutFrom l (held ++ y) us e → IsCut u (front ++ y) (ts ++ us) e
  pub reads : l.updates ≡ u

between_cut : (u : Bool) (l : Reading) (x : List ℕ) (ts : List Lexeme) (e : CutEnd) → l.updates ≡ u → l.in_comment ≡ false → Cut u Between l.place l.last x ts e → CutFrom l x ts e
between_cut u l x ts e h k c = subst (λ b. Cut l.updates (gap_of b) l.place l.last x ts e) (sym k) (subst (λ b. Cut b Between l.place l.last x ts e) (sym h) c)

comment_cut : (u : Bool) (l : Reading) (x : List ℕ) (ts : List Lexeme) (e : CutEnd) → l.updates ≡ u → l.in_comment ≡ true → Cut u InComment l.place l.last x ts e → CutFrom l x ts e
comment_cut u l x ts e h k c = subst (λ b. Cut l.updates (gap_of b) l.place l.last x ts e) (sym k) (subst (λ b. Cut b InComment l.place l.last x ts e) (sym h) c)

-- no character is held
empty_held : (u : Bool) (l : Reading) (x : List ℕ) (ts : List Lexeme) → FromFront u l x ts [] → CutFrom l [] [] AtEnd → GoesOn u x ts
empty_held u l x ts h c = nothing_more [] AtEnd (h.on [] [] AtEnd c)

-- the token that one way on leads to
way_token : (u : Bool) (l : Reading) (x cs v : List ℕ) (ts : List Lexeme) (q : State) (t : Terminal) (k : TokenKind) → FromFront u l x ts (encode_utf8_all cs) → l.in_comment ≡ false → all_scalars cs ≡ true
    → run (tokens u) cs ≡ Some q → kind_at (tokens u) (run_from (tokens u) (Some q) v) ≡ Some t → all_scalars v ≡ true → ((z : List ℕ) → token_kind u t z ≡ Some k)
    → IsCut u (x ++ encode_utf8_all v) (ts ++ lexeme_at k l.place (encode_utf8_all (cs ++ v)) ∷ []) AtEnd
way_token u l x cs v ts q t k h b g r a i j =
    let accepted : Recognizes (tokens u) t (cs ++ v) = ap (kind_at (tokens u)) (run-append (tokens u) (Some (tokens u).start) cs v ∙ ap (λ o. run_from (tokens u) o v) r) ∙ a in
    let held = encode_utf8_all cs ++ encode_utf8_all v in
    h.on (encode_utf8_all v) (lexeme_at k l.place (encode_utf8_all (cs ++ v)) ∷ []) AtEnd
    (between_cut u l held (lexeme_at k l.place (encode_utf8_all (cs ++ v)) ∷ []) AtEnd h.reads b
    (whole_cut u l.place l.last held (cs ++ v) t k (sym (encodes-append cs v)) (scalars-join cs v g i) accepted (j (encode_utf8_all (cs ++ v)))))

text_at : (k : TokenKind) (n : ℕ) (x : List ℕ) → has_text k ≡ true → (lexeme_at k n x).text ≡ x
text_at k n x h = ap (λ b. if b then x else []) h

-- as many characters have as many bytes at least
differ_bytes : (cs v w : List ℕ) → encode_utf8_all (cs ++ v) ≡ encode_utf8_all (cs ++ w) → all_scalars (cs ++ v) ≡ true → all_scalars (cs ++ w) ≡ true → length v < length w → ⊥
differ_bytes cs v w e g h l = elim (compare (cs ++ w) (cs ++ v) [] [] (ap (λ z. z ++ []) (sym e))) [
  | within d p ↦ omega (arith, l, ap length p, length-append (cs ++ w) d, length-append cs v, length-append cs w)
  | beyond c d p q ↦ no_encode c (encode_utf8_all d ++ []) q
]

two_ways : (u : Bool) (l : Reading) (x cs : List ℕ) (ts : List Lexeme) (q : State) → FromFront u l x ts (encode_utf8_all cs) → l.in_comment ≡ false → all_scalars cs ≡ true
    → run (tokens u) cs ≡ Some q → Ways q → GoesOn u x ts
two_ways u l x cs ts q h b g r w =
    let one = lexeme_at w.kind l.place (encode_utf8_all (cs ++ w.one)) in
    let other = lexeme_at w.kind l.place (encode_utf8_all (cs ++ w.other)) in
    one_or_other (encode_utf8_all w.one) (encode_utf8_all w.other) one other w.holds_text
    (λ same. differ_bytes cs w.one w.other
    (sym (text_at w.kind l.place (encode_utf8_all (cs ++ w.one)) w.holds_text) ∙ ap (λ (t : Lexeme). t.text) same ∙ text_at w.kind l.place (encode_utf8_all (cs ++ w.other)) w.holds_text)
    (scalars-join cs w.one g w.scalars_one) (scalars-join cs w.other g w.scalars_other) w.longer)
    (way_token u l x cs w.one ts q w.terminal w.kind h b g r (w.to_one u) w.scalars_one (w.is_kind u))
    (way_token u l x cs w.other ts q w.terminal w.kind h b g r (w.to_other u) w.scalars_other (w.is_kind u))

-- the bytes of one '^'
caret_bytes : encode_utf8_all (94 ∷ []) ≡ 94 ∷ []
caret_bytes = append-nil (encode_utf8 94) ∙ one_byte 94 (omega arith)

-- one '^' that nothing follows begins with no token
caret_ends : (u : Bool) → NoTerminal u (94 ∷ [])
caret_ends u t v s p g a = caret_case u t v s (compare v (94 ∷ []) s [] (sym p ∙ sym caret_bytes ∙ sym (append-nil (encode_utf8_all (94 ∷ []))))) g (terminal-accepted u t v a)
  where
    caret_case : (u : Bool) (t : Terminal) (v s : List ℕ) → Compared v (94 ∷ []) s [] → all_scalars v ≡ true → Recognizes (tokens u) t v → ⊥
    caret_case u t v s (within d q) g a = no_caret_token u t v d (sym q) a
    caret_case u t v s (beyond c d q r) g a = no_encode c (encode_utf8_all d ++ s) r

-- so it is a fault
caret_fault : (u : Bool) (l : Reading) (x : List ℕ) (ts : List Lexeme) (cs : List ℕ) → FromFront u l x ts (encode_utf8_all cs) → l.in_comment ≡ false → run (tokens u) cs ≡ Some at.Caret → GoesOn u x ts
caret_fault u l x ts cs h b r =
    let held : encode_utf8_all cs ≡ 94 ∷ [] = ap encode_utf8_all (caret_alone u cs r) ∙ caret_bytes in
    nothing_more [] (AtFault l.last)
    (h.on [] [] (AtFault l.last)
    (subst (λ z. CutFrom l z [] (AtFault l.last)) (sym (append-nil (encode_utf8_all cs) ∙ held))
    (between_cut u l (94 ∷ []) [] (AtFault l.last) h.reads b (no_token 94 [] refl refl (λ e. Prim.cc e) (caret_ends u)))))

begun_on : (u : Bool) (l : Reading) (x : List ℕ) (ts : List Lexeme) (cs : List ℕ) (q : State) → FromFront u l x ts (encode_utf8_all cs) → l.in_comment ≡ false → all_scalars cs ≡ true → run (tokens u) cs ≡ Some q
    → ((t : Terminal) → q ≢ at.Ended t) → Goes q → GoesOn u x ts
begun_on u l x ts cs q h b g r n (goes w) = two_ways u l x cs ts q h b g r w
begun_on u l x ts cs q h b g r n (has_ended j e) = absurd (n j e)
begun_on u l x ts cs q h b g r n (caret e) = caret_fault u l x ts cs h b (r ∙ ap Some e)

-- the characters that are left, before the first bytes of one more
from_front : (u : Bool) (l : Reading) (left x front : List ℕ) (ts : List Lexeme) (held short : List ℕ) → (h : StandsAfter false u l left x ts) → left ≡ held ++ short → IsUtf8 held → IsShort short
    → IsLongestFront x front → FromFront u l front ts held
from_front u l left x front ts held short h p g s f =
    let here : IsLongestFront x (h.before ++ held) =
    front_of_parts x (h.before ++ held) short (h.parts ∙ ap (λ z. h.before ++ z) p ∙ sym (append_assoc h.before held short)) (IsUtf8-append h.before held h.characters g) (short-begins short s) in
    record {
      on = λ y us e c. subst (λ z. IsCut u z (ts ++ us) e) (sym (append_assoc h.before held y) ∙ ap (λ z. z ++ y) (one_front x (h.before ++ held) front here f))
          (h.rest (held ++ y) us e (recut held short y refl p g s refl) c);
      reads = h.reads;
    }

-- however that front goes on, its tokens begin with those that were given
stays_on : (u : Bool) (l : Reading) (front : List ℕ) (ts : List Lexeme) (held : List ℕ) → FromFront u l front ts held → Stay u front ts
stays_on u l front ts held h y vs e c =
    let p = text_cut_from l.updates (gap_of l.in_comment) l.place l.last (held ++ y) in
    let d = h.on y p.0 p.1 (cut-from l.updates (gap_of l.in_comment) l.place l.last (held ++ y)) in
    (p.0, (cut-one u Between 0 0 (front ++ y) vs (ts ++ p.0) e p.1 c d).0)

-- where a piece was read and the reading waits
goes_on_at : (u : Bool) (l : Reading) (left x front : List ℕ) (ts : List Lexeme) → StandsAfter false u l left x ts → Waits l.in_comment left l.scan → IsLongestFront x front → GoesOn u front ts × Stay u front ts
goes_on_at u l left x front ts h (inside c s) f =
    let k = from_front u l left x front ts [] left h refl IsUtf8-nil s f in
    (empty_held u l front ts k (comment_cut u l [] [] AtEnd h.reads c (line_end tt (ended refl))), stays_on u l front ts [] k)
goes_on_at u l left x front ts h (between b e) f =
    let k = from_front u l left x front ts [] [] h e IsUtf8-nil short-nothing f in
    (empty_held u l front ts k (between_cut u l [] [] AtEnd h.reads b (ended refl)), stays_on u l front ts [] k)
goes_on_at u l left x front ts h (begun b t s n) f =
    let k : IsScanned u left l.scan = subst (λ z. IsScanned z left l.scan) h.reads h.read.scanned in
    let held = encode_utf8_all k.chars in
    let g = from_front u l left x front ts held k.after h k.parts (k.chars, (k.characters, refl)) (subst IsShort (scan-after u left l.scan k) s) f in
    (begun_on u l front ts k.chars l.scan.state g b k.characters k.stands n (may-go l.scan.state), stays_on u l front ts held g)

-- all settled tokens are those given, and the text may go on quietly
pub awaits-at : (u : Bool) (l : Reading) (left x : List ℕ) (ts : List Lexeme) → StandsAfter false u l left x ts → Waits l.in_comment left l.scan → Awaits u x ts
awaits-at u l left x ts h w = record {
  settled = λ front f. let g = goes_on_at u l left x front ts h w f in record { stay = g.1; are_all = on-all u front ts g.0 };
  quiet = λ front f. on-quietly u front ts (goes_on_at u l left x front ts h w f).0;
}
