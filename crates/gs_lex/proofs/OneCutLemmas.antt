-- A text is cut in one way.
use Rattle.std.proofs.Math.Seq.{drop-append_seam}
use Rattle.std.proofs.Common.{◌≡◌, ◌≢◌, ℕ, ◌<◌, Bool, true, false, List, [], ◌∷◌, ◌++◌, refl, sym, ap, ◌∙◌, arith, subst, append-nil, length, length-append, Option, Some, None, drop, encode_utf8, encode_utf8_all, ◌⊎◌, inl, inr, append_assoc}
use Rattle.std.proofs.lemmas.Bool.Decides.{nat_tests}
use Rattle.std.proofs.lemmas.Str.{encode_same, length-encode, len_utf8_bounds}
use Rattle.std.proofs.str.Laws.{one}
use Rattle.std.specs.Str.{StartsWithNoChar}
use Rattle.gs_machine.proofs.Encodings.{scalar_from}
use Rattle.gs_automaton.specs.Automata.{Recognizes, run, run_from, kind_at}
use Rattle.gs_automaton.specs.Classes.{is_ws, is_line_end}
use Rattle.gs_automaton.specs.States.{tokens, state_after, start_of}
use Rattle.gs_lex.specs.Tokens.{Cut, Gap, Between, InComment, CutEnd, Lexeme, lexeme_at, place_after, token_kind, Longest, NoTerminal, EndsLine, ended, space, hash, comment, line_end, bad_comment, token, no_kind, no_token}
use Rattle.gs_automaton.specs.declared.terminals.Terminal.{Terminal}
use Rattle.gs_automaton.proofs.AutomatonLemmas.{none-stays}
use Rattle.gs_lex.proofs.LongestLemmas.{Compared, within, beyond, compare, no_start}
use Rattle.gs_automaton.proofs.TerminalLemmas.{terminal-accepted}
use Rattle.gs_lex.proofs.StepLemmas.{line_end_low}

some_encode : (c : ℕ) (o : List ℕ) → encode_utf8 c ++ o ≡ [] → ⊥
some_encode c o e =
    let h = len_utf8_bounds c in
    let k : length (encode_utf8 c ++ o) ≡ 0 = ap length e in
    omega (arith, length-append (encode_utf8 c) o, length-encode c, h.0, k)

space_is : (c : ℕ) → is_ws c ≡ true → (c ≡ 32) ⊎ ((c ≡ 9) ⊎ ((c ≡ 13) ⊎ (c ≡ 10)))
space_is c h = grind (arith, nat_tests)

line_end_is : (c : ℕ) → is_line_end c ≡ true → (c ≡ 10) ⊎ (c ≡ 13)
line_end_is c h = grind (arith, nat_tests)

-- no token begins with white space, nor with '#'
dead_at : (u : Bool) (c : ℕ) → (c ≡ 35) ⊎ ((c ≡ 32) ⊎ ((c ≡ 9) ⊎ ((c ≡ 13) ⊎ (c ≡ 10)))) → (state_after (start_of u) c ≡ None) × (c < 128)
dead_at true c (inl e) = subst (λ z. (state_after (start_of true) z ≡ None) × (z < 128)) (sym e) (refl, omega arith)
dead_at true c (inr (inl e)) = subst (λ z. (state_after (start_of true) z ≡ None) × (z < 128)) (sym e) (refl, omega arith)
dead_at true c (inr (inr (inl e))) = subst (λ z. (state_after (start_of true) z ≡ None) × (z < 128)) (sym e) (refl, omega arith)
dead_at true c (inr (inr (inr (inl e)))) = subst (λ z. (state_after (start_of true) z ≡ None) × (z < 128)) (sym e) (refl, omega arith)
dead_at true c (inr (inr (inr (inr e)))) = subst (λ z. (state_after (start_of true) z ≡ None) × (z < 128)) (sym e) (refl, omega arith)
dead_at false c (inl e) = subst (λ z. (state_after (start_of false) z ≡ None) × (z < 128)) (sym e) (refl, omega arith)
dead_at false c (inr (inl e)) = subst (λ z. (state_after (start_of false) z ≡ None) × (z < 128)) (sym e) (refl, omega arith)
dead_at false c (inr (inr (inl e))) = subst (λ z. (state_after (start_of false) z ≡ None) × (z < 128)) (sym e) (refl, omega arith)
dead_at false c (inr (inr (inr (inl e)))) = subst (λ z. (state_after (start_of false) z ≡ None) × (z < 128)) (sym e) (refl, omega arith)
dead_at false c (inr (inr (inr (inr e)))) = subst (λ z. (state_after (start_of false) z ≡ None) × (z < 128)) (sym e) (refl, omega arith)

accepts_dead : (u : Bool) (c : ℕ) (w : List ℕ) (t : Terminal) → state_after (start_of u) c ≡ None → Recognizes (tokens u) t (c ∷ w) → ⊥
accepts_dead u c w t e h = Prim.cc (sym (ap (λ o. kind_at (tokens u) (run_from (tokens u) o w)) e ∙ ap (kind_at (tokens u)) (none-stays (tokens u) w)) ∙ h)

longest_dead : (u : Bool) (t : Terminal) (w r : List ℕ) (c : ℕ) (s : List ℕ) → c ∷ s ≡ encode_utf8_all w ++ r → Recognizes (tokens u) t w → (state_after (start_of u) c ≡ None) × (c < 128) → ⊥
longest_dead u t [] r c s e h k = no_start u t h
longest_dead u t (d ∷ w) r c s e h k =
    let p : encode_utf8 c ++ s ≡ encode_utf8 d ++ (encode_utf8_all w ++ r) = ap (λ z. z ++ s) (one c k.1) ∙ e ∙ append_assoc (encode_utf8 d) (encode_utf8_all w) r in
    let same = (encode_same c d s (encode_utf8_all w ++ r) p).0 in
    accepts_dead u d w t (subst (λ z. state_after (start_of u) z ≡ None) same k.0) h

nil_longest : (u : Bool) (t : Terminal) (w r : List ℕ) → [] ≡ encode_utf8_all w ++ r → Recognizes (tokens u) t w → ⊥
nil_longest u t [] r e h = no_start u t h
nil_longest u t (d ∷ w) r e h = some_encode d (encode_utf8_all w ++ r) (sym (append_assoc (encode_utf8 d) (encode_utf8_all w) r) ∙ sym e)

-- what stands at the front of a text
no_nil : (u : Bool) (x : List ℕ) (t : Terminal) (w r : List ℕ) → x ≡ [] → Longest u x t w r → ⊥
no_nil u x t w r e g = nil_longest u t w r (sym e ∙ g.parts) (terminal-accepted u t w g.is_terminal)

no_space : (u : Bool) (x : List ℕ) (t : Terminal) (w r : List ℕ) (c : ℕ) (s : List ℕ) → x ≡ c ∷ s → is_ws c ≡ true → Longest u x t w r → ⊥
no_space u x t w r c s e k g = longest_dead u t w r c s (sym e ∙ g.parts) (terminal-accepted u t w g.is_terminal) (dead_at u c (inr (space_is c k)))

no_hash : (u : Bool) (x : List ℕ) (t : Terminal) (w r s : List ℕ) → x ≡ 35 ∷ s → Longest u x t w r → ⊥
no_hash u x t w r s e g = longest_dead u t w r 35 s (sym e ∙ g.parts) (terminal-accepted u t w g.is_terminal) (dead_at u 35 (inl refl))

no_longest : (u : Bool) (x : List ℕ) (t : Terminal) (w r : List ℕ) → NoTerminal u x → Longest u x t w r → ⊥
no_longest u x t w r n g = n t w r g.parts g.characters g.is_terminal

heads : {c d : ℕ} {r s x : List ℕ} → x ≡ c ∷ r → x ≡ d ∷ s → (c ≡ d) × (r ≡ s)
heads e f = (Prim.cc, Prim.cc)

nil_head : {c : ℕ} {r x : List ℕ} → x ≡ [] → x ≡ c ∷ r → ⊥
nil_head e f = Prim.cc (sym e ∙ f)

space_hash : (c : ℕ) → c ≡ 35 → is_ws c ≡ true → ⊥
space_hash c e k = let h : is_ws 35 ≡ true = subst (λ z. is_ws z ≡ true) e k in Prim.cc h

space_both : (c d : ℕ) → c ≡ d → is_ws c ≡ true → is_ws d ≡ false → ⊥
space_both c d e k h = Prim.cc (sym k ∙ ap is_ws e ∙ h)

empty_list : (d : List ℕ) → length d ≡ 0 → d ≡ []
empty_list [] h = refl
empty_list (c ∷ d) h = absurd (omega arith)

same_chars : (v w r s : List ℕ) → length v ≡ length w → Compared v w r s → w ≡ v
same_chars v w r s l (within d p) = p ∙ ap (λ z. v ++ z) (empty_list d (omega (arith, l, ap length p, length-append v d))) ∙ append-nil v
same_chars v w r s l (beyond c d p q) = absurd (omega (arith, l, ap length p, length-append w (c ∷ d)))

pub record SameToken (t j : Terminal) (w v r s : List ℕ) : Type 0 where
  pub terminals : t ≡ j
  pub chars : w ≡ v
  pub rests : r ≡ s

some_same : {K : Type 0} {k j : K} → Some k ≡ Some j → k ≡ j
some_same e = Prim.cc

one_longest : (u : Bool) (x : List ℕ) (t j : Terminal) (w v r s : List ℕ) → Longest u x t w r → Longest u x j v s → SameToken t j w v r s
one_longest u x t j w v r s g h =
    let l : length v ≡ length w = omega (arith, g.most j v s h.parts h.characters h.is_terminal, h.most t w r g.parts g.characters g.is_terminal) in
    let same : w ≡ v = same_chars v w s r l (compare v w s r (sym h.parts ∙ g.parts)) in
    let back : r ≡ s = sym (drop-append_seam (encode_utf8_all w) r) ∙ ap (drop (length (encode_utf8_all w))) (sym g.parts ∙ h.parts)
    ∙ ap (λ z. drop (length (encode_utf8_all z)) (encode_utf8_all v ++ s)) same ∙ drop-append_seam (encode_utf8_all v) s in
    record {
      terminals = some_same (sym (terminal-accepted u t w g.is_terminal) ∙ ap (λ z. kind_at (tokens u) (run (tokens u) z)) same ∙ terminal-accepted u j v h.is_terminal);
      chars = same;
      rests = back;
    }

some_none : {K : Type 0} (k : K) (o : Option K) → o ≡ Some k → o ≡ None → ⊥
some_none k o e f = Prim.cc (sym e ∙ f)

comment_ends : (x : List ℕ) (c : ℕ) (r : List ℕ) → x ≡ encode_utf8 c ++ r → is_line_end c ≡ false → EndsLine x → ⊥
comment_ends [] c r p k h = some_encode c r (sym p)
comment_ends (b ∷ x) c r p k h =
    let same = (encode_same b c x r (ap (λ z. z ++ x) (one b (line_end_low b h)) ∙ p)).0 in
    Prim.cc (sym h ∙ ap is_line_end same ∙ k)

bad_ends : (x : List ℕ) → EndsLine x → x ≢ [] → StartsWithNoChar x → ⊥
bad_ends [] h n k = n refl
bad_ends (b ∷ x) h n k =
    let low = line_end_low b h in
    k b x (scalar_from b (inl (omega (arith, low)))) (ap (λ z. z ++ x) (sym (one b low)))

-- a text is cut in one way
pub cut-one : (u : Bool) (m : Gap) (n l : ℕ) (x : List ℕ) (ts us : List Lexeme) (e f : CutEnd) → Cut u m n l x ts e → Cut u m n l x us f → (ts ≡ us) × (e ≡ f)
cut-one u _ n l x _ _ _ _ (ended p) (ended q) = (refl, refl)
cut-one u _ n l x _ _ _ _ (ended p) (space c r q k d) = absurd (nil_head p q)
cut-one u _ n l x _ _ _ _ (ended p) (hash r q d) = absurd (nil_head p q)
cut-one u _ n l x _ _ _ _ (ended p) (token t w r k g h d) = absurd (no_nil u x t w r p g)
cut-one u _ n l x _ _ _ _ (ended p) (no_kind t w r g h) = absurd (no_nil u x t w r p g)
cut-one u _ n l x _ _ _ _ (ended p) (no_token c r q k h i) = absurd (nil_head p q)
cut-one u _ n l x _ _ _ _ (space c r p k d) (ended q) = absurd (nil_head q p)
cut-one u _ n l x ts us e f (space c r p k d) (space b s q j g) =
    cut-one u Between (place_after n 1) l r ts us e f d (subst (λ z. Cut u Between (place_after n 1) l z us f) (sym (heads p q).1) g)
cut-one u _ n l x _ _ _ _ (space c r p k d) (hash s q g) = absurd (space_hash c (heads p q).0 k)
cut-one u _ n l x _ _ _ _ (space c r p k d) (token t w s j g h i) = absurd (no_space u x t w s c r p k g)
cut-one u _ n l x _ _ _ _ (space c r p k d) (no_kind t w s g h) = absurd (no_space u x t w s c r p k g)
cut-one u _ n l x _ _ _ _ (space c r p k d) (no_token b s q j h i) = absurd (space_both c b (heads p q).0 k j)
cut-one u _ n l x _ _ _ _ (hash r p d) (ended q) = absurd (nil_head q p)
cut-one u _ n l x _ _ _ _ (hash r p d) (space b s q j g) = absurd (space_hash b (heads q p).0 j)
cut-one u _ n l x ts us e f (hash r p d) (hash s q g) =
    cut-one u InComment (place_after n 1) l r ts us e f d (subst (λ z. Cut u InComment (place_after n 1) l z us f) (sym (heads p q).1) g)
cut-one u _ n l x _ _ _ _ (hash r p d) (token t w s j g h i) = absurd (no_hash u x t w s r p g)
cut-one u _ n l x _ _ _ _ (hash r p d) (no_kind t w s g h) = absurd (no_hash u x t w s r p g)
cut-one u _ n l x _ _ _ _ (hash r p d) (no_token b s q j h i) = absurd (h (heads q p).0)
cut-one u _ n l x _ _ _ _ (token t w r k g h d) (ended q) = absurd (no_nil u x t w r q g)
cut-one u _ n l x _ _ _ _ (token t w r k g h d) (space c s q j i) = absurd (no_space u x t w r c s q j g)
cut-one u _ n l x _ _ _ _ (token t w r k g h d) (hash s q i) = absurd (no_hash u x t w r s q g)
cut-one u _ n l x _ _ e f (token {ts = ts} t w r k g h d) (token {ts = us} j v s b i q a) =
    let o = one_longest u x t j w v r s g i in
    let kinds : k ≡ b = some_same (sym h ∙ ap (λ z. token_kind u z (encode_utf8_all w)) o.terminals ∙ ap (λ z. token_kind u j (encode_utf8_all z)) o.chars ∙ q) in
    let moved : Cut u Between (place_after n (length (encode_utf8_all w))) (place_after n (length (encode_utf8_all w))) s us f =
    subst (λ z. Cut u Between (place_after n (length (encode_utf8_all z))) (place_after n (length (encode_utf8_all z))) s us f) (sym o.chars) a in
    let ih = cut-one u Between (place_after n (length (encode_utf8_all w))) (place_after n (length (encode_utf8_all w))) r ts us e f d
    (subst (λ z. Cut u Between (place_after n (length (encode_utf8_all w))) (place_after n (length (encode_utf8_all w))) z us f) (sym o.rests) moved) in
    (ap (λ z. lexeme_at z n (encode_utf8_all w) ∷ ts) kinds ∙ ap (λ z. lexeme_at b n (encode_utf8_all z) ∷ ts) o.chars ∙ ap (λ z. lexeme_at b n (encode_utf8_all v) ∷ z) ih.0, ih.1)
cut-one u _ n l x _ _ _ _ (token t w r k g h d) (no_kind j v s i q) =
    let o = one_longest u x t j w v r s g i in
    absurd (some_none k (token_kind u j (encode_utf8_all v)) (ap (λ z. token_kind u j (encode_utf8_all z)) (sym o.chars) ∙ ap (λ z. token_kind u z (encode_utf8_all w)) (sym o.terminals) ∙ h) q)
cut-one u _ n l x _ _ _ _ (token t w r k g h d) (no_token c s q j i a) = absurd (no_longest u x t w r a g)
cut-one u _ n l x _ _ _ _ (no_kind t w r g h) (ended q) = absurd (no_nil u x t w r q g)
cut-one u _ n l x _ _ _ _ (no_kind t w r g h) (space c s q j i) = absurd (no_space u x t w r c s q j g)
cut-one u _ n l x _ _ _ _ (no_kind t w r g h) (hash s q i) = absurd (no_hash u x t w r s q g)
cut-one u _ n l x _ _ _ _ (no_kind t w r g h) (token j v s b i q a) =
    let o = one_longest u x t j w v r s g i in
    absurd (some_none b (token_kind u t (encode_utf8_all w)) (ap (λ z. token_kind u t (encode_utf8_all z)) o.chars ∙ ap (λ z. token_kind u z (encode_utf8_all v)) o.terminals ∙ q) h)
cut-one u _ n l x _ _ _ _ (no_kind t w r g h) (no_kind j v s i q) = (refl, refl)
cut-one u _ n l x _ _ _ _ (no_kind t w r g h) (no_token c s q j i a) = absurd (no_longest u x t w r a g)
cut-one u _ n l x _ _ _ _ (no_token c r p k h i) (ended q) = absurd (nil_head q p)
cut-one u _ n l x _ _ _ _ (no_token c r p k h i) (space b s q j g) = absurd (space_both b c (heads q p).0 j k)
cut-one u _ n l x _ _ _ _ (no_token c r p k h i) (hash s q g) = absurd (h (heads p q).0)
cut-one u _ n l x _ _ _ _ (no_token c r p k h i) (token t w s j g q a) = absurd (no_longest u x t w s i g)
cut-one u _ n l x _ _ _ _ (no_token c r p k h i) (no_kind t w s g q) = absurd (no_longest u x t w s i g)
cut-one u _ n l x _ _ _ _ (no_token c r p k h i) (no_token b s q j g a) = (refl, refl)
cut-one u _ n l x ts us e f (comment c r p s k d) (comment b o q t j g) =
    let same = encode_same c b r o (sym p ∙ q) in
    let moved : Cut u InComment (place_after n (length (encode_utf8 c))) l o us f = subst (λ z. Cut u InComment (place_after n (length (encode_utf8 z))) l o us f) (sym same.0) g in
    cut-one u InComment (place_after n (length (encode_utf8 c))) l r ts us e f d (subst (λ z. Cut u InComment (place_after n (length (encode_utf8 c))) l z us f) (sym same.1) moved)
cut-one u _ n l x _ _ _ _ (comment c r p s k d) (line_end h g) = absurd (comment_ends x c r p k h)
cut-one u _ n l x _ _ _ _ (comment c r p s k d) (bad_comment i h) = absurd (h c r s p)
cut-one u _ n l x _ _ _ _ (line_end h d) (comment b o q t j g) = absurd (comment_ends x b o q j h)
cut-one u _ n l x ts us e f (line_end h d) (line_end q g) = cut-one u Between n l x ts us e f d g
cut-one u _ n l x _ _ _ _ (line_end h d) (bad_comment i g) = absurd (bad_ends x h i g)
cut-one u _ n l x _ _ _ _ (bad_comment i h) (comment b o q t j g) = absurd (h b o t q)
cut-one u _ n l x _ _ _ _ (bad_comment i h) (line_end q g) = absurd (bad_ends x q i h)
cut-one u _ n l x _ _ _ _ (bad_comment i h) (bad_comment j g) = (refl, refl)
