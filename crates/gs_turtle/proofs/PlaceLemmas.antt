-- The last token of whole statements ends where the last statement does, and tokens stand in the order of their places.
use Rattle.std.proofs.Common.{◌≡◌, ℕ, ◌+◌, ◌^◌, ◌≤◌, ◌<◌, Bool, true, false, List, [], ◌∷◌, ◌++◌, length, refl, sym, ap, ◌∙◌, arith, if◌then◌else◌, encode_utf8, encode_utf8_all, length-append}
use Rattle.std.specs.List.{AllByRecursion}
use Rattle.std.specs.Str.{is_utf8}
use Rattle.gs_lex.specs.Tokens.{Lexeme, Cut, Gap, Between, InComment, CutEnd, AtFault, place_after, ended, space, hash, comment, line_end, bad_comment, token, no_kind, no_token}
use Rattle.gs_lex.specs.declared.kinds.TokenKind.{TokenKind}
use Rattle.gs_lex.specs.declared.kinds.TokenKind.TheVariants as kind
use Rattle.gs_blank.specs.Numbers.{Numbers}
use Rattle.gs_body.specs.Bodies.{Statement, end_after}
use Rattle.gs_body.proofs.LeadingLemmas.{end_after-append}
use Rattle.gs_triples.specs.Symbols.{Reference, Namespace, Symbol, ATerm, At, Dot, PrefixWord, BaseWord, Foreign, symbol, symbol_of, symbols_of}
use Rattle.gs_document.specs.Contexts.{TurtleContext}
use Rattle.gs_document.specs.Documents as statement
use Rattle.gs_document.specs.Documents.{IsStatement, AreStatements}
use Rattle.gs_turtle.specs.Faults.{last_end}

-- the end that a symbol has, if it has one
abbrev own_end : ℕ → Symbol → ℕ
own_end n (Dot e) = e
own_end n (ATerm (Reference i e)) = e
own_end n s = n

kind_end : (k : TokenKind) (x : List ℕ) (n : ℕ) → own_end n (symbol k x n) ≡ n
kind_end kind.IriRef x n = refl
kind_end kind.Dot x n = refl
kind_end k x n = refl

token_end : (t : Lexeme) → own_end t.«end» (symbol_of t) ≡ t.«end»
token_end t = elim (is_utf8 t.text) as (λ b. own_end t.«end» (if b then symbol t.kind t.text t.«end» else Foreign t.kind t.«end») ≡ t.«end») [
  | true ↦ kind_end t.kind t.text t.«end»
  | false ↦ refl
]

head_is : (a b : Symbol) (us vs : List Symbol) → a ∷ us ≡ b ∷ vs → a ≡ b
head_is a b us vs q = cc

tail_is : (a b : Symbol) (us vs : List Symbol) → a ∷ us ≡ b ∷ vs → us ≡ vs
tail_is a b us vs q = cc

-- where the last symbol has an end, the last token ends there
last_is : (us : List Lexeme) (ys : List Symbol) (s : Symbol) (e c : ℕ) → symbols_of us ≡ ys ++ s ∷ [] → ((d : ℕ) → own_end d s ≡ e) → last_end c us ≡ e
last_is [] [] s e c p own = absurd (cc)
last_is [] (y ∷ ys) s e c p own = absurd (cc)
last_is (t ∷ []) [] s e c p own = sym (token_end t) ∙ ap (own_end t.«end») (head_is (symbol_of t) s [] [] p) ∙ own t.«end»
last_is (t ∷ u ∷ us) [] s e c p own =
    let none : symbol_of u ∷ symbols_of us ≡ [] = tail_is (symbol_of t) s (symbols_of (u ∷ us)) [] p in absurd (cc)
last_is (t ∷ us) (y ∷ ys) s e c p own = last_is us ys s e t.«end» (tail_is (symbol_of t) y (symbols_of us) (ys ++ s ∷ []) p) own

-- tokens whose symbols are cut in two
pub record Halves (us : List Lexeme) (xs ys : List Symbol) : Type 0 where
  pub first : List Lexeme
  pub second : List Lexeme
  pub parts : us ≡ first ++ second
  pub left : symbols_of first ≡ xs
  pub right : symbols_of second ≡ ys

pub halves : (us : List Lexeme) (xs ys : List Symbol) → symbols_of us ≡ xs ++ ys → Halves us xs ys
halves us [] ys p = record { first = []; second = us; parts = refl; left = refl; right = p }
halves [] (x ∷ xs) ys p = absurd (cc)
halves (t ∷ us) (x ∷ xs) ys p =
    let h = halves us xs ys (tail_is (symbol_of t) x (symbols_of us) (xs ++ ys) p) in
    let here : symbol_of t ≡ x = head_is (symbol_of t) x (symbols_of us) (xs ++ ys) p in
    record {
      first = t ∷ h.first;
      second = h.second;
      parts = ap (λ z. t ∷ z) h.parts;
      left = ap (λ z. z ∷ symbols_of h.first) here ∙ ap (λ z. x ∷ z) h.left;
      right = h.right;
    }

last_end-append : (c : ℕ) (vs ws : List Lexeme) → last_end c (vs ++ ws) ≡ last_end (last_end c vs) ws
last_end-append c [] ws = refl
last_end-append c (v ∷ vs) ws = last_end-append v.«end» vs ws

-- a statement ends where its last token does
statement_end : {env next : TurtleContext} {n k : Numbers} {xs : List Symbol} {S : List Statement} → IsStatement env n xs S next k → (us : List Lexeme) (c : ℕ) → symbols_of us ≡ xs → end_after c S ≡ last_end c us
statement_end (statement.prefix x p i e end h q) us c same = sym (last_is us (At x ∷ ATerm (Namespace p) ∷ ATerm (Reference i e) ∷ []) (Dot end) end c same (λ d. refl))
statement_end (statement.base x i e end h q) us c same = sym (last_is us (At x ∷ ATerm (Reference i e) ∷ []) (Dot end) end c same (λ d. refl))
statement_end (statement.prefix_word p i end q) us c same = sym (last_is us (PrefixWord ∷ ATerm (Namespace p) ∷ []) (ATerm (Reference i end)) end c same (λ d. refl))
statement_end (statement.base_word i end q) us c same = sym (last_is us (BaseWord ∷ []) (ATerm (Reference i end)) end c same (λ d. refl))
statement_end (statement.triples {xs = xs} end h) us c same = sym (last_is us xs (Dot end) end c same (λ d. refl))

-- so do statements
pub statements_end : {env last : TurtleContext} {n k : Numbers} {xs : List Symbol} {S : List Statement} → AreStatements env n xs S last k → (us : List Lexeme) (c : ℕ) → symbols_of us ≡ xs → end_after c S ≡ last_end c us
statements_end (statement.nothing _ _) [] c same = refl
statements_end (statement.nothing _ _) (t ∷ us) c same = absurd (cc)
statements_end (statement.statement {xs = xs} {ys = ys} {S = S} {R = R} a b) us c same =
    let h = halves us xs ys same in
    end_after-append c S R
    ∙ ap (λ m. end_after m R) (statement_end a h.first c h.left)
    ∙ statements_end b h.second (last_end c h.first) h.right
    ∙ sym (last_end-append c h.first h.second)
    ∙ ap (last_end c) (sym h.parts)

-- each token starts where the one before it ends, or later, and ends where it starts, or later
abbrev pub Rises : ℕ → List Lexeme → Type 0
Rises n [] = Unit {0}
Rises n (t ∷ ts) = (n ≤ t.start) × (t.start ≤ t.«end») × Rises t.«end» ts

pub cut_rises : (u : Bool) (m : Gap) (n l : ℕ) (x : List ℕ) (ts : List Lexeme) (e : CutEnd) → l ≤ n → n < 2 ^ 64 → Cut u m n l x ts e → Rises l ts
cut_rises u _ n l x _ _ h k (ended q) = tt
cut_rises u _ n l x ts e h k (space c r q i d) = cut_rises u Between (place_after n 1) l r ts e (omega arith) (omega arith) d
cut_rises u _ n l x ts e h k (hash r q d) = cut_rises u InComment (place_after n 1) l r ts e (omega arith) (omega arith) d
cut_rises u _ n l x ts e h k (comment c r q i j d) = cut_rises u InComment (place_after n (length (encode_utf8 c))) l r ts e (omega arith) (omega arith) d
cut_rises u _ n l x ts e h k (line_end i d) = cut_rises u Between n l x ts e h k d
cut_rises u _ n l x _ _ h k (bad_comment i j) = tt
cut_rises u _ n l x _ e h k (token {ts = ts} t w r j g i d) =
    let after = place_after n (length (encode_utf8_all w)) in
    (h, omega arith, cut_rises u Between after after r ts e (omega arith) (omega arith) d)
cut_rises u _ n l x _ _ h k (no_kind t w r g i) = tt
cut_rises u _ n l x _ _ h k (no_token c r q i j a) = tt

-- the last token ends within the text
pub cut_within : (u : Bool) (m : Gap) (n l : ℕ) (x : List ℕ) (ts : List Lexeme) (e : CutEnd) → l ≤ n → n < 2 ^ 64 → Cut u m n l x ts e → last_end l ts ≤ n + length x
cut_within u _ n l x _ _ h k (ended q) = omega arith
cut_within u _ n l x ts e h k (space c r q i d) = omega (arith, cut_within u Between (place_after n 1) l r ts e (omega arith) (omega arith) d, ap length q)
cut_within u _ n l x ts e h k (hash r q d) = omega (arith, cut_within u InComment (place_after n 1) l r ts e (omega arith) (omega arith) d, ap length q)
cut_within u _ n l x ts e h k (comment c r q i j d) =
    omega (arith, cut_within u InComment (place_after n (length (encode_utf8 c))) l r ts e (omega arith) (omega arith) d, ap length q, length-append (encode_utf8 c) r)
cut_within u _ n l x ts e h k (line_end i d) = cut_within u Between n l x ts e h k d
cut_within u _ n l x _ _ h k (bad_comment i j) = omega arith
cut_within u _ n l x _ e h k (token {ts = ts} t w r j g i d) =
    let after = place_after n (length (encode_utf8_all w)) in
    omega (arith, cut_within u Between after after r ts e (omega arith) (omega arith) d, ap length g.parts, length-append (encode_utf8_all w) r)
cut_within u _ n l x _ _ h k (no_kind t w r g i) = omega arith
cut_within u _ n l x _ _ h k (no_token c r q i j a) = omega arith

fault_is : (l k : ℕ) → AtFault l ≡ AtFault k → k ≡ l
fault_is l k p = cc

-- a fault of the lexer stands after the last token
pub cut_fault : (u : Bool) (m : Gap) (n l : ℕ) (x : List ℕ) (ts : List Lexeme) (e : CutEnd) (k : ℕ) → Cut u m n l x ts e → e ≡ AtFault k → k ≡ last_end l ts
cut_fault u _ n l x _ _ k (ended q) p = absurd (cc)
cut_fault u _ n l x ts e k (space c r q i d) p = cut_fault u Between (place_after n 1) l r ts e k d p
cut_fault u _ n l x ts e k (hash r q d) p = cut_fault u InComment (place_after n 1) l r ts e k d p
cut_fault u _ n l x ts e k (comment c r q i j d) p = cut_fault u InComment (place_after n (length (encode_utf8 c))) l r ts e k d p
cut_fault u _ n l x ts e k (line_end i d) p = cut_fault u Between n l x ts e k d p
cut_fault u _ n l x _ _ k (bad_comment i j) p = fault_is l k p
cut_fault u _ n l x _ e k (token {ts = ts} t w r j g i d) p =
    let after = place_after n (length (encode_utf8_all w)) in
    cut_fault u Between after after r ts e k d p
cut_fault u _ n l x _ _ k (no_kind t w r g i) p = fault_is l k p
cut_fault u _ n l x _ _ k (no_token c r q i j a) p = fault_is l k p

-- tokens that rise from a place on start at it, or later
all_after : (n c : ℕ) (ts : List Lexeme) → Rises c ts → n ≤ c → AllByRecursion (λ t. n ≤ t.start) ts
all_after n c [] r h = tt
all_after n c (t ∷ ts) r h = (omega (arith, r.0), all_after n t.«end» ts r.2 (omega (arith, r.0, r.1)))

-- so do those after a front, from its end on
pub rest_after : (c : ℕ) (vs ws : List Lexeme) → Rises c (vs ++ ws) → AllByRecursion (λ t. last_end c vs ≤ t.start) ws
rest_after c [] ws r = all_after c c ws r (omega arith)
rest_after c (v ∷ vs) ws r = rest_after v.«end» vs ws r.2

last_later : (c : ℕ) (ws : List Lexeme) → Rises c ws → c ≤ last_end c ws
last_later c [] r = omega arith
last_later c (w ∷ ws) r = omega (arith, r.0, r.1, last_later w.«end» ws r.2)

-- a front ends no later than the whole
pub front_before : (c : ℕ) (vs ws : List Lexeme) → Rises c (vs ++ ws) → last_end c vs ≤ last_end c (vs ++ ws)
front_before c [] ws r = last_later c ws r
front_before c (v ∷ vs) ws r = front_before v.«end» vs ws r.2
