-- What the machine says of a list of tokens are the operations of its longest front that is an update.
use Rattle.std.proofs.Common.{◌≡◌, ℕ, ◌≤◌, List, [], ◌∷◌, ◌++◌, length, refl, sym, ap, ◌∙◌, arith}
use Rattle.std.specs.Prelude.{Option, Some, None}
use Rattle.gs_lex.specs.Tokens.{Lexeme}
use Rattle.gs_machine.specs.Machines.{joined, rest}
use Rattle.gs_blank.specs.Numbers.{Numbers, no_numbers}
use Rattle.gs_triples.specs.Symbols.{Symbol, ATerm, Reference, Namespace, Semicolon, PrefixWord, BaseWord, Foreign, symbols_of}
use Rattle.gs_update_text.specs.Requests.{Rejection, Written, UpdateRequest}
use Rattle.gs_update_text.specs.Operations.{Scope}
use Rattle.gs_update_text.specs.Grammar.{first_scope}
use Rattle.gs_update_text.specs.Fronts.{AreLongestOperations, AreOperationsBeforeFault}
use Rattle.gs_update_text.specs.Blocks.{BlockState, BlockTurn, Takes, Shuts, Stops, block_step}
use Rattle.gs_update_text.specs.States.{UpdateState, Between, InPrefix, InPrefixIri, InBase, AfterInsert, AfterDelete, AtBrace, InData, InWhere, After, Rejected, UpdateStep}
use Rattle.gs_update_text.specs.Machine.{blocked, step, ended, updates, request_of}
use Rattle.gs_update_text.proofs.UpdateLemmas.{operations_read}
use Rattle.gs_update_text.proofs.ReadLemmas.{operations_covered}

-- a transition that ends no operation, or after which the text may end
data Speaks (u : UpdateStep) : Type 0 where
  silent : u.1 ≡ [] → Speaks u
  may_end : ended u.0 ≡ None → Speaks u

block_speaks : {Value Triple : Type 0} (inside : BlockState Value Triple → UpdateState) (env : Scope) (u : BlockTurn Value Triple) → Speaks (blocked inside env u)
unfolding ended
block_speaks inside env (Takes s) = silent refl
block_speaks inside env (Shuts o n e) = may_end refl
block_speaks inside env (Stops r) = silent refl

speaks : (s : UpdateState) (t : Symbol) → Speaks (step s t)
unfolding step
speaks (Between env n) PrefixWord = silent refl
speaks (Between env n) BaseWord = silent refl
speaks (Between env n) (Foreign k e) = silent refl
speaks (Between env n) t = silent refl
speaks (InPrefix env n) (ATerm (Namespace p)) = silent refl
speaks (InPrefix env n) (ATerm w) = silent refl
speaks (InPrefix env n) t = silent refl
speaks (InPrefixIri p env n) (ATerm (Reference i e)) = silent refl
speaks (InPrefixIri p env n) (ATerm w) = silent refl
speaks (InPrefixIri p env n) t = silent refl
speaks (InBase env n) (ATerm (Reference i e)) = silent refl
speaks (InBase env n) (ATerm w) = silent refl
speaks (InBase env n) t = silent refl
speaks (AfterInsert env n) (Foreign k e) = silent refl
speaks (AfterInsert env n) t = silent refl
speaks (AfterDelete env n) (Foreign k e) = silent refl
speaks (AfterDelete env n) t = silent refl
speaks (AtBrace f env n) (Foreign k e) = silent refl
speaks (AtBrace f env n) t = silent refl
speaks (InData b env s) t = block_speaks (InData b env) env (block_step b s t)
speaks (InWhere b env s) t = block_speaks (InWhere b env) env (block_step b s t)
speaks (After env n) Semicolon = silent refl
speaks (After env n) t = silent refl
speaks (Rejected r) t = silent refl

-- the longest front after which the text may end, whose operations are all that are said
record HasFront (s : UpdateState) (ts : List Symbol) : Type 0 where
  front : List Symbol
  after : List Symbol
  parts : ts ≡ front ++ after
  whole : rest updates s front ≡ ((rest updates s ts).0, None)
  longest : (xs ys : List Symbol) (us : List Written) → ts ≡ xs ++ ys → rest updates s xs ≡ (us, None) → length xs ≤ length front

-- no front, and no operation
record HasNone (s : UpdateState) (ts : List Symbol) : Type 0 where
  quiet : (rest updates s ts).0 ≡ []
  none : (xs ys : List Symbol) (us : List Written) → ts ≡ xs ++ ys → rest updates s xs ≡ (us, None) → ⊥

data Fronts (s : UpdateState) (ts : List Symbol) : Type 0 where
  some : HasFront s ts → Fronts s ts
  none : HasNone s ts → Fronts s ts

tail_is : (x y : Symbol) (xs ys : List Symbol) → x ∷ xs ≡ y ∷ ys → xs ≡ ys
tail_is x y xs ys q = cc

head_is : (x y : Symbol) (xs ys : List Symbol) → x ∷ xs ≡ y ∷ ys → x ≡ y
head_is x y xs ys q = cc

-- a front of one symbol or more is none
abbrev NoLonger : UpdateState → List Symbol → Type 0
NoLonger s ts = (x : Symbol) (xs ys : List Symbol) (us : List Written) → ts ≡ x ∷ xs ++ ys → rest updates s (x ∷ xs) ≡ (us, None) → ⊥

none_longer : (s : UpdateState) (ts : List Symbol) → NoLonger s ts → (xs ys : List Symbol) (us : List Written) → ts ≡ xs ++ ys → rest updates s xs ≡ (us, None) → length xs ≤ 0
none_longer s ts stuck [] ys us p h = omega arith
none_longer s ts stuck (x ∷ xs) ys us p h = absurd (stuck x xs ys us p h)

none_empty : (s : UpdateState) (ts : List Symbol) (r : Rejection) → ended s ≡ Some r → NoLonger s ts → (xs ys : List Symbol) (us : List Written) → ts ≡ xs ++ ys → rest updates s xs ≡ (us, None) → ⊥
unfolding rest
none_empty s ts r e stuck [] ys us p h = let both : Some r ≡ None = sym e ∙ ap (λ (z : UpdateRequest). z.1) h in cc
none_empty s ts r e stuck (x ∷ xs) ys us p h = stuck x xs ys us p h

-- where no front of one symbol or more is one, the empty front is, or none
by_end : (s : UpdateState) (ts : List Symbol) → (rest updates s ts).0 ≡ [] → NoLonger s ts → (o : Option Rejection) → ended s ≡ o → Fronts s ts
unfolding rest
by_end s ts q stuck None e = some (record {
  front = [];
  after = ts;
  parts = refl;
  whole = ap (λ z. let p : UpdateRequest = ([], z) in p) e ∙ ap (λ z. let p : UpdateRequest = (z, None) in p) (sym q);
  longest = none_longer s ts stuck;
})
by_end s ts q stuck (Some r) e = none (record { quiet = q; none = none_empty s ts r e stuck })

nothing_longer : (s : UpdateState) → NoLonger s []
nothing_longer s x xs ys us p h = cc

-- what is said after a symbol
after_one : (s : UpdateState) (t x : Symbol) (xs : List Symbol) (us : List Written) → t ≡ x → rest updates s (x ∷ xs) ≡ (us, None)
    → rest updates (step s t).0 xs ≡ ((rest updates (step s t).0 xs).0, None)
unfolding rest
after_one s t x xs us p h =
    ap (λ z. let r : UpdateRequest = ((rest updates (step s t).0 xs).0, z) in r) (ap (λ (z : UpdateRequest). z.1) (ap (λ z. rest updates s (z ∷ xs)) p ∙ h))

longest_more : (s : UpdateState) (t : Symbol) (ts : List Symbol) (f : HasFront (step s t).0 ts) (xs ys : List Symbol) (us : List Written) → t ∷ ts ≡ xs ++ ys → rest updates s xs ≡ (us, None) → length xs ≤ length (t ∷ f.front)
longest_more s t ts f [] ys us p h = omega arith
longest_more s t ts f (x ∷ xs) ys us p h =
    let shorter : length xs ≤ length f.front = f.longest xs ys _ (tail_is t x ts (xs ++ ys) p) (after_one s t x xs us (head_is t x ts (xs ++ ys) p) h) in omega (arith, shorter)

one_more : (s : UpdateState) (t : Symbol) (ts : List Symbol) → HasFront (step s t).0 ts → HasFront s (t ∷ ts)
unfolding rest
one_more s t ts f = record {
  front = t ∷ f.front;
  after = f.after;
  parts = ap (λ z. t ∷ z) f.parts;
  whole = ap (joined (step s t).1) f.whole;
  longest = longest_more s t ts f;
}

stuck_on : (s : UpdateState) (t : Symbol) (ts : List Symbol) → HasNone (step s t).0 ts → NoLonger s (t ∷ ts)
stuck_on s t ts f x xs ys us p h = f.none xs ys _ (tail_is t x ts (xs ++ ys) p) (after_one s t x xs us (head_is t x ts (xs ++ ys) p) h)

no_front : (s : UpdateState) (t : Symbol) (ts : List Symbol) → HasNone (step s t).0 ts → Speaks (step s t) → Fronts s (t ∷ ts)
unfolding rest
no_front s t ts f (silent q) = by_end s (t ∷ ts) (ap (λ z. z ++ (rest updates (step s t).0 ts).0) q ∙ f.quiet) (stuck_on s t ts f) (ended s) refl
no_front s t ts f (may_end e) = absurd (f.none [] ts [] refl (ap (λ z. let p : UpdateRequest = ([], z) in p) e))

front_turn : (s : UpdateState) (t : Symbol) (ts : List Symbol) → Fronts (step s t).0 ts → Fronts s (t ∷ ts)
front_turn s t ts (some f) = some (one_more s t ts f)
front_turn s t ts (none f) = no_front s t ts f (speaks s t)

fronts : (ts : List Symbol) (s : UpdateState) → Fronts s ts
unfolding rest
fronts [] s = by_end s [] refl (nothing_longer s) (ended s) refl
fronts (t ∷ ts) s = front_turn s t ts (fronts ts (step s t).0)

between_fronts : (env : Scope) (n : Numbers) (ts : List Symbol) → Fronts (Between env n) ts → AreLongestOperations env n ts (rest updates (Between env n) ts).0
unfolding rest ended
between_fronts env n ts (some f) = record {
  front = f.front;
  after = f.after;
  parts = f.parts;
  whole = operations_covered f.whole;
  longest = λ xs ys us p a. f.longest xs ys us p (operations_read a);
}
between_fronts env n ts (none f) = absurd (f.none [] ts [] refl refl)

-- what is said of a text's tokens
pub longest_said : (b : List ℕ) (r : ℕ) (ts : List Lexeme) → AreOperationsBeforeFault b r ts (request_of b r ts).0
longest_said b r ts = between_fronts (first_scope b r) no_numbers (symbols_of ts) (fronts (symbols_of ts) (Between (first_scope b r) no_numbers))
