-- The last operation of an update ends with its last closing brace.
use Rattle.std.proofs.Common.{◌≡◌, ℕ, List, [], ◌∷◌, ◌++◌, refl, sym, ap, ◌∙◌}
use Rattle.std.specs.Prelude.{Ok}
use Rattle.gs_model.specs.Terms.{Term}
use Rattle.gs_lex.specs.Tokens.{Lexeme}
use Rattle.gs_lex.specs.declared.kinds.TokenKind.TheVariants as kind
use Rattle.gs_blank.specs.Numbers.{Numbers}
use Rattle.gs_triples.specs.Symbols.{Symbol, ATerm, A, Close, Semicolon, Dot, Foreign}
use Rattle.gs_triples.specs.Meanings.{Context, verb, typed}
use Rattle.gs_triples.specs.Goals.{Goal}
use Rattle.gs_triples.specs.Rules.{Covers}
use Rattle.gs_triples.specs.Rules as covers
use Rattle.gs_triples.specs.Triples.{AreTriples}
use Rattle.gs_triples.specs.Triples as triple
use Rattle.gs_update_text.specs.Requests.{Written, IsBrokenUpdate, end_of_last}
use Rattle.gs_update_text.specs.Operations.{Scope}
use Rattle.gs_update_text.specs.Grammar.{IsTemplate, IsPrologue, IsOperation, AreOperations, braced}
use Rattle.gs_update_text.specs.Grammar as rule
use Rattle.gs_update_text.specs.Fronts.{last_brace, AreOperationsBeforeFault}
use Rattle.gs_update_text.specs.Machine.{request_of}

last_brace-append : (c : ℕ) (xs ys : List Symbol) → last_brace c (xs ++ ys) ≡ last_brace (last_brace c xs) ys
last_brace-append c [] ys = refl
last_brace-append c (Foreign kind.CloseBrace e ∷ xs) ys = last_brace-append e xs ys
last_brace-append c (x ∷ xs) ys = last_brace-append c xs ys

-- no closing brace is among these
abbrev HasNoBrace : List Symbol → Type 0
HasNoBrace xs = (c : ℕ) → last_brace c xs ≡ c

both : (xs ys : List Symbol) → HasNoBrace xs → HasNoBrace ys → HasNoBrace (xs ++ ys)
both xs ys h k c = last_brace-append c xs ys ∙ ap (λ z. last_brace z ys) (h c) ∙ k c

module _ {Value Triple : Type 0} where
  verb_none : (env : Context Value Triple) (t : Symbol) {p : Value} → verb env t ≡ Ok p → HasNoBrace (t ∷ [])
  verb_none env (ATerm w) q c = refl
  verb_none env A q c = refl
  verb_none env t q c = absurd (cc)

  datatype_none : (env : Context Value Triple) (x : List ℕ) (t : Symbol) {l : Term} → typed env x t ≡ Ok l → HasNoBrace (t ∷ [])
  unfolding typed
  datatype_none env x (ATerm w) q c = refl
  datatype_none env x t q c = absurd (cc)

  covers_none : {env : Context Value Triple} {g : Goal Value} {n k : Numbers} {xs : List Symbol} {v : Value} {T : List Triple} → Covers env g n xs v T k → HasNoBrace xs
  covers_none (covers.word w q) c = refl
  covers_none (covers.simple x q) c = refl
  covers_none (covers.tagged x y q) c = refl
  covers_none {env = env} (covers.typed x t q) c = datatype_none env x t q c
  covers_none (covers.brackets q a) c = covers_none a c
  covers_none (covers.anon m n) c = refl
  covers_none (covers.properties {xs = xs} a) c = both xs (Close ∷ []) (covers_none a) (λ i. refl) c
  covers_none {env = env} (covers.verbs t {xs = xs} {ys = ys} q a b) c = both (t ∷ []) (xs ++ ys) (verb_none env t q) (both xs ys (covers_none a) (covers_none b)) c
  covers_none (covers.no_more s p n) c = refl
  covers_none (covers.comma {xs = xs} {ys = ys} a b) c = both xs ys (covers_none a) (covers_none b) c
  covers_none (covers.semicolon a) c = covers_none a c
  covers_none (covers.none s n) c = refl
  covers_none (covers.again a) c = covers_none a c
  covers_none (covers.more a) c = covers_none a c
  covers_none (covers.list q a) c = covers_none a c
  covers_none (covers.empty n) c = refl
  covers_none (covers.begun {xs = xs} {ys = ys} q a b) c = both xs ys (covers_none a) (covers_none b) c
  covers_none (covers.ended h m n) c = refl
  covers_none (covers.item {xs = xs} {ys = ys} a b) c = both xs ys (covers_none a) (covers_none b) c

  triples_none : {env : Context Value Triple} {n k : Numbers} {xs : List Symbol} {T : List Triple} → AreTriples env n xs T k → HasNoBrace xs
  triples_none (triple.word w q a) c = covers_none a c
  triples_none (triple.anon q a) c = covers_none a c
  triples_none (triple.list {xs = xs} {ys = ys} a b) c = both xs ys (covers_none a) (covers_none b) c
  triples_none (triple.lone_list q a) c = covers_none a c
  triples_none (triple.properties {xs = xs} q a) c = both xs (Close ∷ []) (covers_none a) (λ i. refl) c
  triples_none (triple.properties_and {xs = xs} {ys = ys} q a b) c = both xs (Close ∷ ys) (covers_none a) (covers_none b) c

  template_none : {env : Context Value Triple} {n k : Numbers} {xs : List Symbol} {T : List Triple} → IsTemplate env n xs T k → HasNoBrace xs
  template_none (rule.nothing n) c = refl
  template_none (rule.last a) c = triples_none a c
  template_none (rule.more {xs = xs} {ys = ys} e a r) c = both xs (Dot e ∷ ys) (triples_none a) (template_none r) c

  -- a block's last brace closes it
  block_end : {env : Context Value Triple} {n k : Numbers} {xs : List Symbol} {T : List Triple} (c a e : ℕ) → IsTemplate env n xs T k → last_brace c (braced a xs e) ≡ e
  block_end {xs = xs} c a e t = last_brace-append c xs (Foreign kind.CloseBrace e ∷ [])

prologue_none : {env next : Scope} {xs : List Symbol} → IsPrologue env xs next → HasNoBrace xs
prologue_none (rule.nothing env) c = refl
prologue_none (rule.base i e q p) c = prologue_none p c
prologue_none (rule.prefix x i e q p) c = prologue_none p c

-- an operation ends with its brace
operation_end : {env : Scope} {n k : Numbers} {xs : List Symbol} {o : Written} → IsOperation env n xs o k → (c : ℕ) → last_brace c xs ≡ o.end
operation_end (rule.insert_data a b i e new t) c = block_end c i e t
operation_end (rule.delete_data a b i e t) c = block_end c i e t
operation_end (rule.delete_where a b i e t some few) c = block_end c i e t

pub operations_end : {env : Scope} {n : Numbers} {xs : List Symbol} {os : List Written} → AreOperations env n xs os → (c : ℕ) → last_brace c xs ≡ end_of_last c os
operations_end (rule.prologue p) c = prologue_none p c
operations_end (rule.operation {xs = xs} {ys = ys} p o) c = last_brace-append c xs ys ∙ operation_end o (last_brace c xs)
operations_end (rule.more {xs = xs} {ys = ys} {zs = zs} {o = o} p a r) c =
    last_brace-append c (xs ++ ys) (Semicolon ∷ zs)
    ∙ ap (λ z. last_brace z zs) (last_brace-append c xs ys ∙ operation_end a (last_brace c xs))
    ∙ operations_end r o.end

-- a broken text's fault
pub fault_placed : (b : List ℕ) (r : ℕ) (ts : List Lexeme) (at : ℕ) → IsBrokenUpdate (request_of b r ts) at → (f : AreOperationsBeforeFault b r ts (request_of b r ts).0) → at ≡ last_brace 0 f.front
fault_placed b r ts at h f = h.place ∙ sym (operations_end f.whole 0)
