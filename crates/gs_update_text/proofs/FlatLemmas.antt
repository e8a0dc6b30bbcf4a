-- Triples without blank nodes and without lone collections, as their machine reads them: its stack has at most one frame,
-- and a token ends at most one triple.
use Rattle.std.proofs.Common.{◌≡◌, ℕ, Bool, true, false, cond, List, [], ◌∷◌, ◌++◌, refl, sym, ap, subst}
use Rattle.std.specs.Prelude.{codes, ◌&&◌, Result, Ok, Err}
use Rattle.gs_model.specs.Terms.{Term}
use Rattle.gs_blank.specs.Numbers.{Numbers}
use Rattle.gs_triples.specs.Symbols.{Symbol, ATerm, Text, At, Carets, Open, OpenList, CloseList, Semicolon, Comma}
use Rattle.gs_triples.specs.Meanings as meaning
use Rattle.gs_triples.specs.Meanings.{Fault, Syntax, Context, blank, rdf_value, tagged, typed, simple}
use Rattle.gs_triples.specs.Goals.{Object, Verbs, After, Semis, Begun, may_open, may_open_node}
use Rattle.gs_triples.specs.Reading.{begins_verb}
use Rattle.gs_triples.specs.Program.{stands_alone, has_triple}
use Rattle.gs_triples.specs.States.{Frame, ToObject, ToVerbs, State, Opened, Heading, Held, Typing, Lost, Turn, Goes, Ends}
use Rattle.gs_triples.specs.Machine.{give_token, put, object, after_verb, first_object, head, go_on, begin, opening, step}
use Rattle.gs_update_text.specs.Profile.{EndsString, is_string}
use Rattle.gs_triples.specs.States.{triples_so_far}

module _ {Value Triple : Type 0} where
  -- no blank nodes may stand, and no collections alone
  abbrev pub IsPlain : Context Value Triple → Type 0
  IsPlain env = (env.language.nodes ≡ false) × (env.language.lone_lists ≡ false)

  -- a state with at most one frame
  pub data Flat (env : Context Value Triple) : State Value Triple → Type 0 where
    verbs : (d : ℕ) (s : Value) (P : List Triple) (n : Numbers) → Flat env (Heading (Verbs d s) [] env P n)
    list : (d : ℕ) (P : List Triple) (n : Numbers) → Flat env (Heading (Begun d) (ToVerbs ∷ []) env P n)
    to_object : (c d : ℕ) (s p : Value) (P : List Triple) (n : Numbers) → Flat env (Heading (Object c) (ToObject d s p ∷ []) env P n)
    after : (d : ℕ) (s p : Value) (P : List Triple) (n : Numbers) → Flat env (Heading (After d s p) [] env P n)
    semis : (d : ℕ) (s : Value) (P : List Triple) (n : Numbers) → Flat env (Heading (Semis d s) [] env P n)
    begun : (c d : ℕ) (s p : Value) (P : List Triple) (n : Numbers) → Flat env (Heading (Begun c) (ToObject d s p ∷ []) env P n)
    held : (x : List ℕ) (d : ℕ) (s p : Value) (P : List Triple) (n : Numbers) → Flat env (Held x (ToObject d s p ∷ []) env P n)
    typing : (x : List ℕ) (d : ℕ) (s p : Value) (P : List Triple) (n : Numbers) → Flat env (Typing x (ToObject d s p ∷ []) env P n)
    lost : (e : Fault) → Flat env (Lost e)

  -- What a token does in such a state. The triples stay as they are, or the token ends one more, or a string before it does.
  pub data Moves (env : Context Value Triple) (t : Symbol) : State Value Triple → Turn Value Triple → Type 0 where
    same : (s u : State Value Triple) → Flat env u → triples_so_far u ≡ triples_so_far s → Moves env t s (Goes u)
    astray : (s : State Value Triple) (e : Fault) → Moves env t s (Goes (Lost e))
    over : (s : State Value Triple) (n : Numbers) → Moves env t s (Ends env (triples_so_far s) n)
    one : (s : State Value Triple) (d : ℕ) (w p : Value) (n : Numbers) (o : Triple) → is_string t ≡ false
        → Moves env t s (Goes (Heading (After d w p) [] env (triples_so_far s ++ o ∷ []) n))
    string_on : (x : List ℕ) (d : ℕ) (w p : Value) (P : List Triple) (n : Numbers) (l : Term) (u : State Value Triple) → simple x ≡ Ok l → EndsString (t ∷ [])
        → Flat env u → triples_so_far u ≡ P ++ env.language.triple w p (env.language.of_term l) ∷ [] → Moves env t (Held x (ToObject d w p ∷ []) env P n) (Goes u)
    string_over : (x : List ℕ) (d : ℕ) (w p : Value) (P : List Triple) (n k : Numbers) (l : Term) → simple x ≡ Ok l → EndsString (t ∷ [])
        → Moves env t (Held x (ToObject d w p ∷ []) env P n) (Ends env (P ++ env.language.triple w p (env.language.of_term l) ∷ []) k)

  verb_moves : (env : Context Value Triple) (t : Symbol) (s : State Value Triple) (d : ℕ) (v : Value) (P : List Triple) (n : Numbers) (r : Result Value Fault) → P ≡ triples_so_far s
      → Moves env t s (Goes (after_verb d v [] env P n r))
  verb_moves env t s d v P n (Err e) q = astray s e
  verb_moves env t s d v P n (Ok p) q = same s _ (to_object d d v p P n) q

  token_moves : (env : Context Value Triple) (t : Symbol) (s : State Value Triple) (d : ℕ) (w p : Value) (r : Result (Value × Numbers) Fault) → is_string t ≡ false
      → Moves env t s (Goes (give_token (ToObject d w p ∷ []) env (triples_so_far s) r))
  token_moves env t s d w p (Err e) h = astray s e
  token_moves env t s d w p (Ok v) h = one s d w p v.1 (env.language.triple w p v.0) h

  put_moves : (env : Context Value Triple) (t : Symbol) (s : State Value Triple) (d : ℕ) (w p : Value) (n : Numbers) (r : Result Term Fault) → is_string t ≡ false
      → Moves env t s (Goes (put (ToObject d w p ∷ []) env (triples_so_far s) n r))
  put_moves env t s d w p n (Err e) h = astray s e
  put_moves env t s d w p n (Ok l) h = one s d w p n (env.language.triple w p (env.language.of_term l)) h

  either : (env : Context Value Triple) (t : Symbol) (s : State Value Triple) (b : Bool) (u v : Turn Value Triple) → Moves env t s u → Moves env t s v → Moves env t s (cond b u v)
  either env t s true u v g h = g
  either env t s false u v g h = h

  either_state : (env : Context Value Triple) (t : Symbol) (s : State Value Triple) (b : Bool) (u v : State Value Triple) → Moves env t s (Goes u) → Moves env t s (Goes v) → Moves env t s (Goes (cond b u v))
  either_state env t s true u v g h = g
  either_state env t s false u v g h = h

  -- what needs a blank node is a fault
  by_false : (env : Context Value Triple) (t : Symbol) (s : State Value Triple) (b : Bool) (u v : State Value Triple) → b ≡ false → Moves env t s (Goes v) → Moves env t s (Goes (cond b u v))
  by_false env t s b u v q h = subst (λ z. Moves env t s (Goes (cond z u v))) (sym q) h

  no_node : (env : Context Value Triple) (d : ℕ) → IsPlain env → may_open_node env d ≡ false
  no_node env d r = ap (λ z. z && may_open d) r.0

  object_moves : (env : Context Value Triple) → IsPlain env → (c d : ℕ) (w p : Value) (P : List Triple) (n : Numbers) (t : Symbol)
      → Moves env t (Heading (Object c) (ToObject d w p ∷ []) env P n) (Goes (object c t (ToObject d w p ∷ []) env P n))
  object_moves env r c d w p P n (ATerm x) = token_moves env (ATerm x) (Heading (Object c) (ToObject d w p ∷ []) env P n) d w p (meaning.word env n x) refl
  object_moves env r c d w p P n (Text x) = same _ _ (held x d w p P n) refl
  object_moves env r c d w p P n Open = by_false env Open _ (may_open_node env c) _ _ (no_node env c r) (astray _ Syntax)
  object_moves env r c d w p P n OpenList = either_state env OpenList _ (may_open c) _ _ (same _ _ (begun _ d w p P n) refl) (astray _ Syntax)
  object_moves env r c d w p P n t = astray _ Syntax

  no_first : (env : Context Value Triple) → IsPlain env → (t : Symbol) (s : State Value Triple) (c : ℕ) (fs : List (Frame Value)) (P : List Triple) (n : Numbers)
      → Moves env t s (Goes (first_object c t fs env P n))
  no_first env r t s c fs P n = by_false env t s env.language.nodes _ _ r.0 (astray s Syntax)

  list_moves : (env : Context Value Triple) → IsPlain env → (c : ℕ) (P : List Triple) (n : Numbers) (t : Symbol)
      → Moves env t (Heading (Begun c) (ToVerbs ∷ []) env P n) (head (Begun c) t (ToVerbs ∷ []) env P n)
  list_moves env r c P n CloseList = by_false env CloseList _ (stands_alone env P) _ _ (ap (λ z. z && has_triple P) r.1) (same _ _ (verbs 0 (rdf_value env (codes "nil")) P n) refl)
  list_moves env r c P n t = no_first env r t _ c (ToVerbs ∷ []) P n

  begun_moves : (env : Context Value Triple) → IsPlain env → (c d : ℕ) (w p : Value) (P : List Triple) (n : Numbers) (t : Symbol)
      → Moves env t (Heading (Begun c) (ToObject d w p ∷ []) env P n) (head (Begun c) t (ToObject d w p ∷ []) env P n)
  begun_moves env r c d w p P n CloseList = one _ d w p n (env.language.triple w p (rdf_value env (codes "nil"))) refl
  begun_moves env r c d w p P n t = no_first env r t _ c (ToObject d w p ∷ []) P n

  after_moves : (env : Context Value Triple) (d : ℕ) (w p : Value) (P : List Triple) (n : Numbers) (t : Symbol)
      → Moves env t (Heading (After d w p) [] env P n) (head (After d w p) t [] env P n)
  after_moves env d w p P n Comma = same _ _ (to_object d d w p P n) refl
  after_moves env d w p P n Semicolon = same _ _ (semis d w P n) refl
  after_moves env d w p P n t = over (Heading (After d w p) [] env P n) n

  semis_moves : (env : Context Value Triple) (d : ℕ) (w : Value) (P : List Triple) (n : Numbers) (t : Symbol)
      → Moves env t (Heading (Semis d w) [] env P n) (head (Semis d w) t [] env P n)
  semis_moves env d w P n Semicolon = same _ _ (semis d w P n) refl
  semis_moves env d w P n t = either env t _ (begins_verb t) _ _ (verb_moves env t _ d w P n (meaning.verb env t) refl) (over (Heading (Semis d w) [] env P n) n)

  -- after a string without a suffix
  string_moves : (env : Context Value Triple) (x : List ℕ) (d : ℕ) (w p : Value) (P : List Triple) (n : Numbers) (t : Symbol) → EndsString (t ∷ []) → (r : Result Term Fault) → simple x ≡ r
      → Moves env t (Held x (ToObject d w p ∷ []) env P n) (go_on t (put (ToObject d w p ∷ []) env P n r))
  string_moves env x d w p P n t h (Err e) q = astray _ e
  string_moves env x d w p P n Comma h (Ok l) q = string_on x d w p P n l _ q h (to_object d d w p _ n) refl
  string_moves env x d w p P n Semicolon h (Ok l) q = string_on x d w p P n l _ q h (semis d w _ n) refl
  string_moves env x d w p P n t h (Ok l) q = string_over x d w p P n n l q h

  held_moves : (env : Context Value Triple) (x : List ℕ) (d : ℕ) (w p : Value) (P : List Triple) (n : Numbers) (t : Symbol)
      → Moves env t (Held x (ToObject d w p ∷ []) env P n) (step (Held x (ToObject d w p ∷ []) env P n) t)
  unfolding step
  held_moves env x d w p P n (At y) = put_moves env (At y) (Held x (ToObject d w p ∷ []) env P n) d w p n (tagged x y) refl
  held_moves env x d w p P n Carets = same _ _ (typing x d w p P n) refl
  held_moves env x d w p P n t = string_moves env x d w p P n t tt (simple x) refl

  typing_moves : (env : Context Value Triple) (x : List ℕ) (d : ℕ) (w p : Value) (P : List Triple) (n : Numbers) (t : Symbol)
      → Moves env t (Typing x (ToObject d w p ∷ []) env P n) (Goes (put (ToObject d w p ∷ []) env P n (typed env x t)))
  unfolding typed
  typing_moves env x d w p P n (ATerm y) = put_moves env (ATerm y) (Typing x (ToObject d w p ∷ []) env P n) d w p n (typed env x (ATerm y)) refl
  typing_moves env x d w p P n t = astray _ Syntax

  pub flat_moves : {env : Context Value Triple} {s : State Value Triple} (t : Symbol) → IsPlain env → Flat env s → Moves env t s (step s t)
  unfolding step
  flat_moves {env = env} t r (verbs d s P n) = verb_moves env t _ d s P n (meaning.verb env t) refl
  flat_moves {env = env} t r (list d P n) = list_moves env r d P n t
  flat_moves {env = env} t r (to_object c d s p P n) = object_moves env r c d s p P n t
  flat_moves {env = env} t r (after d s p P n) = after_moves env d s p P n t
  flat_moves {env = env} t r (semis d s P n) = semis_moves env d s P n t
  flat_moves {env = env} t r (begun c d s p P n) = begun_moves env r c d s p P n t
  flat_moves {env = env} t r (held x d s p P n) = held_moves env x d s p P n t
  flat_moves {env = env} t r (typing x d s p P n) = typing_moves env x d s p P n t
  flat_moves t r (lost e) = astray (Lost e) e

  -- the state that a token leads to
  abbrev FlatTurn : Context Value Triple → Turn Value Triple → Type 0
  FlatTurn env (Goes u) = Flat env u
  FlatTurn env (Ends c T n) = Unit {0}

  flat_turn : {env : Context Value Triple} {t : Symbol} {s : State Value Triple} {u : Turn Value Triple} → Moves env t s u → FlatTurn env u
  flat_turn (same s u f q) = f
  flat_turn (astray s e) = lost e
  flat_turn (over s n) = tt
  flat_turn (one s d w p n o h) = after d w p _ n
  flat_turn (string_on x d w p P n l u q h f k) = f
  flat_turn (string_over x d w p P n k l q h) = tt

  pub flat_next : {env : Context Value Triple} {s u : State Value Triple} (t : Symbol) → IsPlain env → Flat env s → step s t ≡ Goes u → Flat env u
  flat_next {env = env} t r f q = subst (FlatTurn env) q (flat_turn (flat_moves t r f))

  -- the start of triples
  begin_flat : (env : Context Value Triple) (r : Result (Value × Numbers) Fault) → Flat env (begin env r)
  begin_flat env (Err e) = lost e
  begin_flat env (Ok p) = verbs 0 p.0 [] p.1

  pub opening_flat : (env : Context Value Triple) (n : Numbers) (t : Symbol) → IsPlain env → Flat env (opening env n t)
  opening_flat env n (ATerm w) r = begin_flat env (meaning.subject env n w)
  opening_flat env n Open r = subst (λ z. Flat env (cond z (Opened env n) (Lost Syntax))) (sym r.0) (lost Syntax)
  opening_flat env n OpenList r = list 1 [] n
  opening_flat env n t r = lost Syntax
