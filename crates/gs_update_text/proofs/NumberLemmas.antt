-- The machine of triples gives numbers one after another, and a number stays with its label.
use Rattle.std.proofs.Common.{◌≡◌, ℕ, suc, ◌+◌, ◌≤◌, Bool, true, false, cond, List, [], ◌∷◌, refl, sym, ap, ◌∙◌, arith}
use Rattle.std.specs.Prelude.{codes, not, Option, Some, None, option_and_then, Result, Ok, Err}
use Rattle.std.specs.Ordering.{nat_cmp, eq_by_cmp}
use Rattle.std.specs.Cmp.Lexicographic.{slice_cmp, nat_list_cmp_total}
use Rattle.std.specs.FinMap.{get-insert, slice_cmp-IsAntisymmetric, nat_cmp-IsAntisymmetric}
use Rattle.std.specs.Cmp.{Equal-is}
use Rattle.std.proofs.lemmas.Bool.{lt-ltb}
use Rattle.gs_model.specs.Terms.{Term}
use Rattle.gs_escape.specs.Tokens.{rest_after}
use Rattle.gs_blank.specs.Numbers.{Numbers, known, one_more, with_label, label_numbered, label_number}
use Rattle.gs_triples.specs.Symbols.{Symbol, TermToken, ATerm, Text, At, Carets, Open, Close, OpenList, CloseList, Semicolon, Comma, Plain, Label, Variable}
use Rattle.gs_triples.specs.Meanings as meaning
use Rattle.gs_triples.specs.Meanings.{Fault, Syntax, Context, blank, rdf_value, tagged, typed, simple, with_numbers, labelled}
use Rattle.gs_triples.specs.Goals.{Goal, Object, Inside, Verbs, After, Semis, Begun, Items, may_open, may_open_node, next_number}
use Rattle.gs_triples.specs.Reading.{begins_verb}
use Rattle.gs_triples.specs.Program.{stands_alone}
use Rattle.gs_triples.specs.States.{Frame, ToObject, ToClose, ToFirst, ToItem, ToVerbs, ToMore, State, Opened, Closed, Heading, Held, Typing, Lost, Turn, Goes, Ends}
use Rattle.gs_triples.specs.Machine.{give, shut, leave, give_token, put, object, after_verb, at_verb, first_object, head, after_alone, go_on, begin, opening, step}
use Rattle.gs_update_text.specs.Operations.{is_among_first}

-- the first k numbers are given, and to the same labels as before
abbrev pub Keeps : ℕ → Numbers → Numbers → Type 0
Keeps k m n = (k ≤ n.1) × ((o : Option (List ℕ)) → is_among_first k (option_and_then (known n) o) ≡ is_among_first k (option_and_then (known m) o))

-- with no symbol
pub keeps_all : (k : ℕ) (m : Numbers) → k ≤ m.1 → Keeps k m m
keeps_all k m h = (h, λ o. refl)

-- one part of a text after another
pub keeps_then : (k : ℕ) (m n l : Numbers) → Keeps k m n → Keeps k n l → Keeps k m l
keeps_then k m n l g h = (h.0, λ o. h.1 o ∙ g.1 o)

-- a number more, for a node without a label
keeps_one : (k : ℕ) (m n : Numbers) → Keeps k m n → Keeps k m (one_more n)
keeps_one k m n h = (omega (arith, h.0), h.1)

-- a number after the first k
later_number : (k j : ℕ) → k ≤ j → is_among_first k (Some (j + 1)) ≡ false
later_number k j h = ap not (lt-ltb k (j + 1) (omega (arith, h)))

-- a label that is not the new one, or is, which had no number
new_label : (k : ℕ) (n : Numbers) (l x : List ℕ) (b : Bool) → eq_by_cmp (slice_cmp nat_cmp) x l ≡ b → known n l ≡ None → k ≤ n.1
    → is_among_first k (cond b (Some (n.1 + 1)) (known n x)) ≡ is_among_first k (known n x)
new_label k n l x false e q h = refl
new_label k n l x true e q h =
    let same : x ≡ l = slice_cmp-IsAntisymmetric nat_cmp-IsAntisymmetric x l ((Equal-is (slice_cmp nat_cmp x l)).0 e) in
    later_number k n.1 h ∙ sym (ap (λ z. is_among_first k (known n z)) same ∙ ap (is_among_first k) q)

-- so the first k stay where a new label gets its number
keeps_new : (k : ℕ) (n : Numbers) (l : List ℕ) → known n l ≡ None → k ≤ n.1 → (o : Option (List ℕ))
    → is_among_first k (option_and_then (known (with_label n l)) o) ≡ is_among_first k (option_and_then (known n) o)
keeps_new k n l q h None = refl
keeps_new k n l q h (Some x) = ap (is_among_first k) (get-insert nat_list_cmp_total n.0 l (n.1 + 1) x) ∙ new_label k n l x (eq_by_cmp (slice_cmp nat_cmp) x l) refl q h

-- and where a label has one already
keeps_numbered : (k : ℕ) (m n : Numbers) (l : List ℕ) (o : Option ℕ) → known n l ≡ o → Keeps k m n → Keeps k m (label_numbered n l o).1
keeps_numbered k m n l None q h = (omega (arith, h.0), λ o. keeps_new k n l q h.0 o ∙ h.1 o)
keeps_numbered k m n l (Some j) q h = h

-- a label gets its number
keeps_label : (k : ℕ) (m n : Numbers) (l : List ℕ) → Keeps k m n → Keeps k m (label_number n l).1
keeps_label k m n l h = keeps_numbered k m n l (known n l) refl h

-- what holds of a context and of numbers, and of them with a number more
module _ {Value Triple : Type 0} (R : Context Value Triple → Numbers → Type 0) (one : (env : Context Value Triple) (n : Numbers) → R env n → R env (one_more n))
    (label : (env : Context Value Triple) (n : Numbers) (l : List ℕ) → R env n → R env (label_number n l).1) where
  -- what holds of a state's context and numbers, unless after a fault
  abbrev pub Kept : State Value Triple → Type 0
  Kept (Lost e) = Unit {0}
  Kept (Opened env n) = R env n
  Kept (Closed v env P n) = R env n
  Kept (Heading g fs env P n) = R env n
  Kept (Held x fs env P n) = R env n
  Kept (Typing x fs env P n) = R env n

  -- what holds after a turn
  abbrev pub KeptBy : Turn Value Triple → Type 0
  KeptBy (Goes s) = Kept s
  KeptBy (Ends env P n) = R env n

  -- one of two states
  one_of : (b : Bool) (s u : State Value Triple) → Kept s → Kept u → Kept (cond b s u)
  one_of true s u g h = g
  one_of false s u g h = h

  -- one of two turns
  either : (b : Bool) (s u : Turn Value Triple) → KeptBy s → KeptBy u → KeptBy (cond b s u)
  either true s u g h = g
  either false s u g h = h

  -- a value for what stands on top of the stack
  give_keeps : (env : Context Value Triple) (v : Value) (fs : List (Frame Value)) (P : List Triple) (n : Numbers) → R env n → Kept (give env v fs P n)
  give_keeps env v [] P n h = tt
  give_keeps env v (ToObject d s p ∷ fs) P n h = h
  give_keeps env v (ToFirst d i ∷ fs) P n h = h
  give_keeps env v (ToItem d i l j ∷ fs) P n h = h
  give_keeps env v (ToVerbs ∷ fs) P n h = one_of (stands_alone env P) (Closed v env P n) (Heading (Verbs 0 v) fs env P n) h h
  give_keeps env v (ToClose i ∷ fs) P n h = tt
  give_keeps env v (ToMore i ∷ fs) P n h = tt

  -- a symbol where a frame is open after a list of verbs
  shut_keeps : (t : Symbol) (f : Frame Value) (fs : List (Frame Value)) (env : Context Value Triple) (P : List Triple) (n : Numbers) → R env n → Kept (shut t f fs env P n)
  shut_keeps Close (ToClose i) fs env P n h = give_keeps env (blank env i) fs P n h
  shut_keeps Close (ToMore i) [] env P n h = h
  shut_keeps t f fs env P n h = tt

  -- a symbol after a list of verbs
  leave_keeps : (t : Symbol) (fs : List (Frame Value)) (env : Context Value Triple) (P : List Triple) (n : Numbers) → R env n → KeptBy (leave t fs env P n)
  leave_keeps t [] env P n h = h
  leave_keeps t (f ∷ fs) env P n h = shut_keeps t f fs env P n h

  -- a value that keeps them, unless it is a fault
  abbrev KeptValue : Context Value Triple → Result (Value × Numbers) Fault → Type 0
  KeptValue env (Err e) = Unit {0}
  KeptValue env (Ok p) = R env p.1

  -- a value that takes no number
  with_keeps : (env : Context Value Triple) (n : Numbers) (r : Result Value Fault) → R env n → KeptValue env (with_numbers n r)
  with_keeps env n (Err e) h = tt
  with_keeps env n (Ok v) h = h

  -- a value that stands only where it may
  if_keeps : (env : Context Value Triple) (b : Bool) (r : Result (Value × Numbers) Fault) → KeptValue env r → KeptValue env (cond b r (Err Syntax))
  if_keeps env true r h = h
  if_keeps env false r h = tt

  -- the node of a label
  labelled_keeps : (env : Context Value Triple) (n : Numbers) (l : Option (List ℕ)) → R env n → KeptValue env (labelled env n l)
  labelled_keeps env n None h = tt
  labelled_keeps env n (Some l) h = label env n l h

  -- the value of a token
  word_keeps : (env : Context Value Triple) (n : Numbers) (w : TermToken) → R env n → KeptValue env (meaning.word env n w)
  unfolding meaning.word
  word_keeps env n (Label x) h = if_keeps env env.language.nodes (labelled env n (rest_after (codes "_:") x)) (labelled_keeps env n (rest_after (codes "_:") x) h)
  word_keeps env n (Plain x d) h = with_keeps env n _ h
  word_keeps env n (Variable x) h = with_keeps env n _ h
  word_keeps env n w h = with_keeps env n _ h

  -- and as a subject
  subject_keeps : (env : Context Value Triple) (n : Numbers) (w : TermToken) → R env n → KeptValue env (meaning.subject env n w)
  subject_keeps env n (Plain x d) h = tt
  subject_keeps env n w h = word_keeps env n w h

  -- a token's value for what stands on top of the stack
  token_keeps : (fs : List (Frame Value)) (env : Context Value Triple) (P : List Triple) (r : Result (Value × Numbers) Fault) → KeptValue env r → Kept (give_token fs env P r)
  token_keeps fs env P (Err e) h = tt
  token_keeps fs env P (Ok p) h = give_keeps env p.0 fs P p.1 h

  -- a literal for what stands on top of the stack
  put_keeps : (fs : List (Frame Value)) (env : Context Value Triple) (P : List Triple) (n : Numbers) (r : Result Term Fault) → R env n → Kept (put fs env P n r)
  put_keeps fs env P n (Err e) h = tt
  put_keeps fs env P n (Ok t) h = give_keeps env (env.language.of_term t) fs P n h

  -- the first symbol of an object
  object_keeps : (d : ℕ) (t : Symbol) (fs : List (Frame Value)) (env : Context Value Triple) (P : List Triple) (n : Numbers) → R env n → Kept (object d t fs env P n)
  object_keeps d (ATerm w) fs env P n h = token_keeps fs env P (meaning.word env n w) (word_keeps env n w h)
  object_keeps d (Text x) fs env P n h = h
  object_keeps d Open fs env P n h = one_of (may_open_node env d) (Heading (Inside (suc d) (next_number n)) fs env P (one_more n)) (Lost Syntax) (one env n h) tt
  object_keeps d OpenList fs env P n h = one_of (may_open d) (Heading (Begun (suc d)) fs env P n) (Lost Syntax) h tt
  object_keeps d t fs env P n h = tt

  -- a verb
  verb_keeps : (d : ℕ) (s : Value) (fs : List (Frame Value)) (env : Context Value Triple) (P : List Triple) (n : Numbers) (r : Result Value Fault) → R env n → Kept (after_verb d s fs env P n r)
  verb_keeps d s fs env P n (Err e) h = tt
  verb_keeps d s fs env P n (Ok p) h = h

  -- the first object of a collection
  first_keeps : (d : ℕ) (t : Symbol) (fs : List (Frame Value)) (env : Context Value Triple) (P : List Triple) (n : Numbers) → R env n → Kept (first_object d t fs env P n)
  first_keeps d t fs env P n h =
      one_of env.language.nodes (object d t (ToFirst d (next_number n) ∷ fs) env P (one_more n)) (Lost Syntax) (object_keeps d t (ToFirst d (next_number n) ∷ fs) env P (one_more n) (one env n h)) tt

  -- a symbol at each goal
  head_keeps : (g : Goal Value) (t : Symbol) (fs : List (Frame Value)) (env : Context Value Triple) (P : List Triple) (n : Numbers) → R env n → KeptBy (head g t fs env P n)
  head_keeps (Object d) t fs env P n h = object_keeps d t fs env P n h
  head_keeps (Inside d i) Close fs env P n h = give_keeps env (blank env i) fs P n h
  head_keeps (Inside d i) t fs env P n h = verb_keeps d (blank env i) (ToClose i ∷ fs) env P n (meaning.verb env t) h
  head_keeps (Verbs d s) t fs env P n h = verb_keeps d s fs env P n (meaning.verb env t) h
  head_keeps (After d s p) Comma fs env P n h = h
  head_keeps (After d s p) Semicolon fs env P n h = h
  head_keeps (After d s p) t fs env P n h = leave_keeps t fs env P n h
  head_keeps (Semis d s) Semicolon fs env P n h = h
  head_keeps (Semis d s) t fs env P n h =
      either (begins_verb t) (Goes (at_verb d s t fs env P n)) (leave t fs env P n) (verb_keeps d s fs env P n (meaning.verb env t) h) (leave_keeps t fs env P n h)
  head_keeps (Begun d) CloseList fs env P n h = give_keeps env (rdf_value env (codes "nil")) fs P n h
  head_keeps (Begun d) t fs env P n h = first_keeps d t fs env P n h
  head_keeps (Items d i l) CloseList fs env P n h = give_keeps env (blank env i) fs _ n h
  head_keeps (Items d i l) t fs env P n h = object_keeps d t (ToItem d i l (next_number n) ∷ fs) env P (one_more n) (one env n h)

  -- a symbol after a subject that may stand alone
  alone_keeps : (v : Value) (t : Symbol) (env : Context Value Triple) (P : List Triple) (n : Numbers) → R env n → KeptBy (after_alone v t env P n)
  alone_keeps v t env P n h =
      either (begins_verb t) (Goes (at_verb 0 v t [] env P n)) (leave t [] env P n) (verb_keeps 0 v [] env P n (meaning.verb env t) h) (leave_keeps t [] env P n h)

  -- a symbol after a string that was an object
  on_keeps : (t : Symbol) (s : State Value Triple) → Kept s → KeptBy (go_on t s)
  on_keeps t (Heading g fs env P n) h = head_keeps g t fs env P n h
  on_keeps t (Closed v env P n) h = alone_keeps v t env P n h
  on_keeps t s h = tt

  -- one symbol more
  pub step_keeps : (s : State Value Triple) (t : Symbol) → Kept s → KeptBy (step s t)
  unfolding step
  step_keeps (Opened env n) Close h = one env n h
  step_keeps (Opened env n) t h = verb_keeps 1 (blank env (next_number n)) (ToMore (next_number n) ∷ []) env [] (one_more n) (meaning.verb env t) (one env n h)
  step_keeps (Closed v env P n) t h = alone_keeps v t env P n h
  step_keeps (Heading g fs env P n) t h = head_keeps g t fs env P n h
  step_keeps (Held x fs env P n) (At y) h = put_keeps fs env P n (tagged x y) h
  step_keeps (Held x fs env P n) Carets h = h
  step_keeps (Held x fs env P n) t h = on_keeps t (put fs env P n (simple x)) (put_keeps fs env P n (simple x) h)
  step_keeps (Typing x fs env P n) t h = put_keeps fs env P n (typed env x t) h
  step_keeps (Lost e) t h = tt

  -- the subject that triples begin with
  begin_keeps : (env : Context Value Triple) (r : Result (Value × Numbers) Fault) → KeptValue env r → Kept (begin env r)
  begin_keeps env (Err e) h = tt
  begin_keeps env (Ok p) h = h

  -- the first symbol of triples
  pub opening_keeps : (env : Context Value Triple) (n : Numbers) (t : Symbol) → R env n → Kept (opening env n t)
  opening_keeps env n (ATerm w) h = begin_keeps env (meaning.subject env n w) (subject_keeps env n w h)
  opening_keeps env n Open h = one_of env.language.nodes (Opened env n) (Lost Syntax) h tt
  opening_keeps env n OpenList h = h
  opening_keeps env n t h = tt

-- the context stays, and the first k numbers with their labels
abbrev pub Stays : {Value Triple : Type 0} → ℕ → Context Value Triple → Numbers → Context Value Triple → Numbers → Type 0
Stays k c m env n = (env ≡ c) × Keeps k m n

module _ {Value Triple : Type 0} (k : ℕ) (c : Context Value Triple) (m : Numbers) where
  -- a number more
  pub stays_one : (env : Context Value Triple) (n : Numbers) → Stays k c m env n → Stays k c m env (one_more n)
  stays_one env n h = (h.0, keeps_one k m n h.1)

  -- a label's number
  pub stays_label : (env : Context Value Triple) (n : Numbers) (l : List ℕ) → Stays k c m env n → Stays k c m env (label_number n l).1
  stays_label env n l h = (h.0, keeps_label k m n l h.1)

  -- so they do over a symbol of triples
  pub step_stays : (s : State Value Triple) (t : Symbol) → Kept (Stays k c m) stays_one stays_label s → KeptBy (Stays k c m) stays_one stays_label (step s t)
  step_stays s t h = step_keeps (Stays k c m) stays_one stays_label s t h

  -- and over their first symbol
  pub opening_stays : (n : Numbers) (t : Symbol) → Keeps k m n → Kept (Stays k c m) stays_one stays_label (opening c n t)
  opening_stays n t h = opening_keeps (Stays k c m) stays_one stays_label c n t (refl, h)
