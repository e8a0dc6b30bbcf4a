-- Where the machine of a block refuses it as out of the profile, the rules say why: from where triples may begin.
use Rattle.std.proofs.Common.{◌≡◌, ℕ, zero, suc, ◌≤◌, Bool, true, false, cond, List, [], ◌∷◌, ◌++◌, length, refl, sym, ap, ◌∙◌, append_assoc, append-nil, subst, arith, length-append}
use Rattle.std.specs.Prelude.{◌||◌, Result, Ok, Err, Option, Some, None}
use Rattle.std.specs.List.{list_any}
use Rattle.std.proofs.lemmas.List.Folds.{list_any-append}
use Rattle.gs_blank.specs.Numbers.{Numbers}
use Rattle.gs_lex.specs.declared.kinds.TokenKind.TheVariants as kind
use Rattle.gs_triples.specs.Symbols.{Symbol, ATerm, Open, OpenList, Dot, Foreign}
use Rattle.gs_triples.specs.Meanings.{Fault, Syntax, Context, subject}
use Rattle.gs_triples.specs.Triples.{AreTriples}
use Rattle.gs_triples.specs.States.{Opened, Lost}
use Rattle.gs_triples.specs.Machine.{begin, opening}
use Rattle.gs_update_text.specs.Requests.{UpdateOperation, OutOfProfile}
use Rattle.gs_update_text.specs.Operations.{Block}
use Rattle.gs_update_text.specs.Grammar.{IsTemplate}
use Rattle.gs_update_text.specs.Grammar as rule
use Rattle.gs_update_text.specs.Profile.{EndsString, is_string, ends_in_string, AreDotted}
use Rattle.gs_update_text.specs.Profile as profile
use Rattle.gs_triples.specs.States.{triples_so_far}
use Rattle.gs_update_text.specs.Blocks.{AtTriples, shut, parted, at_triples, block_run}
use Rattle.gs_update_text.proofs.LeadLemmas.{lead_triples}
use Rattle.gs_update_text.proofs.BlockLemmas.{block_reported}
use Rattle.gs_update_text.proofs.FlatLemmas.{opening_flat}
use Rattle.gs_update_text.proofs.StopLemmas.{Clear, clear_front, clear_more, brace, Guards, IsExcess, both_ways, free_token, Entry, goes_in, too_full, entry, StopsWithin, passes, exceeds, stops_within}

module _ {Value Triple : Type 0} where
  -- where triples may begin: a graph, a triple too many, or the end of a block with too few
  pub data StopsAt (b : Block Value Triple) (env : Context Value Triple) (P : List Triple) (n : Numbers) : List Symbol → Type 0 where
    at_graph : {k : Numbers} {xs : List Symbol} {T : List Triple} (e : ℕ) (us : List Symbol) → AreDotted env n xs T k → list_any b.bars xs ≡ false → b.too_many (P ++ T) ≡ false
        → StopsAt b env P n (xs ++ Foreign kind.Graph e ∷ us)
    at_excess : {k : Numbers} {xs : List Symbol} {T : List Triple} (us : List Symbol) → IsTemplate env n xs T k → IsExcess b (P ++ T) → Clear xs us → StopsAt b env P n (xs ++ us)
    at_end : {k : Numbers} {xs : List Symbol} {T : List Triple} (e : ℕ) (us : List Symbol) → IsTemplate env n xs T k → b.operation (P ++ T) ≡ None
        → StopsAt b env P n (xs ++ Foreign kind.CloseBrace e ∷ us)

  -- triples and a dot before it
  after_dot : {b : Block Value Triple} {env : Context Value Triple} {P T : List Triple} {n k : Numbers} {xs us : List Symbol} (e : ℕ) → AreTriples env n xs T k → list_any b.bars xs ≡ false → b.bars (Dot e) ≡ false
      → StopsAt b env (P ++ T) k us → StopsAt b env P n (xs ++ Dot e ∷ us)
  after_dot {b = b} {env = env} {P = P} {T = T} {n = n} {xs = xs} e a new free (at_graph {xs = ys} {T = U} i vs d later few) =
      subst (StopsAt b env P n) (append_assoc xs (Dot e ∷ ys) (Foreign kind.Graph i ∷ vs))
      (at_graph i vs (profile.more e a d) (list_any-append b.bars xs (Dot e ∷ ys) ∙ ap (λ z. z || (b.bars (Dot e) || list_any b.bars ys)) new ∙ ap (λ z. z || list_any b.bars ys) free ∙ later)
      (ap b.too_many (sym (append_assoc P T U)) ∙ few))
  after_dot {b = b} {env = env} {P = P} {T = T} {n = n} {xs = xs} e a new free (at_excess {xs = ys} {T = U} vs t x c) =
      subst (StopsAt b env P n) (append_assoc xs (Dot e ∷ ys) vs)
      (at_excess vs (rule.more e a t) (subst (IsExcess b) (append_assoc P T U) x) (clear_front xs (Dot e ∷ ys) vs (clear_more (Dot e) ys vs c)))
  after_dot {b = b} {env = env} {P = P} {T = T} {n = n} {xs = xs} e a new free (at_end {xs = ys} {T = U} i vs t none) =
      subst (StopsAt b env P n) (append_assoc xs (Dot e ∷ ys) (brace i ∷ vs))
      (at_end i vs (rule.more e a t) (ap b.operation (sym (append_assoc P T U)) ∙ none))

  abbrev StopsLater : ℕ → Block Value Triple → Context Value Triple → Type 0
  StopsLater f b env = (P : List Triple) (n : Numbers) (ts : List Symbol) → length ts ≤ f → b.too_many P ≡ false → block_run b ts (AtTriples env P n) ≡ Err OutOfProfile → StopsAt b env P n ts

  shut_stop : (b : Block Value Triple) (env : Context Value Triple) (P T : List Triple) (n k : Numbers) (xs us : List Symbol) (e : ℕ) → IsTemplate env n xs T k → (o : Option UpdateOperation) → b.operation (P ++ T) ≡ o
      → block_reported b us (shut o k e) ≡ Err OutOfProfile → StopsAt b env P n (xs ++ brace e ∷ us)
  shut_stop b env P T n k xs us e t None q h = at_end e us t q
  shut_stop b env P T n k xs us e t (Some o) q h = absurd (cc)

  -- the token after triples
  parted_stop : (f : ℕ) (b : Block Value Triple) (env : Context Value Triple) (P T : List Triple) (n k : Numbers) (xs us : List Symbol) (t : Symbol) → Guards b env → StopsLater f b env → AreTriples env n xs T k
      → list_any b.bars xs ≡ false → b.too_many (P ++ T) ≡ false → length us ≤ f → block_reported b us (parted b t env (P ++ T) k) ≡ Err OutOfProfile → StopsAt b env P n (xs ++ t ∷ us)
  parted_stop f b env P T n k xs us (Dot e) g again a new few size h = after_dot e a new (g.dots e) (again (P ++ T) k us size few h)
  parted_stop f b env P T n k xs us (Foreign kind.CloseBrace e) g again a new few size h = shut_stop b env P T n k xs us e (rule.last a) (b.operation (P ++ T)) refl h
  parted_stop f b env P T n k xs us t g again a new few size h = absurd (cc)

  -- triples from their first symbol on
  triples_stop : (f : ℕ) (b : Block Value Triple) (env : Context Value Triple) (P : List Triple) (n : Numbers) (w : Symbol) (ts : List Symbol) → Guards b env → StopsLater f b env → b.bars w ≡ false → length ts ≤ f
      → StopsWithin b P ts (opening env n w) → StopsAt b env P n (w ∷ ts)
  triples_stop f b env P n w ts g again free size (exceeds {xs = xs} us l e x c) = at_excess us (rule.last (lead_triples w (brace 0) l e).1) x (clear_more w xs us c)
  triples_stop f b env P n w ts g again free size (passes {xs = xs} {env = c} {T = T} {k = k} t us l e new few reported) =
      let (alike, a) : (env ≡ c) × AreTriples env n (w ∷ xs) T k = lead_triples w t l e in
      parted_stop f b env P T n k (w ∷ xs) us t g again a (ap (λ z. z || list_any b.bars xs) free ∙ new) few (omega (arith, size, length-append xs (t ∷ us)))
      (ap (λ z. block_reported b us (parted b t z (P ++ T) k)) alike ∙ reported)

  begin_none : (env : Context Value Triple) (r : Result (Value × Numbers) Fault) → triples_so_far (begin env r) ≡ []
  begin_none env (Err e) = refl
  begin_none env (Ok p) = refl

  none_or : (env : Context Value Triple) (n : Numbers) (c : Bool) → triples_so_far (cond c (Opened env n) (Lost Syntax)) ≡ []
  none_or env n true = refl
  none_or env n false = refl

  opening_none : (env : Context Value Triple) (n : Numbers) (t : Symbol) → triples_so_far (opening env n t) ≡ []
  opening_none env n (ATerm w) = begin_none env (subject env n w)
  opening_none env n Open = none_or env n env.language.nodes
  opening_none env n OpenList = refl
  opening_none env n t = refl

  first_stop : (f : ℕ) (b : Block Value Triple) (env : Context Value Triple) (P : List Triple) (n : Numbers) (w : Symbol) (ts : List Symbol) → Guards b env → StopsLater f b env → b.bars w ≡ false → b.too_many P ≡ false → length ts ≤ f
      → Entry b P ts (opening env n w) → StopsAt b env P n (w ∷ ts)
  first_stop f b env P n w ts g again free few size (goes_in less run) =
      triples_stop f b env P n w ts g again free size (stops_within b P env g ts (opening env n w) (λ r. opening_flat env n w r) less run)
  first_stop f b env P n w ts g again free few size (too_full m many) =
      absurd (both_ways b (P ++ triples_so_far (opening env n w)) P (ap (λ z. P ++ z) (opening_none env n w) ∙ append-nil P) few many)

  at_stop : (f : ℕ) (b : Block Value Triple) (env : Context Value Triple) (P : List Triple) (n : Numbers) (t : Symbol) (ts : List Symbol) → Guards b env → StopsLater f b env → b.bars t ≡ false → b.too_many P ≡ false → length ts ≤ f
      → block_reported b ts (at_triples b t env P n) ≡ Err OutOfProfile → StopsAt b env P n (t ∷ ts)
  at_stop f b env P n (Foreign kind.CloseBrace e) ts g again free few size h =
      shut_stop b env P [] n n [] ts e (rule.nothing n) (b.operation (P ++ [])) refl (ap (λ z. block_reported b ts (shut (b.operation z) n e)) (append-nil P) ∙ h)
  at_stop f b env P n (Foreign kind.Graph e) ts g again free few size h = at_graph e ts (profile.nothing n) refl (ap b.too_many (append-nil P) ∙ few)
  at_stop f b env P n t ts g again free few size h = first_stop f b env P n t ts g again free few size (entry b P ts (opening env n t) h)

  -- a block that is refused
  pub block_stops : (f : ℕ) (b : Block Value Triple) (env : Context Value Triple) → Guards b env → StopsLater f b env
  unfolding block_run
  block_stops f b env g P n [] size few h = absurd (cc)
  block_stops zero b env g P n (t ∷ ts) size few h = absurd (omega arith)
  block_stops (suc f) b env g P n (t ∷ ts) size few h =
      let (free, k) : (b.bars t ≡ false) × (block_reported b ts (at_triples b t env P n) ≡ Err OutOfProfile) = free_token b env g (AtTriples env P n) t ts h in
      at_stop f b env P n t ts g (block_stops f b env g) free few (omega arith) k
