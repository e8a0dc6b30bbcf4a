-- The machine refuses as out of the profile just what the rules say is not served.
use Rattle.std.proofs.Common.{◌≡◌, ℕ, false, List, [], ◌∷◌, ◌++◌, length, refl, sym, ap, ◌∙◌, append_assoc, append-nil, subst, arith}
use Rattle.std.specs.Prelude.{Err, Some, None}
use Rattle.std.specs.List.{list_any}
use Rattle.std.proofs.lemmas.Bool.{le-ltb, lt-ltb}
use Rattle.gs_lex.specs.Tokens.{Lexeme}
use Rattle.gs_lex.specs.declared.kinds.TokenKind.{TokenKind}
use Rattle.gs_lex.specs.declared.kinds.TokenKind.TheVariants as kind
use Rattle.gs_machine.specs.Machines.{joined, rest}
use Rattle.gs_blank.specs.Numbers.{Numbers, no_numbers}
use Rattle.gs_triples.specs.Symbols.{Symbol, ATerm, Reference, Namespace, Semicolon, PrefixWord, BaseWord, Foreign, symbols_of}
use Rattle.gs_triples.specs.Meanings.{Fault, Context}
use Rattle.gs_triples.specs.Directives.{with_prefix, with_base}
use Rattle.gs_update_text.specs.Requests.{Rejection, Broken, OutOfProfile, Written, UpdateRequest}
use Rattle.gs_model.specs.Limits.{max_patterns}
use Rattle.gs_update_text.specs.Operations.{Scope, Block, in_language, insert_block, delete_block, where_block}
use Rattle.gs_update_text.specs.Grammar as rule
use Rattle.gs_update_text.specs.Grammar.{IsOperation, IsUpdate, first_scope}
use Rattle.gs_update_text.specs.Profile as profile
use Rattle.gs_update_text.specs.Profile.{BeginsOther, AreDotted, Expects, Departs, Departure, LeavesProfile}
use Rattle.gs_update_text.specs.Blocks.{BlockState, AtTriples, block_run}
use Rattle.gs_update_text.specs.States.{UpdateState, Between, InData, InWhere}
use Rattle.gs_update_text.specs.Machine.{begun, step, updates, request_of}
use Rattle.gs_update_text.proofs.BlockLemmas.{Bounds, Parts, block_reported, stands}
use Rattle.gs_update_text.proofs.ExcessLemmas.{template_excess, dotted_run}
use Rattle.gs_update_text.proofs.UpdateLemmas.{rejected_rest, after_block, Holds, block_rest, holds_data, holds_where, bounds_insert, bounds_delete, bounds_where, none_barred, parts_insert, parts_plain, prologue_read, operation_read}
use Rattle.gs_update_text.proofs.WalkLemmas.{Stopped, Reads, walk}
use Rattle.gs_update_text.proofs.ReadLemmas.{update_read}

-- a front of an update, after which an operation is expected
expects_read : {env next : Scope} {n k : Numbers} {xs : List Symbol} {os : List Written} → Expects env n xs os next k → (us : List Symbol)
    → rest updates (Between env n) (xs ++ us) ≡ joined os (rest updates (Between next k) us)
unfolding rest step
expects_read {n = n} (profile.first p) us = prologue_read n us p
expects_read {env = env} {n = n} (profile.later {xs = xs} {ys = ys} {zs = zs} {o = o} p a r) us =
    ap (rest updates (Between env n)) (append_assoc (xs ++ ys) (Semicolon ∷ zs) us ∙ append_assoc xs ys (Semicolon ∷ (zs ++ us)))
    ∙ prologue_read n (ys ++ Semicolon ∷ (zs ++ us)) p ∙ operation_read (Semicolon ∷ (zs ++ us)) a ∙ ap (joined (o ∷ [])) (expects_read r us)

-- an operation of another form
other_read : (k : TokenKind) → BeginsOther k → (env : Scope) (n : Numbers) (ts : List Symbol) → rest updates (begun k env n) ts ≡ ([], Some OutOfProfile)
other_read kind.Load h env n ts = rejected_rest OutOfProfile ts
other_read kind.Clear h env n ts = rejected_rest OutOfProfile ts
other_read kind.Drop h env n ts = rejected_rest OutOfProfile ts
other_read kind.Create h env n ts = rejected_rest OutOfProfile ts
other_read kind.Add h env n ts = rejected_rest OutOfProfile ts
other_read kind.Move h env n ts = rejected_rest OutOfProfile ts
other_read kind.Copy h env n ts = rejected_rest OutOfProfile ts
other_read kind.With h env n ts = rejected_rest OutOfProfile ts
other_read k h env n ts = elim h [ ]

module _ {Value Triple : Type 0} where
  graph_stops : (b : Block Value Triple) (env : Context Value Triple) (P : List Triple) (n : Numbers) (e : ℕ) (ts : List Symbol) → b.bars (Foreign kind.Graph e) ≡ false
      → block_run b (Foreign kind.Graph e ∷ ts) (AtTriples env P n) ≡ Err OutOfProfile
  unfolding block_run
  graph_stops b env P n e ts free = ap (block_reported b ts) (stands b (AtTriples env P n) (Foreign kind.Graph e) free)

  -- a graph where triples may begin
  graph_read : {env : Scope} {n k : Numbers} {xs : List Symbol} {T : List Triple} (inside : BlockState Value Triple → UpdateState) (b : Block Value Triple) (e : ℕ) (ts : List Symbol)
      → Holds inside b env → Bounds b → AreDotted (in_language b.language env) n xs T k → list_any b.bars xs ≡ false → ((t : Symbol) → Parts t → b.bars t ≡ false)
      → b.bars (Foreign kind.Graph e) ≡ false → b.too_many T ≡ false
      → rest updates (inside (AtTriples (in_language b.language env) [] n)) (xs ++ Foreign kind.Graph e ∷ ts) ≡ ([], Some OutOfProfile)
  graph_read {env = env} {n = n} {k = k} {xs = xs} {T = T} inside b e ts h bounds a new free graph few =
      block_rest inside b env h (xs ++ Foreign kind.Graph e ∷ ts) (AtTriples (in_language b.language env) [] n)
      ∙ ap (after_block env) (dotted_run b bounds [] (Foreign kind.Graph e ∷ ts) a new free few ∙ graph_stops b (in_language b.language env) T k e ts graph)

-- an operation that is not served
departs_read : {env : Scope} {n : Numbers} {ts : List Symbol} → Departs env n ts → rest updates (Between env n) ts ≡ ([], Some OutOfProfile)
unfolding rest step
departs_read {env = env} {n = n} (profile.other_form k e ts h) = other_read k h env n ts
departs_read (profile.insert_template a b ts) = rejected_rest OutOfProfile ts
departs_read (profile.delete_template a b ts) = rejected_rest OutOfProfile ts
departs_read {env = env} {n = n} (profile.insert_graph a b c e ts new d) =
    graph_read (InData (insert_block n) env) (insert_block n) e ts (holds_data (insert_block n) env) (bounds_insert n) d new (parts_insert n) refl refl
departs_read {env = env} (profile.delete_graph {xs = xs} a b c e ts d) =
    graph_read (InData delete_block env) delete_block e ts (holds_data delete_block env) bounds_delete d (none_barred xs) parts_plain refl refl
departs_read {env = env} (profile.where_graph {xs = xs} {T = T} a b c e ts d few) =
    graph_read (InWhere where_block env) where_block e ts (holds_where where_block env) bounds_where d (none_barred xs) parts_plain refl (le-ltb max_patterns (length T) few)
departs_read {env = env} {n = n} (profile.fifth_pattern {xs = xs} {T = T} a b c ts t five h) =
    block_rest (InWhere where_block env) where_block env (holds_where where_block env) (xs ++ ts) (AtTriples (in_language where_block.language env) [] n)
    ∙ ap (after_block env) (template_excess where_block bounds_where (λ t. refl) [] ts t refl (lt-ltb max_patterns (length T) (omega (arith, five))) h)
departs_read (profile.no_pattern a b c e ts) = rejected_rest OutOfProfile ts

-- tokens that leave what is served
departure_reported : {env : Scope} {n : Numbers} {ts : List Symbol} {os : List Written} → Departure env n ts os → rest updates (Between env n) ts ≡ (os, Some OutOfProfile)
departure_reported {os = os} (profile.departure {ys = ys} e d) =
    expects_read e ys ∙ ap (joined os) (departs_read d) ∙ ap (λ z. let p : UpdateRequest = (z, Some OutOfProfile) in p) (append-nil os)

-- a directive before them
base_expects : {env next last : Scope} {n k : Numbers} {xs : List Symbol} {os : List Written} (i : List ℕ) (a : ℕ) → with_base env i ≡ Some next → Expects next n xs os last k
    → Expects env n (BaseWord ∷ ATerm (Reference i a) ∷ xs) os last k
base_expects i a q (profile.first p) = profile.first (rule.base i a q p)
base_expects i a q (profile.later p o r) = profile.later (rule.base i a q p) o r

prefix_expects : {env next last : Scope} {n k : Numbers} {xs : List Symbol} {os : List Written} (x i : List ℕ) (a : ℕ) → with_prefix env x i ≡ Some next → Expects next n xs os last k
    → Expects env n (PrefixWord ∷ ATerm (Namespace x) ∷ ATerm (Reference i a) ∷ xs) os last k
prefix_expects x i a q (profile.first p) = profile.first (rule.prefix x i a q p)
prefix_expects x i a q (profile.later p o r) = profile.later (rule.prefix x i a q p) o r

base_before : {env next : Scope} {n : Numbers} {us : List Symbol} {os : List Written} (i : List ℕ) (a : ℕ) → with_base env i ≡ Some next → Departure next n us os
    → Departure env n (BaseWord ∷ ATerm (Reference i a) ∷ us) os
base_before i a q (profile.departure e d) = profile.departure (base_expects i a q e) d

prefix_before : {env next : Scope} {n : Numbers} {us : List Symbol} {os : List Written} (x i : List ℕ) (a : ℕ) → with_prefix env x i ≡ Some next → Departure next n us os
    → Departure env n (PrefixWord ∷ ATerm (Namespace x) ∷ ATerm (Reference i a) ∷ us) os
prefix_before x i a q (profile.departure e d) = profile.departure (prefix_expects x i a q e) d

-- an operation before them
operation_before : {env : Scope} {n k : Numbers} {ys zs : List Symbol} {o : Written} {os : List Written} → IsOperation env n ys o k → Departure env k zs os → Departure env n (ys ++ Semicolon ∷ zs) (o ∷ os)
operation_before {env = env} {n = n} {ys = ys} {o = o} {os = os} a (profile.departure {xs = xs} {ys = vs} e d) =
    subst (λ z. Departure env n z (o ∷ os)) (append_assoc ys (Semicolon ∷ xs) vs) (profile.departure (profile.later (rule.nothing env) a e) d)

no_end : None ≡ Some OutOfProfile → ⊥
no_end h = cc

not_broken : {f : Fault} → Some (Broken f) ≡ Some OutOfProfile → ⊥
not_broken h = cc

stops_so : (env : Scope) (n : Numbers) (ts : List Symbol) (r : Rejection) → Some r ≡ Some OutOfProfile → Stopped env n ts r → Departure env n ts []
stops_so env n ts (Broken f) q s = absurd (not_broken q)
stops_so env n ts OutOfProfile q s = profile.departure (profile.first (rule.nothing env)) s

leaving : Reads (Some OutOfProfile) Departure
leaving = record {
  base = base_before;
  prefix = prefix_before;
  ends = λ env n q. absurd (no_end q);
  last = λ a q. absurd (no_end q);
  more = operation_before;
  unparted = λ t us a q. absurd (not_broken q);
  stops = stops_so;
}

pub departure_read : (b : List ℕ) (r : ℕ) (ts : List Lexeme) (os : List Written) → LeavesProfile b r ts os → request_of b r ts ≡ (os, Some OutOfProfile)
departure_read b r ts os h = departure_reported h

-- and what is refused so leaves it
pub departure_covered : (b : List ℕ) (r : ℕ) (ts : List Lexeme) (os : List Written) → request_of b r ts ≡ (os, Some OutOfProfile) → LeavesProfile b r ts os
departure_covered b r ts os h =
    walk (Some OutOfProfile) Departure leaving (length (symbols_of ts)) (first_scope b r) no_numbers (symbols_of ts) os (omega arith) h

pub departure_apart : (b : List ℕ) (r : ℕ) (ts : List Lexeme) (os us : List Written) → IsUpdate b r ts os → LeavesProfile b r ts us → ⊥
departure_apart b r ts os us u h =
    let both : None ≡ Some OutOfProfile = ap (λ (z : UpdateRequest). z.1) (sym (update_read b r ts os u) ∙ departure_read b r ts us h) in absurd (cc)
