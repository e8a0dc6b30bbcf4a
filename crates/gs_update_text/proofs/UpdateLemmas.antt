-- The machine reads what the rules say of a list of tokens, operation by operation.
use Rattle.std.proofs.Common.{◌≡◌, ℕ, ◌≤◌, false, List, [], ◌∷◌, ◌++◌, length, refl, sym, ap, ◌∙◌, append_assoc, append-nil, arith, length-append}
use Rattle.std.specs.Prelude.{Result, Ok, Err, Some, None}
use Rattle.std.specs.List.{list_any}
use Rattle.std.proofs.lemmas.Bool.{le-ltb, ltb-false}
use Rattle.gs_model.specs.Terms.{Term}
use Rattle.gs_model.specs.Triples.{RdfTriple}
use Rattle.gs_term.specs.declared.patterns.Part.{Part}
use Rattle.gs_term.specs.declared.patterns.Pattern.{Pattern}
use Rattle.gs_lex.specs.declared.kinds.TokenKind.TheVariants as kind
use Rattle.gs_machine.specs.Machines.{joined, rest}
use Rattle.gs_blank.specs.Numbers.{Numbers}
use Rattle.gs_triples.specs.Symbols.{Symbol, Dot, Semicolon, Foreign}
use Rattle.gs_update_text.specs.Requests.{UpdateOperation, DeletesWhere, Rejection, Written, UpdateRequest}
use Rattle.gs_model.specs.Limits.{max_patterns}
use Rattle.gs_update_text.specs.Operations.{Scope, Block, in_language, insert_block, delete_block, where_block, some_patterns}
use Rattle.gs_update_text.specs.Grammar as rule
use Rattle.gs_update_text.specs.Grammar.{IsTemplate, IsPrologue, IsOperation, AreOperations, AreNew}
use Rattle.gs_update_text.specs.Blocks.{BlockState, AtTriples, BlockTurn, Takes, Shuts, Stops, Shut, shut, block_step, block_ended, block_run}
use Rattle.gs_update_text.specs.States.{UpdateState, Between, InData, InWhere, After, Rejected, UpdateStep}
use Rattle.gs_update_text.specs.Machine.{prefaced, blocked, step, ended, updates}
use Rattle.gs_update_text.proofs.BlockLemmas.{Bounds, Parts, block_reported, template_run}

-- what is said from a transition on
abbrev pub reported : UpdateStep → List Symbol → UpdateRequest
reported u ts = joined u.1 (rest updates u.0 ts)

-- after a departure nothing is said
pub rejected_rest : (r : Rejection) (ts : List Symbol) → rest updates (Rejected r) ts ≡ ([], Some r)
unfolding rest step ended
rejected_rest r [] = refl
rejected_rest r (t ∷ ts) = rejected_rest r ts

-- an operation, with its end
abbrev pub written : UpdateOperation → ℕ → Written
written o e = record { operation = o; end = e }

-- what is said after a block
abbrev pub after_block : Scope → Result Shut Rejection → UpdateRequest
after_block env (Err r) = ([], Some r)
after_block env (Ok d) = joined (written d.operation d.end ∷ []) (rest updates (After env d.numbers) d.rest)

module _ {Value Triple : Type 0} where
  -- a state for each state of a block, whose symbols are the block's
  pub record Holds (inside : BlockState Value Triple → UpdateState) (b : Block Value Triple) (env : Scope) : Type 0 where
    pub steps : (s : BlockState Value Triple) (t : Symbol) → step (inside s) t ≡ blocked inside env (block_step b s t)
    pub ends : (s : BlockState Value Triple) → ended (inside s) ≡ Some (block_ended b s)

  block_turn : (inside : BlockState Value Triple → UpdateState) (b : Block Value Triple) (env : Scope) (ts : List Symbol)
      → ((s : BlockState Value Triple) → rest updates (inside s) ts ≡ after_block env (block_run b ts s)) → (u : BlockTurn Value Triple)
      → reported (blocked inside env u) ts ≡ after_block env (block_reported b ts u)
  block_turn inside b env ts again (Takes s) = again s
  block_turn inside b env ts again (Shuts o n e) = refl
  block_turn inside b env ts again (Stops r) = rejected_rest r ts

  -- the machine in a block says what the block's machine reads, and what comes after it
  pub block_rest : (inside : BlockState Value Triple → UpdateState) (b : Block Value Triple) (env : Scope) → Holds inside b env → (ts : List Symbol) (s : BlockState Value Triple)
      → rest updates (inside s) ts ≡ after_block env (block_run b ts s)
  unfolding rest block_run
  block_rest inside b env h [] s = ap (λ z. let p : UpdateRequest = ([], z) in p) (h.ends s)
  block_rest inside b env h (t ∷ ts) s =
      ap (λ z. reported z ts) (h.steps s t) ∙ block_turn inside b env ts (block_rest inside b env h ts) (block_step b s t)

-- the blocks of the operations
pub holds_data : (b : Block Term RdfTriple) (env : Scope) → Holds (InData b env) b env
unfolding step ended
holds_data b env = record { steps = λ s t. refl; ends = λ s. refl }

pub holds_where : (b : Block Part Pattern) (env : Scope) → Holds (InWhere b env) b env
unfolding step ended
holds_where b env = record { steps = λ s t. refl; ends = λ s. refl }

-- where all triples are welcome
pub bounds_insert : (n : Numbers) → Bounds (insert_block n)
bounds_insert n P V h = refl

pub bounds_delete : Bounds delete_block
bounds_delete P V h = refl

-- and where they are counted
pub bounds_where : Bounds where_block
bounds_where P V h =
    let all : length (P ++ V) ≤ max_patterns = ltb-false max_patterns (length (P ++ V)) h in
    le-ltb max_patterns (length P) (omega (arith, all, length-append P V))

-- no token is among none
pub none_barred : (ts : List Symbol) → list_any (λ t. false) ts ≡ false
none_barred [] = refl
none_barred (t ∷ ts) = none_barred ts

-- dots and braces are no labels
pub parts_insert : (n : Numbers) (t : Symbol) → Parts t → (insert_block n).bars t ≡ false
parts_insert n (Dot e) h = refl
parts_insert n (Foreign k e) h = refl
parts_insert n t h = elim h [ ]

pub parts_plain : (t : Symbol) → Parts t → false ≡ false
parts_plain t h = refl

-- what is said of a block by its rule
block_read : {Value Triple : Type 0} {env : Scope} {n k : Numbers} {xs : List Symbol} {T : List Triple} (inside : BlockState Value Triple → UpdateState) (b : Block Value Triple) (e : ℕ) (us : List Symbol) (o : UpdateOperation)
    → Holds inside b env → Bounds b → IsTemplate (in_language b.language env) n xs T k → list_any b.bars xs ≡ false → ((t : Symbol) → Parts t → b.bars t ≡ false) → b.too_many T ≡ false
    → b.operation T ≡ Some o
    → rest updates (inside (AtTriples (in_language b.language env) [] n)) ((xs ++ Foreign kind.CloseBrace e ∷ []) ++ us)
    ≡ joined (written o e ∷ []) (rest updates (After env k) us)
block_read {env = env} {n = n} {k = k} {xs = xs} {T = T} inside b e us o h bounds a new free few made =
    ap (rest updates (inside (AtTriples (in_language b.language env) [] n))) (append_assoc xs (Foreign kind.CloseBrace e ∷ []) us)
    ∙ block_rest inside b env h (xs ++ Foreign kind.CloseBrace e ∷ us) (AtTriples (in_language b.language env) [] n)
    ∙ ap (after_block env) (template_run b bounds [] e us a new free few ∙ ap (λ z. block_reported b us (shut z k e)) made)

-- one pattern or more
patterns_made : (T : List Pattern) → 1 ≤ length T → some_patterns T ≡ Some (DeletesWhere T)
patterns_made [] h = absurd (omega arith)
patterns_made (p ∷ T) h = refl

-- a prologue
pub prologue_read : {env next : Scope} {xs : List Symbol} (n : Numbers) (us : List Symbol) → IsPrologue env xs next
    → rest updates (Between env n) (xs ++ us) ≡ rest updates (Between next n) us
unfolding rest step
prologue_read n us (rule.nothing env) = refl
prologue_read n us (rule.base {xs = xs} i e q p) = ap (λ z. rest updates (prefaced n z) (xs ++ us)) q ∙ prologue_read n us p
prologue_read n us (rule.prefix {xs = xs} x i e q p) = ap (λ z. rest updates (prefaced n z) (xs ++ us)) q ∙ prologue_read n us p

-- an operation
pub operation_read : {env : Scope} {n k : Numbers} {ys : List Symbol} {o : Written} (us : List Symbol) → IsOperation env n ys o k
    → rest updates (Between env n) (ys ++ us) ≡ joined (o ∷ []) (rest updates (After env k) us)
unfolding rest step
operation_read {env = env} {n = n} us (rule.insert_data a b c e new t) =
    block_read (InData (insert_block n) env) (insert_block n) e us _ (holds_data (insert_block n) env) (bounds_insert n) t new (parts_insert n) refl refl
operation_read {env = env} us (rule.delete_data {xs = xs} a b c e t) =
    block_read (InData delete_block env) delete_block e us _ (holds_data delete_block env) bounds_delete t (none_barred xs) parts_plain refl refl
operation_read {env = env} us (rule.delete_where {xs = xs} {T = T} a b c e t some few) =
    block_read (InWhere where_block env) where_block e us _ (holds_where where_block env) bounds_where t (none_barred xs) parts_plain
    (le-ltb max_patterns (length T) few) (patterns_made T some)

-- an update
pub operations_read : {env : Scope} {n : Numbers} {ts : List Symbol} {os : List Written} → AreOperations env n ts os → rest updates (Between env n) ts ≡ (os, None)
unfolding rest step ended
operations_read {env = env} {n = n} (rule.prologue {xs = xs} p) = ap (rest updates (Between env n)) (sym (append-nil xs)) ∙ prologue_read n [] p
operations_read {n = n} (rule.operation {next = next} {ys = ys} p o) =
    prologue_read n ys p ∙ ap (rest updates (Between next n)) (sym (append-nil ys)) ∙ operation_read [] o
operations_read {env = env} {n = n} (rule.more {xs = xs} {ys = ys} {zs = zs} {o = o} p a r) =
    ap (rest updates (Between env n)) (append_assoc xs ys (Semicolon ∷ zs)) ∙ prologue_read n (ys ++ Semicolon ∷ zs) p ∙ operation_read (Semicolon ∷ zs) a ∙ ap (joined (o ∷ [])) (operations_read r)
