-- Updates: each operation of a text has terms of the request that is read.
use Rattle.std.proofs.Common.{◌≡◌, ℕ, true, false, List, [], ◌∷◌, refl, sym, subst}
use Rattle.std.specs.Prelude.{Option, Some, None}
use Rattle.std.specs.Str.{is_utf8}
use Rattle.std.specs.Option.{IfSome}
use Rattle.std.specs.List.{All}
use Rattle.std.proofs.lemmas.List.Elements.{All-nil, All-cons, All-append, All-map, All-head, All-tail}
use Rattle.gs_blank.specs.Numbers.{Numbers}
use Rattle.gs_event.specs.declared.updates.Op.{Op}
use Rattle.gs_event.specs.declared.updates.Op.TheVariants as op
use Rattle.gs_triples.specs.Symbols.{Symbol}
use Rattle.gs_triples.specs.Languages.{part_named}
use Rattle.gs_triples.specs.Meanings.{Context}
use Rattle.gs_triples.specs.Directives.{with_prefix, with_base}
use Rattle.gs_update_text.specs.Requests.{UpdateOperation, Inserts, DeletesData, DeletesWhere, Written, UpdateRequest}
use Rattle.gs_update_text.specs.Operations.{Scope, inserted, deleted, sought, in_language}
use Rattle.gs_update_text.specs.Grammar as grammar
use Rattle.gs_update_text.specs.Grammar.{IsTemplate, IsPrologue, IsOperation, AreOperations}
use Rattle.gs_update_text.specs.Texts.{request_by}
use Rattle.gs_update_text.proofs.TextLemmas.{text_covered}
use Rattle.gs_update.specs.Views.{update_operation_of, operations_of}
use Rattle.gs_update.specs.Answers.{AreOperationsOf}
use Rattle.gs_own_nodes.specs.Own.{NamesOwn, HasOwn, IsOwnPart, MatchesOwn, SaysOwn}
use Rattle.gs_own_nodes.proofs.AnswerLemmas.{chosen}
use Rattle.gs_own_nodes.proofs.DirectiveLemmas.{prefix_keeps, base_keeps}
use Rattle.gs_own_nodes.proofs.TripleLemmas.{IsHonest, triples_own, terms_honest}

-- what an operation of a text says
abbrev OperationOwn : ℕ → UpdateOperation → Type 0
OperationOwn r (Inserts ts) = All (HasOwn r) ts
OperationOwn r (DeletesData ts) = All (HasOwn r) ts
OperationOwn r (DeletesWhere ps) = All (MatchesOwn r) ps

-- a variable is no blank node
variable_own : (r : ℕ) (x : List ℕ) → IfSome (part_named x) (IsOwnPart r)
variable_own r x = chosen (λ o. IfSome o (IsOwnPart r)) (is_utf8 x) _ _ tt tt

-- the language of patterns is honest
sought_honest : (r : ℕ) → IsHonest sought r (IsOwnPart r) (MatchesOwn r)
sought_honest r = record {
  terms = λ t own. own;
  variables = λ x v e. subst (λ o. IfSome o (IsOwnPart r)) e (variable_own r x);
  triples = λ s p o a b c. (a, b, c);
}

module _ {Value Triple : Type 0} (env : Context Value Triple) (P : Value → Type 0) (Q : Triple → Type 0) (k : IsHonest env.language env.request P Q) where
  -- a block's triples
  template_own : {n l : Numbers} {xs : List Symbol} {T : List Triple} → IsTemplate env n xs T l → All Q T
  template_own (grammar.nothing n) = All-nil Q
  template_own (grammar.last c) = triples_own env P Q k c
  template_own (grammar.more {T = T} {U = U} e c others) = All-append Q T U (triples_own env P Q k c) (template_own others)

-- a directive leaves the request
goes_on : (r : ℕ) (m : Option Scope) (next : Scope) → IfSome m (λ e. e.request ≡ r) → m ≡ Some next → next.request ≡ r
goes_on r m next h q = subst (λ z. IfSome z (λ e. e.request ≡ r)) q h

-- so does a prologue
prologue_keeps : (r : ℕ) {env next : Scope} {xs : List Symbol} → env.request ≡ r → IsPrologue env xs next → next.request ≡ r
prologue_keeps r h (grammar.nothing env) = h
prologue_keeps r {env = env} h (grammar.base {next = next} i e q others) =
    prologue_keeps r (goes_on r (with_base env i) next (base_keeps (λ k l. k ≡ r) env h i) q) others
prologue_keeps r {env = env} h (grammar.prefix {next = next} p i e q others) =
    prologue_keeps r (goes_on r (with_prefix env p i) next (prefix_keeps (λ k l. k ≡ r) env h p i) q) others

-- an operation
operation_own : (r : ℕ) {env : Scope} {n k : Numbers} {xs : List Symbol} {w : Written} → env.request ≡ r → IsOperation env n xs w k → OperationOwn r w.operation
operation_own r {env = env} h (grammar.insert_data a b c e new t) =
    template_own (in_language inserted env) (NamesOwn r) (HasOwn r) (subst (λ q. IsHonest inserted q (NamesOwn r) (HasOwn r)) (sym h) (terms_honest true true r)) t
operation_own r {env = env} h (grammar.delete_data a b c e t) =
    template_own (in_language deleted env) (NamesOwn r) (HasOwn r) (subst (λ q. IsHonest deleted q (NamesOwn r) (HasOwn r)) (sym h) (terms_honest false false r)) t
operation_own r {env = env} h (grammar.delete_where a b c e t few many) =
    template_own (in_language sought env) (IsOwnPart r) (MatchesOwn r) (subst (λ q. IsHonest sought q (IsOwnPart r) (MatchesOwn r)) (sym h) (sought_honest r)) t

-- what an operation with its end says
abbrev WrittenOwn : ℕ → Written → Type 0
WrittenOwn r w = OperationOwn r w.operation

-- all operations
operations_own : (r : ℕ) {env : Scope} {n : Numbers} {xs : List Symbol} {os : List Written} → env.request ≡ r → AreOperations env n xs os → All (WrittenOwn r) os
operations_own r h (grammar.prologue p) = All-nil (WrittenOwn r)
operations_own r h (grammar.operation {o = o} p a) = All-cons (WrittenOwn r) o [] (operation_own r (prologue_keeps r h p) a) (All-nil (WrittenOwn r))
operations_own r h (grammar.more {o = o} {os = os} p a others) =
    let next = prologue_keeps r h p in
    All-cons (WrittenOwn r) o os (operation_own r next a) (operations_own r next others)

-- a text without a fault
text_own : (base : List ℕ) (r : ℕ) (x : List ℕ) (q : UpdateRequest) → request_by base r x ≡ q → q.1 ≡ None → All (WrittenOwn r) q.0
text_own base r x (os, None) is h = operations_own r refl (text_covered base r x os is).stated
text_own base r x (os, Some e) is h = absurd (cc)

-- an operation of the code
op_own : (r : ℕ) (o : Op) → OperationOwn r (update_operation_of o) → SaysOwn r o
op_own r (op.Insert ts) own = own
op_own r (op.DeleteData ts) own = own
op_own r (op.DeleteWhere ps) own = own

-- all operations of the code
ops_own : (r : ℕ) (ops : List Op) → All (OperationOwn r) (operations_of ops) → All (SaysOwn r) ops
ops_own r [] own = All-nil (SaysOwn r)
ops_own r (o ∷ ops) own =
    All-cons (SaysOwn r) o ops (op_own r o (All-head (OperationOwn r) (update_operation_of o) (operations_of ops) own))
    (ops_own r ops (All-tail (OperationOwn r) (update_operation_of o) (operations_of ops) own))

-- the operations that a text means
pub update_own : (base : List ℕ) (r : ℕ) (x : List ℕ) (ops : List Op) → AreOperationsOf ops (request_by base r x) → All (SaysOwn r) ops
update_own base r x ops (whole, are) =
    let q : UpdateRequest = request_by base r x in
    ops_own r ops (subst (All (OperationOwn r)) (sym are) (All-map (OperationOwn r) (λ (w : Written). w.operation) q.0 (text_own base r x q refl whole)))
