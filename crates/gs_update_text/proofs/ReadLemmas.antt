-- Where the machine says operations of all tokens, the rules say them too.
use Rattle.std.proofs.Common.{◌≡◌, ℕ, List, ◌∷◌, length, sym, ap, ◌∙◌, arith}
use Rattle.std.specs.Prelude.{Some, None}
use Rattle.gs_lex.specs.Tokens.{Lexeme}
use Rattle.gs_machine.specs.Machines.{rest}
use Rattle.gs_blank.specs.Numbers.{Numbers}
use Rattle.gs_triples.specs.Symbols.{Symbol, ATerm, Reference, Namespace, PrefixWord, BaseWord}
use Rattle.gs_triples.specs.Directives.{with_prefix, with_base}
use Rattle.gs_update_text.specs.Requests.{Rejection, Written, UpdateRequest}
use Rattle.gs_update_text.specs.Operations.{Scope}
use Rattle.gs_update_text.specs.Grammar as rule
use Rattle.gs_update_text.specs.Grammar.{IsTemplate, IsPrologue, IsOperation, AreOperations, IsUpdate, braced, first_scope}
use Rattle.gs_update_text.specs.States.{Between}
use Rattle.gs_update_text.specs.Machine.{updates, request_of}
use Rattle.gs_update_text.proofs.WalkLemmas.{Reads, walk}
use Rattle.gs_update_text.proofs.UpdateLemmas.{operations_read}

no_departure : {r : Rejection} → Some r ≡ None → ⊥
no_departure h = cc

-- a directive before an update
base_first : {env next : Scope} {n : Numbers} {us : List Symbol} {os : List Written} (i : List ℕ) (e : ℕ) → with_base env i ≡ Some next → AreOperations next n us os
    → AreOperations env n (BaseWord ∷ ATerm (Reference i e) ∷ us) os
base_first i e q (rule.prologue p) = rule.prologue (rule.base i e q p)
base_first i e q (rule.operation p o) = rule.operation (rule.base i e q p) o
base_first i e q (rule.more p o r) = rule.more (rule.base i e q p) o r

prefix_first : {env next : Scope} {n : Numbers} {us : List Symbol} {os : List Written} (x i : List ℕ) (e : ℕ) → with_prefix env x i ≡ Some next → AreOperations next n us os
    → AreOperations env n (PrefixWord ∷ ATerm (Namespace x) ∷ ATerm (Reference i e) ∷ us) os
prefix_first x i e q (rule.prologue p) = rule.prologue (rule.prefix x i e q p)
prefix_first x i e q (rule.operation p o) = rule.operation (rule.prefix x i e q p) o
prefix_first x i e q (rule.more p o r) = rule.more (rule.prefix x i e q p) o r

whole : Reads None AreOperations
whole = record {
  base = base_first;
  prefix = prefix_first;
  ends = λ env n q. rule.prologue (rule.nothing env);
  last = λ a q. rule.operation (rule.nothing _) a;
  more = λ a r. rule.more (rule.nothing _) a r;
  unparted = λ t us a q. absurd (no_departure q);
  stops = λ env n ts r q s. absurd (no_departure q);
}

-- what the machine says of all tokens, the rules say
pub operations_covered : {env : Scope} {n : Numbers} {ts : List Symbol} {os : List Written} → rest updates (Between env n) ts ≡ (os, None) → AreOperations env n ts os
operations_covered {env = env} {n = n} {ts = ts} {os = os} h = walk None AreOperations whole (length ts) env n ts os (omega arith) h

-- an update, and what the machine says of it
pub update_read : (b : List ℕ) (r : ℕ) (ts : List Lexeme) (os : List Written) → IsUpdate b r ts os → request_of b r ts ≡ (os, None)
update_read b r ts os u = operations_read u

pub update_covered : (b : List ℕ) (r : ℕ) (ts : List Lexeme) (os : List Written) → request_of b r ts ≡ (os, None) → IsUpdate b r ts os
update_covered b r ts os h = operations_covered h

-- so an update has one list of operations
pub update_once : (b : List ℕ) (r : ℕ) (ts : List Lexeme) (os us : List Written) → IsUpdate b r ts os → IsUpdate b r ts us → os ≡ us
update_once b r ts os us d e = ap (λ (z : UpdateRequest). z.0) (sym (update_read b r ts os d) ∙ update_read b r ts us e)
