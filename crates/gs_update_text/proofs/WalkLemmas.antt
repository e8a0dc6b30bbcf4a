-- What the machine says of a list of tokens, whatever it ends with, the rules say too.
use Rattle.std.proofs.Common.{◌≡◌, ℕ, zero, suc, ◌≤◌, false, List, [], ◌∷◌, ◌++◌, length, refl, sym, ap, ◌∙◌, append_assoc, append-nil, subst, arith, length-append}
use Rattle.std.specs.Prelude.{Result, Ok, Err, Option, Some, None}
use Rattle.std.proofs.lemmas.Bool.{ltb-false}
use Rattle.gs_term.specs.declared.patterns.Pattern.{Pattern}
use Rattle.gs_lex.specs.declared.kinds.TokenKind.{TokenKind}
use Rattle.gs_lex.specs.declared.kinds.TokenKind.TheVariants as kind
use Rattle.gs_machine.specs.Machines.{joined, rest}
use Rattle.gs_blank.specs.Numbers.{Numbers}
use Rattle.gs_triples.specs.Symbols.{Symbol, ATerm, Reference, Namespace, Dot, Semicolon, PrefixWord, BaseWord, Foreign}
use Rattle.gs_triples.specs.Meanings.{Syntax}
use Rattle.gs_triples.specs.Directives.{with_prefix, with_base}
use Rattle.gs_update_text.specs.Requests.{UpdateOperation, DeletesWhere, Rejection, Broken, OutOfProfile, Written, UpdateRequest}
use Rattle.gs_model.specs.Limits.{max_patterns}
use Rattle.gs_update_text.specs.Operations.{Scope, Block, inserted, deleted, sought, in_language, insert_block, delete_block, where_block, some_patterns}
use Rattle.gs_update_text.specs.Grammar as rule
use Rattle.gs_update_text.specs.Grammar.{IsTemplate, IsPrologue, IsOperation, AreOperations, IsUpdate, braced, first_scope}
use Rattle.gs_update_text.specs.Profile as profile
use Rattle.gs_update_text.specs.Profile.{BeginsOther, Departs}
use Rattle.gs_update_text.specs.Blocks.{BlockState, AtTriples, Shut, block_run}
use Rattle.gs_update_text.specs.States.{Form, InsertData, DeleteData, DeleteWhere, UpdateState, Between, InPrefix, InPrefixIri, InBase, AfterInsert, AfterDelete, AtBrace, InData, InWhere, After, Rejected, block_of}
use Rattle.gs_update_text.specs.Machine.{prefaced, step, ended, updates}
use Rattle.gs_update_text.proofs.RefusalLemmas.{block_stops}
use Rattle.gs_update_text.proofs.DepartLemmas.{insert_guards, delete_guards, where_guards, insert_departs, delete_departs, where_departs}
use Rattle.gs_update_text.proofs.FoundLemmas.{Found, template_found}
use Rattle.gs_update_text.proofs.UpdateLemmas.{rejected_rest, written, after_block, Holds, block_rest, holds_data, holds_where}

-- the tokens from where an operation is expected, which the machine refuses so: those out of the profile by the rules
abbrev pub Stopped : Scope → Numbers → List Symbol → Rejection → Type 0
Stopped env n ts (Broken f) = Unit {0}
Stopped env n ts OutOfProfile = Departs env n ts

-- What is to hold of tokens and their operations, where the machine ends with this departure or with none: it holds of
-- what the machine says, if it holds of each production.
pub record Reads (e : Option Rejection) (G : Scope → Numbers → List Symbol → List Written → Type 0) : Type 0 where
  pub base : {env next : Scope} {n : Numbers} {us : List Symbol} {os : List Written} (i : List ℕ) (a : ℕ) → with_base env i ≡ Some next → G next n us os
      → G env n (BaseWord ∷ ATerm (Reference i a) ∷ us) os
  pub prefix : {env next : Scope} {n : Numbers} {us : List Symbol} {os : List Written} (x i : List ℕ) (a : ℕ) → with_prefix env x i ≡ Some next → G next n us os
      → G env n (PrefixWord ∷ ATerm (Namespace x) ∷ ATerm (Reference i a) ∷ us) os
  pub ends : (env : Scope) (n : Numbers) → None ≡ e → G env n [] []
  pub last : {env : Scope} {n k : Numbers} {ys : List Symbol} {o : Written} → IsOperation env n ys o k → None ≡ e → G env n ys (o ∷ [])
  pub more : {env : Scope} {n k : Numbers} {ys zs : List Symbol} {o : Written} {os : List Written} → IsOperation env n ys o k → G env k zs os
      → G env n (ys ++ Semicolon ∷ zs) (o ∷ os)
  pub unparted : {env : Scope} {n k : Numbers} {ys : List Symbol} {o : Written} (t : Symbol) (us : List Symbol) → IsOperation env n ys o k → Some (Broken Syntax) ≡ e
      → G env n (ys ++ t ∷ us) (o ∷ [])
  pub stops : (env : Scope) (n : Numbers) (ts : List Symbol) (r : Rejection) → Some r ≡ e → Stopped env n ts r → G env n ts []

-- the operation that was made, or this one
abbrev made_or : UpdateOperation → Option UpdateOperation → UpdateOperation
made_or o (Some p) = p
made_or o None = o

module _ {Value Triple : Type 0} where
  -- an operation of two words and a block, by what was found in its block, and the departure of one, by where it stopped
  abbrev ByBlock : Block Value Triple → Scope → Numbers → Symbol → Symbol → ℕ → List Symbol → Type 0
  ByBlock b env n x y c ts =
      (d : Shut) (r : Found b (in_language b.language env) [] n ts d) → IsOperation env n (x ∷ y ∷ braced c r.content d.end) (written d.operation d.end) d.numbers

  abbrev ByStop : Block Value Triple → Scope → Numbers → Symbol → Symbol → ℕ → List Symbol → Type 0
  ByStop b env n x y c ts =
      (r : Rejection) → block_run b ts (AtTriples (in_language b.language env) [] n) ≡ Err r → Stopped env n (x ∷ y ∷ Foreign kind.OpenBrace c ∷ ts) r

insert_by : (env : Scope) (n : Numbers) (a b c : ℕ) (ts : List Symbol) → ByBlock (insert_block n) env n (Foreign kind.Insert a) (Foreign kind.Data b) c ts
insert_by env n a b c ts d r =
    subst (λ z. IsOperation env n (Foreign kind.Insert a ∷ Foreign kind.Data b ∷ braced c r.content d.end) (written z d.end) d.numbers) (ap (made_or d.operation) r.made)
    (rule.insert_data a b c d.end r.new r.template)

delete_by : (env : Scope) (n : Numbers) (a b c : ℕ) (ts : List Symbol) → ByBlock delete_block env n (Foreign kind.Delete a) (Foreign kind.Data b) c ts
delete_by env n a b c ts d r =
    subst (λ z. IsOperation env n (Foreign kind.Delete a ∷ Foreign kind.Data b ∷ braced c r.content d.end) (written z d.end) d.numbers) (ap (made_or d.operation) r.made)
    (rule.delete_data a b c d.end r.template)

patterns_of : (T : List Pattern) (o : UpdateOperation) → some_patterns T ≡ Some o → (1 ≤ length T) × (DeletesWhere T ≡ o)
patterns_of [] o h = absurd (cc)
patterns_of (p ∷ T) o h = (omega arith, ap (made_or o) h)

where_by : (env : Scope) (n : Numbers) (a b c : ℕ) (ts : List Symbol) → ByBlock where_block env n (Foreign kind.Delete a) (Foreign kind.Where b) c ts
where_by env n a b c ts d r =
    let (some, same) : (1 ≤ length r.triples) × (DeletesWhere r.triples ≡ d.operation) = patterns_of r.triples d.operation r.made in
    subst (λ z. IsOperation env n (Foreign kind.Delete a ∷ Foreign kind.Where b ∷ braced c r.content d.end) (written z d.end) d.numbers) same
    (rule.delete_where a b c d.end r.template some (ltb-false max_patterns (length r.triples) r.few))

insert_stop : (env : Scope) (n : Numbers) (a b c : ℕ) (ts : List Symbol) → ByStop (insert_block n) env n (Foreign kind.Insert a) (Foreign kind.Data b) c ts
insert_stop env n a b c ts (Broken f) h = tt
insert_stop env n a b c ts OutOfProfile h = insert_departs env n a b c (block_stops (length ts) (insert_block n) (in_language inserted env) (insert_guards n env) [] n ts (omega arith) refl h)

delete_stop : (env : Scope) (n : Numbers) (a b c : ℕ) (ts : List Symbol) → ByStop delete_block env n (Foreign kind.Delete a) (Foreign kind.Data b) c ts
delete_stop env n a b c ts (Broken f) h = tt
delete_stop env n a b c ts OutOfProfile h = delete_departs env n a b c (block_stops (length ts) delete_block (in_language deleted env) (delete_guards env) [] n ts (omega arith) refl h)

where_stop : (env : Scope) (n : Numbers) (a b c : ℕ) (ts : List Symbol) → ByStop where_block env n (Foreign kind.Delete a) (Foreign kind.Where b) c ts
where_stop env n a b c ts (Broken f) h = tt
where_stop env n a b c ts OutOfProfile h = where_departs env n a b c (block_stops (length ts) where_block (in_language sought env) (where_guards env) [] n ts (omega arith) refl h)

-- the two words of a form
abbrev first_word : Form → ℕ → Symbol
first_word InsertData a = Foreign kind.Insert a
first_word DeleteData a = Foreign kind.Delete a
first_word DeleteWhere a = Foreign kind.Delete a

abbrev second_word : Form → ℕ → Symbol
second_word InsertData b = Foreign kind.Data b
second_word DeleteData b = Foreign kind.Data b
second_word DeleteWhere b = Foreign kind.Where b

-- no operation, and this departure
abbrev none_but : Rejection → UpdateRequest
none_but r = ([], Some r)

module _ (e : Option Rejection) (G : Scope → Numbers → List Symbol → List Written → Type 0) (reads : Reads e G) where
  -- it holds of texts of at most so many tokens
  abbrev Known : ℕ → Type 0
  Known f = (env : Scope) (n : Numbers) (ts : List Symbol) (os : List Written) → length ts ≤ f → rest updates (Between env n) ts ≡ (os, e) → G env n ts os

  stop : (env : Scope) (n : Numbers) (ts : List Symbol) (os : List Written) (r : Rejection) → Stopped env n ts r → none_but r ≡ (os, e) → G env n ts os
  stop env n ts os r s h = subst (G env n ts) (ap (λ (z : UpdateRequest). z.0) h) (reads.stops env n ts r (ap (λ (z : UpdateRequest). z.1) h) s)

  rejected : (env : Scope) (n : Numbers) (ts us : List Symbol) (os : List Written) (r : Rejection) → Stopped env n ts r → rest updates (Rejected r) us ≡ (os, e) → G env n ts os
  rejected env n ts us os r s h = stop env n ts os r s (sym (rejected_rest r us) ∙ h)

  -- an operation, and what follows it
  after_operation : (f : ℕ) (env : Scope) (n k : Numbers) (ys us : List Symbol) (o : Written) (os : List Written) → Known f → IsOperation env n ys o k → length us ≤ suc f
      → joined (o ∷ []) (rest updates (After env k) us) ≡ (os, e) → G env n (ys ++ us) os
  unfolding rest step ended
  after_operation f env n k ys [] o os again a size h =
      subst (λ z. G env n (ys ++ []) z) (ap (λ (z : UpdateRequest). z.0) h)
      (subst (λ z. G env n z (o ∷ [])) (sym (append-nil ys)) (reads.last a (ap (λ (z : UpdateRequest). z.1) h)))
  after_operation f env n k ys (Semicolon ∷ zs) o os again a size h =
      let later : UpdateRequest = rest updates (Between env k) zs in
      let ends : later.1 ≡ e = ap (λ (z : UpdateRequest). z.1) h in
      let same : later ≡ (later.0, e) = ap (λ z. let p : UpdateRequest = (later.0, z) in p) ends in
      subst (λ z. G env n (ys ++ Semicolon ∷ zs) z) (ap (λ (z : UpdateRequest). z.0) h)
      (reads.more a (again env k zs later.0 (omega arith) same))
  after_operation f env n k ys (t ∷ us) o os again a size h =
      let said : joined (o ∷ []) (none_but (Broken Syntax)) ≡ (os, e) = ap (joined (o ∷ [])) (sym (rejected_rest (Broken Syntax) us)) ∙ h in
      subst (λ z. G env n (ys ++ t ∷ us) z) (ap (λ (z : UpdateRequest). z.0) said) (reads.unparted t us a (ap (λ (z : UpdateRequest). z.1) said))

  -- the words before a block, and the block
  in_words : (f : ℕ) (env : Scope) (n k : Numbers) (a b : Symbol) (c i : ℕ) (ts xs us : List Symbol) (o : UpdateOperation) (os : List Written) → Known f → ts ≡ xs ++ Foreign kind.CloseBrace i ∷ us
      → IsOperation env n (a ∷ b ∷ braced c xs i) (written o i) k → length ts ≤ f
      → joined (written o i ∷ []) (rest updates (After env k) us) ≡ (os, e) → G env n (a ∷ b ∷ Foreign kind.OpenBrace c ∷ ts) os
  in_words f env n k a b c i ts xs us o os again p op size h =
      subst (λ z. G env n (a ∷ b ∷ Foreign kind.OpenBrace c ∷ z) os) (append_assoc xs (Foreign kind.CloseBrace i ∷ []) us ∙ sym p)
      (after_operation f env n k (a ∷ b ∷ braced c xs i) us (written o i) os again op (omega (arith, size, ap length p, length-append xs (Foreign kind.CloseBrace i ∷ us))) h)

  found_back : {Value Triple : Type 0} (f : ℕ) (b : Block Value Triple) (env : Scope) (n : Numbers) (x y : Symbol) (c : ℕ) (ts : List Symbol) (os : List Written) (q : Result Shut Rejection) → Known f
      → ((i : ℕ) → b.bars (Dot i) ≡ false) → b.too_many [] ≡ false → ByBlock b env n x y c ts → ByStop b env n x y c ts → length ts ≤ f
      → block_run b ts (AtTriples (in_language b.language env) [] n) ≡ q → after_block env q ≡ (os, e) → G env n (x ∷ y ∷ Foreign kind.OpenBrace c ∷ ts) os
  found_back f b env n x y c ts os (Err r) again free few by stops size p h = stop env n (x ∷ y ∷ Foreign kind.OpenBrace c ∷ ts) os r (stops r p) h
  found_back f b env n x y c ts os (Ok d) again free few by stops size p h =
      let r : Found b (in_language b.language env) [] n ts d = template_found (length ts) b (in_language b.language env) d free [] n ts (omega arith) few p in
      in_words f env n d.numbers x y c d.end ts r.content d.rest d.operation os again r.parts (by d r) size h

  block_back : {Value Triple : Type 0} (f : ℕ) (inside : BlockState Value Triple → UpdateState) (b : Block Value Triple) (env : Scope) (n : Numbers) (x y : Symbol) (c : ℕ) (ts : List Symbol) (os : List Written) → Known f
      → Holds inside b env → ((i : ℕ) → b.bars (Dot i) ≡ false) → b.too_many [] ≡ false → ByBlock b env n x y c ts → ByStop b env n x y c ts → length ts ≤ f
      → rest updates (inside (AtTriples (in_language b.language env) [] n)) ts ≡ (os, e) → G env n (x ∷ y ∷ Foreign kind.OpenBrace c ∷ ts) os
  block_back f inside b env n x y c ts os again holds free few by stops size h =
      found_back f b env n x y c ts os (block_run b ts (AtTriples (in_language b.language env) [] n)) again free few by stops size refl
      (sym (block_rest inside b env holds ts (AtTriples (in_language b.language env) [] n)) ∙ h)

  form_back : (f : ℕ) (form : Form) (env : Scope) (n : Numbers) (a b c : ℕ) (ts : List Symbol) (os : List Written) → Known f → length ts ≤ f
      → rest updates (block_of form env n) ts ≡ (os, e) → G env n (first_word form a ∷ second_word form b ∷ Foreign kind.OpenBrace c ∷ ts) os
  form_back f InsertData env n a b c ts os again size h =
      block_back f (InData (insert_block n) env) (insert_block n) env n (Foreign kind.Insert a) (Foreign kind.Data b) c ts os again (holds_data (insert_block n) env) (λ i. refl) refl (insert_by env n a b c ts) (insert_stop env n a b c ts) size h
  form_back f DeleteData env n a b c ts os again size h =
      block_back f (InData delete_block env) delete_block env n (Foreign kind.Delete a) (Foreign kind.Data b) c ts os again (holds_data delete_block env) (λ i. refl) refl (delete_by env n a b c ts) (delete_stop env n a b c ts) size h
  form_back f DeleteWhere env n a b c ts os again size h =
      block_back f (InWhere where_block env) where_block env n (Foreign kind.Delete a) (Foreign kind.Where b) c ts os again (holds_where where_block env) (λ i. refl) refl (where_by env n a b c ts) (where_stop env n a b c ts) size h

  -- before the brace
  brace_back : (f : ℕ) (form : Form) (env : Scope) (n : Numbers) (a b : ℕ) (ts : List Symbol) (os : List Written) → Known f → length ts ≤ f
      → rest updates (AtBrace form env n) ts ≡ (os, e) → G env n (first_word form a ∷ second_word form b ∷ ts) os
  unfolding rest step ended
  brace_back f form env n a b [] os again size h = stop env n _ os (Broken Syntax) tt h
  brace_back f form env n a b (Foreign kind.OpenBrace c ∷ ts) os again size h = form_back f form env n a b c ts os again (omega arith) h
  brace_back f form env n a b (t ∷ ts) os again size h = rejected env n _ ts os (Broken Syntax) tt h

  -- after INSERT, and after DELETE
  insert_back : (f : ℕ) (env : Scope) (n : Numbers) (a : ℕ) (ts : List Symbol) (os : List Written) → Known f → length ts ≤ f
      → rest updates (AfterInsert env n) ts ≡ (os, e) → G env n (Foreign kind.Insert a ∷ ts) os
  unfolding rest step ended
  insert_back f env n a [] os again size h = stop env n _ os (Broken Syntax) tt h
  insert_back f env n a (Foreign kind.Data b ∷ ts) os again size h = brace_back f InsertData env n a b ts os again (omega arith) h
  insert_back f env n a (Foreign kind.OpenBrace b ∷ ts) os again size h = rejected env n _ ts os OutOfProfile (profile.insert_template a b ts) h
  insert_back f env n a (t ∷ ts) os again size h = rejected env n _ ts os (Broken Syntax) tt h

  delete_back : (f : ℕ) (env : Scope) (n : Numbers) (a : ℕ) (ts : List Symbol) (os : List Written) → Known f → length ts ≤ f
      → rest updates (AfterDelete env n) ts ≡ (os, e) → G env n (Foreign kind.Delete a ∷ ts) os
  unfolding rest step ended
  delete_back f env n a [] os again size h = stop env n _ os (Broken Syntax) tt h
  delete_back f env n a (Foreign kind.Data b ∷ ts) os again size h = brace_back f DeleteData env n a b ts os again (omega arith) h
  delete_back f env n a (Foreign kind.Where b ∷ ts) os again size h = brace_back f DeleteWhere env n a b ts os again (omega arith) h
  delete_back f env n a (Foreign kind.OpenBrace b ∷ ts) os again size h = rejected env n _ ts os OutOfProfile (profile.delete_template a b ts) h
  delete_back f env n a (t ∷ ts) os again size h = rejected env n _ ts os (Broken Syntax) tt h

  base_declared : (f : ℕ) (env : Scope) (n : Numbers) (i : List ℕ) (a : ℕ) (us : List Symbol) (os : List Written) (m : Option Scope) → with_base env i ≡ m → Known f → length us ≤ f
      → rest updates (prefaced n m) us ≡ (os, e) → G env n (BaseWord ∷ ATerm (Reference i a) ∷ us) os
  base_declared f env n i a us os None q again size h = rejected env n _ us os (Broken Syntax) tt h
  base_declared f env n i a us os (Some next) q again size h = reads.base i a q (again next n us os size h)

  prefix_declared : (f : ℕ) (env : Scope) (n : Numbers) (x i : List ℕ) (a : ℕ) (us : List Symbol) (os : List Written) (m : Option Scope) → with_prefix env x i ≡ m → Known f → length us ≤ f
      → rest updates (prefaced n m) us ≡ (os, e) → G env n (PrefixWord ∷ ATerm (Namespace x) ∷ ATerm (Reference i a) ∷ us) os
  prefix_declared f env n x i a us os None q again size h = rejected env n _ us os (Broken Syntax) tt h
  prefix_declared f env n x i a us os (Some next) q again size h = reads.prefix x i a q (again next n us os size h)

  base_back : (f : ℕ) (env : Scope) (n : Numbers) (ts : List Symbol) (os : List Written) → Known f → length ts ≤ f
      → rest updates (InBase env n) ts ≡ (os, e) → G env n (BaseWord ∷ ts) os
  unfolding rest step ended
  base_back f env n [] os again size h = stop env n _ os (Broken Syntax) tt h
  base_back f env n (ATerm (Reference i a) ∷ us) os again size h = base_declared f env n i a us os (with_base env i) refl again (omega arith) h
  base_back f env n (ATerm w ∷ us) os again size h = rejected env n _ us os (Broken Syntax) tt h
  base_back f env n (t ∷ us) os again size h = rejected env n _ us os (Broken Syntax) tt h

  iri_back : (f : ℕ) (env : Scope) (n : Numbers) (x : List ℕ) (ts : List Symbol) (os : List Written) → Known f → length ts ≤ f
      → rest updates (InPrefixIri x env n) ts ≡ (os, e) → G env n (PrefixWord ∷ ATerm (Namespace x) ∷ ts) os
  unfolding rest step ended
  iri_back f env n x [] os again size h = stop env n _ os (Broken Syntax) tt h
  iri_back f env n x (ATerm (Reference i a) ∷ us) os again size h = prefix_declared f env n x i a us os (with_prefix env x i) refl again (omega arith) h
  iri_back f env n x (ATerm w ∷ us) os again size h = rejected env n _ us os (Broken Syntax) tt h
  iri_back f env n x (t ∷ us) os again size h = rejected env n _ us os (Broken Syntax) tt h

  prefix_back : (f : ℕ) (env : Scope) (n : Numbers) (ts : List Symbol) (os : List Written) → Known f → length ts ≤ f
      → rest updates (InPrefix env n) ts ≡ (os, e) → G env n (PrefixWord ∷ ts) os
  unfolding rest step ended
  prefix_back f env n [] os again size h = stop env n _ os (Broken Syntax) tt h
  prefix_back f env n (ATerm (Namespace x) ∷ us) os again size h = iri_back f env n x us os again (omega arith) h
  prefix_back f env n (ATerm w ∷ us) os again size h = rejected env n _ us os (Broken Syntax) tt h
  prefix_back f env n (t ∷ us) os again size h = rejected env n _ us os (Broken Syntax) tt h

  -- the first word of another form
  other_back : (env : Scope) (n : Numbers) (k : TokenKind) (a : ℕ) (ts : List Symbol) (os : List Written) → BeginsOther k → rest updates (Rejected OutOfProfile) ts ≡ (os, e) → G env n (Foreign k a ∷ ts) os
  other_back env n k a ts os b h = rejected env n (Foreign k a ∷ ts) ts os OutOfProfile (profile.other_form k a ts b) h

  -- a word where an operation may begin
  word_back : (f : ℕ) (env : Scope) (n : Numbers) (t : Symbol) (ts : List Symbol) (os : List Written) → Known f → length ts ≤ f
      → rest updates (Between env n) (t ∷ ts) ≡ (os, e) → G env n (t ∷ ts) os
  unfolding rest step
  word_back f env n PrefixWord ts os again size h = prefix_back f env n ts os again size h
  word_back f env n BaseWord ts os again size h = base_back f env n ts os again size h
  word_back f env n (Foreign kind.Insert a) ts os again size h = insert_back f env n a ts os again size h
  word_back f env n (Foreign kind.Delete a) ts os again size h = delete_back f env n a ts os again size h
  word_back f env n (Foreign kind.Load a) ts os again size h = other_back env n kind.Load a ts os tt h
  word_back f env n (Foreign kind.Clear a) ts os again size h = other_back env n kind.Clear a ts os tt h
  word_back f env n (Foreign kind.Drop a) ts os again size h = other_back env n kind.Drop a ts os tt h
  word_back f env n (Foreign kind.Create a) ts os again size h = other_back env n kind.Create a ts os tt h
  word_back f env n (Foreign kind.Add a) ts os again size h = other_back env n kind.Add a ts os tt h
  word_back f env n (Foreign kind.Move a) ts os again size h = other_back env n kind.Move a ts os tt h
  word_back f env n (Foreign kind.Copy a) ts os again size h = other_back env n kind.Copy a ts os tt h
  word_back f env n (Foreign kind.With a) ts os again size h = other_back env n kind.With a ts os tt h
  word_back f env n t ts os again size h = rejected env n (t ∷ ts) ts os (Broken Syntax) tt h

  -- it holds of whatever the machine says
  pub walk : (f : ℕ) → Known f
  unfolding rest ended
  walk f env n [] os size h = subst (G env n []) (ap (λ (z : UpdateRequest). z.0) h) (reads.ends env n (ap (λ (z : UpdateRequest). z.1) h))
  walk zero env n (t ∷ ts) os size h = absurd (omega arith)
  walk (suc f) env n (t ∷ ts) os size h = word_back f env n t ts os (walk f) (omega arith) h
