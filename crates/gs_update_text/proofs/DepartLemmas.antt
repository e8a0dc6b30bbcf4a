-- Where the block of an operation is refused as out of the profile, the operation departs from it by the rules.
use Rattle.std.proofs.Common.{◌≡◌, ℕ, ◌+◌, ◌≤◌, true, false, cond, List, [], ◌∷◌, ◌++◌, length, refl, sym, ap, ◌∙◌, subst, arith, length-append}
use Rattle.std.specs.Prelude.{None}
use Rattle.std.proofs.lemmas.Bool.{ltb-true, ltb-false}
use Rattle.gs_model.specs.Limits.{max_patterns}
use Rattle.gs_model.specs.Terms.{Term}
use Rattle.gs_model.specs.Triples.{RdfTriple}
use Rattle.gs_term.specs.declared.patterns.Pattern.{Pattern}
use Rattle.gs_lex.specs.declared.kinds.TokenKind.TheVariants as kind
use Rattle.gs_blank.specs.Numbers.{Numbers}
use Rattle.gs_triples.specs.Symbols.{TermToken, Symbol, ATerm, Foreign}
use Rattle.gs_triples.specs.Meanings.{Syntax, Context}
use Rattle.gs_triples.specs.Goals.{Verbs}
use Rattle.gs_triples.specs.Rules.{Covers}
use Rattle.gs_triples.specs.Rules as covers
use Rattle.gs_triples.specs.Triples.{AreTriples}
use Rattle.gs_triples.specs.Triples as triple
use Rattle.gs_triples.specs.States as triples
use Rattle.gs_triples.specs.States.{Opened, Closed, Heading, Held, Typing, Lost, Goes, Ends}
use Rattle.gs_triples.specs.Machine as triples_machine
use Rattle.gs_triples.specs.Machine.{opening}
use Rattle.gs_update_text.specs.Requests.{Broken, OutOfProfile}
use Rattle.gs_update_text.specs.Operations.{Scope, Block, inserted, deleted, sought, in_language, is_old, insert_block, delete_block, where_block, some_patterns}
use Rattle.gs_update_text.specs.Grammar.{IsTemplate}
use Rattle.gs_update_text.specs.Grammar as rule
use Rattle.gs_update_text.specs.Profile.{Departs, ends_in_string, EndsString}
use Rattle.gs_update_text.specs.Profile as profile
use Rattle.gs_triples.specs.States.{triples_so_far}
use Rattle.gs_update_text.specs.Blocks.{BlockState, AtTriples, WithinTriples, Takes, Stops, counted, entered, within, parted, moved}
use Rattle.gs_update_text.proofs.StopLemmas.{Guards, IsExcess}
use Rattle.gs_update_text.proofs.RefusalLemmas.{StopsAt, at_graph, at_excess, at_end}

false_true : false ≡ true → ⊥
false_true h = cc

module _ {Value Triple : Type 0} where
  verbs_some : {env : Context Value Triple} {d : ℕ} {s v : Value} {n k : Numbers} {xs : List Symbol} {T : List Triple} → Covers env (Verbs d s) n xs v T k → 1 ≤ length T
  verbs_some {env = env} {s = s} (covers.verbs {p = p} {o = o} t {T = T} {U = U} q a b) =
      omega (arith, length-append (T ++ env.language.triple s p o ∷ []) U, length-append T (env.language.triple s p o ∷ []))

  -- triples are not none
  triples_some : {env : Context Value Triple} {n k : Numbers} {xs : List Symbol} {T : List Triple} → AreTriples env n xs T k → 1 ≤ length T
  triples_some (triple.word w q c) = verbs_some c
  triples_some (triple.anon q c) = verbs_some c
  triples_some (triple.list {T = T} {U = U} c d) = omega (arith, verbs_some d, length-append T U)
  triples_some (triple.lone_list q c) = omega arith
  triples_some (triple.properties q c) = verbs_some c
  triples_some (triple.properties_and {T = T} {U = U} q c d) = omega (arith, verbs_some d, length-append T U)

  -- a template without triples has no tokens
  template_none : {env : Context Value Triple} {n k : Numbers} {xs : List Symbol} {T : List Triple} → IsTemplate env n xs T k → length T ≡ 0 → xs ≡ []
  template_none (rule.nothing n) h = refl
  template_none (rule.last a) h = absurd (omega (arith, h, triples_some a))
  template_none (rule.more {T = T} {U = U} e a r) h = absurd (omega (arith, h, triples_some a, length-append T U))

  label_counted : (b : Block Value Triple) → ((T : List Triple) → b.too_many T ≡ false) → (P : List Triple) (s : triples.State Value Triple) → counted b P s ≡ Stops OutOfProfile → ⊥
  label_counted b few P s h =
      let both : Takes (WithinTriples P s) ≡ Stops OutOfProfile = sym (ap (λ z. cond z (Stops OutOfProfile) (Takes (WithinTriples P s))) (few (P ++ triples_so_far s))) ∙ h in cc

  -- where no triples are too many, no state is refused as out of the profile
  label_entered : (b : Block Value Triple) → ((T : List Triple) → b.too_many T ≡ false) → (P : List Triple) (s : triples.State Value Triple) → entered b P s ≡ Stops OutOfProfile → ⊥
  label_entered b few P (Lost e) h = cc
  label_entered b few P (Opened env n) h = label_counted b few P (Opened env n) h
  label_entered b few P (Closed v env T n) h = label_counted b few P (Closed v env T n) h
  label_entered b few P (Heading g fs env T n) h = label_counted b few P (Heading g fs env T n) h
  label_entered b few P (Held x fs env T n) h = label_counted b few P (Held x fs env T n) h
  label_entered b few P (Typing x fs env T n) h = label_counted b few P (Typing x fs env T n) h

-- where no triples are too many, a label is refused as no departure from the profile
module _ {Value Triple : Type 0} where
  reported_label : (b : Block Value Triple) → ((T : List Triple) → b.too_many T ≡ false) → (P : List Triple) (w : TermToken) (u : triples.Turn Value Triple) → within b (ATerm w) P u ≡ Stops OutOfProfile → ⊥
  reported_label b few P w (Goes s) h = label_entered b few P s h
  reported_label b few P w (Ends env T n) h =
      let both : Stops (Broken Syntax) ≡ Stops OutOfProfile = sym (ap (λ z. cond z (Stops OutOfProfile) (parted b (ATerm w) env (P ++ T) n)) (few (P ++ T))) ∙ h in cc

old_label : (n : Numbers) (s : BlockState Term RdfTriple) (t : Symbol) → is_old n.1 n t ≡ true → moved (insert_block n) s t ≡ Stops OutOfProfile → ⊥
old_label n (AtTriples env P k) (ATerm w) h q = label_entered (insert_block n) (λ T. refl) P (opening env k (ATerm w)) q
old_label n (WithinTriples P s) (ATerm w) h q = reported_label (insert_block n) (λ T. refl) P w (triples_machine.step s (ATerm w)) q
old_label n s t h q = cc

pub insert_guards : (n : Numbers) (env : Scope) → Guards (insert_block n) (in_language inserted env)
insert_guards n env = record { plain = λ T h. absurd (false_true h); dots = λ e. refl; bars = old_label n }

pub delete_guards : (env : Scope) → Guards delete_block (in_language deleted env)
delete_guards env = record { plain = λ T h. absurd (false_true h); dots = λ e. refl; bars = λ s t h q. false_true h }

pub where_guards : (env : Scope) → Guards where_block (in_language sought env)
where_guards env = record { plain = λ T h. (refl, refl); dots = λ e. refl; bars = λ s t h q. false_true h }

-- INSERT DATA departs with a graph alone
pub insert_departs : (env : Scope) (n : Numbers) (a b c : ℕ) {ts : List Symbol} → StopsAt (insert_block n) (in_language inserted env) [] n ts
    → Departs env n (Foreign kind.Insert a ∷ Foreign kind.Data b ∷ Foreign kind.OpenBrace c ∷ ts)
insert_departs env n a b c (at_graph e us d new few) = profile.insert_graph a b c e us new d
insert_departs env n a b c (at_excess us t x clear) = absurd (false_true x.many)
insert_departs env n a b c (at_end e us t none) = absurd (cc)

-- so does DELETE DATA
pub delete_departs : (env : Scope) (n : Numbers) (a b c : ℕ) {ts : List Symbol} → StopsAt delete_block (in_language deleted env) [] n ts
    → Departs env n (Foreign kind.Delete a ∷ Foreign kind.Data b ∷ Foreign kind.OpenBrace c ∷ ts)
delete_departs env n a b c (at_graph e us d new few) = profile.delete_graph a b c e us d
delete_departs env n a b c (at_excess us t x clear) = absurd (false_true x.many)
delete_departs env n a b c (at_end e us t none) = absurd (cc)

no_patterns : (T : List Pattern) → some_patterns T ≡ None → length T ≡ 0
no_patterns [] h = refl
no_patterns (p ∷ T) h = absurd (cc)

one_too_many : (T : List Pattern) → IsExcess where_block T → length T ≡ max_patterns + 1
one_too_many T x =
    omega (arith, ap length x.parts, length-append x.before (x.extra ∷ []), ltb-false max_patterns (length x.before) x.few, ltb-true max_patterns (length T) x.many)

-- DELETE WHERE with a pattern too many or none, too
pub where_departs : (env : Scope) (n : Numbers) (a b c : ℕ) {ts : List Symbol} → StopsAt where_block (in_language sought env) [] n ts
    → Departs env n (Foreign kind.Delete a ∷ Foreign kind.Where b ∷ Foreign kind.OpenBrace c ∷ ts)
where_departs env n a b c (at_graph {T = T} e us d new few) = profile.where_graph a b c e us d (ltb-false max_patterns (length T) few)
where_departs env n a b c (at_excess {T = T} us t x clear) = profile.fifth_pattern a b c us t (one_too_many T x) (clear [])
where_departs env n a b c (at_end {T = T} e us t none) =
    subst (λ z. Departs env n (Foreign kind.Delete a ∷ Foreign kind.Where b ∷ Foreign kind.OpenBrace c ∷ z ++ Foreign kind.CloseBrace e ∷ us)) (sym (template_none t (no_patterns T none)))
    (profile.no_pattern a b c e us)
