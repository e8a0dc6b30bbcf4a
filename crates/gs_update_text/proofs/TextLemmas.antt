-- What a text says, by the tokens that it is cut into.
use Rattle.std.proofs.Common.{◌≡◌, ℕ, true, List, ◌++◌, length, refl, sym, ap, ◌∙◌, subst, arith, take}
use Rattle.std.specs.Prelude.{Option, Some, None}
use Rattle.std.proofs.Math.Seq.{take-append_seam}
use Rattle.gs_lex.specs.Tokens as lexer
use Rattle.gs_lex.specs.Tokens.{IsCut, Lexeme}
use Rattle.gs_lex.specs.Cuts.{cut_of_text}
use Rattle.gs_lex.proofs.OneCutLemmas.{cut-one}
use Rattle.gs_lex.proofs.CutLemmas.{cut-from}
use Rattle.gs_machine.specs.Machines.{rest}
use Rattle.gs_blank.specs.Numbers.{Numbers}
use Rattle.gs_triples.specs.Symbols.{Symbol}
use Rattle.gs_triples.specs.Meanings.{Fault, Syntax}
use Rattle.gs_update_text.specs.Requests.{Rejection, Broken, OutOfProfile, Written, UpdateRequest, IsBrokenUpdate}
use Rattle.gs_update_text.specs.Operations.{Scope}
use Rattle.gs_update_text.specs.Fronts.{AreLongestOperations, AreOperationsBeforeFault}
use Rattle.gs_update_text.specs.States.{Between}
use Rattle.gs_update_text.specs.Machine.{updates, request_of}
use Rattle.gs_update_text.specs.Texts.{request_ended_by, request_by, SaysBroken, IsUpdateText, LeavesText, IsBrokenAfter, BreaksUpdate}
use Rattle.gs_update_text.proofs.UpdateLemmas.{operations_read}
use Rattle.gs_update_text.proofs.ReadLemmas.{update_read, update_covered}
use Rattle.gs_update_text.proofs.ProfileLemmas.{departure_read, departure_covered}
use Rattle.gs_update_text.proofs.FrontLemmas.{longest_said}
use Rattle.gs_update_text.proofs.PlaceLemmas.{operations_end}

-- a text that is cut so
pub text_cut : (b : List ℕ) (r : ℕ) (x : List ℕ) (ts : List Lexeme) (e : lexer.CutEnd) → IsCut true x ts e → request_by b r x ≡ request_ended_by e (request_of b r ts)
unfolding request_by
text_cut b r x ts e c =
    let same = cut-one true lexer.Between 0 0 x (cut_of_text true x).0 ts (cut_of_text true x).1 e (cut-from true lexer.Between 0 0 x) c in
    ap (λ (z : List Lexeme). request_ended_by (cut_of_text true x).1 (request_of b r z)) same.0 ∙ ap (λ (z : lexer.CutEnd). request_ended_by z (request_of b r ts)) same.1

whole_ends : (e : lexer.CutEnd) (q : UpdateRequest) (os : List Written) → request_ended_by e q ≡ (os, None) → (e ≡ lexer.AtEnd) × (q ≡ (os, None))
whole_ends lexer.AtEnd q os h = (refl, h)
whole_ends (lexer.AtFault n) (us, None) os h = absurd (Prim.cc (ap (λ (z : UpdateRequest). z.1) h))
whole_ends (lexer.AtFault n) (us, Some f) os h = absurd (Prim.cc (ap (λ (z : UpdateRequest). z.1) h))

pub text_covered : (b : List ℕ) (r : ℕ) (x : List ℕ) (os : List Written) → request_by b r x ≡ (os, None) → IsUpdateText b r x os
unfolding request_by
text_covered b r x os h =
    let c = cut_of_text true x in
    let w = whole_ends c.1 (request_of b r c.0) os h in
    record {
      lexemes = c.0;
      cut = subst (λ (e : lexer.CutEnd). IsCut true x c.0 e) w.0 (cut-from true lexer.Between 0 0 x);
      stated = update_covered b r c.0 os w.1;
    }

pub text_read : (b : List ℕ) (r : ℕ) (x : List ℕ) (os : List Written) → IsUpdateText b r x os → request_by b r x ≡ (os, None)
text_read b r x os h = text_cut b r x h.lexemes lexer.AtEnd h.cut ∙ update_read b r h.lexemes os h.stated

left_ends : (e : lexer.CutEnd) (q : UpdateRequest) (os : List Written) → request_ended_by e q ≡ (os, Some OutOfProfile) → q ≡ (os, Some OutOfProfile)
left_ends lexer.AtEnd q os h = h
left_ends (lexer.AtFault n) (us, None) os h = absurd (Prim.cc (ap (λ (z : UpdateRequest). z.1) h))
left_ends (lexer.AtFault n) (us, Some f) os h = h

left_so : (e : lexer.CutEnd) (os : List Written) → request_ended_by e (os, Some OutOfProfile) ≡ (os, Some OutOfProfile)
left_so lexer.AtEnd os = refl
left_so (lexer.AtFault n) os = refl

pub leaving_covered : (b : List ℕ) (r : ℕ) (x : List ℕ) (os : List Written) → request_by b r x ≡ (os, Some OutOfProfile) → LeavesText b r x os
unfolding request_by
leaving_covered b r x os h =
    let c = cut_of_text true x in
    record {
      lexemes = c.0;
      ending = c.1;
      cut = cut-from true lexer.Between 0 0 x;
      leaves = departure_covered b r c.0 os (left_ends c.1 (request_of b r c.0) os h);
    }

pub leaving_read : (b : List ℕ) (r : ℕ) (x : List ℕ) (os : List Written) → LeavesText b r x os → request_by b r x ≡ (os, Some OutOfProfile)
leaving_read b r x os h = text_cut b r x h.lexemes h.ending h.cut ∙ ap (request_ended_by h.ending) (departure_read b r h.lexemes os h.leaves) ∙ left_so h.ending os

-- the end of a text changes nothing of its operations
ended_says : (e : lexer.CutEnd) (q : UpdateRequest) → (request_ended_by e q).0 ≡ q.0
ended_says lexer.AtEnd q = refl
ended_says (lexer.AtFault n) (os, None) = refl
ended_says (lexer.AtFault n) (os, Some f) = refl

-- fronts of one list that are as long as each other are the same
same_front : (ts xs ys zs ws : List Symbol) → ts ≡ xs ++ ys → ts ≡ zs ++ ws → length xs ≡ length zs → xs ≡ zs
same_front ts xs ys zs ws p q e = sym (take-append_seam xs ys) ∙ ap (take (length xs)) (sym p ∙ q) ∙ ap (λ n. take n (zs ++ ws)) e ∙ take-append_seam zs ws

-- tokens have one longest front that is an update, with one list of operations
pub longest_once : (env : Scope) (n : Numbers) (ts : List Symbol) (os us : List Written) → AreLongestOperations env n ts os → AreLongestOperations env n ts us → os ≡ us
longest_once env n ts os us a c =
    let as_long : length a.front ≡ length c.front = omega (arith, a.longest c.front c.after us c.parts c.whole, c.longest a.front a.after os a.parts a.whole) in
    let same : a.front ≡ c.front = same_front ts a.front a.after c.front c.after a.parts c.parts as_long in
    ap (λ (z : UpdateRequest). z.0) (sym (operations_read a.whole) ∙ ap (rest updates (Between env n)) same ∙ operations_read c.whole)

no_whole : (r : Rejection) → None ≡ Some r → ⊥
no_whole r h = cc

not_broken : (f : Fault) → Some OutOfProfile ≡ Some (Broken f) → ⊥
not_broken f h = cc

pub broken_read : (b : List ℕ) (r : ℕ) (x : List ℕ) (os : List Written) → SaysBroken b r x os → IsBrokenAfter b r x os
unfolding request_by
broken_read b r x os (f, h) =
    let c = cut_of_text true x in
    record {
      lexemes = c.0;
      ending = c.1;
      cut = cut-from true lexer.Between 0 0 x;
      longest = subst (AreOperationsBeforeFault b r c.0) (sym (ended_says c.1 (request_of b r c.0)) ∙ ap (λ (z : UpdateRequest). z.0) h) (longest_said b r c.0);
      no_update = λ us u. no_whole (Broken f) (ap (λ (z : UpdateRequest). z.1) (sym (text_read b r x us u) ∙ h));
      served = λ us l. not_broken f (ap (λ (z : UpdateRequest). z.1) (sym (leaving_read b r x us l) ∙ h));
    }

by_ending : (b : List ℕ) (r : ℕ) (x : List ℕ) (os : List Written) → IsBrokenAfter b r x os → (o : Option Rejection) → request_by b r x ≡ (os, o) → SaysBroken b r x os
by_ending b r x os h None q = absurd (h.no_update os (text_covered b r x os q))
by_ending b r x os h (Some OutOfProfile) q = absurd (h.served os (leaving_covered b r x os q))
by_ending b r x os h (Some (Broken f)) q = (f, q)

pub broken_covered : (b : List ℕ) (r : ℕ) (x : List ℕ) (os : List Written) → IsBrokenAfter b r x os → SaysBroken b r x os
broken_covered b r x os h =
    let said : UpdateRequest = request_by b r x in
    let same : said.0 ≡ os =
    ap (λ (z : UpdateRequest). z.0) (text_cut b r x h.lexemes h.ending h.cut) ∙ ended_says h.ending (request_of b r h.lexemes)
    ∙ longest_once _ _ _ (request_of b r h.lexemes).0 os (longest_said b r h.lexemes) h.longest in
    by_ending b r x os h said.1 (ap (λ z. let p : UpdateRequest = (z, said.1) in p) same)

pub broken_placed : (b : List ℕ) (r : ℕ) (x : List ℕ) (at : ℕ) → IsBrokenUpdate (request_by b r x) at → BreaksUpdate b r x at
broken_placed b r x at h =
    let said : UpdateRequest = request_by b r x in
    let a : IsBrokenAfter b r x said.0 = broken_read b r x said.0 (Syntax, ap (λ z. let p : UpdateRequest = (said.0, z) in p) h.broken) in
    record {
      operations = said.0;
      before = a;
      end = h.place;
      brace = h.place ∙ sym (operations_end a.longest.whole 0);
    }
