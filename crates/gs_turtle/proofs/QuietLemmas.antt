-- Triples are stated at a dot alone: no other token gives any, though an IRI may end a directive.
use Rattle.std.proofs.Common.{◌≡◌, ℕ, Bool, true, false, List, [], ◌∷◌, refl, ap, ◌∙◌, append-nil, Option, Some, None}
use Rattle.std.specs.Prelude.{if◌then◌else◌}
use Rattle.std.specs.Str.{is_utf8}
use Rattle.gs_machine.specs.Machines.{rest}
use Rattle.gs_model.specs.Terms.{Term}
use Rattle.gs_model.specs.Triples.{RdfTriple}
use Rattle.gs_lex.specs.Tokens.{Lexeme, has_text}
use Rattle.gs_lex.specs.Lexers.{AreQuiet}
use Rattle.gs_lex.specs.declared.kinds.TokenKind.{TokenKind}
use Rattle.gs_lex.specs.declared.kinds.TokenKind.TheVariants as kind
use Rattle.gs_blank.specs.Numbers.{Numbers}
use Rattle.gs_body.specs.Bodies.{all_stated}
use Rattle.gs_triples.specs.Symbols.{Symbol, ATerm, At, Reference, Namespace, Dot, Foreign, symbol, symbol_of, symbols_of}
use Rattle.gs_triples.specs.States as triples
use Rattle.gs_triples.specs.States.{Goes, Ends}
use Rattle.gs_triples.specs.Machine as triples_machine
use Rattle.gs_document.specs.Contexts.{TurtleContext}
use Rattle.gs_document.specs.Directives.{with_prefix, with_base}
use Rattle.gs_document.specs.States.{DocumentState, Between, InPrefix, InPrefixIri, InBase, AtDot, Within}
use Rattle.gs_document.specs.Machine.{set, over, step, turtle}

-- the symbol is no dot
abbrev pub IsNoDot : Symbol → Type 0
IsNoDot (Dot e) = ⊥
IsNoDot _ = Unit {0}

-- a token that triples take, or the one after them
over_quiet : (t : Symbol) (u : triples.Turn Term RdfTriple) → IsNoDot t → all_stated (over t u).1 ≡ []
over_quiet t (Goes s) h = refl
over_quiet (Dot e) (Ends env P n) h = absurd h
over_quiet t (Ends env P n) h = refl

-- the IRI of a directive
set_quiet : (dot : Bool) (e : ℕ) (n : Numbers) (env : Option TurtleContext) → all_stated (set dot e n env).1 ≡ []
set_quiet dot e n None = refl
set_quiet true e n (Some env) = refl
set_quiet false e n (Some env) = refl

-- a token in each state
step_quiet : (s : DocumentState) (t : Symbol) → IsNoDot t → all_stated (step s t).1 ≡ []
unfolding step
step_quiet (Between env n) (At x) h = refl
step_quiet (Between env n) t h = refl
step_quiet (InPrefix dot env n) (ATerm (Namespace p)) h = refl
step_quiet (InPrefix dot env n) (ATerm w) h = refl
step_quiet (InPrefix dot env n) t h = refl
step_quiet (InPrefixIri dot p env n) (ATerm (Reference i e)) h = set_quiet dot e n (with_prefix env p i)
step_quiet (InPrefixIri dot p env n) (ATerm w) h = refl
step_quiet (InPrefixIri dot p env n) t h = refl
step_quiet (InBase dot env n) (ATerm (Reference i e)) h = set_quiet dot e n (with_base env i)
step_quiet (InBase dot env n) (ATerm w) h = refl
step_quiet (InBase dot env n) t h = refl
step_quiet (AtDot env n) (Dot e) h = refl
step_quiet (AtDot env n) t h = refl
step_quiet (Within s) t h = over_quiet t (triples_machine.step s t) h

-- a kind that has a text is no dot
kind_quiet : (k : TokenKind) (x : List ℕ) (n : ℕ) → has_text k ≡ true → IsNoDot (symbol k x n)
kind_quiet kind.Dot x n h = absurd (Prim.cc)
kind_quiet k x n h = tt

either_quiet : (b : Bool) (s : Symbol) (k : TokenKind) (e : ℕ) → IsNoDot s → IsNoDot (if b then s else Foreign k e)
either_quiet true s k e h = h
either_quiet false s k e h = tt

-- tokens that are quiet give no triples
pub quiet_end : (s : DocumentState) (ts : List Lexeme) → AreQuiet ts → all_stated (rest turtle s (symbols_of ts)).0 ≡ []
unfolding rest
quiet_end s [] h = refl
quiet_end s (t ∷ []) h =
    ap all_stated (append-nil (step s (symbol_of t)).1) ∙ step_quiet s (symbol_of t) (either_quiet (is_utf8 t.text) (symbol t.kind t.text t.«end») t.kind t.«end» (kind_quiet t.kind t.text t.«end» h))
quiet_end s (t ∷ (u ∷ ts)) h = absurd h
