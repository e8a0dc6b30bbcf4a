-- What a reading has gone over.
use Rattle.std.proofs.Common.{◌≡◌, ℕ, ◌+◌, ◌-◌, ◌<◌, ◌≤◌, Bool, List, [], ◌∷◌, ◌++◌, refl, sym, ap, ◌∙◌, arith, subst, append_assoc, append-nil, length, length-drop, take, drop}
use Rattle.std.proofs.Math.ListN.{take-append-drop}
use Rattle.std.proofs.lemmas.List.{drop-drop}
use Rattle.std.proofs.lemmas.Str.{IsUtf8-nil, IsUtf8-append}
use Rattle.std.specs.Str.{IsUtf8}
use Rattle.gs_automaton.specs.Scans.{MayBecome, IsScanned, IsBarrenTo}
use Rattle.gs_lex.specs.Tokens.{lexeme_at}
use Rattle.gs_lex.specs.Lexemes.{lexemes_of}
use Rattle.gs_lex.specs.Readings.{Passes, FindsToken, CutFrom, HasRead, Went, GrowsByTokens, IsWithin, passed_of, found_of, bit}
use Rattle.gs_lex.specs.declared.kinds.TokenKind.{TokenKind}
use Rattle.gs_automaton.specs.declared.scans.Scan.{Scan}
use Rattle.gs_lex.specs.declared.steps.Reading.{Reading}
use Rattle.gs_lex.specs.declared.tokens.Token.{Token}
use Rattle.gs_automaton.proofs.BecomeLemmas.{becomes-before}
use Rattle.gs_automaton.proofs.ScanLemmas.{scan-fresh}
use Rattle.gs_lex.proofs.BarrenLemmas.{barren-none}

drop_more : (m n : ℕ) (x : List ℕ) → m ≤ length x → drop n (drop m x) ≡ drop (m + n) x
drop_more m n x h = drop-drop n m x

parts_more : (from r : Reading) (x : List ℕ) (count : ℕ) (before : List ℕ) → r.cut ≤ length x → drop from.cut x ≡ before ++ drop r.cut x
    → drop from.cut x ≡ (before ++ take count (drop r.cut x)) ++ drop (r.cut + count) x
parts_more from r x count before l p =
    p ∙ ap (λ z. before ++ z) (sym (take-append-drop count (drop r.cut x)) ∙ ap (λ z. take count (drop r.cut x) ++ z) (drop_more r.cut count x l))
    ∙ sym (append_assoc before (take count (drop r.cut x)) (drop (r.cut + count) x))

-- what becomes of the rest becomes of the text, whose front stays
pub becomes-front : (is_end : Bool) (x z : List ℕ) (count : ℕ) → IsUtf8 (take count x) → MayBecome is_end (drop count x) z → MayBecome is_end x (take count x ++ z)
becomes-front is_end x z count u m = subst (λ y. MayBecome is_end y (take count x ++ z)) (take-append-drop count x) (becomes-before is_end (take count x) (drop count x) z u m)

pub went-nothing : (is_end : Bool) (x : List ℕ) (r : Reading) (old : List Token) → HasRead is_end r (drop r.cut x) → Went is_end x r r old old
went-nothing is_end x r old h = record { added = []; given = sym (append-nil (lexemes_of old)); before = []; parts = refl; characters = IsUtf8-nil; mode = refl; read = h; cut = λ z ts e m t. t }

pub went-passed : (is_end : Bool) (x : List ℕ) (from r : Reading) (old new : List Token) (count : ℕ) (c : Bool) → r.cut ≤ length x → Went is_end x from r old new
    → Passes is_end r (drop r.cut x) count c → Went is_end x from (passed_of r count c) old new
went-passed is_end x from r old new count c l w p = record {
  added = w.added;
  given = w.given;
  before = w.before ++ take count (drop r.cut x);
  parts = parts_more from r x count w.before l w.parts;
  characters = IsUtf8-append w.before (take count (drop r.cut x)) w.characters p.characters;
  mode = w.mode;
  read = record { scanned = scan-fresh r.updates (drop (r.cut + count) x); barren = barren-none is_end r.updates (drop (r.cut + count) x) };
  cut = λ z ts e m t.
      let before = take count (drop r.cut x) in
      let rest : MayBecome is_end (drop count (drop r.cut x)) z = subst (λ y. MayBecome is_end y z) (sym (drop_more r.cut count x l)) m in
      subst (λ y. CutFrom from y (w.added ++ ts) e) (sym (append_assoc w.before before z))
      (w.cut (before ++ z) ts e (becomes-front is_end (drop r.cut x) z count p.characters rest) (p.cut z ts e rest t));
}

pub went-found : (is_end : Bool) (x : List ℕ) (from r : Reading) (old new newer : List Token) (k : TokenKind) (count b : ℕ) → r.cut ≤ length x → Went is_end x from r old new
    → FindsToken is_end r (drop r.cut x) k count b → lexemes_of newer ≡ lexemes_of new ++ lexeme_at k r.place (take count (drop r.cut x)) ∷ [] → Went is_end x from (found_of r count b) old newer
went-found is_end x from r old new newer k count b l w g p =
    let lex = lexeme_at k r.place (take count (drop r.cut x)) in
    record {
      added = w.added ++ lex ∷ [];
      given = p ∙ ap (λ z. z ++ lex ∷ []) w.given ∙ append_assoc (lexemes_of old) w.added (lex ∷ []);
      before = w.before ++ take count (drop r.cut x);
      parts = parts_more from r x count w.before l w.parts;
      characters = IsUtf8-append w.before (take count (drop r.cut x)) w.characters g.characters;
      mode = w.mode;
      read = record { scanned = scan-fresh r.updates (drop (r.cut + count) x); barren = subst (λ z. IsBarrenTo is_end r.updates z b) (drop_more r.cut count x l) g.stays };
      cut = λ z ts e m t.
          let before = take count (drop r.cut x) in
          let rest : MayBecome is_end (drop count (drop r.cut x)) z = subst (λ y. MayBecome is_end y z) (sym (drop_more r.cut count x l)) m in
          subst (λ y. CutFrom from y ((w.added ++ lex ∷ []) ++ ts) e) (sym (append_assoc w.before before z))
          (subst (λ y. CutFrom from (w.before ++ (before ++ z)) y e) (sym (append_assoc w.added (lex ∷ []) ts))
          (w.cut (before ++ z) (lex ∷ ts) e (becomes-front is_end (drop r.cut x) z count g.characters rest) (g.cut z ts e rest t)));
    }

pub went-wait : (is_end : Bool) (x : List ℕ) (from r : Reading) (old new : List Token) (s : Scan) → Went is_end x from r old new → IsScanned r.updates (drop r.cut x) s
    → Went is_end x from (record r { scan = s }) old new
went-wait is_end x from r old new s w h = record { added = w.added; given = w.given; before = w.before; parts = w.parts; characters = w.characters; mode = w.mode; read = record { scanned = h; barren = w.read.barren }; cut = w.cut }

pub within-found : (r : Reading) (x : List ℕ) (count b : ℕ) → IsWithin r x → count ≤ length (drop r.cut x) → IsWithin (found_of r count b) x
within-found r x count b w h = record { cut = omega (arith, length-drop r.cut x, w.cut); scan = omega (arith, length-drop r.cut x, w.cut); best = omega arith }

pub within-passed : (r : Reading) (x : List ℕ) (count : ℕ) (c : Bool) → IsWithin r x → count ≤ length (drop r.cut x) → IsWithin (passed_of r count c) x
within-passed r x count c w h = record { cut = omega (arith, length-drop r.cut x, w.cut); scan = omega (arith, length-drop r.cut x, w.cut); best = omega arith }

pub within-wait : (r : Reading) (x : List ℕ) (s : Scan) → IsWithin r x → s.len ≤ length (drop r.cut x) → s.best_len ≤ s.len → IsWithin (record r { scan = s }) x
within-wait r x s w h k = record { cut = w.cut; scan = omega (arith, length-drop r.cut x, w.cut, h); best = k }

pub grows-nothing : (old : List Token) → GrowsByTokens old old
grows-nothing old = record { more = []; parts = sym (append-nil old) }

pub grows-more : (old new newer : List Token) → GrowsByTokens old new → GrowsByTokens new newer → GrowsByTokens old newer
grows-more old new newer g h = record { more = g.more ++ h.more; parts = h.parts ∙ ap (λ z. z ++ h.more) g.parts ∙ append_assoc old g.more h.more }

pub falls-passed : (r : Reading) (x : List ℕ) (count : ℕ) (c : Bool) → IsWithin r x → count ≤ length (drop r.cut x) → bit c < count + count + bit r.in_comment
    → (length x - (r.cut + count)) + (length x - (r.cut + count)) + bit c < (length x - r.cut) + (length x - r.cut) + bit r.in_comment
falls-passed r x count c w h k = omega (arith, length-drop r.cut x, w.cut)

pub falls-found : (r : Reading) (x : List ℕ) (count : ℕ) → IsWithin r x → count ≤ length (drop r.cut x) → 0 < count
    → (length x - (r.cut + count)) + (length x - (r.cut + count)) + 0 < (length x - r.cut) + (length x - r.cut) + bit r.in_comment
falls-found r x count w h k = omega (arith, length-drop r.cut x, w.cut)
