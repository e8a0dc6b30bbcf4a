-- Writes one after another.
use Rattle.std.proofs.Common.{◌≡◌, List, ℕ, [], ◌∷◌, ◌++◌, Option, Some, None, Result, Ok, Err, refl, sym, ap, ◌∙◌, append_assoc, append-nil, take, drop, subst, length, length-drop, ◌-◌}
use Rattle.std.proofs.Math.Seq.{take-length}
use Rattle.std.proofs.lemmas.List.{take-append-drop}
use Rattle.std.specs.Io.KnownBytes.{Appends, Keeps}
use Rattle.gs_drill.specs.Printing.{Writes, WritesFront}

pub Appends-append : (old mid new : Option (List ℕ)) (a b : List ℕ) → Appends old mid a → Appends mid new b → Appends old new (a ++ b)
Appends-append None mid new a b p q = tt
Appends-append (Some xs) None new a b p q = absurd p
Appends-append (Some xs) (Some ys) None a b p q = absurd q
Appends-append (Some xs) (Some ys) (Some zs) a b p q = q ∙ ap (λ z. z ++ b) p ∙ append_assoc xs a b

pub Appends-none : (old : Option (List ℕ)) → Appends old old []
Appends-none None = tt
Appends-none (Some xs) = sym (append-nil xs)

pub Appends-keeps : (old mid new : Option (List ℕ)) (a : List ℕ) → Appends old mid a → Keeps mid new → Appends old new a
Appends-keeps None mid new a p q = tt
Appends-keeps (Some xs) None new a p q = absurd p
Appends-keeps (Some xs) (Some ys) None a p q = absurd q
Appends-keeps (Some xs) (Some ys) (Some zs) a p q = q ∙ p

-- the rest of a slice, as the code cuts it
pub drop-whole : (xs : List ℕ) (n : ℕ) → take (length xs - n) (drop n xs) ≡ drop n xs
drop-whole xs n = ap (λ k. take k (drop n xs)) (sym (length-drop n xs)) ∙ take-length (drop n xs)

-- what is written of the next text goes on
pub WritesFront-next : (old mid new : Option (List ℕ)) (a b : List ℕ) → Appends old mid a → WritesFront mid new b → WritesFront old new (a ++ b)
WritesFront-next old mid new a b p w = record {
  printed = a ++ w.printed;
  rest = w.rest;
  parts = ap (λ z. a ++ z) w.parts ∙ sym (append_assoc a w.printed w.rest);
  appends = Appends-append old mid new a w.printed p w.appends;
}

-- a front of a text is a front of what goes on
pub WritesFront-more : (old new : Option (List ℕ)) (a b : List ℕ) → WritesFront old new a → WritesFront old new (a ++ b)
WritesFront-more old new a b w = record {
  printed = w.printed;
  rest = w.rest ++ b;
  parts = ap (λ z. z ++ b) w.parts ∙ append_assoc w.printed w.rest b;
  appends = w.appends;
}

pub WritesFront-all : (old new : Option (List ℕ)) (a : List ℕ) → Appends old new a → WritesFront old new a
WritesFront-all old new a p = record { printed = a; rest = []; parts = sym (append-nil a); appends = p }

-- of no text nothing is written
pub WritesFront-none : (old new : Option (List ℕ)) → WritesFront old new [] → Appends old new []
WritesFront-none old new w = none w.printed w.parts w.appends
  where
    none : (printed : List ℕ) → [] ≡ printed ++ w.rest → Appends old new printed → Appends old new []
    none [] parts appends = appends
    none (c ∷ cs) parts appends = absurd (cc)

-- a flush keeps what is written
pub WritesFront-keeps : (old mid new : Option (List ℕ)) (text : List ℕ) → WritesFront old mid text → Keeps mid new → WritesFront old new text
WritesFront-keeps old mid new text w k = record { printed = w.printed; rest = w.rest; parts = w.parts; appends = Appends-keeps old mid new w.printed w.appends k }

-- a text is written, or a front of it, and then flushed
pub Writes-front : {X E : Type 0} (old mid new : Option (List ℕ)) (text : List ℕ) (r : Result X E) → Writes old mid text r → Keeps mid new → WritesFront old new text
Writes-front old mid new text (Ok x) w k = WritesFront-all old new text (Appends-keeps old mid new text w k)
Writes-front old mid new text (Err e) w k = WritesFront-keeps old mid new text w k

-- so much of a text is written, and this is left of it
pub record Writing (old new : Option (List ℕ)) (text rest : List ℕ) : Type 0 where
  pub printed : List ℕ
  pub parts : text ≡ printed ++ rest
  pub appends : Appends old new printed

pub Writing-none : (old : Option (List ℕ)) (text : List ℕ) → Writing old old text text
Writing-none old text = record { printed = []; parts = refl; appends = Appends-none old }

pub Writing-more : (old mid new : Option (List ℕ)) (text rest after : List ℕ) (n : ℕ) → Writing old mid text rest → Appends mid new (take n rest) → after ≡ drop n rest → Writing old new text after
Writing-more old mid new text rest after n w p is = record {
  printed = w.printed ++ take n rest;
  parts = w.parts ∙ ap (λ z. w.printed ++ z) (sym (take-append-drop n rest)) ∙ sym (append_assoc w.printed (take n rest) (drop n rest)) ∙ ap (λ z. (w.printed ++ take n rest) ++ z) (sym is);
  appends = Appends-append old mid new w.printed (take n rest) w.appends p;
}

pub Writing-keeps : (old mid new : Option (List ℕ)) (text rest : List ℕ) → Writing old mid text rest → Keeps mid new → Writing old new text rest
Writing-keeps old mid new text rest w p = record { printed = w.printed; parts = w.parts; appends = Appends-keeps old mid new w.printed w.appends p }

pub Writing-all : (old new : Option (List ℕ)) (text rest : List ℕ) → Writing old new text rest → rest ≡ [] → Appends old new text
Writing-all old new text rest w none =
    let same : w.printed ≡ text = sym (append-nil w.printed) ∙ ap (λ z. w.printed ++ z) (sym none) ∙ sym w.parts in
    subst (λ (z : List ℕ). Appends old new z) same w.appends

pub Writing-front : (old new : Option (List ℕ)) (text rest : List ℕ) → Writing old new text rest → WritesFront old new text
Writing-front old new text rest w = record { printed = w.printed; rest = rest; parts = w.parts; appends = w.appends }

pub Keeps-none : (old new : Option (List ℕ)) → Keeps old new → Appends old new []
Keeps-none None new p = tt
Keeps-none (Some xs) None p = absurd p
Keeps-none (Some xs) (Some ys) p = p ∙ sym (append-nil xs)

-- one text is written, and then another
pub Writes-next : {X E : Type 0} (old mid new : Option (List ℕ)) (a b : List ℕ) (r : Result X E) → Appends old mid a → Writes mid new b r → Writes old new (a ++ b) r
Writes-next old mid new a b (Ok x) p w = Appends-append old mid new a b p w
Writes-next old mid new a b (Err e) p w = WritesFront-next old mid new a b p w
