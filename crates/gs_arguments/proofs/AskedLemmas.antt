-- What the words ask for, by what clap answers.
use Rattle.std.proofs.Common.{◌≡◌, ◌∙◌, ◌⊎◌, inl, inr, ℕ, Bool, true, false, Option, Some, None, List, [], ◌∷◌, refl, sym, ap, subst, codes}
use Rattle.std.specs.Str.{bytes_eq}
use Rattle.gs_model.specs.Bases.{is_base}
use Rattle.clap.specs.Words.{Kinds, IsAmong, Text, fault_of, first_of, first_value, matches_of, rows_of}
use Rattle.clap.specs.declared.error.kind.ErrorKind.{ErrorKind}
use Rattle.clap.specs.declared.error.kind.ErrorKind.TheVariants.{DisplayHelp, OutOfMemory}
use Rattle.clap.specs.declared.parser.matches.Found.{Found}
use Rattle.clap.proofs.WalkLemmas.{first_value-rows}
use Rattle.gs_arguments.specs.Options.{gsd, given}
use Rattle.gs_arguments.specs.Asked.{help, nothing, asked_with_faults, asked_by, asked_by_found, asked_of, asked_way, number_said}
use Rattle.gs_arguments.proofs.FaultLemmas.{AtMostOne}

-- the text that was found for an option is the one that the words give it
given_is : (f : Found) (words : List Text) (id : Text) → rows_of f ≡ matches_of gsd words → first_value f id ≡ given id words
given_is f words id rows = first_value-rows f id ∙ ap (first_of id) rows

-- the texts that were found say what is asked for
pub asked_by_found-is : (f : Found) (v w x y z : Option Text) → first_value f (codes "listen") ≡ v → first_value f (codes "once") ≡ w → first_value f (codes "base") ≡ x
    → first_value f (codes "workers") ≡ y → first_value f (codes "piece") ≡ z → asked_by_found f ≡ asked_of v w x y z
asked_by_found-is f v w x y z a b c d e =
    ap (λ u. asked_of u (first_value f (codes "once")) (first_value f (codes "base")) (first_value f (codes "workers")) (first_value f (codes "piece"))) a
    ∙ ap (λ u. asked_of v u (first_value f (codes "base")) (first_value f (codes "workers")) (first_value f (codes "piece"))) b
    ∙ ap (λ u. asked_of v w u (first_value f (codes "workers")) (first_value f (codes "piece"))) c
    ∙ ap (λ u. asked_of v w x u (first_value f (codes "piece"))) d
    ∙ ap (asked_of v w x y) e

-- where a text is missing that has a default, they ask for nothing
pub asked_of-no_workers : (listen once base piece : Option Text) → asked_of listen once base None piece ≡ nothing
asked_of-no_workers listen None base piece = refl
asked_of-no_workers listen (Some once) None piece = refl
asked_of-no_workers listen (Some once) (Some base) piece = refl

pub asked_of-no_piece : (listen once base workers : Option Text) → asked_of listen once base workers None ≡ nothing
asked_of-no_piece listen None base workers = refl
asked_of-no_piece listen (Some once) None workers = refl
asked_of-no_piece listen (Some once) (Some base) None = refl
asked_of-no_piece listen (Some once) (Some base) (Some workers) = refl

-- under a base that may be one, it depends on `--once` and on the address
pub asked_of-way : (listen : Option Text) (once base workers piece : Text) (b : Bool) (n l : ℕ) → b ≡ bytes_eq once (codes "true") → is_base base ≡ true
    → n ≡ number_said workers → l ≡ number_said piece → asked_of listen (Some once) (Some base) (Some workers) (Some piece) ≡ asked_way b listen base n l
asked_of-way listen once base workers piece b n l stands may many lines = rw (stands, may, many, lines) refl

pub asked_of-nothing : (listen : Option Text) (once base workers piece : Text) → is_base base ≡ false → asked_of listen (Some once) (Some base) (Some workers) (Some piece) ≡ nothing
asked_of-nothing listen once base workers piece may = rw may refl

-- where clap finds no fault, the texts that it found say what is asked for
pub asked_by_found-words : (f : Found) (words : List Text) → rows_of f ≡ matches_of gsd words → fault_of gsd words ≡ [] → asked_by_found f ≡ asked_by words
asked_by_found-words f words rows none =
    asked_by_found-is f _ _ _ _ _ (given_is f words (codes "listen") rows) (given_is f words (codes "once") rows) (given_is f words (codes "base") rows)
    (given_is f words (codes "workers") rows) (given_is f words (codes "piece") rows)
    ∙ ap (λ ks. asked_with_faults ks words) (sym none)

-- where that of help is among the faults, help is asked for
pub asked_at-help : (ks : Kinds) (words : List Text) (k : ErrorKind) → AtMostOne ks → k ≡ DisplayHelp → (k ≡ OutOfMemory) ⊎ IsAmong k ks → asked_with_faults ks words ≡ help
asked_at-help ks words k one is (inl memory) = absurd (cc)
asked_at-help [] words k one is (inr among) = absurd among
asked_at-help (x ∷ []) words k one is (inr (inl same)) = subst (λ z. asked_with_faults (z ∷ []) words ≡ help) (sym is ∙ same) refl
asked_at-help (x ∷ []) words k one is (inr (inr more)) = absurd more
asked_at-help (x ∷ y ∷ ks) words k one is (inr among) = absurd one

other_fault : (x : ErrorKind) (words : List Text) → (x ≡ DisplayHelp → ⊥) → asked_with_faults (x ∷ []) words ≡ nothing
other_fault DisplayHelp words other = absurd (other refl)
other_fault x words other = refl

-- where another is, they ask for nothing
pub asked_at-nothing : (ks : Kinds) (words : List Text) (k : ErrorKind) → AtMostOne ks → (k ≡ DisplayHelp → ⊥) → (k ≡ OutOfMemory → ⊥) → (k ≡ OutOfMemory) ⊎ IsAmong k ks
    → asked_with_faults ks words ≡ nothing
asked_at-nothing ks words k one other enough (inl memory) = absurd (enough memory)
asked_at-nothing [] words k one other enough (inr among) = absurd among
asked_at-nothing (x ∷ []) words k one other enough (inr (inl same)) = other_fault x words (λ is. other (same ∙ is))
asked_at-nothing (x ∷ []) words k one other enough (inr (inr more)) = absurd more
asked_at-nothing (x ∷ y ∷ ks) words k one other enough (inr among) = absurd one
