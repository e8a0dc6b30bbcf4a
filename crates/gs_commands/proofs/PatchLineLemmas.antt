-- A patch's line has one reading.
use Rattle.std.proofs.Common.{◌≡◌, inl, inr, ℕ, List, [], ◌∷◌, ◌++◌, refl, sym, ap, ◌∙◌, subst, append_assoc}
use Rattle.std.specs.Prelude.{codes}
use Rattle.gs_model.specs.Terms.{numeral}
use Rattle.gs_model.specs.Texts.{split_first}
use Rattle.gs_upload.specs.declared.languages.Language.{Language}
use Rattle.gs_commands.specs.Found.{SaysNumber}
use Rattle.gs_commands.specs.Commands.{SaysUpdate, SaysFeed, SaysPatch}
use Rattle.gs_commands.proofs.WordLemmas.{first_differs}
use Rattle.gs_commands.proofs.CommandLemmas.{split_first-some, number_cut}
use Rattle.gs_commands.proofs.FeedLineLemmas.{feed_cut, words_first}

patch_cut : (x : List ℕ) (s : ℕ) (y : List ℕ) (says : SaysPatch s y x) → split_first 32 x ≡ (numeral s, says.1.rest)
patch_cut x s y says = number_cut x says.1.rest s (says.1.parts ∙ append_assoc (numeral s) (32 ∷ []) says.1.rest)

pub patch_seat_none : (x word : List ℕ) → word ≡ (split_first 32 x).0 → ((n : ℕ) → ¬ SaysNumber 65535 n word) → (s : ℕ) (y : List ℕ) → ¬ SaysPatch s y x
patch_seat_none x word before none s y says = none s (before ∙ ap (λ p. p.0) (patch_cut x s y says), says.0)

-- what stands after the seat's number is no update
pub patch_rest_none : (x action : List ℕ) → action ≡ (split_first 32 x).1 → ((y : List ℕ) → ¬ SaysUpdate y action) → (s : ℕ) (y : List ℕ) → ¬ SaysPatch s y x
patch_rest_none x action after none s y says =
    let P : List ℕ → Type 0 = λ z. SaysUpdate y z in
    let same : says.1.rest ≡ action = sym (after ∙ ap (λ p. p.1) (patch_cut x s y says)) in
    none y (subst P same says.1.says)

-- the word of a patch, with all that stands after it
update_first : (y x : List ℕ) → SaysUpdate y x → (z : List ℕ) × (x ≡ 112 ∷ z)
update_first y x (inl says) = (codes "atch", says.0)
update_first y x (inr says) = (codes "atch " ++ y, says.0)

update_some : (y x : List ℕ) → SaysUpdate y x → ¬ (x ≡ [])
update_some y x says h = let e = (update_first y x says).1 in cc

pub patch_says : (x word action y : List ℕ) (s : ℕ) → word ≡ (split_first 32 x).0 → action ≡ (split_first 32 x).1 → SaysNumber 65535 s word → SaysUpdate y action → SaysPatch s y x
patch_says x word action y s before after seat says =
    let some : ¬ ((split_first 32 x).1 ≡ []) = λ h. update_some y action says (after ∙ h) in
    let cut = split_first-some 32 x some in (
      seat.1,
      record {
        rest = action;
        parts = cut ∙ ap (λ z. z ++ 32 ∷ (split_first 32 x).1) (sym before ∙ seat.0) ∙ ap (λ z. numeral s ++ 32 ∷ z) (sym after) ∙ sym (append_assoc (numeral s) (32 ∷ []) action);
        says = says;
      },
    )

-- a feed is no patch
pub feed_no_patch : (x : List ℕ) (s t : ℕ) (l : Language) (y z : List ℕ) → SaysFeed s l y x → ¬ SaysPatch t z x
feed_no_patch x s t l y z says patch =
    let cut = sym (patch_cut x t z patch) ∙ feed_cut x s l y says in
    let word = words_first l says.1.says.rest in
    let update = update_first z patch.1.rest patch.1.says in
    first_differs 112 102 update.0 word.0 refl (sym update.1 ∙ ap (λ p. p.1) cut ∙ says.1.says.parts ∙ word.1)
