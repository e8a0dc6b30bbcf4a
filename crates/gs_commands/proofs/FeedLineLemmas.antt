-- A feed's line has one reading.
use Rattle.std.proofs.Common.{◌≡◌, ℕ, List, [], ◌∷◌, ◌++◌, refl, sym, ap, ◌∙◌, subst, append_assoc, drop}
use Rattle.std.specs.Prelude.{codes}
use Rattle.gs_model.specs.Terms.{numeral}
use Rattle.gs_model.specs.Texts.{split_first, number_of}
use Rattle.gs_model.proofs.TextLemmas.{number_of-numeral}
use Rattle.gs_event.specs.declared.events.Action.{Action}
use Rattle.gs_event.specs.declared.events.Action.TheVariants.{Open, OpenPatch, Stage, Commit, CommitPatch, Delete, Head, Pin, Piece, Cancel}
use Rattle.gs_event.specs.declared.events.Event.TheVariants.{Seat as At}
use Rattle.gs_upload.specs.declared.languages.Language.{Language}
use Rattle.gs_upload.specs.declared.languages.Language.TheVariants.{NTriples, Turtle}
use Rattle.gs_commands.specs.Found.{SaysNumber, SaysAfter}
use Rattle.gs_commands.specs.Commands.{SaysText, SaysFeed, SaysAction, SaysEvent, feed_words}
use Rattle.gs_commands.proofs.WordLemmas.{first_differs}
use Rattle.gs_commands.proofs.CommandLemmas.{split_first-some, number_cut, seat_cut}

pub feed_cut : (x : List ℕ) (s : ℕ) (l : Language) (y : List ℕ) (says : SaysFeed s l y x) → split_first 32 x ≡ (numeral s, says.1.rest)
feed_cut x s l y says = number_cut x says.1.rest s (says.1.parts ∙ append_assoc (numeral s) (32 ∷ []) says.1.rest)

pub feed_seat_none : (x word : List ℕ) → word ≡ (split_first 32 x).0 → ((n : ℕ) → ¬ SaysNumber 65535 n word) → (s : ℕ) (l : Language) (y : List ℕ) → ¬ SaysFeed s l y x
feed_seat_none x word before none s l y says = none s (before ∙ ap (λ p. p.0) (feed_cut x s l y says), says.0)

-- what stands after the seat's number is no feed
feed_rest_none : (x action : List ℕ) → action ≡ (split_first 32 x).1 → ((l : Language) (y : List ℕ) → ¬ SaysAfter (feed_words l) (SaysText y) action) → (s : ℕ) (l : Language) (y : List ℕ) → ¬ SaysFeed s l y x
feed_rest_none x action after none s l y says =
    let P : List ℕ → Type 0 = λ z. SaysAfter (feed_words l) (SaysText y) z in
    let same : says.1.rest ≡ action = sym (after ∙ ap (λ p. p.1) (feed_cut x s l y says)) in
    none l y (subst P same says.1.says)

pub feed_word_none : (x action : List ℕ) → action ≡ (split_first 32 x).1 → ((l : Language) (rest : List ℕ) → ¬ (action ≡ feed_words l ++ rest)) → (s : ℕ) (l : Language) (y : List ℕ) → ¬ SaysFeed s l y x
feed_word_none x action after none = feed_rest_none x action after (λ l y says. none l says.rest says.parts)

-- the words of a feed give its language and its text
words_apart : (l k : Language) (rest other : List ℕ) → feed_words l ++ rest ≡ feed_words k ++ other → (l ≡ k) × (rest ≡ other)
words_apart NTriples NTriples rest other e = (refl, cc)
words_apart NTriples Turtle rest other e = absurd (first_differs 110 116 (codes "t " ++ rest) (codes "tl " ++ other) refl (ap (drop 5) e))
words_apart Turtle NTriples rest other e = absurd (first_differs 116 110 (codes "tl " ++ rest) (codes "t " ++ other) refl (ap (drop 5) e))
words_apart Turtle Turtle rest other e = (refl, cc)

pub feed_text_none : (x action rest : List ℕ) (k : Language) → action ≡ (split_first 32 x).1 → action ≡ feed_words k ++ rest → ((y : List ℕ) → ¬ SaysText y rest) → (s : ℕ) (l : Language) (y : List ℕ) → ¬ SaysFeed s l y x
feed_text_none x action rest k after parts none = feed_rest_none x action after (λ l y says.
    let P : List ℕ → Type 0 = λ z. SaysText y z in
    let same : says.rest ≡ rest = (words_apart l k says.rest rest (sym says.parts ∙ parts)).1 in
    none y (subst P same says.says))

words_some : (l : Language) (rest : List ℕ) → ¬ (feed_words l ++ rest ≡ [])
words_some NTriples rest e = cc
words_some Turtle rest e = cc

pub feed_says : (x word action rest y : List ℕ) (s : ℕ) (l : Language) → word ≡ (split_first 32 x).0 → action ≡ (split_first 32 x).1 → action ≡ feed_words l ++ rest → SaysNumber 65535 s word → SaysText y rest → SaysFeed s l y x
feed_says x word action rest y s l before after parts seat says =
    let some : ¬ ((split_first 32 x).1 ≡ []) = λ h. words_some l rest (sym parts ∙ after ∙ h) in
    let cut = split_first-some 32 x some in (
      seat.1,
      record {
        rest = action;
        parts = cut ∙ ap (λ z. z ++ 32 ∷ (split_first 32 x).1) (sym before ∙ seat.0) ∙ ap (λ z. numeral s ++ 32 ∷ z) (sym after) ∙ sym (append_assoc (numeral s) (32 ∷ []) action);
        says = record { rest = rest; parts = parts; says = says };
      },
    )

-- a line says one feed
pub feed_one : (x : List ℕ) (s t : ℕ) (l k : Language) (y z : List ℕ) → SaysFeed s l y x → SaysFeed t k z x → (s ≡ t) × (l ≡ k)
feed_one x s t l k y z says other =
    let cut = sym (feed_cut x s l y says) ∙ feed_cut x t k z other in
    let seat : s ≡ t = sym (number_of-numeral s) ∙ ap (λ p. number_of p.0) cut ∙ number_of-numeral t in
    let rest = sym says.1.says.parts ∙ ap (λ p. p.1) cut ∙ other.1.says.parts in
    (seat, (words_apart l k says.1.says.rest other.1.says.rest rest).0)

-- the words of a feed begin no action
pub words_first : (l : Language) (rest : List ℕ) → (z : List ℕ) × (feed_words l ++ rest ≡ 102 ∷ z)
words_first NTriples rest = (codes "eed nt " ++ rest, refl)
words_first Turtle rest = (codes "eed ttl " ++ rest, refl)

no_action : (a : Action) (x z : List ℕ) → x ≡ 102 ∷ z → ¬ SaysAction a x
no_action (Open k since) x z e says = first_differs 102 111 z (codes "pen " ++ says.rest) refl (sym e ∙ says.parts)
no_action (OpenPatch t since) x z e says = first_differs 102 111 z (codes "pen patch " ++ says.rest) refl (sym e ∙ says.parts)
no_action (Stage ts) x z e says = first_differs 102 115 z (codes "tage " ++ says.rest) refl (sym e ∙ says.parts)
no_action Commit x z e says = first_differs 102 99 z (codes "ommit") refl (sym e ∙ says)
no_action (CommitPatch ops) x z e says = says
no_action (Delete t since) x z e says = first_differs 102 100 z (codes "elete " ++ says.rest) refl (sym e ∙ says.parts)
no_action (Head c) x z e says = first_differs 102 104 z (codes "ead " ++ says.rest) refl (sym e ∙ says.parts)
no_action (Pin c) x z e says = first_differs 102 112 z (codes "in " ++ says.rest) refl (sym e ∙ says.parts)
no_action (Piece n) x z e says = first_differs 102 112 z (codes "iece " ++ says.rest) refl (sym e ∙ says.parts)
no_action Cancel x z e says = first_differs 102 99 z (codes "ancel") refl (sym e ∙ says)

-- a feed is no event
pub feed_no_event : (x : List ℕ) (s t : ℕ) (l : Language) (y : List ℕ) (a : Action) → SaysFeed s l y x → ¬ SaysEvent (At t a) x
feed_no_event x s t l y a says event =
    let cut = sym (seat_cut x t a event.1) ∙ feed_cut x s l y says in
    let word = words_first l says.1.says.rest in
    no_action a event.1.rest word.0 (ap (λ p. p.1) cut ∙ says.1.says.parts ∙ word.1) event.1.says
