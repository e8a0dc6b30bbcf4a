-- A line that says a late command says no other command that is not late.
use Rattle.std.proofs.Common.{◌≡◌, ℕ, true, false, ◌==◌, List, ◌∷◌, ◌++◌, refl, sym, ap, ◌∙◌, subst}
use Rattle.std.specs.Prelude.{codes}
use Rattle.gs_model.specs.Terms.{numeral}
use Rattle.gs_model.proofs.TextLemmas.{AllOther, other-numeral}
use Rattle.gs_event.specs.declared.events.Event.TheVariants.{Seat as At, Reclaim}
use Rattle.gs_upload.specs.declared.languages.Language.{Language}
use Rattle.gs_commands.specs.declared.commands.Command.{Command}
use Rattle.gs_commands.specs.declared.commands.Command.TheVariants.{Nothing, Begin, Ask, Count, Feed, Patch, Cut}
use Rattle.gs_commands.specs.Commands.{SaysCommand, SaysFeed, is_skipped}
use Rattle.gs_commands.proofs.WordLemmas.{first_differs}
use Rattle.gs_commands.proofs.FeedLineLemmas.{feed_one, feed_no_event}
use Rattle.gs_commands.proofs.PatchLineLemmas.{feed_no_patch}
use Rattle.gs_commands.proofs.RowLemmas.{other_first, skipped_digit}
use Rattle.gs_feeding.specs.Receiving.{IsIn}
use Rattle.gs_drill.specs.Drills.{RunState, IsLate}

-- what says that a store begins says no other command
pub late_line : (s : RunState) (x rest : List ℕ) → x ≡ codes "store " ++ rest → s.begun ≡ true → (c : Command) → SaysCommand c x → IsLate s c
late_line s x rest e begun Nothing says = let clash : false ≡ true = ap is_skipped (sym e) ∙ says.0 in cc
late_line s x rest e begun (Begin a b c) says = begun
late_line s x rest e begun (Ask (At seat action)) says = other_first 115 (numeral seat) (codes "tore " ++ rest) says.1.rest (other-numeral 115 refl seat) refl (sym e ∙ says.1.parts)
late_line s x rest e begun (Ask (Reclaim n)) says = first_differs 115 114 (codes "tore " ++ rest) (codes "eclaim " ++ says.rest) refl (sym e ∙ says.parts)
late_line s x rest e begun Count says = first_differs 115 99 (codes "tore " ++ rest) (codes "ounts") refl (sym e ∙ says)
late_line s x rest e begun (Feed seat l y) says = absurd (other_first 115 (numeral seat) (codes "tore " ++ rest) says.1.rest (other-numeral 115 refl seat) refl (sym e ∙ says.1.parts))
late_line s x rest e begun (Patch seat y) says = absurd (other_first 115 (numeral seat) (codes "tore " ++ rest) says.1.rest (other-numeral 115 refl seat) refl (sym e ∙ says.1.parts))
late_line s x rest e begun (Cut n) says = first_differs 115 99 (codes "tore " ++ rest) (codes "ut " ++ says.rest) refl (sym e ∙ says.parts)

-- a seat's line says no other command than a seat's
feed_first : (b : ℕ) (x y z : List ℕ) (s : ℕ) (l : Language) → (32 == b) ≡ false → AllOther b (numeral s) → x ≡ b ∷ z → ¬ SaysFeed s l y x
feed_first b x y z s l space others e says = other_first b (numeral s) z says.1.rest others space (sym e ∙ says.1.parts)

-- what says a feed in another language than before says no other command
late_feed : (s : RunState) (x : List ℕ) (seat : ℕ) (l : Language) (y : List ℕ) → SaysFeed seat l y x → ¬ IsIn l (s.desk.fed seat) → (d : Command) → SaysCommand d x → IsLate s d
late_feed s x seat l y feed late Nothing says = absurd (skipped_digit (numeral seat) x feed.1.rest (other-numeral 35 refl seat) says.0 feed.1.parts)
late_feed s x seat l y feed late (Begin a b c) says = absurd (feed_first 115 x y (codes "tore " ++ says.rest) seat l refl (other-numeral 115 refl seat) says.parts feed)
late_feed s x seat l y feed late (Ask (At t action)) says = feed_no_event x seat t l y action feed says
late_feed s x seat l y feed late (Ask (Reclaim n)) says = feed_first 114 x y (codes "eclaim " ++ says.rest) seat l refl (other-numeral 114 refl seat) says.parts feed
late_feed s x seat l y feed late Count says = feed_first 99 x y (codes "ounts") seat l refl (other-numeral 99 refl seat) says feed
late_feed s x seat l y feed late (Feed t k z) says =
    let one = feed_one x seat t l k y z.items feed says in
    let P : ℕ → Type 0 = λ n. ¬ IsIn l (s.desk.fed n) in
    let Q : Language → Type 0 = λ m. ¬ IsIn m (s.desk.fed t) in
    subst Q one.1 (subst P one.0 late)
late_feed s x seat l y feed late (Patch t z) says = feed_no_patch x seat t l y z.items feed says
late_feed s x seat l y feed late (Cut n) says = feed_first 99 x y (codes "ut " ++ says.rest) seat l refl (other-numeral 99 refl seat) says.parts feed

-- of a late command's line every command is late
pub late_none : (s : RunState) (c : Command) (x : List ℕ) → SaysCommand c x → IsLate s c → (d : Command) → SaysCommand d x → IsLate s d
late_none s Nothing x says late d other = absurd late
late_none s (Begin a b k) x says late d other = late_line s x says.rest says.parts late d other
late_none s (Ask event) x says late d other = absurd late
late_none s Count x says late d other = absurd late
late_none s (Feed seat l y) x says late d other = late_feed s x seat l y.items says late d other
late_none s (Patch seat y) x says late d other = absurd late
late_none s (Cut n) x says late d other = absurd late
