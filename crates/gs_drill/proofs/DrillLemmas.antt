-- A run of lines, line by line.
use Rattle.std.proofs.Common.{ℕ, List, [], ◌∷◌, ◌++◌, refl, sym, ap, ◌∙◌, subst, append_assoc, append-nil}
use Rattle.gs_commands.specs.declared.commands.Command.{Command}
use Rattle.gs_commands.specs.declared.commands.Command.TheVariants.{Nothing, Begin, Ask, Count, Feed, Patch, Cut}
use Rattle.gs_commands.specs.Commands.{SaysCommand}
use Rattle.gs_drill.specs.Drills.{RunState, DoesLine, Plays}
use Rattle.gs_drill.specs.Taking.{IsInRange}

-- a command that a line says is in range
pub says_in_range : (c : Command) (x : List ℕ) → SaysCommand c x → IsInRange c
says_in_range Nothing x says = tt
says_in_range (Begin a b c) x says = (says.says.some, says.says.most, says.says.commit_left, says.says.request_left)
says_in_range (Ask event) x says = tt
says_in_range Count x says = tt
says_in_range (Feed seat l y) x says = tt
says_in_range (Patch seat y) x says = tt
says_in_range (Cut n) x says = tt

-- one line more
pub Plays-more : (lines : List (List ℕ)) (s t u : RunState) (text line out : List ℕ) → Plays s lines text t → DoesLine t line out u → Plays s (lines ++ line ∷ []) (text ++ out) u
Plays-more [] s t u text line out p w =
    let P : RunState → Type 0 = λ z. DoesLine z line out u in
    (u, out, [], ap (λ z. z ++ out) p.0 ∙ sym (append-nil out), subst P p.1 w, (refl, refl))
Plays-more (l ∷ ls) s t u text line out p w =
    (p.0, p.1, p.2 ++ out, ap (λ z. z ++ out) p.3 ∙ append_assoc p.1 p.2 out, p.4, Plays-more ls p.0 t u p.2 line out p.5 w)
