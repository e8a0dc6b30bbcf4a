use Rattle.std.proofs.Common.{◌≡◌, ◌+◌, ◌-◌, ◌≤◌, ◌++◌, subst, sym, ap, ◌∙◌, take, drop, length, arith, List, ℕ, take_all, length-drop}
use Rattle.std.proofs.Math.Seq.{take-add}
use Rattle.std.specs.Io.KnownBytes.{Appends}
use Rattle.std.proofs.KnownBytes.{Appends-trans, Appends-kept}
use Rattle.gs_session.proofs.writing.write_text.Goals.{in-Ok, in-Err+else-ne}
use Rattle.gs_session.proofs.writing.write_text.Goals as goal

rest_all : (t : List ℕ) (at : ℕ) → take (length t - at) (drop at t) ≡ drop at t
rest_all t at = take_all (length t - at) (drop at t) (simp length-drop (omega arith))

joined : (t : List ℕ) (at n : ℕ) → take at t ++ take n (take (length t - at) (drop at t)) ≡ take (at + n) t
joined t at n = ap (λ z. take at t ++ take n z) (rest_all t at) ∙ sym (take-add at n t)

bounded : (t : List ℕ) (at n : ℕ) → n ≤ length (take (length t - at) (drop at t)) → at ≤ length t → at + n ≤ length t
bounded t at n h k =
    let e : length (take (length t - at) (drop at t)) ≡ length t - at = ap length (rest_all t at) ∙ length-drop at t in
    omega arith

pub loop-preserved : goal.loop-preserved
loop-preserved g c =
    let t = c.args.text.now in
    let first = g.W.Write.contents c.args.writer.now in
    let old = g.W.Write.contents c.loop.writer in
    let new = g.W.Write.contents c.write.new.self in
    elim c.match-write.branch [
      | in-Ok w ↦ record {
        within = subst (λ n. n ≤ length t) (sym w.at-is) (bounded t c.loop.at w.in-Ok.count w.in-Ok.ensures.bound c.loop.invariant.within);
        front = subst (λ z. Appends first new z) (joined t c.loop.at w.in-Ok.count ∙ ap (λ n. take n t) (sym w.at-is))
            (Appends-trans first old new (take c.loop.at t) _ c.loop.invariant.front w.in-Ok.ensures.bytes);
      }
      | in-Err+else-ne w ↦ record {
        within = subst (λ n. n ≤ length t) (sym w.at-is) c.loop.invariant.within;
        front = subst (λ n. Appends first new (take n t)) (sym w.at-is) (Appends-kept first old new (take c.loop.at t) c.loop.invariant.front w.in-Err.ensures.bytes);
      }
    ]
