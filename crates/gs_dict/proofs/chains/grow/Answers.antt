use Rattle.std.proofs.Common.{◌≡◌, ℕ, suc, ◌*◌, ◌∙◌, List, ◌++◌, length, take, drop, ap, sym, arith}
use Rattle.std.proofs.Math.Nat.{pow-succ'}
use Rattle.std.proofs.lemmas.List.{length-append, length-take-le}
use Rattle.gs_dict.specs.Chains.{AreEnough}
use Rattle.gs_dict.proofs.chains.grow.Goals as goal

-- twice as many buckets are enough for as many entries
doubled : {b n wide m : ℕ} → AreEnough b n → wide ≡ 2 * b → m ≡ n → AreEnough wide m
doubled enough twice same = record {
  some = omega (arith, enough.some, twice);
  power = (suc enough.power.0, twice ∙ (ap (λ z. 2 * z) enough.power.1 ∙ sym (pow-succ' 2 enough.power.0)));
  short = omega (arith, enough.short, twice, same);
}

-- a list of so many items has as many after all of them were written
length_written : {X : Type 0} {m : ℕ} (n : ℕ) (new old : List X) → length new ≡ n → n ≡ m → length (take n (new ++ drop (length new) old)) ≡ m
length_written n new old is same =
    let rest = drop (length new) old in
    length-take-le n (new ++ rest) (omega (arith, length-append new rest, is)) ∙ same

pub returns-clause-enough : goal.returns-clause-enough
returns-clause-enough c =
    doubled c.requires.enough
    (length_written _ c.relink.new.heads c.in_ok-more.more.items (omega arith) (omega (arith, c.in_ok-more.ensures.count)))
    (length_written _ c.relink.new.entries c.args.entries.now.items (omega arith) (omega arith))
