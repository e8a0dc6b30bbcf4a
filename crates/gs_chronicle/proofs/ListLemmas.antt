-- Lists of which one is kept in another place.
use Rattle.std.proofs.Common.{◌≡◌, ℕ, zero, suc, ◌<◌, List, [], ◌∷◌, ◌++◌, length, set, get_or, ap, arith}
use Rattle.gs_chronicle.specs.declared.kept_lists.KeptList.{KeptList}
use Rattle.gs_chronicle.specs.KeptLists.{kept_triples, all_triples}

-- where one of them has the same triples as before, so have all
pub same_lists : (lists : List KeptList) (i : ℕ) (d k : KeptList) → i < length lists → kept_triples k ≡ kept_triples (get_or lists i d) → all_triples (set lists i k) ≡ all_triples lists
same_lists [] i d k inside same = absurd (omega arith)
same_lists (l ∷ ls) zero d k inside same = ap (λ ts. ts ++ all_triples ls) same
same_lists (l ∷ ls) (suc i) d k inside same = ap (λ ts. kept_triples l ++ ts) (same_lists ls i d k (omega arith) same)
