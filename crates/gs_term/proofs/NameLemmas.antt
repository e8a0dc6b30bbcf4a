-- The order of names.
use Rattle.std.specs.Cmp.{IsTotalOrder}
use Rattle.std.proofs.lemmas.Cmp.{nat_list_cmp_total, on_total}
use Rattle.std.proofs.lemmas.Map.Lookups.{exact_bytes, CmpEqualImpliesEq}
use Rattle.gs_term.specs.Names.{in_brackets, name_cmp}
use Rattle.gs_term.specs.NameOrder.{same_name}

-- names are in a total order
pub name_total : IsTotalOrder name_cmp
name_total = on_total in_brackets nat_list_cmp_total

-- two names that have one place are one
pub name_exact : CmpEqualImpliesEq name_cmp
name_exact a b same = same_name a b (exact_bytes (in_brackets a) (in_brackets b) same)
