-- The names that the store makes up for new graphs (SPARQL 1.1 Graph Store HTTP Protocol, 21 March 2013, section 5.5).
use Rattle.std.specs.Prelude.{◌≡◌, ◌<◌, ℕ, zero, suc, ◌+◌, true, false, List, ◌++◌, if◌then◌else◌, codes}
use Rattle.gs_model.specs.Terms.{numeral}
use Rattle.gs_term.specs.declared.names.Target.TheVariants.{Named}
use Rattle.gs_event.specs.Datasets.{Dataset, is_there, names_in}

-- the k-th name for request r: `<base>/graphs/n<r>-<k>`
abbrev pub made_name : List ℕ → ℕ → ℕ → List ℕ
made_name base r k = base ++ codes "/graphs/n" ++ numeral r ++ (codes "-" ++ numeral k)

-- the first of these n numbers from k on whose name is not in the store, and else the next
abbrev pub first_free : Dataset → List ℕ → ℕ → ℕ → ℕ → ℕ
first_free m base r zero k = k
first_free m base r (suc n) k = if is_there m (Named (made_name base r k)) then first_free m base r n (k + 1) else k

-- the name with the least number from 0 that is not in the store: among one number more than
-- there are names, one is free
abbrev pub new_name : List ℕ → Dataset → ℕ → List ℕ
new_name base m r = made_name base r (first_free m base r (names_in m) 0)

-- the name is not in the store, and the names with lesser numbers are
pub record IsLeastFree (base : List ℕ) (m : Dataset) (request : ℕ) (name : List ℕ) : Type 0 where
  pub number : ℕ
  pub named : name ≡ made_name base request number
  pub free : is_there m (Named name) ≡ false
  pub least : (k : ℕ) → k < number → is_there m (Named (made_name base request k)) ≡ true
