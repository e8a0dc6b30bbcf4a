-- What a head says of its host and of the connection (RFC 9110, sections 7.2, 7.6.1 and 10.1.1).
use Rattle.std.specs.Prelude.{ℕ, Bool, List, length, ◌==◌, codes}
use Rattle.std.specs.List.{list_any, slice_split}
use Rattle.std.specs.Str.{str_eq_ignore_ascii_case}
use Rattle.httparse.specs.Grammar.{trim_ows}
use Rattle.gs_model.specs.Punctuation.{comma}

-- the elements of a list (section 5.6.1), with the white space around them
abbrev pub elements_of : List ℕ → List (List ℕ)
elements_of v = slice_split (λ b. b == comma) v

-- an element of the list is the word, in any case
abbrev pub has_element : List ℕ → List ℕ → Bool
has_element word v = list_any (λ e. str_eq_ignore_ascii_case (trim_ows e) word) (elements_of v)

-- a Connection field lists `close`
abbrev pub closes : (List ℕ → List (List ℕ)) → Bool
closes values = list_any (has_element (codes "close")) (values (codes "connection"))

-- an Expect field is `100-continue`, in any case
abbrev pub expects_continue : (List ℕ → List (List ℕ)) → Bool
expects_continue values = list_any (λ v. str_eq_ignore_ascii_case v (codes "100-continue")) (values (codes "expect"))

-- there is exactly one Host
abbrev pub has_one_host : (List ℕ → List (List ℕ)) → Bool
has_one_host values = length (values (codes "host")) == 1
