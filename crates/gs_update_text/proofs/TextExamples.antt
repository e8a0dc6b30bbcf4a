-- What texts say, by computation from their bytes: words in any case, comments, and a place where no token begins.
use Rattle.std.proofs.Common.{◌≡◌, ℕ, List, [], ◌∷◌, refl}
use Rattle.std.specs.Prelude.{codes, Some, None}
use Rattle.std.specs.Str.{is_utf8, chars}
use lib.Utf8.{encode}
use Rattle.gs_machine.specs.Machines.{rest}
use Rattle.gs_triples.specs.Meanings.{Syntax}
use Rattle.gs_update_text.specs.Requests.{Inserts, Broken, OutOfProfile, UpdateRequest}
use Rattle.gs_update_text.specs.Blocks.{block_run}
use Rattle.gs_update_text.specs.Machine.{step, ended}
use Rattle.gs_update_text.proofs.UpdateLemmas.{written}
use Rattle.gs_machine.specs.Utf8.{symbols}
use Rattle.gs_lex.specs.Cuts.{parted}
use Rattle.gs_update_text.specs.Texts.{request_by}

-- what a text says in the graph `http://e/g`
abbrev text_says : List ℕ → UpdateRequest
text_says x = request_by (codes "http://e/g") 1 x

-- words in any case
any_case : text_says (codes "iNSert daTA { }") ≡ (written (Inserts []) 15 ∷ [], None)
unfolding request_by parted symbols rest encode is_utf8 chars step ended block_run
any_case = refl

-- no token begins with a '!'
no_token : text_says (codes "INSERT DATA { } !") ≡ (written (Inserts []) 15 ∷ [], Some (Broken Syntax))
unfolding request_by parted symbols rest encode is_utf8 chars step ended block_run
no_token = refl

-- a departure before such a place
departed : text_says (codes "CLEAR ALL") ≡ ([], Some OutOfProfile)
unfolding request_by parted symbols rest encode is_utf8 chars step ended block_run
departed = refl

-- an empty text
nothing : text_says [] ≡ ([], None)
unfolding request_by parted symbols rest encode is_utf8 chars step ended block_run
nothing = refl
