-- Texts that are written once more: each number keeps its text, and none is left in a block that is to go.
use Rattle.std.specs.Prelude.{◌≡◌, ℕ, ◌<◌, ◌≤◌, Bool, List, length}
use Rattle.gs_texts.specs.Releasing.{IsSpared}
use Rattle.gs_dict.specs.declared.chains.Entry.{Entry}
use Rattle.gs_dict.specs.Chains.{AreInBlocks, KeepsTexts, dict_entry_at, link_after}

-- as many entries, each with the text, the hash and the link that it had; each text lies in its block, and no block is lost
pub record MovesTexts (blocks : List (List ℕ)) (es : List Entry) (later : List (List ℕ)) (fs : List Entry) : Type 0 where
  pub placed : AreInBlocks later fs
  pub kept : KeepsTexts blocks es later fs
  pub links : (i : ℕ) → link_after fs i ≡ link_after es i
  pub count : length fs ≡ length es
  pub longer : length blocks ≤ length later

-- the first n entries keep their texts where the marked blocks are given back
abbrev pub AreSpared : List Bool → List Entry → ℕ → Type 0
AreSpared gone es n = (i : ℕ) → i < n → IsSpared gone (dict_entry_at es i).place
