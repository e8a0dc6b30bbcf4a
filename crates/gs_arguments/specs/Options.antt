-- The command line of the program, as clap reads it.
use Rattle.std.specs.Prelude.{◌≡◌, List, [], ◌∷◌, ◌++◌, ℕ, codes, Some, Option, IfSome, pos}
use Rattle.gs_model.specs.Characters.{line_feed}
use Rattle.clap.specs.Words.{App, Rule, Text, IsSignedIn, new_app, new_rule, with_rule, matches_of, first_of, first_value, one_text}
use Rattle.clap.specs.declared.parser.matches.Found.{Found}
use Rattle.clap.specs.declared.builder.action.ArgAction.TheVariants.{SetTrue}
use Rattle.clap.specs.declared.builder.value_parser.ValueParser.TheVariants as vp

-- `--listen ADDR`
abbrev pub listen : Rule
listen = record (new_rule (codes "listen")) { long = Some (codes "listen") }

-- `--once`, a flag
abbrev pub once : Rule
once = record (new_rule (codes "once")) { long = Some (codes "once"); action = Some SetTrue }

-- `--base URL`
abbrev pub base : Rule
base = record (new_rule (codes "base")) { long = Some (codes "base"); defaults = codes "http://localhost" ∷ [] }

-- `--workers N`, a whole number from 1 to 256
abbrev pub workers : Rule
workers = record (new_rule (codes "workers")) {
  long = Some (codes "workers");
  parser = Some (vp.Signed (pos 1) (pos 256));
  defaults = codes "4" ∷ [];
}

-- `--piece N`, a whole number from 1 to 4096
abbrev pub piece : Rule
piece = record (new_rule (codes "piece")) {
  long = Some (codes "piece");
  parser = Some (vp.Signed (pos 1) (pos 4096));
  defaults = codes "256" ∷ [];
}

-- the program, with these options and, as clap adds them, `-h` and `--help`
abbrev pub gsd : App
gsd = with_rule (with_rule (with_rule (with_rule (with_rule (new_app (codes "gsd")) listen) once) base) workers) piece

-- the text that an option has, by the words or by its default; the first word is the program's name
abbrev pub given : Text → List Text → Option Text
given id words = first_of id (matches_of gsd words)

-- the text of help
abbrev pub help_text : List ℕ
help_text =
    codes "Serves a graph store over HTTP: at an address, or one connection from standard" ++ line_feed ∷ []
    ++ codes "input to standard output." ++ line_feed ∷ []
    ++ line_feed ∷ []
    ++ codes "Usage: gsd --listen ADDR [--base URL] [--workers N] [--piece N]" ++ line_feed ∷ []
    ++ codes "       gsd --once [--base URL] [--piece N]" ++ line_feed ∷ []
    ++ line_feed ∷ []
    ++ codes "  --listen ADDR  serve the connections to this address, as 127.0.0.1:8080" ++ line_feed ∷ []
    ++ codes "  --once         serve one connection over a new store, and end" ++ line_feed ∷ []
    ++ codes "  --base URL     http://HOST, which names begin with (default http://localhost)" ++ line_feed ∷ []
    ++ codes "  --workers N    requests at once, 1 to 256 (default 4)" ++ line_feed ∷ []
    ++ codes "  --piece N      lines of a piece of a reply, 1 to 4096 (default 256)" ++ line_feed ∷ []
    ++ codes "  -h, --help     show this text" ++ line_feed ∷ []

-- what was found for this option says a whole number from 1 to the greatest, and is read as it was written
abbrev pub ReadsNumber : Text → ℕ → Found → Type 0
ReadsNumber id most f = IfSome (first_value f id) (λ text. (one_text f id ≡ Some text) × IsSignedIn (pos 1) (pos most) text)

-- what was found for `--workers` is such a number, of at most 256
abbrev pub ReadsWorkers : Found → Type 0
ReadsWorkers f = ReadsNumber (codes "workers") 256 f

-- what was found for `--piece` is such a number, of at most 4096
abbrev pub ReadsPiece : Found → Type 0
ReadsPiece f = ReadsNumber (codes "piece") 4096 f
