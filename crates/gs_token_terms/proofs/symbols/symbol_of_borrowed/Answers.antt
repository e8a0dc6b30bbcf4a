use Rattle.std.proofs.Common.{◌∙◌}
use Rattle.gs_lex.specs.Lexemes.{lexeme_of_borrowed}
use Rattle.gs_token_terms.proofs.SymbolLemmas.{symbol_of_text, symbol_of_bytes}
use Rattle.gs_token_terms.proofs.symbols.symbol_of_borrowed.Goals as goal

pub returns-in-Ok : goal.returns-in-Ok
returns-in-Ok c =
    c.symbol_of_kind.ensures
    ∙ symbol_of_text (lexeme_of_borrowed c.args.token) c.in-Ok.text.now c.in-Ok.ensures.cases.0 c.in-Ok.ensures.cases.1

pub returns-in-Err : goal.returns-in-Err
returns-in-Err c = symbol_of_bytes (lexeme_of_borrowed c.args.token) c.in-Err.ensures.cases
