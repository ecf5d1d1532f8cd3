use Rattle.std.proofs.Common.{◌≡◌, sym, ◌∙◌}
use Rattle.kdl_text.specs.Chars.{Text}
use Rattle.kdl_text.specs.Internal.Here.{Here}
use Rattle.kdl_text.specs.Internal.Reading.{Moves}
use Rattle.kdl_text.specs.Internal.TriviaReading.{PieceCosts}
use Rattle.kdl_diagnostics.specs.Internal.Reading.{Lexes, Stands}
use Rattle.kdl_diagnostics.specs.declared.lexemes.Lexeme.{Lexeme}
use Rattle.kdl_diagnostics.proofs.LexemeMoves.{lexes, lexes_after}
use Rattle.kdl_diagnostics.proofs.Passing.{reads_costs, reads_more, reads_stayed, reads_up}
use Rattle.kdl_diagnostics.proofs.lexemes.slash_lexeme.Goals as goal

piece : {s : Text} {p : Lexeme} {a b : Here} → s ≡ a.rest → Stands s p → Moves a b → PieceCosts 9 a b → Lexes 24 18 a p b
piece e i m k = lexes e i (reads_more 18 (reads_up 15 (reads_costs m k.costs))) k.fewer

pub other-requires : goal.other-requires
other-requires c e = c.requires (sym c.in-Other.ensures.reads.3.rest ∙ e)

pub returns-in-Other : goal.returns-in-Other
returns-in-Other c = let s = c.in-Other.ensures.reads.3 in lexes_after (reads_stayed 24 s) s.rest c.other.ensures

pub returns-in-Block : goal.returns-in-Block
returns-in-Block c = piece c.checkpoint-start.ensures.rest c.plain.ensures c.slash.ensures.moves c.in-Block.ensures.costs

pub returns-in-Line : goal.returns-in-Line
returns-in-Line c = piece c.checkpoint-start.ensures.rest c.plain-in-Line.ensures c.slash.ensures.moves c.in-Line.ensures.costs

pub returns-in-Dash : goal.returns-in-Dash
returns-in-Dash c = piece c.checkpoint-start.ensures.rest c.plain-in-Dash.ensures c.slash.ensures.moves c.in-Dash.ensures.costs

pub returns-in-Unclosed : goal.returns-in-Unclosed
returns-in-Unclosed c = piece c.checkpoint-start.ensures.rest c.new.ensures c.slash.ensures.moves c.in-Unclosed.ensures.costs
