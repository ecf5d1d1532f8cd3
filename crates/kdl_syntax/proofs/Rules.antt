-- The lemmas that the functions of a file cite.
use Rattle.kdl_syntax.proofs.Lexing.Slashes.{no_comment, slash_alone, slash_costs, slash_next, slash_returned, word_costs, word_text}
use Rattle.kdl_syntax.proofs.Lexing.TokenCost.{bare_costs, one_look, quoted_costs, raw_costs}
use Rattle.kdl_syntax.proofs.Lexing.TokenReads.{a_bare_here, a_quoted_here, a_raw_here, an_escline_here, cut_alone, digit_here, few_costs, letter_there, line_feed_here, newline_costs, newline_here, no_digit_here, no_quoted_here, no_raw_here, not_apart, punctuation_costs, punctuation_here, read_alone, skip_moves, spaces_alone, spaces_apart, take_moves, word_here}

-- for src/lexer.rt
pub ruleset lexer = (a_bare_here, bare_costs, a_quoted_here, no_quoted_here, quoted_costs, a_raw_here, no_raw_here, raw_costs, one_look, word_here, no_digit_here, few_costs, an_escline_here, newline_here, newline_costs, take_moves, punctuation_here, punctuation_costs, digit_here, read_alone, cut_alone, spaces_alone, skip_moves, spaces_apart, line_feed_here, letter_there, not_apart, slash_next, slash_alone, slash_returned, slash_costs, word_costs, word_text, no_comment)
