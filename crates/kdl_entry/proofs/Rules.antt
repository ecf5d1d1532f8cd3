-- The lemmas that the functions of a file cite.
use Rattle.kdl_entry.proofs.Reading.EntryAnswers.{found, laid, only, prints, refused}
use Rattle.kdl_entry.proofs.Reading.EntryLoop.{all_read, at_the_end, from_end, from_start, lexer_told, next_going, no_end, starts_going, take_told, whole_start}
use Rattle.kdl_entry.proofs.Reading.IdentifierAnswers.{found as identifier_found, only as identifier_only, prints as identifier_prints}
use Rattle.kdl_entry.proofs.Slicing.Between.{empty_text, is_between, is_part, nothing_between}
use Rattle.kdl_entry.proofs.Slicing.SliceCost.{piece_sliced, token_fewer}
use Rattle.kdl_syntax.proofs.Order.{ahead}
use Rattle.kdl_value.proofs.Spelling.PrintedTexts.{printed_empty}
use Rattle.kdl_value.proofs.WellFormed.{other_value}

-- for src/entry.rt and src/identifier.rt
pub ruleset printed = (printed_empty, other_value, empty_text)

-- for src/parsing/texts.rt
pub ruleset texts = (nothing_between, is_between, is_part, piece_sliced, ahead)

-- for src/parsing/parts.rt
pub ruleset parts = (empty_text, token_fewer)

-- for src/parsing/entries.rt
pub ruleset entries = (ahead, is_between, starts_going, next_going, whole_start, from_start, lexer_told, take_told, all_read, from_end, at_the_end, no_end, found, only, laid, prints, refused)

-- for src/parsing/identifiers.rt
pub ruleset identifiers = (identifier_found, identifier_only, identifier_prints)
