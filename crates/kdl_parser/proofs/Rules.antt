-- The lemmas that the functions of a file cite.
use Rattle.kdl_syntax.proofs.Order.{ahead}
use Rattle.kdl_entry.proofs.Slicing.Between.{is_between, is_part}
use Rattle.kdl_entry.proofs.Slicing.SliceCost.{piece_bytes}
use Rattle.kdl_parser.proofs.Answering.LeadingBom.{bom_ends}
use Rattle.kdl_parser.proofs.Answering.LineSpaceReads.{lines_fail, lines_nearer, lines_start}
use Rattle.kdl_parser.proofs.Answering.NodeTexts.{not_one, one_read, whole_read}
use Rattle.kdl_parser.proofs.Answering.Turns.{all_read, counts_after, counts_on, end_counted, end_placed, end_refused, end_refused_counted, end_told, lexer_counted, lexer_told, take_counted, take_placed, take_told}
use Rattle.kdl_parser.proofs.Stepping.Dropped.{drops_like, first_like}
use Rattle.kdl_parser.proofs.Stepping.NodeSpans.{no_last, nothing, spans, within, without}
use Rattle.kdl_parser.proofs.Stepping.Origins.{between_none, origin_ends}
use Rattle.kdl_parser.proofs.Stepping.StepsDone.{none_sliced, same_state}
use Rattle.kdl_parser.proofs.Stepping.TurnCost.{fewer, token_fewer}
use Rattle.kdl_parser.proofs.Stepping.Views.{all_closed, entry_pushed, level_pushed, node_pushed, one_open}

-- for src/builder/steps.rt
pub ruleset steps = (fewer, token_fewer, level_pushed, entry_pushed, ahead, between_none, origin_ends, is_between, is_part, piece_bytes)

-- for src/builder/content.rt
pub ruleset content = (entry_pushed, spans, nothing, no_last, without, within, ahead, node_pushed)

-- for src/builder/dropping.rt
pub ruleset dropping = (drops_like, first_like)

-- for src/builder.rt
pub ruleset builder = (none_sliced, same_state, one_open, all_closed, fewer, token_fewer, ahead, between_none, origin_ends)

-- for src/node_text.rt
pub ruleset node_text = (one_read, not_one, whole_read)

-- for src/document_text.rt
pub ruleset document_text = (bom_ends)

-- for src/line_spaces.rt
pub ruleset line_spaces = (lines_start, lines_fail, lines_nearer)

-- for src/token_loop.rt
pub ruleset token_loop = (all_read, take_placed, lexer_told, lexer_counted, counts_on, counts_after, take_told, take_counted, end_placed, end_told, end_counted, end_refused, end_refused_counted)
