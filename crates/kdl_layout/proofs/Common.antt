-- What the proofs of this crate cite most of the standard library, of the crates below, and of the specifications.
pub use Rattle.std.proofs.Common.{Bool, Bor, Continue, Err, Global, IfOk, IsTrue, List, MatchBool, MatchOption, None, Ok, Option, Result, Some, String, [], add-one, ap, append-nil, append_assoc, arith, drop, false, get_or, if◌then◌else◌, inl, inr, is_some, length, length-append, lit<, map, max, min, not, option_map, refl, rules, string_bytes, subst, suc, sym, take, true, zero, ℕ, ◌&&◌, ◌++◌, ◌+◌, ◌-◌, ◌<◌, ◌==◌, ◌||◌, ◌↔◌, ◌∙◌, ◌∷◌, ◌≡◌, ◌≢◌, ◌≤◌, ◌⊎◌}
pub use Rattle.std.proofs.Math.Bool.{and-false}
pub use Rattle.std.proofs.Math.Seq.{drop-append_seam}
pub use Rattle.std.proofs.lemmas.Bool.{and_parts, eqb-true}
pub use Rattle.std.proofs.lemmas.Bool.Decides.{Decides-at, nat_tests}
pub use Rattle.std.proofs.lemmas.List.{map-append}
pub use Rattle.std.proofs.lemmas.List.Elements.{All-cons, All-nil}
pub use Rattle.std.proofs.lemmas.Result.{IfOk-weaker}
pub use Rattle.std.proofs.lemmas.Str.{IsUtf8-string_bytes, IsUtf8-take, chars-IsAscii, chars-append, chars-nil, chars_past_char, encodes-append, encodes-chars}
pub use Rattle.std.specs.Bool.{then_some}
pub use Rattle.std.specs.Char.{encode_utf8}
pub use Rattle.std.specs.Cmp.Derive.{both_true}
pub use Rattle.std.specs.List.{All, list_all, list_any, repeat}
pub use Rattle.std.specs.Str.{IsAscii, IsUtf8, encode_utf8_all}
unfoldable pub use Rattle.std.specs.Str.{chars}
pub use Rattle.kdl_entry.proofs.Laying.ValueReadsBack.{printed_string, printed_value}
pub use Rattle.kdl_entry.proofs.Moving.EntryEnds.{end_slashdash, end_spaces, end_type}
pub use Rattle.kdl_entry.proofs.Moving.EntryMoves.{move_entry, move_slashdash, move_spaces, move_string, punctuation_end, spaces_end}
pub use Rattle.kdl_entry.proofs.Slicing.Between.{between_is, empty_text, is_between}
pub use Rattle.kdl_entry.specs.Entries.{IsEntry, IsIdentifierText, IsPlainValue, IsString, IsValue, MaybeType, a_plain, a_string, argument, parens, property, typed, untyped, value}
pub use Rattle.kdl_entry.specs.Places.{DroppedEntry, EntryLeading, between, leading}
pub use Rattle.kdl_entry.specs.Print.{print_identifier, print_key, print_type}
pub use Rattle.kdl_entry.specs.Tree.{Entry, EntryFormat, Identifier, autoformatted, autoformatted_format, cleared, empty_format, entry_data, entry_format_tree, entry_tree, identifier_tree, kept, plain_identifier, unspelled, with_keep}
pub use Rattle.kdl_entry.specs.declared.entry.KdlEntryFormat.{KdlEntryFormat}
pub use Rattle.kdl_entry.specs.declared.identifier.KdlIdentifier.{KdlIdentifier}
pub use Rattle.kdl_grammar.proofs.Moving.Moves.{before_end, move_nodes, terminator_end}
pub use Rattle.kdl_grammar.proofs.ReadingBack.Reads.{gap_nodes, newline_gap}
pub use Rattle.kdl_grammar.specs.Grammar.{AfterBlock, AfterName, AreNodes, Blocks, Gap, IsBlock, IsDocument, IsNode, Terminator, blocks, braces, dropped_block, dropped_entry, dropped_later, dropped_node, kept_entry, last_gap, line_space, named, no_block, no_gap, no_more, node_then}
pub use Rattle.kdl_grammar.specs.Places.{AfterChildren, BeforeChildren, DroppedBlock, after, before}
pub use Rattle.kdl_grammar.specs.Print.{print_document, print_node, print_nodes, print_piece, print_pieces, print_tail}
pub use Rattle.kdl_grammar.specs.ReadsBack.{AddsNothing, Anything, BlockReads, ChildrenRead, ContentReads, DocumentReads, EndReads, EntryReads, HeadReads, NodeReads, NodesRead, Rests, Terminates, TextEnd, a_block, last_node, next_node, no_node, reads, two_texts, with_nodes}
pub use Rattle.kdl_grammar.specs.Tree.{Children, Document, DocumentFormat, Head, Node, NodeFormat, Nodes, children, children_data, document, document_data, first, no_children, node, node_data, nodes_data, none}
pub use Rattle.kdl_layout.specs.Blank.{at_start, blank_lines, empty_lines, from_item, last_in, last_of, newlines, one_if, past_items, past_node, read, spaced_lines}
pub use Rattle.kdl_layout.specs.Canonical.{canonical, canonical_children, canonical_entries, canonical_key, canonical_node, canonical_nodes, canonical_type}
pub use Rattle.kdl_layout.specs.Comments.{ChildrenItems, DocumentItems, EntriesItems, NodeItems, NodesItems, of_document, of_node}
pub use Rattle.kdl_layout.specs.Config.{Keeping, Settings, indentation, keeping, keeps_texts, settings}
pub use Rattle.kdl_layout.specs.Formatted.{ChildrenKeepNone, DocumentKeepsNone, EntriesKeepNone, NodeKeepsNone, NodesKeepNone, formatted_children, formatted_document, formatted_entry, formatted_head, formatted_node, formatted_nodes, in_braces, newline_if_none, or_empty, or_empty_document, with_keep_if}
pub use Rattle.kdl_layout.specs.Internal.Lacking.{EndsNode, GapRead, LineEnds, OnlySpaces, PlaceThrough, Spaces, Through, left, letter}
pub use Rattle.kdl_layout.specs.Internal.KeptTexts.{plain_format}
pub use Rattle.kdl_layout.specs.Internal.Names.{HasSpelling, Keeps, KeepsValue, autoformatted_but, emptied, without_value}
pub use Rattle.kdl_layout.specs.Internal.Passed.{AnswersDroppedPart, EndsAt, EndsNowhere, next_place, takes}
pub use Rattle.kdl_layout.specs.Internal.Passing.{End, EndsWord, Goal, NodePasses, PartPasses, at_end, ended, follows_word, for_node, for_part, goes, goes_on, moved, of_spaces, over, returned, returns, slashdash_in, slashdash_phase, stops, word}
pub use Rattle.kdl_layout.specs.Internal.Reading.{Adding, Cut, Leaves, Run, Starts, added, adding, found, held, item_view, items_view, place_view}
pub use Rattle.kdl_layout.specs.Internal.Whole.{whole_view}
pub use Rattle.kdl_layout.specs.Items.{EndsTight, EsclineItems, GapItems, Item, ItemEnd, LineSpaceItems, Place, PlaceItems, SpaceItems, after_block, before_block, before_entry, comment, ends, line_end, may_end, piece, spaced, takes_blocks, takes_entries}
pub use Rattle.kdl_layout.specs.Kept.{EndItems, ItemsIn, KeptBefore, KeptBeforeBlock, KeptEnd, KeptTail, WrittenUnless, end_comment, end_space, entry_leading, is_kept_format, last_place, without_bom}
pub use Rattle.kdl_layout.specs.Lacks.{AreNodeSpaces, InPlace}
pub use Rattle.kdl_layout.specs.OneLine.{IsLaidDocument, IsLaidNode, braces_in_line, braces_on_line, end_on_line, entry_on_line, form_on_line, formats_in_line, head_on_line, in_one_line, is_end, is_on_one_line, line_on_line, maybe_on_line, name_on_line, node_in_line, nodes_in_line, nodes_on_line, one_lined_children, one_lined_document, one_lined_node, one_lined_nodes}
pub use Rattle.kdl_layout.specs.Parts.{AreFormattedEntries, IsFormattedEntry, NodeTexts, block_of, content_of, following, has_block, is_empty_block, line_of, newline_at_end, put_format}
pub use Rattle.kdl_layout.specs.Plain.{no_newline, only_spaces, plain_line}
pub use Rattle.kdl_layout.specs.Respelled.{AreRespelledChildren, AreRespelledEntries, AreRespelledNodes, HasSpellings, HasSpellingsIf, HasSpellingsUnless, IsContinued, IsRespelled, IsRespelledDocument, IsRespelledEntry, IsRespelledHead, IsRespelledIf, IsRespelledNode, IsSpelledEntry, IsSpelling, IsTypedFormat, KeepsForm, KeptForm, KeptLeading, KeptLeadingIf, KeptPlace, KeptPlaceIf, KeptSpelling, KeptTypeTexts, KeptTypeTextsIf, TypeTexts, NothingInside, bare_inside, entry_type_texts, node_type_texts, text_before, with_type_texts}
pub use Rattle.kdl_layout.specs.Spaced.{AreSpacedNodes, IsSpacedBraced, IsSpacedChildren, IsSpacedContent, IsSpacedDocument, IsSpacedHead, IsSpacedLine, IsSpacedNode, Passes, PassesFormat, PassesNode, PassesNodes, PassesText, SpacedLines, SpacesContent, SpacesTexts}
pub use Rattle.kdl_layout.specs.WellFormed.{AreScalars, AreWellFormed, AreWellFormedChildren, AreWellFormedEntries, IsWellFormedEntry, IsWellFormedNode}
pub use Rattle.kdl_layout.specs.WithComments.{IsFormattedDocument}
pub use Rattle.kdl_layout.specs.Written.{item_text, line_text, lines, on_line, tail}
pub use Rattle.kdl_layout.specs.declared.blank.Before.{Before}
pub use Rattle.kdl_layout.specs.declared.blank.Before.TheVariants.{Nothing, Thing}
pub use Rattle.kdl_layout.specs.declared.blank.Last.{Last}
pub use Rattle.kdl_layout.specs.declared.blank.Last.TheVariants.{Cr, Other}
pub use Rattle.kdl_layout.specs.declared.spaces.Ending.{Ending}
pub use Rattle.kdl_layout.specs.declared.spaces.Ending.TheVariants.{InReturn, Open}
pub use Rattle.kdl_parts.specs.Formats.{document_format_tree, empty_node_format, node_format_tree, node_texts}
pub use Rattle.kdl_parts.specs.declared.format.KdlNodeFormat.{KdlNodeFormat}
pub use Rattle.kdl_syntax.proofs.Lexing.TokenUnique.{no_token, token_det}
pub use Rattle.kdl_syntax.proofs.Moving.FarMoves.{any_run}
pub use Rattle.kdl_syntax.proofs.Moving.Puts.{Put, also, joined, same, same_piece, stands}
pub use Rattle.kdl_syntax.specs.Control.{Control, accepts, at, event_of, finish, is_block, is_gap, is_over, is_word, spaced_of, step}
pub use Rattle.kdl_syntax.specs.Internal.Handed.{Cuts, HandsOut, kind_view, one, spaces}
pub use Rattle.kdl_syntax.specs.Internal.Views.{control_view, ended_view}
pub use Rattle.kdl_syntax.specs.Pieces.{StringPiece}
pub use Rattle.kdl_syntax.specs.Tokens.{BeginsToken, Lexes, NoToken, Token, done, newline, next, semicolon, space, string, t_closing, t_left, t_newline, t_opening, t_semicolon, t_slashdash, t_space, t_string, t_value}
pub use Rattle.kdl_syntax.specs.declared.control.{Frame.Frame, Phase.Phase, Spot.Spot, Word.TheVariants.MayBeKey, Word.TheVariants.NoKey}
pub use Rattle.kdl_syntax.specs.declared.control.Ended.{Ended}
pub use Rattle.kdl_syntax.specs.declared.control.Phase.TheVariants.{EntrySlashdash, InNode, NodeSlashdash, TypeDone}
pub use Rattle.kdl_syntax.specs.declared.control.Spot.TheVariants.{Fresh, Later, Spaced}
pub use Rattle.kdl_syntax.specs.declared.lexer.TokenKind.{TokenKind}
pub use Rattle.kdl_text.proofs.Looking.MovesJoin.{bytes-append}
pub use Rattle.kdl_text.proofs.Looking.Stars.{join, snoc, star_map}
pub use Rattle.kdl_text.proofs.Spacing.SpacePieces.{block_shorter, break_shorter, end_length, node_space_end, node_space_shorter, star_end}
pub use Rattle.kdl_text.proofs.Spacing.SpaceUnique.{backslash_no_space, break_det, newline_begins, no_line_comment, node_space_det, slash_no_newline, slash_no_space}
pub use Rattle.kdl_text.proofs.Spacing.ValueEnds.{space_ends, value_end_no_identifier}
unfoldable pub use Rattle.kdl_text.specs.Bare.{is_bare}
pub use Rattle.kdl_text.specs.Chars.{Newline, Plus, Space, Star, Text, begins, begins_two, crlf, is_scalar, more, plus, starts, times}
unfoldable pub use Rattle.kdl_text.specs.Chars.{is_banned, is_identifier_char, is_newline_char, is_punctuation, is_space}
pub use Rattle.kdl_text.specs.Internal.Here.{Here}
pub use Rattle.kdl_text.specs.Internal.Reading.{Moves}
pub use Rattle.kdl_text.specs.Spans.{bytes}
pub use Rattle.kdl_text.specs.Trivia.{BlockComment, Break, EscEnd, Line, LineComment, LineSpace, NodeSpace, Parts, Slashdash, ValueEnd, Ws, block, escline, slashdash}
pub use Rattle.kdl_text.specs.declared.numbers.Keyword.{Keyword}
pub use Rattle.kdl_text.specs.declared.numbers.Keyword.TheVariants.{True}
pub use Rattle.kdl_text.specs.declared.span.SourceSpan.{SourceSpan}
pub use Rattle.kdl_value.specs.Data.{Value, text}
pub use Rattle.kdl_value.specs.Print.{print_value}
pub use Rattle.kdl_value.specs.Spelled.{spelled}
pub use Rattle.kdl_value.specs.Tree.{text_of, value_tree}
pub use Rattle.kdl_value.specs.WellFormed.{IsWellFormed}
pub use Rattle.kdl_value.specs.declared.value.KdlValue.{KdlValue}
pub use denote.Shadow.{shadow}
pub use denote.Text.{Utf8}
