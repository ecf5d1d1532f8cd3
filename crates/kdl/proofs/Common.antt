-- What the proofs of this crate cite most of the standard library, of the crates below, and of the specifications.
pub use Rattle.std.proofs.Common.{Bool, Bor, Err, Global, IfNone, IfOk, IfSome, IsSome, List, MutBor, None, Ok, OnErr, OnOk, Option, Result, Some, Vec, [], add-one, ap, append_assoc, arith, codes, cond, drop, false, get_or, if◌then◌else◌, inl, inr, is_none, is_ok, is_some, length, map, not, option_and_then, option_map, position, refl, rules, set, slice_get, string_bytes, subst, suc, sym, take, true, unwrap_or, vec_len, zero, ℕ, ◌&&◌, ◌*◌, ◌++◌, ◌+◌, ◌-◌, ◌<◌, ◌==◌, ◌∙◌, ◌∷◌, ◌≡◌, ◌≤◌, ◌⊎◌}
pub use Rattle.std.proofs.lemmas.Bool.{eqb-true}
pub use Rattle.std.proofs.lemmas.Bool.Decides.{nat_tests}
pub use Rattle.std.proofs.lemmas.Grind.{common_steps}
pub use Rattle.std.proofs.lemmas.List.{append-nil, drop-map, drop-set-lt, drop_all, drop_more, length-append, length-map, map-append, map-set, take-map}
pub use Rattle.std.proofs.lemmas.List.Elements.{All-cons, All-head, All-nil, All-tail}
pub use Rattle.std.proofs.lemmas.List.Sums.{length-filter}
pub use Rattle.std.proofs.lemmas.Option.{get_or_from_slice_get, none-some, slice_get-get_or, slice_get-map, slice_get_read, slice_get_within}
pub use Rattle.std.proofs.lemmas.Result.{IfOk-weaker, on_ok_weaker}
pub use Rattle.std.proofs.lemmas.Slice.Eq.{bytes_eq-Decides}
pub use Rattle.std.proofs.lemmas.Str.{IsUtf8-string_bytes, encodes-append, encodes-chars}
pub use Rattle.std.specs.Bool.{one_answer}
pub use Rattle.std.specs.Fmt.{HasWritten}
pub use Rattle.std.specs.List.{All, cons_option, filter, filter_map, find, insert, last_or, list_all, remove}
pub use Rattle.std.specs.Option.{ghost_name_of}
pub use Rattle.std.specs.Slice.Iter.{iter_rest}
pub use Rattle.std.specs.Str.{IsUtf8, encode_utf8_all}
unfoldable pub use Rattle.std.specs.Str.{chars}
pub use Rattle.std.specs.Vec.{with_item}
pub use Rattle.std.specs.Vec.Iter.{into_iter_items}
pub use Rattle.kdl.specs.Change.{with_children, with_entries, with_format, with_node, with_nodes, with_value}
pub use Rattle.kdl.specs.Cleared.{cleared_document, new_document}
pub use Rattle.kdl.specs.DocumentLookups.{argument_named, argument_value, dash_arguments, first_argument, is_node_named, node_named, node_place, nodes_of, with_argument_in, with_argument_there, with_node_named, with_node_there}
pub use Rattle.kdl.specs.EditLaw.{document_after, document_before, head_of, tail_of}
pub use Rattle.kdl.specs.Exact.{IsPutExactly, lengthened}
pub use Rattle.kdl.specs.Fields.{block_of, node_format_of}
pub use Rattle.kdl.specs.Found.{IsArgumentSet, IsSet}
pub use Rattle.kdl.specs.Internal.Copied.{CopyFrame, outermost}
pub use Rattle.kdl.specs.Internal.Count.{count_left, count_nodes, count_option}
pub use Rattle.kdl.specs.Internal.Due.{IsAlone, due}
pub use Rattle.kdl.specs.Internal.Ends.{BlockBegins, EndFewest, EndSays, EndsAs, EndsExactly, EndsReadAs, FewestBefore, FormatFewest, GapFewest, GapSays, IsEndedBy, IsLacking, IsNodeEnded, IsRestAt, Lacks, LeadsExactly, PlaceFewest, PlaceSays, PutAfter, PutFirst, ReadsIn, block_format, block_if, end_newlines, end_with, formless_count, led_with, with_newlines}
pub use Rattle.kdl.specs.Internal.Left.{opening, print_left}
pub use Rattle.kdl.specs.Internal.Spacing.{BlockIsSpaced, GoesOn, IsAround, IsAroundIf, IsAtLevel, IsUnderWay, NodeIsSpaced, NodeStays, NodesAreSpaced, PartlyOpen, PassesAt, StayAs, StaysAs, StepStays, braces_of, enclosed, filled, filled_block, left, lined, whole, with_at, with_braces, with_formats, with_texts}
pub use Rattle.kdl.specs.Iterators.{child_nodes, nodes_in}
pub use Rattle.kdl.specs.LaysOut.{RereadsDocument, RereadsNode}
pub use Rattle.kdl.specs.Lookups.{entries_of, found_entry, held_value, key_place, property_place, property_value, value_of, with_entry_there, with_found_entry, with_found_value}
pub use Rattle.kdl.specs.Nodes.{EndsWith, IsPut, LeadsWith, WithNewlines, format_or_printed, newlines, printed_format, text_from, text_up_to, texts_around, trees}
pub use Rattle.kdl.specs.ReadsBack.{DocumentReadsBack, NodeEnds, NodeReadsBack, ReadsAs}
pub use Rattle.kdl.specs.Said.{said_argument, said_children, said_node, said_property, said_type}
pub use Rattle.kdl.specs.Tree.{document_prints, document_says, document_tree, head_tree, node_prints, node_says, node_tree, nodes_tree}
pub use Rattle.kdl.specs.declared.document.KdlDocument.{KdlDocument}
pub use Rattle.kdl.specs.declared.document.KdlDocument.TheFolds.{fold_out-KdlDocument, fold_out-KdlNode, map-KdlNode}
pub use Rattle.kdl.specs.declared.document.KdlDocument.TheOpen.{KdlNode-F}
pub use Rattle.kdl.specs.declared.document.KdlDocument.TheViews.{out-KdlDocument, out-KdlNode, out-roll-KdlDocument, out-roll-KdlNode, roll-KdlDocument, roll-KdlNode, roll-out-KdlNode, the_lemmas}
pub use Rattle.kdl.specs.declared.ends.Rest.{Rest}
pub use Rattle.kdl.specs.declared.layout.Around.{Around}
pub use Rattle.kdl.specs.declared.layout.LayoutFrame.{LayoutFrame}
pub use Rattle.kdl.specs.declared.node.KdlNode.{KdlNode}
pub use Rattle.kdl.specs.declared.print.NodeFrame.{NodeFrame}
pub use Rattle.kdl_entry.specs.Laid.{LaidEntry, laid_entry}
pub use Rattle.kdl_entry.specs.Print.{print_identifier}
pub use Rattle.kdl_entry.specs.Tree.{Entry, Identifier, entry_data, entry_tree, identifier_tree, unspelled}
pub use Rattle.kdl_entry.specs.declared.entry.KdlEntry.{KdlEntry}
pub use Rattle.kdl_entry.specs.declared.identifier.KdlIdentifier.{KdlIdentifier}
pub use Rattle.kdl_grammar.proofs.ReadingBack.Composing.{block_reads, node_before, with_block}
pub use Rattle.kdl_grammar.specs.Grammar.{Gap, Terminator, last_gap, no_gap}
pub use Rattle.kdl_grammar.specs.Laid.{LaidChildren, LaidContent, LaidDocumentAs, LaidEntries, LaidNode, LaidNodes, a_node, an_entry, laid_node, no_block, no_entry, no_node, with_bom, without_nodes}
pub use Rattle.kdl_grammar.specs.Places.{AfterChildren, BeforeChildren, after}
pub use Rattle.kdl_grammar.specs.Print.{after_brace, before_block, before_brace, end_text, format_of, leading_text, print_document, print_head, print_node, print_nodes, print_piece, print_pieces, print_tail, trailing_text}
pub use Rattle.kdl_grammar.specs.ReadsBack.{AddsNothing, Anything, BeforeTerminator, BlockEnd, BlockReads, ContentReads, DocumentReads, EndReads, EntryReads, IsGapBefore, MayFollow, NodeReads, NodesRead, Rests, Terminates, TextEnd, a_block, block, last_node, last_rests, next_node, one_text, reads, terminator_text, two_texts}
pub use Rattle.kdl_grammar.specs.Tree.{Children, Document, DocumentFormat, Head, Node, NodeFormat, Nodes, children, children_data, children_of, document, document_data, first, join, listed_nodes, no_children, node, node_data, nodes_data, none}
pub use Rattle.kdl_layout.proofs.Entries.{scalars}
pub use Rattle.kdl_layout.proofs.Lacking.Alone.{before_alone}
pub use Rattle.kdl_layout.proofs.Rewriting.BeforeNewlines.{a_newline}
pub use Rattle.kdl_layout.specs.Blank.{at_start}
pub use Rattle.kdl_layout.specs.Config.{IndentsBySpaces, Keeping, Settings, defaults, indentation, keeping, keeps_texts, nothing, settings, without_comments}
pub use Rattle.kdl_layout.specs.Formatted.{DocumentKeepsNone, NodeKeepsNone, bare_node, bare_nodes, or_empty, or_empty_document}
pub use Rattle.kdl_layout.specs.Internal.Names.{Keeps, KeepsName, with_spelling, with_spelling_if}
pub use Rattle.kdl_layout.specs.Kept.{without_bom}
pub use Rattle.kdl_layout.specs.KeptForm.{NodesKeepReading}
pub use Rattle.kdl_layout.specs.Lacks.{PlaceLacks}
pub use Rattle.kdl_layout.specs.OneLine.{IsLaidDocument, formats_in_line, is_on_one_line, nodes_on_line, one_lined_node, one_lined_nodes}
pub use Rattle.kdl_layout.specs.Respelled.{AreSpelledEntries, IsRespelledIf, IsSpelledNode, IsTypedFormat}
pub use Rattle.kdl_layout.specs.Spaced.{IsSpacedChildren, IsSpacedContent, IsSpacedLine}
pub use Rattle.kdl_layout.specs.WellFormed.{IsWellFormedNode}
pub use Rattle.kdl_layout.specs.WithComments.{has_block}
pub use Rattle.kdl_layout.specs.declared.blank.Before.{Before}
pub use Rattle.kdl_layout.specs.declared.config.Layout.{Layout}
pub use Rattle.kdl_layout.specs.declared.names.SpellingRule.{SpellingRule}
pub use Rattle.kdl_parts.proofs.EntryLookups.{same_bytes, set_value_is}
pub use Rattle.kdl_parts.proofs.PrintedEntries.{print_pieces-append}
pub use Rattle.kdl_parts.specs.Edits.{IsInserted, put_before, put_for, removed, replaced_place, under, without}
pub use Rattle.kdl_parts.specs.EntryLists.{has_name, is_argument, is_name, last_place, nth_place, place_of, removed_place, same_text, sought, there}
pub use Rattle.kdl_parts.specs.Formats.{document_format_tree, node_format_tree, node_texts}
pub use Rattle.kdl_parts.specs.Written.{set_value_at}
pub use Rattle.kdl_parts.specs.declared.format.KdlNodeFormat.{KdlNodeFormat}
pub use Rattle.kdl_parts.specs.declared.key.NodeKey.{NodeKey}
pub use Rattle.kdl_parts.specs.declared.key.NodeKey.TheVariants.{Index, Key}
pub use Rattle.kdl_syntax.proofs.Lexing.TokenUnique.{token_det}
pub use Rattle.kdl_syntax.specs.Tokens.{t_newline, t_space}
pub use Rattle.kdl_text.specs.Chars.{Text}
unfoldable pub use Rattle.kdl_text.specs.Chars.{is_space}
pub use Rattle.kdl_text.specs.Trivia.{ValueEnd}
pub use Rattle.kdl_text.specs.declared.span.SourceSpan.{SourceSpan}
pub use Rattle.kdl_value.proofs.WellFormed.{text_scalars}
pub use Rattle.kdl_value.specs.Data.{Value}
pub use Rattle.kdl_value.specs.Tree.{text_of, value_tree}
pub use Rattle.kdl_value.specs.declared.value.KdlValue.{KdlValue}
pub use borrow.Follows.Closed.{read_of}
pub use lib.Utf8.{encodes}
