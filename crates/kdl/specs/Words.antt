-- The terms in which contracts describe documents, re-exported in one place for the crates that call this one. Declares nothing.

-- Texts: characters, bytes, pieces of a text.
pub use Rattle.kdl_text.specs.Chars.{Text, is_space}
pub use Rattle.kdl_text.specs.Spans.{InText, bytes}
-- A refused text, and its errors.
pub use Rattle.kdl_text.specs.Failures.{IsSyntax, IsToldOf, Tells, TellsOnSyntax}
-- A count of steps.
pub use Rattle.kdl_text.specs.Spans.{raise}
-- Values: their data, what they print, and their order.
pub use Rattle.kdl_value.specs.Data.{Value, text, integer, float, truth, null}
pub use Rattle.kdl_value.specs.Tree.{float_text_of, float_value, integer_value, is_null, or_null, text_of, text_value, truth_value, value_tree}
pub use Rattle.kdl_value.specs.Print.{print_value}
pub use Rattle.kdl_value.specs.Order.{text_order, value_order}
pub use Rattle.kdl_value.specs.WellFormed.{IsWellFormed}
pub use Rattle.kdl_text.specs.Numbers.{FloatText}
-- Identifiers and entries: their trees, and trees derived from one.
pub use Rattle.kdl_entry.specs.Tree.{Entry, EntryFormat, Identifier, entry_format_tree, entry_tree, identifier_tree}
pub use Rattle.kdl_entry.specs.Tree.{autoformatted, cleared, empty_format, plain_entry, plain_identifier, unspelled, with_keep, without_span, without_spans}
pub use Rattle.kdl_entry.specs.Formless.{IsFormless}
-- Their data, and what they print.
pub use Rattle.kdl_entry.specs.Data.{Entry as EntryData}
pub use Rattle.kdl_entry.specs.Tree.{entry_data}
pub use Rattle.kdl_entry.specs.Print.{print_entry, print_identifier}
-- Texts of one identifier or one entry: what is derived from one, and what is located in one.
pub use Rattle.kdl_entry.specs.Entries.{IsEntryText, IsIdentifierText}
pub use Rattle.kdl_entry.specs.Laid.{LaidEntryText, LaidIdentifierText}
-- Their fields in memory, and an entry with one field changed.
pub use Rattle.kdl_entry.specs.Fields.{entry_format_of, entry_name_of, entry_ty_of, entry_value_of, string_of, with_entry_format, with_entry_name, with_entry_ty, with_entry_value}
pub use Rattle.kdl_entry.specs.Tree.{spelling_of}
-- Nodes and documents: their trees, and those of their formats.
pub use Rattle.kdl_grammar.specs.Tree.{Document, Node}
pub use Rattle.kdl.specs.Tree.{document_tree, node_tree, nodes_tree}
pub use Rattle.kdl_parts.specs.Formats.{document_format_tree, empty_node_format, node_format_tree}
-- Trees derived from a tree: a new one, one without its form, one without its spans.
pub use Rattle.kdl.specs.Cleared.{cleared_document, cleared_node, document_without_spans, new_document, new_node, node_without_spans}
-- Their data: lists of nodes, and each node.
pub use Rattle.kdl_grammar.specs.Data.{Node as NodeData, Nodes, first, none}
pub use Rattle.kdl_grammar.specs.Tree.{document_data, node_data}
pub use Rattle.kdl.specs.Tree.{document_says, node_says}
-- What they print.
pub use Rattle.kdl_grammar.specs.Print.{print_document, print_node, print_piece}
pub use Rattle.kdl.specs.Tree.{document_prints, node_prints}
-- Whether two are equal by `==`.
pub use Rattle.kdl.specs.Same.{same_document, same_node}
-- The written grammar: what is derived from a text, and what is located in one; what the former language derived.
pub use Rattle.kdl_grammar.specs.Grammar.{IsDocument, IsNodeText}
pub use Rattle.kdl_grammar.specs.Laid.{LaidDocument, LaidNodeText}
pub use Rattle.kdl_grammar.specs.Former.{IsFormerDocument, IsFormerNodeText}
-- What parsing promises.
pub use Rattle.kdl.specs.Parses.{ChecksDocument, ParsesDocument, ParsesNodeText}
-- Which edits of a document keep its text in the grammar.
pub use Rattle.kdl_grammar.specs.Edited.{EachDocument, IsEdited}
-- The fields of a node or a document in memory.
pub use Rattle.kdl.specs.Fields.{block_of, document_format_of, document_span_of, held_entries, held_nodes, name_of, node_format_of, node_span_of, ty_of}
pub use Rattle.kdl.specs.Lookups.{entries_of}
pub use Rattle.kdl.specs.DocumentLookups.{nodes_of}
-- A node or a document with one field changed.
pub use Rattle.kdl.specs.Change.{with_children, with_document_format, with_document_span, with_entries, with_entry, with_format, with_name, with_node, with_nodes, with_span, with_ty}
-- The types of what is borrowed, in the logic: a child block, entries, nodes, a type.
pub use Rattle.kdl.specs.Change.{children_row, nodes_row, ty_row}
pub use Rattle.kdl_parts.specs.Written.{entries_row}
-- What a key looks for, and where it finds it among entries.
pub use Rattle.kdl_parts.specs.EntryLists.{Sought, argument, has_name, is_argument, property, removed_place, sought, there}
pub use Rattle.kdl.specs.Lookups.{entry_there, key_place, property_place}
-- What a look-up finds in a node, and the node after a write to that.
pub use Rattle.kdl_parts.specs.EntryLists.{arguments}
pub use Rattle.kdl.specs.Lookups.{found_entry, found_value, held_value, property_value, value_of}
pub use Rattle.kdl.specs.Lookups.{HasSameEntries, HasWritten, with_found_entry, with_found_value}
-- What a look-up finds in a document, and the document after a write to that.
pub use Rattle.kdl.specs.DocumentLookups.{argument_named, arguments_of, dash_arguments, dash_arguments_of, is_node_named, node_named, node_place}
pub use Rattle.kdl.specs.DocumentLookups.{with_argument_named, with_node_named}
-- What an iterator has left, and the node after a write to that.
pub use Rattle.kdl_parts.specs.Iterators.{entries_left, entries_name}
pub use Rattle.kdl.specs.Iterators.{block_left, block_name, child_nodes, nodes_left, with_written_block, with_written_entries}
-- Edits of entries: what they require, and the entries afterwards.
pub use Rattle.kdl_parts.specs.Edits.{GoesUnder, HasArgumentAt, HasRoomAt, IsInserted, removed, replaced_place, under}
-- What is printed after entries or nodes are replaced.
pub use Rattle.kdl.specs.EditLaw.{EntriesExchanged, EntryExchanged, FormedPiece, NodeExchanged, NodesExchanged, PrintsAtPlace, PrintsInstead}
-- Layout: its settings.
pub use Rattle.kdl_layout.specs.Config.{IsPlain, Keeping, Settings, defaults, keeping, keeps_texts, nothing, settings, settings_so_far, without_comments}
pub use Rattle.kdl.specs.Layout.{IndentsBySpaces}
-- What it requires: no entry that keeps its form, levels that a machine can count.
pub use Rattle.kdl_layout.specs.Formatted.{DocumentKeepsNone, DocumentLevelsFit, NodeKeepsNone, NodeLevelsFit}
pub use Rattle.kdl.specs.Layout.{DocumentKeepsNoForm, DocumentKeepsReading, NodeKeepsNoForm, NodeKeepsReading}
-- Its result, with comments and without, and what is unchanged.
pub use Rattle.kdl_layout.specs.WithComments.{IsFormattedDocument, IsFormattedNode}
pub use Rattle.kdl.specs.Layout.{DocumentLaidOut, DocumentSpaced, NodeLaidOut, NodeSpaced}
pub use Rattle.kdl_layout.specs.OneLine.{IsLaidDocument, IsLaidNode}
pub use Rattle.kdl_layout.specs.Respelled.{IsSpelledDocument, IsSpelledNode}
pub use Rattle.kdl_layout.specs.Spaced.{IsSpacedDocument, IsSpacedNode}
pub use Rattle.kdl_layout.specs.Formatted.{formatted_document}
pub use Rattle.kdl.specs.Layout.{document_bare, node_bare, plain_document, plain_node}
pub use Rattle.kdl_layout.specs.Comments.{AllCommentsStay, CommentsStay}
pub use Rattle.kdl.specs.Layout.{NodeAllCommentsStay, NodeCommentsStay}
-- What the calls that lay out promise.
pub use Rattle.kdl.specs.LaysOut.{FormatsDocument, FormatsNode, KeepsComments, KeepsDocument, KeepsNode, NodeKeepsComments, RereadsDocument, RereadsNode}
-- The canonical text of a document's data.
pub use Rattle.kdl_layout.specs.Canonical.{Canonical, CanonicalNode, canonical, canonical_node, canonical_text}
-- The same, but for blocks and documents without nodes.
pub use Rattle.kdl_layout.specs.Compact.{compact_nodes}
-- What look-ups find after an edit.
pub use Rattle.kdl_parts.specs.EntryLists.{key_index, key_name}
pub use Rattle.kdl.specs.Found.{IsAdded, IsArgumentSet, IsPutIn, IsSet, IsSetIn, IsTakenOut, IsTakenOutAt, argument_count, property_count, value_at, value_named}
-- What look-ups find in the data of a document or a node.
pub use Rattle.kdl.specs.Said.{IsSetInData, said_arg, said_argument, said_argument_in, said_arguments, said_args, said_child_nodes, said_children, said_dash_args, said_dashes, said_entries, said_entry, said_name, said_node, said_nodes, said_property, said_property_in, said_type, said_value}
-- Documents, and nodes, in which look-ups find the same.
pub use Rattle.kdl.specs.Finds.{FindsSame, GivesArgument, GivesProperty, NodeFindsSame}
-- One piece of the printed text is replaced, and no other character.
pub use Rattle.kdl.specs.Bytes.{IsExchanged, IsExchangedInDocument, IsExchangedInNode, piece_of}
-- What reads back: entries, nodes and documents, and what keeps reading back.
pub use Rattle.kdl_grammar.specs.ReadsBack.{EntryReads}
pub use Rattle.kdl.specs.ReadsBack.{BlockReadsBack, DocumentReadsBack, EntryReadsBack, IsUnformed, NodeEnds, NodeReadsBack, ReadsAs, respelled}
-- Nodes added and removed.
pub use Rattle.kdl.specs.Nodes.{ChildPut, IsPut, PrintsPut, PrintsWithout, said_with, said_without}
-- Nodes added with the newlines that are lacking, and no more.
pub use Rattle.kdl.specs.Exact.{ChildPutExactly, IsPutExactly, NodesMayFollow}
