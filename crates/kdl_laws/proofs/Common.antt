-- What the proofs of this crate cite most of the standard library, of the crates below, and of the specifications.
pub use Rattle.std.proofs.Common.{Bool, Err, Global, IfOk, IsUtf8, List, None, Ok, Option, Result, Some, String, [], ap, append_assoc, arith, chars, cond, false, if◌then◌else◌, inl, inr, length, map, option_map, refl, slice_get, string_bytes, subst, suc, sym, true, ℕ, ◌++◌, ◌+◌, ◌↔◌, ◌∙◌, ◌∷◌, ◌≡◌, ◌≢◌}
pub use Rattle.std.proofs.lemmas.Bool.Decides.{Decides-and, Decides-eqb, Decides-like}
pub use Rattle.std.proofs.lemmas.List.{append-nil}
pub use Rattle.std.proofs.lemmas.Option.{get_or_from_slice_get, none-some, slice_get_within}
pub use Rattle.std.proofs.lemmas.Slice.Eq.{bytes_eq-Decides}
pub use Rattle.std.proofs.lemmas.Str.{encodes-chars}
pub use Rattle.std.specs.Bool.{Decides}
pub use Rattle.std.specs.Cmp.Lexicographic.{pointwise}
pub use Rattle.std.specs.List.{All, find, list_all}
pub use Rattle.std.specs.Option.{option_eq}
pub use Rattle.std.specs.Str.{encode_utf8_all}
pub use Rattle.kdl.proofs.Finding.SaidLookups.{entry_says, same_chars}
pub use Rattle.kdl.proofs.ReadingBack.{document_derived, nodes_read_back}
pub use Rattle.kdl.proofs.Trees.{document_tree_out, document_tree_roll, node_of, node_tree_out, node_tree_roll}
pub use Rattle.kdl.specs.Cleared.{children_without_spans, document_without_spans, node_without_spans, nodes_without_spans}
pub use Rattle.kdl.specs.DocumentLookups.{is_node_named, node_named, nodes_of, with_node_named}
pub use Rattle.kdl.specs.Fields.{held_entries, node_format_of}
pub use Rattle.kdl.specs.Lookups.{entries_of}
pub use Rattle.kdl.specs.ReadsBack.{DocumentReadsBack, EntryReadsBack, NodeEnds, NodeReadsBack}
pub use Rattle.kdl.specs.Same.{same_document, same_node}
pub use Rattle.kdl.specs.Tree.{document_prints, document_says, document_tree, node_says, node_tree, nodes_tree}
pub use Rattle.kdl.specs.declared.document.KdlDocument.{KdlDocument}
pub use Rattle.kdl.specs.declared.document.KdlDocument.TheViews.{out-KdlDocument, out-KdlNode, out-roll-KdlDocument}
pub use Rattle.kdl.specs.declared.node.KdlNode.{KdlNode}
pub use Rattle.kdl_entry.proofs.Equality.{entry_decides, format_decides, identifier_decides, option_decides}
pub use Rattle.kdl_entry.specs.Print.{print_key, print_type}
pub use Rattle.kdl_entry.specs.Tree.{Entry, Identifier, entry_data, entry_tree, identifier_tree, without_span, without_spans}
pub use Rattle.kdl_entry.specs.declared.entry.KdlEntry.{KdlEntry}
pub use Rattle.kdl_entry.specs.declared.identifier.KdlIdentifier.{KdlIdentifier}
pub use Rattle.kdl_grammar.specs.Grammar.{IsDocument, no_gap}
pub use Rattle.kdl_grammar.specs.Print.{print_piece}
pub use Rattle.kdl_grammar.specs.ReadsBack.{Anything, NodeReads, Rests, TextEnd, reads}
pub use Rattle.kdl_grammar.specs.Tree.{Children, Document, Head, Node, NodeFormat, Nodes, children, children_data, children_of, document, document_data, first, no_children, node, node_data, nodes_data, none}
pub use Rattle.kdl_laws.specs.Errors.{diagnostic_tree, error_tree, failure_tree}
pub use Rattle.kdl_laws.specs.Pushed.{EndsLine}
pub use Rattle.kdl_layout.proofs.Keeping.GapFronts.{gap_without_bom}
pub use Rattle.kdl_layout.proofs.Listing.PlaceTexts.{gap_items}
pub use Rattle.kdl_layout.proofs.Spacing.Again.{document_stays}
pub use Rattle.kdl_layout.proofs.Texts.{printed_text}
pub use Rattle.kdl_layout.specs.Comments.{DocumentItems, EndItems, NodeItems}
pub use Rattle.kdl_layout.specs.Config.{Settings, defaults, settings}
pub use Rattle.kdl_layout.specs.Formatted.{DocumentKeepsNone, NodeKeepsNone}
pub use Rattle.kdl_layout.specs.Items.{GapItems, Item, PlaceItems}
pub use Rattle.kdl_layout.specs.Kept.{without_bom}
pub use Rattle.kdl_layout.specs.OneLine.{IsLaidDocument}
pub use Rattle.kdl_layout.specs.WithComments.{IsFormattedDocument, IsFormattedNode}
pub use Rattle.kdl_parts.proofs.Equality.{document_format_decides, node_format_decides}
pub use Rattle.kdl_parts.specs.EntryLists.{is_argument, same_text, there}
pub use Rattle.kdl_parts.specs.Formats.{node_format_tree}
pub use Rattle.kdl_parts.specs.declared.format.KdlNodeFormat.{KdlNodeFormat}
pub use Rattle.kdl_parts.specs.declared.key.NodeKey.{NodeKey}
pub use Rattle.kdl_parts.specs.declared.key.NodeKey.TheVariants.{Index, Key}
pub use Rattle.kdl_text.specs.Chars.{Text}
unfoldable pub use Rattle.kdl_text.specs.Chars.{is_space}
pub use Rattle.kdl_text.specs.declared.error.KdlDiagnostic.{KdlDiagnostic}
pub use Rattle.kdl_text.specs.declared.error.KdlError.{KdlError}
pub use Rattle.kdl_text.specs.declared.error.ParseFailure.{ParseFailure}
pub use Rattle.kdl_text.specs.declared.error.ParseFailure.TheVariants.{Memory, Syntax}
pub use Rattle.kdl_text.specs.declared.span.SourceSpan.{SourceSpan}
pub use Rattle.kdl_value.proofs.Comparing.Equality.{float_decides, value_decides}
pub use Rattle.kdl_value.proofs.Comparing.OrderOnTrees.{value_ties}
pub use Rattle.kdl_value.specs.Data.{Value}
pub use Rattle.kdl_value.specs.Tree.{text_of}
pub use Rattle.kdl_value.specs.WellFormed.{IsWellFormed}
