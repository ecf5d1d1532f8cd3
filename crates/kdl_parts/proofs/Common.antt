-- What the proofs of this crate cite most of the standard library, of the crates below, and of the specifications.
pub use Rattle.std.proofs.Common.{List, None, Option, Some, [], add-one, ap, arith, drop, false, get_or, is_some, length, map, option_map, refl, replicate, set, slice_get, string_bytes, suc, sym, take, true, unwrap_or, ℕ, ◌*◌, ◌++◌, ◌+◌, ◌<◌, ◌∙◌, ◌∷◌, ◌≡◌, ◌≤◌}
pub use Rattle.std.proofs.lemmas.Grind.{common_steps}
pub use Rattle.std.proofs.lemmas.List.{append-nil, drop_all, length-map, take_all}
pub use Rattle.std.proofs.lemmas.Option.{slice_get_read}
pub use Rattle.std.proofs.lemmas.Str.{IsUtf8-string_bytes, chars-nil, encodes-append}
pub use Rattle.std.specs.Char.{encode_utf8}
pub use Rattle.std.specs.Fmt.{HasWritten, IsPlainFormatter}
pub use Rattle.std.specs.List.{insert}
pub use Rattle.std.specs.Slice.Iter.{iter_rest}
pub use Rattle.std.specs.Str.{IsUtf8, chars, encode_utf8_all}
pub use Rattle.kdl_entry.specs.Tree.{Entry, Identifier, cleared, entry_format_tree, entry_tree, identifier_tree}
pub use Rattle.kdl_entry.specs.declared.entry.KdlEntry.{KdlEntry}
pub use Rattle.kdl_entry.specs.declared.identifier.KdlIdentifier.{KdlIdentifier}
pub use Rattle.kdl_grammar.specs.Print.{print_pieces}
pub use Rattle.kdl_parts.specs.EntryLists.{arguments, has_name, is_argument, last_place, place_of, property}
pub use Rattle.kdl_parts.specs.Formats.{node_format_tree}
pub use Rattle.kdl_text.specs.Chars.{Text}
