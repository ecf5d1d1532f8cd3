-- What the fields of a type, of a key, and of the parts of an entry represent.
use Rattle.std.specs.Prelude.{option_map}
use Rattle.kdl_entry.specs.Internal.Parts as under_way
use Rattle.kdl_value.specs.Tree.{text_of}
use Rattle.kdl_entry.specs.Tree.{identifier_tree}
use Rattle.kdl_entry.specs.declared.parsing.parts.Parts.{Parts}
use Rattle.kdl_entry.specs.declared.parsing.parts.KeyParts.{KeyParts}
use Rattle.kdl_entry.specs.declared.parsing.parts.TypeParts.{TypeParts}

-- a type in memory, as characters
abbrev pub type_view : TypeParts → under_way.TypeParts
type_view y = record { name = identifier_tree y.name; before = text_of y.before; after = text_of y.after; following = text_of y.following }

-- a key in memory, as characters
abbrev pub key_view : KeyParts → under_way.KeyParts
key_view k = record { name = identifier_tree k.name; before = text_of k.before; following = text_of k.following }

-- the parts that the fields represent
abbrev pub parts_view : Parts → under_way.Parts
parts_view it = record {
  leading = text_of it.leading;
  start = it.start.rest;
  from = it.from.rest;
  key = option_map key_view it.key;
  name = identifier_tree it.name;
  before = text_of it.before;
  after = text_of it.after;
}
