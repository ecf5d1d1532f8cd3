-- The texts around nodes and documents, as characters.
use Rattle.std.specs.Prelude.{[], ◌∷◌, Option, option_map}
use Rattle.kdl_value.specs.Tree.{text_of}
use Rattle.kdl_grammar.specs.Tree.{NodeFormat, DocumentFormat}
use Rattle.kdl_parts.specs.declared.format.KdlDocumentFormat.{KdlDocumentFormat}
use Rattle.kdl_parts.specs.declared.format.KdlNodeFormat.{KdlNodeFormat}

abbrev pub node_format_tree : KdlNodeFormat → NodeFormat
node_format_tree f = record {
  leading = text_of f.leading;
  before_ty_name = text_of f.before_ty_name;
  after_ty_name = text_of f.after_ty_name;
  after_ty = text_of f.after_ty;
  before_children = text_of f.before_children;
  before_terminator = text_of f.before_terminator;
  terminator = text_of f.terminator;
  trailing = text_of f.trailing;
}

abbrev pub document_format_tree : KdlDocumentFormat → DocumentFormat
document_format_tree f = record { leading = text_of f.leading; trailing = text_of f.trailing }

-- the same, if there is a format
abbrev pub node_texts : Option KdlNodeFormat → Option NodeFormat
node_texts o = option_map node_format_tree o

abbrev pub document_texts : Option KdlDocumentFormat → Option DocumentFormat
document_texts o = option_map document_format_tree o

-- a format whose texts are empty
abbrev pub empty_node_format : NodeFormat
empty_node_format = record { leading = []; before_ty_name = []; after_ty_name = []; after_ty = []; before_children = []; before_terminator = []; terminator = []; trailing = [] }

-- the format of a new node: a newline after it, and nothing else
abbrev pub ended_format : NodeFormat
ended_format = record empty_node_format { trailing = 10 ∷ [] }
