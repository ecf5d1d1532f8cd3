-- What is printed of a node, part by part.
use Rattle.std.specs.Fmt.{WritesOnOk}
use Rattle.std.specs.Prelude.{[], ◌∷◌, ◌++◌, ℕ, List, Option, Result, map, option_map}
use Rattle.std.specs.Str.{encode_utf8_all}
use Rattle.std.specs.declared.fmt.Error.{Error}
use Rattle.std.specs.declared.fmt.Formatter.{Formatter}
use Rattle.kdl_text.specs.Chars.{Text}
use Rattle.kdl_entry.specs.Tree.{entry_tree, identifier_tree}
use Rattle.kdl_entry.specs.declared.entry.KdlEntry.{KdlEntry}
use Rattle.kdl_entry.specs.declared.identifier.KdlIdentifier.{KdlIdentifier}
use Rattle.kdl_grammar.specs.Print as print'
use Rattle.kdl_parts.specs.Formats.{document_texts, node_texts}
use Rattle.kdl_parts.specs.declared.format.KdlDocumentFormat.{KdlDocumentFormat}
use Rattle.kdl_parts.specs.declared.format.KdlNodeFormat.{KdlNodeFormat}

-- if no write fails, the characters of the text were written, as UTF-8
abbrev pub Prints : {W : Type 0} → (W → List ℕ → W → Type 0) → Formatter W → Result (Unit {0}) Error → Text → Formatter W → Type 0
Prints took f r t g = WritesOnOk took f r (encode_utf8_all t) g

-- a node up to its name, at a depth
abbrev pub head_text : Option KdlIdentifier → KdlIdentifier → Option KdlNodeFormat → ℕ → Text
head_text ty name format depth = print'.head_text (option_map identifier_tree ty) (identifier_tree name) (node_texts format) depth

-- the entries, one by one
abbrev pub pieces : List KdlEntry → Text
pieces es = print'.print_pieces (map entry_tree es)

-- between the last entry and the block
abbrev pub before_block : Option KdlNodeFormat → List KdlEntry → Text
before_block format es = print'.before_block (node_texts format) (map entry_tree es)

-- the texts of a document before its first node, and after its last one
abbrev pub document_start : Option KdlDocumentFormat → Text
document_start format = print'.leading_text (document_texts format)

abbrev pub document_end : Option KdlDocumentFormat → Text
document_end format = print'.trailing_text (document_texts format)

-- the `{` of a block, up to its first node
abbrev pub block_start : Option KdlDocumentFormat → Text
block_start format = (123 ∷ print'.after_brace (document_texts format)) ++ document_start format

-- a block from its last node to its `}`; the node that it belongs to is at the depth
abbrev pub block_end : Option KdlDocumentFormat → ℕ → Text
block_end format depth = document_end format ++ print'.before_brace (document_texts format) depth ++ 125 ∷ []
