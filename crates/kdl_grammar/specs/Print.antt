-- What nodes and documents print.
use Rattle.std.specs.Prelude.{ℕ, ◌*◌, ◌+◌, Bool, true, false, not, List, [], ◌∷◌, ◌++◌, replicate, Option, Some, None, is_none}
use Rattle.kdl_text.specs.Chars.{Text}
use Rattle.kdl_entry.specs.Tree.{Identifier, EntryFormat, Entry}
use Rattle.kdl_entry.specs.Print.{print_identifier, print_type, print_entry}
use Rattle.kdl_grammar.specs.Tree.{NodeFormat, DocumentFormat, Head, Node, node, Children, no_children, children, Document, document, Nodes, none, first}

-- the indentation of a node without a format, at a depth
abbrev pub spaces : ℕ → Text
spaces depth = replicate (4 * depth) 32

-- an entry in a node: one without a format comes after one space
abbrev pub spaced : Option EntryFormat → Text
spaced None = 32 ∷ []
spaced (Some f) = []

-- what an entry prints in a node
abbrev pub print_piece : Entry → Text
print_piece e = spaced e.format ++ print_entry e

-- the entries, one after the other
abbrev pub print_pieces : List Entry → Text
print_pieces [] = []
print_pieces (e ∷ es) = print_piece e ++ print_pieces es

-- from the leading text to the name
abbrev pub head_text : Option Identifier → Identifier → Option NodeFormat → ℕ → Text
head_text ty name None depth = spaces depth ++ print_type ty [] [] ++ print_identifier name
head_text ty name (Some f) depth = f.leading ++ print_type ty f.before_ty_name f.after_ty_name ++ f.after_ty ++ print_identifier name

-- what a node prints before its entries, at a depth
abbrev pub print_head : Head → ℕ → Text
print_head h depth = head_text h.ty h.name h.format depth

-- whether the last entry has a format
abbrev pub last_has_format : List Entry → Bool
last_has_format [] = false
last_has_format (e ∷ []) = not (is_none e.format)
last_has_format (e ∷ es) = last_has_format es

-- one space, or nothing
abbrev pub space_unless : Bool → Text
space_unless true = []
space_unless false = 32 ∷ []

-- what comes before the `{` of a child block
abbrev pub before_block : Option NodeFormat → List Entry → Text
before_block None es = space_unless (last_has_format es)
before_block (Some f) es = f.before_children

-- what comes after the last entry or the `}`; a node without a format prints no terminator
abbrev pub end_text : Option NodeFormat → Text
end_text None = []
end_text (Some f) = f.before_terminator ++ f.terminator ++ f.trailing

-- what comes before the nodes of a document
abbrev pub leading_text : Option DocumentFormat → Text
leading_text None = []
leading_text (Some f) = f.leading

-- what comes after the nodes of a document
abbrev pub trailing_text : Option DocumentFormat → Text
trailing_text None = []
trailing_text (Some f) = f.trailing

-- what follows the `{` of a child document: nothing if it has a format
abbrev pub after_brace : Option DocumentFormat → Text
after_brace None = 10 ∷ []
after_brace (Some f) = []

-- what comes before the `}`: the indentation, if the child document has no format
abbrev pub before_brace : Option DocumentFormat → ℕ → Text
before_brace None depth = spaces depth
before_brace (Some f) depth = []

-- the format of a document
abbrev pub format_of : Document → Option DocumentFormat
format_of (document f span ns) = f

abbrev mutual
  -- head, a piece for each entry, tail
  pub print_node : Node → ℕ → Text
  print_node (node h k) depth = print_head h depth ++ print_pieces h.entries ++ print_tail h k depth

  pub print_tail : Head → Children → ℕ → Text
  print_tail h no_children depth = end_text h.format
  print_tail h (children d) depth =
      before_block h.format h.entries ++ (123 ∷ after_brace (format_of d)) ++ print_document d (depth + 1) ++ before_brace (format_of d) depth ++ (125 ∷ end_text h.format)

  pub print_nodes : Nodes → ℕ → Text
  print_nodes none depth = []
  print_nodes (first n ns) depth = print_node n depth ++ print_nodes ns depth

  pub print_document : Document → ℕ → Text
  print_document (document f span ns) depth = leading_text f ++ print_nodes ns depth ++ trailing_text f

-- a child document between its braces
abbrev pub print_block : Document → ℕ → Text
print_block d depth = (123 ∷ after_brace (format_of d)) ++ print_document d (depth + 1) ++ before_brace (format_of d) depth ++ (125 ∷ [])
