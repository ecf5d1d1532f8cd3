-- Values that are not on one line, and others that are; the texts around the nodes of a block, and of a document.
use Rattle.kdl_layout.proofs.Common.{◌≡◌, true, false, [], ◌∷◌, refl, Some, None, empty_format, Head, node, no_children, children, document, Node, Nodes, none, first, Text, block_of, content_of, end_on_line, form_on_line, is_on_one_line, no_newline, only_spaces, is_newline_char, is_space}
use Rattle.kdl_entry.specs.Tree.{no_span}
use Rattle.kdl_grammar.specs.Data as data'
use Rattle.kdl_layout.specs.Canonical.{canonical_children}
use Rattle.kdl_layout.specs.Compact.{compact_children}
use Rattle.kdl_layout.specs.OneLine.{node_on_line}

-- `a`
abbrev named : Head
named = record { ty = None; name = record { value = 97 ∷ []; repr = None; span = no_span }; entries = []; format = None; span = no_span }

-- a slash is no space, and a newline is none either
slash_no_space : only_spaces (32 ∷ 47 ∷ []) ≡ false
unfolding is_space
slash_no_space = refl

newline_no_space : only_spaces (10 ∷ []) ≡ false
unfolding is_space
newline_no_space = refl

spaces_are : only_spaces (32 ∷ 9 ∷ []) ≡ true
unfolding is_space
spaces_are = refl

-- U+0085 is a newline
a_newline : no_newline (97 ∷ 0x85 ∷ []) ≡ false
unfolding is_newline_char
a_newline = refl

-- a spelling of a value over two lines
two_lines : form_on_line (record empty_format { value_repr = 34 ∷ 92 ∷ 10 ∷ 34 ∷ [] }) ≡ false
unfolding is_newline_char
two_lines = refl

-- a newline ends the node, or nothing where another follows
line_ended : end_on_line true (10 ∷ []) ≡ false
line_ended = refl

not_ended : end_on_line false [] ≡ false
not_ended = refl

ended : end_on_line false (59 ∷ []) ≡ true
ended = refl

-- a block in a block, and a block without a format, which prints newlines
block_inside : node_on_line true (node named (children (document None no_span none))) ≡ false
block_inside = refl

no_format : is_on_one_line (document None no_span none) ≡ false
no_format = refl

-- `{}`, and `{a}`
no_nodes : is_on_one_line (document (Some (record { leading = []; trailing = [] })) no_span none) ≡ true
no_nodes = refl

one_node : is_on_one_line (document (Some (record { leading = []; trailing = [] })) no_span (first (node named no_children) none)) ≡ true
one_node = refl

-- without nodes and comments a block is `{}`
nothing_there : (indent : Text) → block_of true indent none [] [] ≡ record { leading = []; trailing = [] }
nothing_there indent = refl

-- the line of a comment, and then the `}`
one_comment : (indent : Text) → block_of true indent none (47 ∷ 47 ∷ 10 ∷ []) [] ≡ record { leading = 10 ∷ 47 ∷ 47 ∷ 10 ∷ []; trailing = indent }
one_comment indent = refl

-- nodes on lines of their own
some_nodes : (indent : Text) (n : Node) (ns : Nodes) → block_of true indent (first n ns) [] [] ≡ record { leading = 10 ∷ []; trailing = indent }
some_nodes indent n ns = refl

-- without `compact` a newline is in place of nodes
in_place : (indent : Text) → block_of false indent none [] [] ≡ record { leading = 10 ∷ []; trailing = 10 ∷ indent }
in_place indent = refl

-- the empty text, and a text of comments alone
empty_document : content_of true none [] [] ≡ record { leading = []; trailing = [] }
empty_document = refl

comments_alone : content_of true none (47 ∷ 47 ∷ 10 ∷ []) [] ≡ record { leading = 47 ∷ 47 ∷ 10 ∷ []; trailing = [] }
comments_alone = refl

-- what is between the braces of a block without nodes: nothing, where the canonical text has an empty line
compact_block : compact_children [] 0 (data'.children data'.none) ≡ 32 ∷ 123 ∷ 125 ∷ []
compact_block = refl

no_empty_line : canonical_children [] 0 (data'.children data'.none) ≡ compact_children [] 0 (data'.children data'.none) → ⊥
no_empty_line e = cc
