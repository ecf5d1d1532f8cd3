-- A node after spaces, and with an end.
use Rattle.std.specs.List.{list_all}
use Rattle.std.specs.Prelude.{◌≡◌, ◌⊎◌, ◌++◌, true, codes}
use Rattle.kdl.specs.Words.{BlockReadsBack, ReadsAs, Text, document_says, is_space, node_says}
use Rattle.kdl.specs.declared.document.KdlDocument.{KdlDocument}
use Rattle.kdl.specs.declared.node.KdlNode.{KdlNode}
use Rattle.kdl_value.specs.Tree.{text_of}
use Rattle.kdl_path.specs.declared.laid.Ends.{Ends}

-- the text is spaces and tabs
abbrev pub IsSpaces : Text → Type 0
IsSpaces u = list_all is_space u ≡ true

-- s is the text t after spaces
pub record IsIndented (t s : Text) : Type 0 where
  pub spaces : Text
  pub are : IsSpaces spaces
  pub is : s ≡ spaces ++ t

-- the text ends a node: it is one `;` or one newline
abbrev pub EndsLine : Text → Type 0
EndsLine t = (t ≡ codes ";") ⊎ (t ≡ codes "\n")

-- texts that end a node: spaces, its terminator, and spaces
pub record IsEnd (e : Ends) : Type 0 where
  pub before : IsSpaces (text_of e.before)
  pub terminator : EndsLine (text_of e.terminator)
  pub after : IsSpaces (text_of e.after)

-- m has the data of n, and reads back wherever n does
pub record IsLaid (n m : KdlNode) : Type 0 where
  pub says : node_says m ≡ node_says n
  pub reads : ReadsAs n m

-- the same of a block
pub record IsBlockLaid (d e : KdlDocument) : Type 0 where
  pub says : document_says e ≡ document_says d
  pub reads : BlockReadsBack d → BlockReadsBack e
