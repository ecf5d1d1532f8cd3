-- What a document says once a property of one of its nodes is set.
use Rattle.kdl_laws.proofs.Common.{◌≡◌, ℕ, List, Some, IsUtf8, chars, Value, node_named, with_node_named, held_entries, document_says, KdlNode, KdlDocument}
use Rattle.kdl_grammar.specs.Data.{Nodes}
use Rattle.kdl.specs.Change.{with_entries}
use Rattle.kdl.specs.Found.{IsSet}
use Rattle.kdl.specs.Said.{IsSetInData}
use Rattle.kdl.proofs.Finding.SaidEdits.{property_set}

pub property_set_in : (s r : List ℕ) (v : Value) (d : KdlDocument) (n m : KdlNode) (x y : Nodes) → IsUtf8 s → IsUtf8 r → Some n ≡ node_named s d → m ≡ with_entries n (held_entries m) → IsSet r v n m → x ≡ document_says d
    → y ≡ document_says (with_node_named s d m) → IsSetInData (chars s) (chars r) v x y
property_set_in s r v d n m x y us ur h rest set a b = rw (a, b) (property_set s r v d n m us ur h rest set)
