-- What the former language derives, the present one derives, with the same data.
use Rattle.std.proofs.Common.{Bool, true, false, ◌||◌, List, Option}
use Rattle.kdl_text.specs.Chars.{Text, Star, plus}
use Rattle.kdl_text.specs.Chars.Star.{more}
use Rattle.kdl_text.specs.Trivia.{NodeSpace}
use Rattle.kdl_text.proofs.Spacing.ValueEnds.{value_end_wider}
use Rattle.kdl_value.specs.Data.{Value}
use Rattle.kdl_entry.specs.Data.{Entry}
use Rattle.kdl_entry.specs.Entries.{IsString, string, IsPlainValue, a_string, a_plain, parens, MaybeType, untyped, typed, IsValue, value, IsEntry, property, argument}
use Rattle.kdl_grammar.specs.Data.{Node, Children, Nodes}
use Rattle.kdl_grammar.specs.Grammar.{Spaces, IsNode, named, AfterName, kept_entry, dropped_entry, Blocks, dropped_block, block, no_block, AfterBlock, dropped_later, no_more, Gap, no_gap, line_space, dropped_node, AreNodes, last_gap, node_then, IsBlock, braces, IsDocument, IsDocumentIn, IsNodeText, IsNodeTextIn, node_text}

module _ (w : Bool) where
  wide_string : {s r v : Text} → IsString w s r v → IsString true s r v
  wide_string (string p e) = string p (value_end_wider e)

  wide_plain : {s r : Text} {v : Value} → IsPlainValue w s r v → IsPlainValue true s r v
  wide_plain (a_string d) = a_string (wide_string d)
  wide_plain (a_plain p e) = a_plain p (value_end_wider e)

  wide_type : {s r : Text} {y : Option Text} → MaybeType w s r y → MaybeType true s r y
  wide_type untyped = untyped
  wide_type (typed (parens ss d us) vs) = typed (parens ss (wide_string d) us) vs

  wide_value : {s r : Text} {y : Option Text} {v : Value} → IsValue w s r y v → IsValue true s r y v
  wide_value (value y v) = value (wide_type y) (wide_plain v)

  wide_entry : {s r : Text} {e : Entry} → IsEntry w s r e → IsEntry true s r e
  wide_entry (property k ss us v) = property (wide_string k) ss us (wide_value v)
  wide_entry (argument v) = argument (wide_value v)

wide_spaces : {s r : Text} (w : Bool) → Spaces w s r → Star NodeSpace s r
wide_spaces true ss = ss
wide_spaces false (plus n ss) = more n ss

module _ (w : Bool) where
  mutual
    wide_node : {s r : Text} {x : Node} → IsNode w s r x → IsNode true s r x
    wide_node (named y v d) = named (wide_type w y) (wide_string w v) (wide_name d)

    wide_name : {s r : Text} {es : List Entry} {k : Children} → AfterName w s r es k → AfterName true s r es k
    wide_name (kept_entry n i d) = kept_entry n (wide_entry w i) (wide_name d)
    wide_name (dropped_entry ss m i d) = dropped_entry (wide_spaces w ss) m (wide_entry w i) (wide_name d)
    wide_name (AfterName.blocks d) = AfterName.blocks (wide_blocks d)

    wide_blocks : {b : Bool} {s r : Text} {k : Children} → Blocks w b s r k → Blocks true b s r k
    wide_blocks (dropped_block {braced = b} ss m c d) = dropped_block (wide_spaces (w || b) ss) m (wide_block c) (wide_blocks d)
    wide_blocks (block ss c d) = block ss (wide_block c) (wide_later d)
    wide_blocks (no_block ss) = no_block ss

    wide_later : {s r : Text} → AfterBlock w s r → AfterBlock true s r
    wide_later (dropped_later ss m c d) = dropped_later ss m (wide_block c) (wide_later d)
    wide_later (no_more ss) = no_more ss

    wide_gap : {s r : Text} → Gap w s r → Gap true s r
    wide_gap no_gap = no_gap
    wide_gap (line_space n g) = line_space n (wide_gap g)
    wide_gap (dropped_node m x e g) = dropped_node m (wide_node x) e (wide_gap g)

    wide_nodes : {s r : Text} {xs : Nodes} → AreNodes w s r xs → AreNodes true s r xs
    wide_nodes (last_gap g) = last_gap (wide_gap g)
    wide_nodes (node_then g x e ds) = node_then (wide_gap g) (wide_node x) e (wide_nodes ds)

    wide_block : {s r : Text} {xs : Nodes} → IsBlock w s r xs → IsBlock true s r xs
    wide_block (braces ns) = braces (wide_nodes ns)

  pub wider : {t : Text} {x : Nodes} → IsDocumentIn w t x → IsDocument t x
  wider (IsDocumentIn.no_bom d) = IsDocumentIn.no_bom (wide_nodes d)
  wider (IsDocumentIn.after_bom d) = IsDocumentIn.after_bom (wide_nodes d)

  pub wider_node : {t : Text} {x : Node} → IsNodeTextIn w t x → IsNodeText t x
  wider_node (node_text g x e ls) = node_text (wide_gap g) (wide_node x) e ls
