-- What follows a piece of a document is an end of the text.
use Rattle.std.proofs.Common.{Bool, true, List}
use Rattle.kdl_text.specs.Chars.{Text}
use Rattle.kdl_text.proofs.Looking.Ends.{End, here, also, then, past, end_newline}
use Rattle.kdl_text.proofs.Spacing.SpacePieces.{line_comment_end}
use Rattle.kdl_entry.specs.Data.{Entry}
use Rattle.kdl_syntax.proofs.Lexing.TokenUnique.{end_of}
use Rattle.kdl_entry.proofs.Moving.EntryEnds.{end_line_space, end_spaces, end_some, end_slashdash, end_string, end_type, end_entry}
use Rattle.kdl_grammar.specs.Data.{Children, Nodes}
use Rattle.kdl_grammar.specs.Grammar.{Terminator, named, AfterName, kept_entry, dropped_entry, Blocks, dropped_block, block, no_block, AfterBlock, dropped_later, no_more, Gap, no_gap, line_space, dropped_node, AreNodes, last_gap, node_then, IsBlock, braces}
use Rattle.kdl_grammar.specs.Places.{DroppedBlock}

pub end_terminator : {s r : Text} → Terminator s r → End s r
end_terminator Terminator.semicolon = also 59 here
end_terminator (Terminator.newline n) = end_newline n
end_terminator (Terminator.comment l) = end_of (line_comment_end l)
end_terminator Terminator.at_end = here
end_terminator Terminator.at_close = here

mutual
  end_name : {s r : Text} {es : List Entry} {k : Children} → AfterName true s r es k → End s r
  end_name (kept_entry n i d) = then (end_some n) (then (end_entry i) (end_name d))
  end_name (dropped_entry ss m i d) = then (end_spaces ss) (then (end_slashdash m) (then (end_entry i) (end_name d)))
  end_name (AfterName.blocks d) = end_blocks d

  end_blocks : {b : Bool} {s r : Text} {k : Children} → Blocks true b s r k → End s r
  end_blocks (dropped_block ss m b d) = then (end_spaces ss) (then (end_slashdash m) (then (end_block b) (end_blocks d)))
  end_blocks (block ss b d) = then (end_spaces ss) (then (end_block b) (end_later d))
  end_blocks (no_block ss) = end_spaces ss

  end_later : {s r : Text} → AfterBlock true s r → End s r
  end_later (dropped_later ss m b d) = then (end_spaces ss) (then (end_slashdash m) (then (end_block b) (end_later d)))
  end_later (no_more ss) = end_spaces ss

  pub end_gap : {s r : Text} → Gap true s r → End s r
  end_gap no_gap = here
  end_gap (line_space n g) = then (end_line_space n) (end_gap g)
  end_gap (dropped_node m (named y w d) e g) = then (end_slashdash m) (then (end_type y) (then (end_string w) (then (end_name d) (then (end_terminator e) (end_gap g)))))

  end_nodes : {s r : Text} {xs : Nodes} → AreNodes true s r xs → End s r
  end_nodes (last_gap g) = end_gap g
  end_nodes (node_then g (named y w d) e ds) = then (end_gap g) (then (end_type y) (then (end_string w) (then (end_name d) (then (end_terminator e) (end_nodes ds)))))

  pub end_block : {s r : Text} {xs : Nodes} → IsBlock true s r xs → End s r
  end_block (braces ns) = also 123 (past (end_nodes ns))

pub end_dropped_block : {s r : Text} → DroppedBlock s r → End s r
end_dropped_block (DroppedBlock.dropped ss m b) = then (end_spaces ss) (then (end_slashdash m) (end_block b))
