use Rattle.std.proofs.Common.{◌<◌, ◌+◌, length, vec_len}
use Rattle.kdl_diagnostics.specs.Internal.Noted.{Always, Keeps, Untold}
use Rattle.kdl_diagnostics.proofs.notes.Notes.note_blocks.Given as goal

abbrev pub invariant-unclosed : goal.invariant-unclosed
invariant-unclosed l = record {
  keeps : Keeps Always l.fn.self l.self;
  untold : Untold l.fn.self.blocks.items → Untold l.self.blocks.items;
  noted : Untold l.fn.self.blocks.items → 0 < length l.fn.self.blocks.items → 0 < length l.self.blocks.items + length l.self.faults.items;
}

abbrev pub decreases-unclosed : goal.decreases-unclosed
decreases-unclosed l = vec_len l.self.blocks
