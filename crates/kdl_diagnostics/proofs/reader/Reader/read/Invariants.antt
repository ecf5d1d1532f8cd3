use Rattle.std.proofs.Common.{◌≡◌, ◌≤◌, length}
use Rattle.kdl_text.specs.Chars.{Text}
use Rattle.kdl_text.specs.Spans.{bytes}
use Rattle.kdl_diagnostics.specs.Internal.Noted.{IsReaderOf}
use Rattle.kdl_diagnostics.specs.Internal.Outsets.{IsReady}
use Rattle.kdl_diagnostics.specs.Internal.Reading.{Reads}
use Rattle.kdl_diagnostics.proofs.reader.Reader.read.Given as goal

abbrev pub invariant-lexemes : goal.invariant-lexemes
invariant-lexemes l = record {
  keeps : (text : Text) → IsReaderOf text l.fn.self → IsReaderOf text l.self;
  grows : length l.fn.self.notes.faults.items ≤ length l.self.notes.faults.items;
  reads : Reads 124 0 l.fn.self.cursor l.self.cursor;
  ready : IsReady l.fn.self → length l.self.notes.faults.items ≡ 0 → IsReady l.self;
}

abbrev pub decreases-lexemes : goal.decreases-lexemes
decreases-lexemes l = bytes l.self.cursor.rest
