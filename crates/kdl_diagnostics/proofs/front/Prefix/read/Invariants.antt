use Rattle.std.proofs.Common.{◌≡◌, ◌↔◌, false, length}
use Rattle.kdl_text.specs.Chars.{Text}
use Rattle.kdl_diagnostics.specs.Internal.Noted.{IsFrontOf}
use Rattle.kdl_diagnostics.specs.Internal.Outsets.{EndsBefore, text_view}
use Rattle.kdl_diagnostics.specs.TextControl.{Accepts, Takes}
use Rattle.kdl_diagnostics.proofs.FrontReads.{Fronting}
use Rattle.kdl_diagnostics.proofs.front.Prefix.read.Given as goal

abbrev pub invariant-tokens : goal.invariant-tokens
invariant-tokens l = record {
  fronting : Fronting l.fn.cursor l.cursor;
  keeps : (text : Text) → text ≡ l.fn.cursor.rest → IsFrontOf text l.fn.self → IsFrontOf text l.self;
  exact : Takes (text_view l.self.control) l.cursor.rest ↔ Accepts l.fn.self.control.whole l.fn.cursor.rest;
  ends : EndsBefore l.cursor.rest l.self;
  accepted : l.self.is_accepted ≡ false;
}

abbrev pub decreases-tokens : goal.decreases-tokens
decreases-tokens l = length l.cursor.rest
