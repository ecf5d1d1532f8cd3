use Rattle.std.proofs.Common.{◌↔◌, length}
use Rattle.std.specs.Str.{chars}
use Rattle.kdl_syntax.specs.Internal.Views.{control_view}
use Rattle.kdl_diagnostics.specs.TextControl.{AcceptsDocument, Takes, in_document}
use Rattle.kdl.proofs.acceptance.is_accepted.Given as goal

abbrev pub invariant-tokens : goal.invariant-tokens
invariant-tokens l = Takes (in_document (control_view l.control)) l.cursor.rest ↔ AcceptsDocument (chars l.text)

abbrev pub decreases-tokens : goal.decreases-tokens
decreases-tokens l = length l.cursor.rest
