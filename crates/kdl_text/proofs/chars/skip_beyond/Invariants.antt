use Rattle.std.proofs.Common.{◌<◌, ◌^◌, length}
use denote.Text.{Utf8}
use denote.Shadow.{shadow}
use Rattle.kdl_text.specs.Internal.Here.{in_class}
use Rattle.kdl_text.proofs.Looking.Runs.{SoFar}
use Rattle.kdl_text.proofs.chars.skip_beyond.Given as goal

abbrev pub invariant-run : goal.invariant-run
invariant-run l = shadow (Utf8 l.rest) × (length l.fn.text < 2 ^ 64) × SoFar (in_class l.class) l.fn.text l.rest l.count

abbrev pub decreases-run : goal.decreases-run
decreases-run l = length l.rest
