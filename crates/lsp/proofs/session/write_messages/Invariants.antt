-- The frames of the messages so far are written.
use Rattle.std.proofs.Common.{flat_map, map, take, string_bytes}
use Rattle.std.specs.Io.KnownBytes.{Appends}
use Rattle.lsp_frames.specs.Frames.{frame_of}
use Rattle.lsp.proofs.session.write_messages.Given as goal

abbrev pub invariant-loop-message : goal.invariant-loop-message
invariant-loop-message g l = Appends (g.W.Write.contents l.initial.output) (g.W.Write.contents l.output) (flat_map frame_of (map string_bytes (take l.message-index l.messages)))
