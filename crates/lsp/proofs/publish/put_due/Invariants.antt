-- The faults of the documents so far are sent.
use Rattle.std.proofs.Common.{◌≡◌, ◌++◌, List, String, Global, take}
use Rattle.lsp.specs.Faults.{PublishEach}
use Rattle.lsp.proofs.publish.put_due.Given as goal

abbrev pub invariant-loop-uri : goal.invariant-loop-uri
invariant-loop-uri l = (ms : List (String Global)) × (l.out.items ≡ l.fn.out.items ++ ms) × PublishEach l.state (take l.uri-index l.state.due.items) ms
