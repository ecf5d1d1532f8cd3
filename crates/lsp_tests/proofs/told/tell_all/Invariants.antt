use Rattle.std.proofs.Common.{◌≡◌, List, map, take}
use Rattle.lsp_documents.specs.declared.state.Phase.TheVariants.{Running}
use Rattle.lsp_documents.specs.Notes.{Agrees, Note, Texts}
use Rattle.lsp_documents.specs.States.{SessionStays}
use Rattle.lsp_tests.specs.Told.{TellAll, all_after}
use Rattle.lsp_tests.proofs.told.tell_all.Given as goal

abbrev pub invariant-loop-i : goal.invariant-loop-i
invariant-loop-i l =
    l.fn.state.phase ≡ Running → (notes : List Note) (texts : Texts) → TellAll (map (λ m. m.now) l.messages) notes → Agrees l.fn.state texts
    → SessionStays l.fn.state l.state × Agrees l.state (all_after l.fn.state.client.encoding (take l.i notes) texts)
