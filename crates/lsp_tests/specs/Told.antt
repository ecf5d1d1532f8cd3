-- Messages, one after another.
use Rattle.std.specs.Prelude.{ℕ, List, [], ◌∷◌}
use Rattle.lsp.specs.Messages.{TextTells}
use Rattle.lsp_documents.specs.Notes.{Note, Texts, after}
use Rattle.lsp_text.specs.declared.position.Encoding.{Encoding}

-- each message is a notification that tells the note at its place
abbrev pub TellAll : List (List ℕ) → List Note → Type 0
TellAll [] [] = Unit {0}
TellAll (m ∷ ms) (n ∷ ns) = TextTells m n × TellAll ms ns
TellAll _ _ = ⊥

-- the texts of a client after all that it tells
abbrev pub all_after : Encoding → List Note → Texts → Texts
all_after e [] texts = texts
all_after e (n ∷ ns) texts = all_after e ns (after e n texts)
