-- What the reader of identifier texts returns.
use Rattle.std.specs.Prelude.{Result, Ok, Err}
use Rattle.kdl_text.specs.Chars.{Text}
use Rattle.kdl_entry.specs.Entries.{IsIdentifierText}
use Rattle.kdl_entry.specs.Laid.{LaidIdentifierText}
use Rattle.kdl_entry.specs.Tree.{identifier_tree}
use Rattle.kdl_entry.specs.declared.identifier.KdlIdentifier.{KdlIdentifier}
use Rattle.kdl_syntax.specs.declared.lexer.LexFailure.{LexFailure}
use Rattle.kdl_syntax.specs.declared.lexer.LexFailure.TheVariants.{Faulty, Memory}

-- the identifier, located in the text; a refused text is none, and an allocation failure says nothing
abbrev pub AnswersIdentifierText : Text → Result KdlIdentifier LexFailure → Type 0
AnswersIdentifierText t (Ok i) = LaidIdentifierText (identifier_tree i) t
AnswersIdentifierText t (Err Faulty) = (v : Text) → IsIdentifierText t v → ⊥
AnswersIdentifierText t (Err Memory) = Unit {0}
