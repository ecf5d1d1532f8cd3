-- What the text before the nodes of a document may be.
use Rattle.std.specs.Prelude.{true, [], ◌∷◌}
use Rattle.kdl_text.specs.Chars.{Text}
use Rattle.kdl_grammar.specs.Grammar.{Gap}

-- the whole text: an optional U+FEFF, and then a gap
pub data DocumentLeading : Text → Type 0 where
  no_bom : {t : Text} → Gap true t [] → DocumentLeading t
  after_bom : {t : Text} → Gap true t [] → DocumentLeading (0xFEFF ∷ t)
