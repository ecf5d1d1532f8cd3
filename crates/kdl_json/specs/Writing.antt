-- Tokens that are written.
use Rattle.std.specs.Prelude.{◌≡◌, true, List, ◌++◌, OnOk, Result}
use Rattle.std.specs.List.{list_all}
use Rattle.json.specs.Token.{Token}
use Rattle.json.specs.Written.{Written}
use Rattle.kdl_text.specs.Chars.{is_scalar}
use Rattle.kdl_layout.specs.WellFormed.{AreScalars, AreWellFormedEntries}
use Rattle.kdl_grammar.specs.Data.{Node, node}

-- what stood before stays, and the tokens are appended unless an allocation fails
pub record Appends {E : Type 0} (r : Result (Unit {0}) E) (old new : Written) (f : List Token → List Token) : Type 0 where
  pub before : new.before ≡ old.before
  pub tokens : OnOk r ((ts : List Token) → new.tokens ++ ts ≡ old.tokens ++ f ts)

-- memory can hold the node up to its entries
abbrev pub IsFitHead : Node → Type 0
IsFitHead (node ty name es k) = AreScalars ty × (list_all is_scalar name ≡ true) × AreWellFormedEntries es
