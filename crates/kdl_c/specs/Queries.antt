-- What the text of a query selects, and the faults of a text that is not a query.
use Rattle.std.specs.Prelude.{◌≡◌, ◌++◌, ℕ, List, [], ◌∷◌, length}
use Rattle.std.specs.Str.{chars}
use Rattle.kdl.specs.Words.{InText, Nodes, Text}
use Rattle.kdl_query.specs.Data.{Query}
use Rattle.kdl_query.specs.QueryText.{IsQuery}
use Rattle.kdl_query.specs.Selects.{IsSelection, Path}
use Rattle.c_calls.specs.Listed.{Fault}
use Rattle.c_calls.specs.Reading.{AreFaultsAs, IsRead}

-- the text is a query, which selects exactly these paths, in the order of the document
pub record AreSelectedBy (text : Text) (x : Nodes) (paths : List Path) : Type 0 where
  pub query : Query
  pub reads : IsQuery text query
  pub selection : IsSelection x query paths

-- the paths one after another, each as its length and then its indices
abbrev pub flat : List Path → List ℕ
flat [] = []
flat (p ∷ ps) = length p ∷ p ++ flat ps

-- the text is of the kind: a query for the kind 4, else what `IsRead` says
abbrev pub IsOfKind : ℕ → Text → Type 0
IsOfKind kind t = (kind ≡ 4 → (q : Query) × IsQuery t q) × ((kind ≡ 4 → ⊥) → IsRead kind t)

-- the one fault of a text that is not a query: it concerns a piece of the text
abbrev pub IsQueryFault : List ℕ → List Fault → Type 0
IsQueryFault text fs = (f : Fault) × InText (chars text) f.span × (fs ≡ f ∷ [])

-- the faults of a text that is not of the kind
abbrev pub AreFaultsOfKind : ℕ → List ℕ → List Fault → Type 0
AreFaultsOfKind kind text fs = (kind ≡ 4 → IsQueryFault text fs) × ((kind ≡ 4 → ⊥) → AreFaultsAs kind text fs)
