-- Tokens that are still to be read, and what is read from them.
use Rattle.std.specs.Prelude.{◌≡◌, false, List, [], ◌∷◌, Option, Some, None, Result, MatchResult}
use Rattle.json.specs.Reads.{token_of}
use Rattle.json.specs.Token as spec
use Rattle.json.specs.declared.token.Token.{Token}
use Rattle.kdl_entry.specs.Tree.{entry_tree}
use Rattle.kdl_entry.specs.declared.entry.KdlEntry.{KdlEntry}
use Rattle.kdl_layout.specs.Kept.{is_kept_format}
use Rattle.kdl_json.specs.declared.failure.JsonFailure.{JsonFailure}
use Rattle.kdl_json.specs.declared.failure.JsonFailure.TheVariants.{Memory}
use Rattle.kdl_json.specs.declared.source.Source.{Source}

abbrev pub left_with : Option Token → List spec.Token → List spec.Token
left_with None ts = []
left_with (Some t) ts = token_of t ∷ ts

-- the tokens that are left in a source
abbrev pub left : Source → List spec.Token
left s = left_with s.next s.reader

-- a read gives this data and leaves these tokens, unless an allocation fails
abbrev pub Gives : {T X : Type 0} → (T → X) → Result T JsonFailure → List spec.Token → X → List spec.Token → Type 0
Gives says r new x rest = MatchResult r (λ v. (says v ≡ x) × (new ≡ rest)) (λ e. e ≡ Memory)

-- an entry that is not flagged to keep its form
abbrev pub EntryKeepsNoForm : KdlEntry → Type 0
EntryKeepsNoForm e = is_kept_format (entry_tree e).format ≡ false
