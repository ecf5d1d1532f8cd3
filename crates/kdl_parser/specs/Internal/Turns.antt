-- The turn of a token: it is slashdashed, or what is slashdashed is over before it, or nothing is.
use Rattle.std.specs.Prelude.{◌≡◌, Bool, true, false, Option, Some, None, Result, Ok, Err}
use Rattle.kdl_text.specs.Chars.{Text}
use Rattle.kdl_entry.specs.Internal.Counted.{Recounted}
use Rattle.kdl_grammar.specs.Tree.{Node}
use Rattle.kdl_syntax.specs.Tokens.{Token, string}
use Rattle.kdl_syntax.specs.declared.token_span.TokenSpan.{TokenSpan}
use Rattle.kdl_parser.specs.Internal.Building.{reading_view, state_view, Placed}
use Rattle.kdl_parser.specs.Internal.Counted.{unsliced}
use Rattle.kdl_parser.specs.Internal.Dropping.{is_over}
use Rattle.kdl_parser.specs.Internal.Events.{is_building}
use Rattle.kdl_parser.specs.Internal.States.{document_now, step_at, TakesToken}
use Rattle.kdl_parser.specs.declared.builder.Builder.{Builder}
use Rattle.kdl_syntax.specs.declared.lexer.LexFailure.{LexFailure}
use Rattle.kdl_parser.specs.declared.builder.dropping.Dropped.TheVariants.{Nothing}

-- the same token, but for the text of a string
abbrev pub IsLike : Token → Token → Type 0
IsLike (string v) k = (w : Text) × (k ≡ string w)
IsLike j k = k ≡ j

-- what was slashdashed is over: the builder is outside of it, and the next token does what it would have done
pub record Leaves {N : Type 0} (tree : N → Node) (old new : Builder N) : Type 0 where
  pub live : new.dropped ≡ Nothing
  pub building : is_building new.dropped new.phase ≡ true
  pub cursor : new.cursor ≡ old.cursor
  pub from : new.from ≡ old.from
  pub unsliced : unsliced new ≡ unsliced old
  pub step : (k : Token) (span : TokenSpan) → is_over k (reading_view old.dropped) ≡ true → step_at tree new k span ≡ step_at tree old k span
  pub placed : (s : Text) → Placed old.cursor.text (state_view tree old) s → Placed old.cursor.text (state_view tree new) s
  pub document : document_now tree new ≡ document_now tree old

-- whether it is over before the token k
abbrev pub IsLeft : {N E : Type 0} → (N → Node) → Builder N → Token → Result Bool E → Builder N → Type 0
IsLeft tree old k (Ok true) new = (is_over k (reading_view old.dropped) ≡ true) × Leaves tree old new
IsLeft tree old k (Ok false) new = (is_over k (reading_view old.dropped) ≡ false) × (new ≡ old)
IsLeft tree old k (Err e) new = Recounted old.cursor new.cursor

-- what each token like j did
abbrev pub TakesLike : {N : Type 0} → (N → Node) → Builder N → Token → TokenSpan → Result (Unit {0}) LexFailure → Builder N → Type 0
TakesLike tree old j span result new = (k : Token) → IsLike j k → TakesToken tree old k span result new

-- what each token like j did, if it is slashdashed; else what is slashdashed is over before it
abbrev pub Drops : {N : Type 0} → (N → Node) → Builder N → Token → TokenSpan → Option (Result (Unit {0}) LexFailure) → Builder N → Type 0
Drops tree old j span (Some result) new = TakesLike tree old j span result new
Drops tree old j span None new = (is_over j (reading_view old.dropped) ≡ true) × Leaves tree old new
