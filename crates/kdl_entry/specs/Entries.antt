-- Strings, types, values and entries as they are written (KDL 2.0.0, String, Value, Type Annotation, Argument, Property).
-- `X wide s r x`: an X begins the text s, leaves r, and represents x. Where `wide` holds, a slashdash ends a value.
use Rattle.std.specs.Prelude.{Bool, true, [], ◌∷◌, Option, Some, None}
use Rattle.kdl_text.specs.Chars.{Text, Star, Plus}
use Rattle.kdl_text.specs.Trivia.{NodeSpace, LineSpace, Slashdash, ValueEnd}
use Rattle.kdl_value.specs.Data.{Value, text}
use Rattle.kdl_syntax.specs.Pieces.{StringPiece, PlainPiece}
use Rattle.kdl_entry.specs.Data.{Entry}

-- a string, followed by a value end
pub data IsString (wide : Bool) : Text → Text → Text → Type 0 where
  string : {s r v : Text} → StringPiece s r v → ValueEnd wide r → IsString wide s r v

-- a string, a number or a keyword, followed by a value end
pub data IsPlainValue (wide : Bool) : Text → Text → Value → Type 0 where
  a_string : {s r v : Text} → IsString wide s r v → IsPlainValue wide s r (text v)
  a_plain : {s r : Text} {v : Value} → PlainPiece s r v → ValueEnd wide r → IsPlainValue wide s r v

-- `(`, a string between node-spaces, `)`
pub data IsType (wide : Bool) : Text → Text → Text → Type 0 where
  parens : {s t u r v : Text} → Star NodeSpace s t → IsString wide t u v → Star NodeSpace u (41 ∷ r) → IsType wide (40 ∷ s) r v

-- no type, or a type and node-spaces
pub data MaybeType (wide : Bool) : Text → Text → Option Text → Type 0 where
  untyped : {s : Text} → MaybeType wide s s None
  typed : {s t r v : Text} → IsType wide s t v → Star NodeSpace t r → MaybeType wide s r (Some v)

-- a value with its type
pub data IsValue (wide : Bool) : Text → Text → Option Text → Value → Type 0 where
  value : {s t r : Text} {y : Option Text} {v : Value} → MaybeType wide s t y → IsPlainValue wide t r v → IsValue wide s r y v

-- a key, `=` between node-spaces, and a value; or only a value
pub data IsEntry (wide : Bool) : Text → Text → Entry → Type 0 where
  property : {s t u w r k : Text} {y : Option Text} {v : Value} → IsString wide s t k → Star NodeSpace t (61 ∷ u) → Star NodeSpace u w → IsValue wide w r y v
      → IsEntry wide s r (record { key = Some k; ty = y; value = v })
  argument : {s r : Text} {y : Option Text} {v : Value} → IsValue wide s r y v → IsEntry wide s r (record { key = None; ty = y; value = v })

-- the whole text is one string
abbrev pub IsIdentifierTextIn : Bool → Text → Text → Type 0
IsIdentifierTextIn wide t v = IsString wide t [] v

-- an identifier text of the present language
abbrev pub IsIdentifierText : Text → Text → Type 0
IsIdentifierText t v = IsIdentifierTextIn true t v

-- a slashdash, and the entry that it drops, before node-spaces
pub data DroppedFirst (wide : Bool) : Text → Text → Type 0 where
  dropped_first : {s t u r : Text} {e : Entry} → Slashdash s t → IsEntry wide t u e → Plus NodeSpace u r → DroppedFirst wide s r

-- line-spaces, and slashdashed entries
pub data BeforeEntry (wide : Bool) : Text → Text → Type 0 where
  before_entry : {s t r : Text} → Star LineSpace s t → Star (DroppedFirst wide) t r → BeforeEntry wide s r

-- the whole text is one entry, with line-spaces and slashdashed entries before it, and line-spaces after it
pub data IsEntryTextIn (wide : Bool) : Text → Entry → Type 0 where
  entry_text : {t u r : Text} {e : Entry} → BeforeEntry wide t u → IsEntry wide u r e → Star LineSpace r [] → IsEntryTextIn wide t e

-- an entry text of the present language
abbrev pub IsEntryText : Text → Entry → Type 0
IsEntryText t e = IsEntryTextIn true t e
