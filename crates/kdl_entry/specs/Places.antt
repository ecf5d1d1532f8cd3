-- Places: the texts between the parts of an item, and what may be in them.
use Rattle.std.specs.Prelude.{◌≡◌, ◌-◌, Bool, true, false, ◌++◌, length, take}
use Rattle.kdl_text.specs.Chars.{Text, Star, Plus}
use Rattle.kdl_text.specs.Trivia.{NodeSpace, Slashdash}
use Rattle.kdl_text.specs.Spans.{span_between}
use Rattle.kdl_text.specs.declared.span.SourceSpan.{SourceSpan}
use Rattle.kdl_entry.specs.Data.{Entry}
use Rattle.kdl_entry.specs.Entries.{IsEntry}

-- p is what is in s before r, and it is of the class
pub record Is (class : Text → Text → Type 0) (p s r : Text) : Type 0 where
  pub is : class s r
  pub text : s ≡ p ++ r

-- node-spaces, a slashdash, and the entry that it drops
pub data DroppedEntry : Text → Text → Type 0 where
  dropped : {s t u r : Text} {e : Entry} → Star NodeSpace s t → Slashdash t u → IsEntry true u r e → DroppedEntry s r

-- before an entry in a node: slashdashed entries, and at least one node-space
pub data EntryLeading : Text → Text → Type 0 where
  leading : {s t r : Text} → Star DroppedEntry s t → Plus NodeSpace t r → EntryLeading s r

-- the text in t before its rest s
unfoldable pub between : Text → Text → Text
between t s = take (length t - length s) t

-- the span, in the whole text, of what is in s before r
unfoldable pub span_of : Text → Text → Text → SourceSpan
span_of whole s r = span_between whole s r

-- the first span is the second one, if `exact` holds; else it may be any
abbrev pub Spanned : Bool → SourceSpan → SourceSpan → Type 0
Spanned true a b = a ≡ b
Spanned false a b = Unit {0}
