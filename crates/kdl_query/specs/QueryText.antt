-- The text of a query. `X t r x`: an X begins the text t, leaves r, and represents x.
use Rattle.std.specs.Prelude.{◌≡◌, ◌⊎◌, ℕ, ◌<◌, ◌^◌, pos, Bool, true, false, not, ◌&&◌, ◌||◌, ◌==◌, cond, List, [], ◌∷◌, ◌++◌, Some, None, codes}
use Rattle.kdl_text.specs.Bare.{BareString}
use Rattle.kdl_text.specs.Chars.{Newline, Text, Star, begins, begins_two, starts, is_digit, is_identifier_char}
use Rattle.kdl_text.specs.Numbers.{WholeNumber, base_prefix}
use Rattle.kdl_text.specs.Trivia.{Ws}
use Rattle.kdl_value.specs.Data.{Value, text, integer, float}
use Rattle.kdl_syntax.specs.Pieces.{StringPiece, PlainPiece}
use Rattle.kdl_query.specs.Data.{Accessor, Literal, NodeTest, Query, Selector, Test, TypeTest, always, argument, arguments, compares, has, name, of_type, properties, property, some_type, start, then, top, ty, type_named, value}
use Rattle.kdl_query.specs.declared.tree.Combinator.{Combinator}
use Rattle.kdl_query.specs.declared.tree.Combinator.TheVariants.{Child, Descendant, NextSibling, LaterSibling}
use Rattle.kdl_query.specs.declared.tree.Comparison.{Comparison}
use Rattle.kdl_query.specs.declared.tree.Comparison.TheVariants.{Equal, NotEqual, Greater, GreaterOrEqual, Less, LessOrEqual, StartsWith, EndsWith, Contains}

-- what may be between the parts of a query: a space, a block comment, a newline, or an escline, which has no line comment here
pub data QuerySpace : Text → Text → Type 0 where
  ws : {s r : Text} → Ws s r → QuerySpace s r
  newline : {s r : Text} → Newline s r → QuerySpace s r
  escline : {s t r : Text} → Star Ws s t → Newline t r → QuerySpace (92 ∷ s) r
  last_escline : {s : Text} → Star Ws s [] → QuerySpace (92 ∷ s) []

-- as many of these as are here
pub record Spaces (s r : Text) : Type 0 where
  pub run : Star QuerySpace s r
  pub stops : (t : Text) → QuerySpace r t → ⊥

-- a word that is no name unless it is quoted
abbrev pub IsOperatorWord : Text → Type 0
IsOperatorWord v = (v ≡ codes ">") ⊎ (v ≡ codes ">>") ⊎ (v ≡ codes "+") ⊎ (v ≡ codes "++") ⊎ (v ≡ codes "||")

-- a string in any spelling of a document, without a `(` directly after it
pub record IsName (s r v : Text) : Type 0 where
  pub string : StringPiece s r v
  pub no_operator : BareString s r v → ¬ IsOperatorWord v
  pub no_function : begins 40 r ≡ false

-- `()`, or a name in parentheses
pub data IsType : Text → Text → TypeTest → Type 0 where
  any : {s r : Text} → Spaces s (41 ∷ r) → IsType (40 ∷ s) r some_type
  named : {s t u r v : Text} → Spaces s t → IsName t u v → Spaces u (41 ∷ r) → IsType (40 ∷ s) r (type_named v)

-- a whole number of 64 bits, without a sign and without the prefix of a base
pub record IsIndex (s r : Text) (i : ℕ) : Type 0 where
  pub number : WholeNumber s r (pos i)
  pub unsigned : starts is_digit s ≡ true
  pub decimal : base_prefix s ≡ None
  pub fits : i < 2 ^ 64

-- `! > < ^ $ *`, which begin a comparison before `=`
abbrev pub begins_comparison : ℕ → Bool
begins_comparison c = ((c == 33 || c == 62) || (c == 60 || c == 94)) || (c == 36 || c == 42)

-- the name of a property; a bare one directly before `=` has no character of the comparison at its end
pub record IsKey (s r v : Text) : Type 0 where
  pub name : IsName s r v
  pub apart : begins 61 r ≡ true → BareString s r v → (p : Text) (c : ℕ) → v ≡ p ++ c ∷ [] → begins_comparison c ≡ false

-- one of the functions, or the name of a property
pub data IsAccessor : Text → Text → Accessor → Type 0 where
  first : {s r : Text} → Spaces s (41 ∷ r) → IsAccessor (codes "val(" ++ s) r (argument 0)
  nth : {s t u r : Text} {i : ℕ} → Spaces s t → IsIndex t u i → Spaces u (41 ∷ r) → IsAccessor (codes "val(" ++ s) r (argument i)
  prop : {s t u r v : Text} → Spaces s t → IsName t u v → Spaces u (41 ∷ r) → IsAccessor (codes "prop(" ++ s) r (property v)
  name_of : {s r : Text} → Spaces s (41 ∷ r) → IsAccessor (codes "name(" ++ s) r name
  type_of : {s r : Text} → Spaces s (41 ∷ r) → IsAccessor (codes "tag(" ++ s) r ty
  values : {s r : Text} → Spaces s (41 ∷ r) → IsAccessor (codes "values(" ++ s) r arguments
  props : {s r : Text} → Spaces s (41 ∷ r) → IsAccessor (codes "props(" ++ s) r properties
  key : {s r v : Text} → IsKey s r v → IsAccessor s r (property v)

-- a comparison, the longest that is here: `>=` is no `>`
pub data IsComparison : Text → Text → Comparison → Type 0 where
  equal : {r : Text} → IsComparison (codes "=" ++ r) r Equal
  not_equal : {r : Text} → IsComparison (codes "!=" ++ r) r NotEqual
  greater : {r : Text} → begins 61 r ≡ false → IsComparison (codes ">" ++ r) r Greater
  greater_or_equal : {r : Text} → IsComparison (codes ">=" ++ r) r GreaterOrEqual
  less : {r : Text} → begins 61 r ≡ false → IsComparison (codes "<" ++ r) r Less
  less_or_equal : {r : Text} → IsComparison (codes "<=" ++ r) r LessOrEqual
  starts_with : {r : Text} → IsComparison (codes "^=" ++ r) r StartsWith
  ends_with : {r : Text} → IsComparison (codes "$=" ++ r) r EndsWith
  contains : {r : Text} → IsComparison (codes "*=" ++ r) r Contains

-- a type, a string, a number or a keyword
pub data IsLiteral : Text → Text → Literal → Type 0 where
  typed : {s r : Text} {t : TypeTest} → IsType s r t → IsLiteral s r (of_type t)
  string : {s r v : Text} → IsName s r v → IsLiteral s r (value (text v))
  plain : {s r : Text} {v : Value} → PlainPiece s r v → IsLiteral s r (value v)

abbrev pub is_string : Literal → Bool
is_string (value (text s)) = true
is_string _ = false

abbrev pub is_number : Literal → Bool
is_number (value (integer z)) = true
is_number (value (float s)) = true
is_number _ = false

-- the literal may follow the comparison: parts are those of strings, and the order is that of numbers
abbrev pub fits : Comparison → Literal → Bool
fits Equal l = true
fits NotEqual l = true
fits StartsWith l = is_string l
fits EndsWith l = is_string l
fits Contains l = is_string l
fits _ l = is_number l

-- likewise after an accessor: names and types are compared with strings alone
abbrev pub is_allowed : Accessor → Comparison → Literal → Bool
is_allowed name c l = is_string l && fits c l
is_allowed ty c l = is_string l && fits c l
is_allowed a c l = fits c l

-- what follows an accessor: `]`, or a comparison that is allowed and `]`
pub data AfterAccessor (a : Accessor) : Text → Text → Test → Type 0 where
  alone : {r : Text} → AfterAccessor a (93 ∷ r) r (has a)
  compared : {s t u v r : Text} {c : Comparison} {l : Literal} → IsComparison s t c → Spaces t u → IsLiteral u v l → is_allowed a c l ≡ true → Spaces v (93 ∷ r) → AfterAccessor a s r (compares a c l)

-- a test in brackets
pub data IsTest : Text → Text → Test → Type 0 where
  nothing : {s r : Text} → Spaces s (93 ∷ r) → IsTest (91 ∷ s) r always
  something : {s t u v r : Text} {a : Accessor} {x : Test} → Spaces s t → IsAccessor t u a → Spaces u v → AfterAccessor a v r x → IsTest (91 ∷ s) r x

-- as many tests as are here
pub data AreTests : Text → Text → List Test → Type 0 where
  none : {s : Text} → begins 91 s ≡ false → AreTests s s []
  more : {s t r : Text} {x : Test} {xs : List Test} → IsTest s t x → AreTests t r xs → AreTests s r (x ∷ xs)

-- no name directly follows a type here: an operator does, or nothing of which a string is made
abbrev pub ends_type : Text → Bool
ends_type s = ((begins 62 s || begins 43 s) || begins_two 124 124 s) || not (starts (λ c. (is_identifier_char c || c == 34) || c == 35) s)

-- a type, a name and tests, at least one of these
pub data IsNode : Text → Text → NodeTest → Type 0 where
  tested : {s t r : Text} {x : Test} {xs : List Test} → IsTest s t x → AreTests t r xs → IsNode s r (record { ty = None; name = None; tests = x ∷ xs })
  named : {s t r v : Text} {xs : List Test} → IsName s t v → AreTests t r xs → IsNode s r (record { ty = None; name = Some v; tests = xs })
  typed : {s t r : Text} {y : TypeTest} {xs : List Test} → IsType s t y → ends_type t ≡ true → AreTests t r xs → IsNode s r (record { ty = Some y; name = None; tests = xs })
  both : {s t u r v : Text} {y : TypeTest} {xs : List Test} → IsType s t y → ends_type t ≡ false → IsName t u v → AreTests u r xs → IsNode s r (record { ty = Some y; name = Some v; tests = xs })

-- `top()`, or a node
pub data IsFirst : Text → Text → Selector → Type 0 where
  document : {s r : Text} → Spaces s (41 ∷ r) → IsFirst (codes "top(" ++ s) r top
  a_node : {s r : Text} {n : NodeTest} → IsNode s r n → IsFirst s r (start n)

-- an operator, the longest that is here
pub data IsOperator : Text → Text → Combinator → Type 0 where
  child : {r : Text} → begins 62 r ≡ false → IsOperator (codes ">" ++ r) r Child
  descendant : {r : Text} → IsOperator (codes ">>" ++ r) r Descendant
  next_sibling : {r : Text} → begins 43 r ≡ false → IsOperator (codes "+" ++ r) r NextSibling
  later_sibling : {r : Text} → IsOperator (codes "++" ++ r) r LaterSibling

-- what follows the selector s, as far as it was read: the end, an operator and a node, or `||` and another selector. q has s, as it ends, and all after it
pub data After : Selector → Text → Query → Type 0 where
  ends : {s : Selector} {t : Text} → Spaces t [] → After s t (s ∷ [])
  step : {s : Selector} {t u v w r : Text} {c : Combinator} {n : NodeTest} {q : Query} → Spaces t u → IsOperator u v c → Spaces v w → IsNode w r n → After (then s c n) r q → After s t q
  or : {s x : Selector} {t u v r : Text} {q : Query} → Spaces t (codes "||" ++ u) → Spaces u v → IsFirst v r x → After x r q → After s t (s ∷ q)

-- the text without a U+FEFF at its front
abbrev pub without_bom : Text → Text
without_bom [] = []
without_bom (c ∷ t) = cond (c == 0xFEFF) t (c ∷ t)

-- the whole text
pub data IsQuery : Text → Query → Type 0 where
  query : {t u r : Text} {s : Selector} {q : Query} → Spaces (without_bom t) u → IsFirst u r s → After s r q → IsQuery t q
