-- From each place that the machine without data reaches in a text some text goes on to a document.
use Rattle.std.proofs.Common.{◌≡◌, ◌≤◌, Bool, true, false, List, [], ◌∷◌, ◌++◌, length, Option, Some, None, refl, sym, ap, subst, ◌∙◌, arith}
use Rattle.kdl_text.specs.Chars.{Text, begins, starts, is_identifier_char}
use Rattle.kdl_text.specs.Bare.{bare as bare_text, is_bare}
use Rattle.kdl_value.specs.Data.{Value}
use Rattle.kdl_syntax.specs.Pieces.{bare}
use Rattle.kdl_syntax.specs.Tokens.{Token, string, value, right, opening, closing, BeginsToken, t_string, t_right, t_opening, t_closing, Lexes, done, next}
use Rattle.kdl_syntax.proofs.Lexing.TokenUnique.{token_shorter}
use Rattle.kdl_syntax.proofs.Moving.Puts.{Put, stands, joined}
use Rattle.kdl_entry.proofs.Moving.TokenMoves.{Fits, last_token, near, full_of}
use Rattle.kdl_grammar.specs.Data.{Nodes}
use Rattle.kdl_grammar.specs.Grammar.{AreNodes}
use Rattle.kdl_syntax.specs.Control.{Control, at, step, held, accepts}
use Rattle.kdl_syntax.specs.declared.control.{Spot.TheVariants.Fresh, Spot.TheVariants.Later, Frame.TheVariants.Dropped as DroppedBlock, Phase.Phase, Spot.Spot, Frame.Frame, Word.TheVariants.MayBeKey, Word.TheVariants.NoKey, Owner.TheVariants.Name as OfName}
use Rattle.kdl_syntax.specs.declared.control.Phase.TheVariants.{Gap, NodeSlashdash, TypeOpen, TypeName, TypeDone, InNode, Property, EntrySlashdash, BlockSlashdash, Kept, KeptSlashdash}
use Rattle.kdl_grammar.specs.Going.{GoesBy, Goes, here, goes}
use Rattle.kdl_grammar.proofs.Reading.Sound.{derives}

-- Tokens that end a text: what is due, and then a `}` for each open block.
abbrev pub word : Token
word = string (97 ∷ [])

abbrev pub closings : List Frame → List Token
closings [] = []
closings (f ∷ fs) = closing ∷ closings fs

abbrev pub missing : Phase → List Token
missing Gap = []
missing NodeSlashdash = word ∷ []
missing (TypeOpen b) = word ∷ right ∷ word ∷ []
missing (TypeName b) = right ∷ word ∷ []
missing (TypeDone b) = word ∷ []
missing (InNode p) = []
missing Property = word ∷ []
missing EntrySlashdash = word ∷ []
missing BlockSlashdash = opening ∷ closing ∷ []
missing Kept = []
missing KeptSlashdash = opening ∷ closing ∷ []

-- where nothing is due but the `}` of open blocks
pub data Ends : Phase → Type 0 where
  at_gap : Ends Gap
  at_node : {p : Spot} → Ends (InNode p)
  at_kept : Ends Kept

closes : {p : Phase} → Ends p → (fs : List Frame) → accepts (at p fs) (closings fs) ≡ true
closes at_gap [] = refl
closes at_node [] = refl
closes at_kept [] = refl
closes at_gap (DroppedBlock ∷ fs) = closes (at_node {p = Later}) fs
closes at_gap (f ∷ fs) = closes at_kept fs
closes at_node (DroppedBlock ∷ fs) = closes (at_node {p = Later}) fs
closes at_node (f ∷ fs) = closes at_kept fs
closes at_kept (DroppedBlock ∷ fs) = closes (at_node {p = Later}) fs
closes at_kept (f ∷ fs) = closes at_kept fs

-- from each state some tokens are accepted
pub ends : (p : Phase) (fs : List Frame) → accepts (at p fs) (missing p ++ closings fs) ≡ true
ends Gap fs = closes at_gap fs
ends (TypeOpen OfName) fs = closes (at_node {p = Fresh NoKey}) fs
ends (TypeName OfName) fs = closes (at_node {p = Fresh NoKey}) fs
ends (TypeDone OfName) fs = closes (at_node {p = Fresh NoKey}) fs
ends (InNode p) fs = closes (at_node {p = p}) fs
ends EntrySlashdash fs = closes (at_node {p = Fresh MayBeKey}) fs
ends BlockSlashdash fs = closes (at_node {p = Later}) fs
ends Kept fs = closes at_kept fs
ends KeptSlashdash fs = closes at_kept fs
ends p fs = closes (at_node {p = Fresh NoKey}) fs

-- the same as texts
abbrev pub closing_text : List Frame → Text
closing_text [] = []
closing_text (f ∷ fs) = 125 ∷ closing_text fs

abbrev pub missing_text : Phase → Text
missing_text Gap = []
missing_text NodeSlashdash = 97 ∷ []
missing_text (TypeOpen b) = 97 ∷ 41 ∷ 97 ∷ []
missing_text (TypeName b) = 41 ∷ 97 ∷ []
missing_text (TypeDone b) = 97 ∷ []
missing_text (InNode p) = []
missing_text Property = 97 ∷ []
missing_text EntrySlashdash = 97 ∷ []
missing_text BlockSlashdash = 123 ∷ 125 ∷ []
missing_text Kept = []
missing_text KeptSlashdash = 123 ∷ 125 ∷ []

abbrev pub rest_text : Phase → List Frame → Text
rest_text p fs = missing_text p ++ closing_text fs

is_word : is_bare (97 ∷ []) ≡ true
unfolding is_bare is_identifier_char Rattle.kdl_text.specs.Chars.is_space Rattle.kdl_text.specs.Chars.is_newline_char Rattle.kdl_text.specs.Chars.is_banned Rattle.kdl_text.specs.Chars.is_punctuation
is_word = refl

pub no_close : is_identifier_char 125 ≡ false
unfolding is_identifier_char Rattle.kdl_text.specs.Chars.is_space Rattle.kdl_text.specs.Chars.is_newline_char Rattle.kdl_text.specs.Chars.is_banned Rattle.kdl_text.specs.Chars.is_punctuation
no_close = refl

pub no_right : is_identifier_char 41 ≡ false
unfolding is_identifier_char Rattle.kdl_text.specs.Chars.is_space Rattle.kdl_text.specs.Chars.is_newline_char Rattle.kdl_text.specs.Chars.is_banned Rattle.kdl_text.specs.Chars.is_punctuation
no_right = refl

pub closing_class : (fs : List Frame) → starts is_identifier_char (closing_text fs) ≡ false
closing_class [] = refl
closing_class (f ∷ fs) = no_close

closing_quote : (fs : List Frame) → begins 34 (closing_text fs) ≡ false
closing_quote [] = refl
closing_quote (f ∷ fs) = refl

closing_feed : (fs : List Frame) → begins 10 (closing_text fs) ≡ false
closing_feed [] = refl
closing_feed (f ∷ fs) = refl

no_feed : (p : Phase) (fs : List Frame) → begins 10 (rest_text p fs) ≡ false
no_feed Gap fs = closing_feed fs
no_feed (InNode p) fs = closing_feed fs
no_feed Kept fs = closing_feed fs
no_feed p fs = refl

pub a_word : (r : Text) → starts is_identifier_char r ≡ false → BeginsToken (97 ∷ r) word r
a_word r h = t_string (bare (bare_text refl is_word h))

lexes_closings : (fs : List Frame) → Lexes (closing_text fs) (closings fs)
lexes_closings [] = done
lexes_closings (f ∷ fs) = next t_closing (lexes_closings fs)

lexes_word : (fs : List Frame) → Lexes (97 ∷ closing_text fs) (word ∷ closings fs)
lexes_word fs = next (a_word (closing_text fs) (closing_class fs)) (lexes_closings fs)

lexes_rest : (p : Phase) (fs : List Frame) → Lexes (rest_text p fs) (missing p ++ closings fs)
lexes_rest Gap fs = lexes_closings fs
lexes_rest (TypeOpen b) fs = next (a_word (41 ∷ 97 ∷ closing_text fs) no_right) (next t_right (lexes_word fs))
lexes_rest (TypeName b) fs = next t_right (lexes_word fs)
lexes_rest (InNode p) fs = lexes_closings fs
lexes_rest BlockSlashdash fs = next t_opening (next t_closing (lexes_closings fs))
lexes_rest Kept fs = lexes_closings fs
lexes_rest KeptSlashdash fs = next t_opening (next t_closing (lexes_closings fs))
lexes_rest p fs = lexes_word fs

-- after a string, a number or a keyword
abbrev pub worded : Control → Bool
worded (at (InNode (Fresh b)) fs) = true
worded (at (TypeName b) fs) = true
worded _ = false

abbrev is_worded : Option Control → Bool
is_worded None = true
is_worded (Some c) = worded c

string_worded : (c : Control) (v : Text) → is_worded (step c (string v)) ≡ true
string_worded (at (InNode (Fresh b)) fs) v = refl
string_worded (at (TypeDone OfName) fs) v = refl
string_worded (at p fs) v = refl

value_worded : (c : Control) (v : Value) → is_worded (step c (value v)) ≡ true
value_worded (at (TypeDone OfName) fs) v = refl
value_worded (at (InNode (Fresh b)) fs) v = refl
value_worded (at p fs) v = refl

pub after_string : (c : Control) (v : Text) (d : Control) → step c (string v) ≡ Some d → worded d ≡ true
after_string c v d e = ap is_worded (sym e) ∙ string_worded c v

pub after_value : (c : Control) (v : Value) (d : Control) → step c (value v) ≡ Some d → worded d ≡ true
after_value c v d e = ap is_worded (sym e) ∙ value_worded c v

-- what ends what is under way goes on with none
word_fits : (p : Phase) (fs : List Frame) → worded (at p fs) ≡ true → (starts is_identifier_char (rest_text p fs) ≡ false) × (begins 34 (rest_text p fs) ≡ false)
word_fits (InNode (Fresh b)) fs w = (closing_class fs, closing_quote fs)
word_fits (TypeName b) fs w = (no_right, refl)
word_fits p fs w = absurd cc

fits_rest : (c : Control) (k : Token) (p : Phase) (fs : List Frame) → step c k ≡ Some (at p fs) → Fits k (rest_text p fs)
fits_rest c (string v) p fs e = word_fits p fs (after_string c v (at p fs) e)
fits_rest c (value v) p fs e = (word_fits p fs (after_value c v (at p fs) e)).0
fits_rest c k p fs e = tt

pub goes_length : {S : Type 0} {turn : S → Token → Option S} {c d : S} {s r : Text} → GoesBy turn c s d r → length r ≤ length s
goes_length here = omega arith
goes_length (goes t e g) = omega (arith, token_shorter t, goes_length g)

pub record Carried {S : Type 0} (turn : S → Token → Option S) (c : S) (s : Text) (d : S) (r u : Text) : Type 0 where
  pub at : Put s r
  pub glue : Text
  pub there : GoesBy turn c (at.put (glue ++ u)) d u

-- what the machine goes over it goes over before another rest too, that goes on with no token
module _ {S : Type 0} {turn : S → Token → Option S} {d : S} {r : Text} (u : Text) (no_feed' : begins 10 u ≡ false) (fits : (c : S) (k : Token) → turn c k ≡ Some d → Fits k u) where
  onwards : {c c' : S} {s t : Text} {k : Token} → BeginsToken s k t → turn c k ≡ Some c' → GoesBy turn c' t d r → Carried turn c' t d r u → Carried turn c s d r u
  onwards {c = c} {k = k} b e here x = let m = last_token b u no_feed' (fits c k e) in record { at = m.at; glue = m.glue; there = goes m.there e here }
  onwards b e (goes b' e' g) x =
      let y = full_of x.at (omega (arith, token_shorter b', goes_length g)) (x.glue ++ u) in
      let m = near b (x.at.put (x.glue ++ u)) y in
      record { at = joined m.at x.at; glue = x.glue; there = goes m.there e x.there }

  pub carry : {c : S} {s : Text} → GoesBy turn c s d r → Carried turn c s d r u
  carry here = record { at = stands; glue = []; there = here }
  carry (goes b e g) = onwards b e g (carry g)

pub record Reads (c : Control) (s : Text) : Type 0 where
  pub tokens : List Token
  pub lexed : Lexes s tokens
  pub accepted : accepts c tokens ≡ true

pub reads : {c d : Control} {s r : Text} → Goes c s d r → {ks : List Token} → Lexes r ks → accepts d ks ≡ true → Reads c s
reads here {ks = ks} l a = record { tokens = ks; lexed = l; accepted = a }
reads (goes {k = k} b e g) l a =
    let x = reads g l a in
    record { tokens = k ∷ x.tokens; lexed = next b x.lexed; accepted = ap (held (λ c. accepts c x.tokens)) e ∙ x.accepted }

-- the text before r begins a text that is derived
pub record Viable (t r : Text) : Type 0 where
  pub before : Text
  pub text : t ≡ before ++ r
  pub following : Text
  pub nodes : Nodes
  pub derived : AreNodes true (before ++ following) [] nodes

-- Wherever the machine goes in a text, what it went over begins a text that is derived.
pub viable : {t r : Text} {d : Control} → Goes (at Gap []) t d r → Viable t r
viable {r = r} {d = at p fs} g =
    let u = rest_text p fs in
    let x = carry u (no_feed p fs) (λ c k e. fits_rest c k p fs e) g in
    let y = reads x.there (lexes_rest p fs) (ends p fs) in
    let z = derives y.lexed y.accepted in
    record { before = x.at.piece; text = x.at.here ∙ x.at.text r; following = x.glue ++ u; nodes = z.0; derived = subst (λ (s : Text). AreNodes true s [] z.0) (x.at.text (x.glue ++ u)) z.1 }
