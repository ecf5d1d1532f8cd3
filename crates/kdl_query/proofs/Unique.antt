-- A text has at most one tree as a query; each piece of a query begins a text in one way at most.
use Rattle.std.proofs.Common.{◌≡◌, ◌⊎◌, inl, inr, ℕ, [], ◌∷◌, ◌++◌, true, false, codes, refl, sym, ap, subst}
use Rattle.kdl_text.specs.Chars.{Newline, Text, begins, starts, is_space, is_newline_char, is_banned, is_punctuation, is_identifier_char}
use Rattle.std.proofs.lemmas.Bool.{and_parts}
use Rattle.kdl_text.specs.Bare.{BareString, bare, is_bare}
use Rattle.kdl_text.specs.Strings.{Run}
use Rattle.kdl_text.proofs.Looking.Stars.{longest_det}
use Rattle.kdl_text.proofs.Quoted.StringUnique.{is_quoted_begins, is_raw_begins}
use Rattle.kdl_text.proofs.Quoted.UnitUnique.{run_det}
use Rattle.kdl_text.proofs.Numeric.NumberUnique.{whole_number_det}
use Rattle.kdl_text.specs.Trivia.{EscEnd, Escline, NodeSpace}
use Rattle.kdl_text.specs.Trivia.Break.{newline as break_newline}
use Rattle.kdl_text.proofs.Spacing.NewlineUnique.{newline_det}
use Rattle.kdl_text.proofs.Spacing.SpaceUnique.{node_space_det, space_or_break}
use Rattle.kdl_value.specs.Data.{Value, text}
use Rattle.kdl_syntax.specs.Pieces as piece
use Rattle.kdl_syntax.specs.Pieces.{StringPiece, PlainPiece}
use Rattle.kdl_syntax.proofs.Lexing.StringUnique.{begins_piece, string_det, string_begins, string_or_plain, plain_det, plain_begins, quote_identifier, sign_identifier}
use Rattle.kdl_query.specs.Data.{Accessor, NodeTest, Query, Selector, Test, TypeTest, argument, of_type, property, start, then, value, type_named}
use Rattle.kdl_query.specs.QueryText.{After, AfterAccessor, AreTests, IsAccessor, IsComparison, IsFirst, IsIndex, IsKey, IsLiteral, IsName, IsNode, IsOperator, IsQuery, IsTest, IsType, QuerySpace, Spaces, ends_type}
use Rattle.kdl_query.specs.declared.tree.Combinator.{Combinator}
use Rattle.kdl_query.specs.declared.tree.Comparison.{Comparison}

-- a piece begins each text in one way at most
abbrev pub Det : {A : Type 0} → (Text → Text → A → Type 0) → Type 0
Det {A = A} X = (s r t : Text) (x y : A) → X s r x → X s t y → (r ≡ t) × (x ≡ y)

-- the same where the two texts are equal
pub same_at : {A : Type 0} (X : Text → Text → A → Type 0) → Det X → (s t u v : Text) (x y : A) → s ≡ t → X s u x → X t v y → (u ≡ v) × (x ≡ y)
same_at X d s t u v x y e a b = d s u v x y a (subst (λ z. X z v y) (sym e) b)

-- spaces
pub in_document : {s r : Text} → QuerySpace s r → NodeSpace s r ⊎ Newline s r
in_document (QuerySpace.ws w) = inl (NodeSpace.ws w)
in_document (QuerySpace.newline n) = inr n
in_document (QuerySpace.escline a n) = inl (NodeSpace.escline (Escline.escline a (EscEnd.newline n)))
in_document (QuerySpace.last_escline a) = inl (NodeSpace.escline (Escline.escline a EscEnd.ends))

pub query_space_det : {s r t : Text} → QuerySpace s r → QuerySpace s t → r ≡ t
query_space_det p q = go (in_document p) (in_document q)
  where
    go : {s r t : Text} → NodeSpace s r ⊎ Newline s r → NodeSpace s t ⊎ Newline s t → r ≡ t
    go (inl p) (inl q) = node_space_det p q
    go (inl p) (inr n) = absurd (space_or_break p (break_newline n))
    go (inr n) (inl p) = absurd (space_or_break p (break_newline n))
    go (inr n) (inr m) = newline_det n m

pub spaces_det : {s r t : Text} → Spaces s r → Spaces s t → r ≡ t
spaces_det a b = longest_det (λ s r t p q. query_space_det p q) a.run a.stops b.run b.stops

pub spaces_at : (s t u v : Text) → s ≡ t → Spaces s u → Spaces t v → u ≡ v
spaces_at s t u v e a b = spaces_det a (subst (λ z. Spaces z v) (sym e) b)

-- the rest after spaces and a character
pub closes_at : (c : ℕ) (s t u v : Text) → s ≡ t → Spaces s (c ∷ u) → Spaces t (c ∷ v) → u ≡ v
closes_at c s t u v e a b = let f = spaces_at s t (c ∷ u) (c ∷ v) e a b in cc

-- no name begins with this character
pub no_name_at : (c : ℕ) (s r v : Text) → begins_piece c ≡ false → IsName (c ∷ s) r v → ⊥
no_name_at c s r v h n = let f : begins_piece c ≡ true = string_begins n.string in cc

pub no_plain_at : (c : ℕ) (s r : Text) (v : Value) → begins_piece c ≡ false → PlainPiece (c ∷ s) r v → ⊥
no_plain_at c s r v h n = let f : begins_piece c ≡ true = plain_begins n in cc

pub right_no_piece : begins_piece 41 ≡ false
unfolding is_identifier_char is_space is_newline_char is_banned is_punctuation
right_no_piece = refl

pub left_no_piece : begins_piece 40 ≡ false
unfolding is_identifier_char is_space is_newline_char is_banned is_punctuation
left_no_piece = refl

pub bracket_no_piece : begins_piece 91 ≡ false
unfolding is_identifier_char is_space is_newline_char is_banned is_punctuation
bracket_no_piece = refl

pub closing_no_piece : begins_piece 93 ≡ false
unfolding is_identifier_char is_space is_newline_char is_banned is_punctuation
closing_no_piece = refl

no_name_there : (c : ℕ) (s t r v : Text) → begins_piece c ≡ false → c ∷ s ≡ t → IsName t r v → ⊥
no_name_there c s t r v h e n = no_name_at c s r v h (subst (λ z. IsName z r v) (sym e) n)

pub name_det : Det IsName
name_det s r t v w a b = string_det a.string b.string

pub type_det : Det IsType
type_det s r t x y (IsType.any a) (IsType.any b) = (closes_at 41 _ _ r t refl a b, refl)
type_det s r t x y (IsType.any a) (IsType.named b n c) = absurd (no_name_there 41 r _ _ _ right_no_piece (spaces_det a b) n)
type_det s r t x y (IsType.named b n c) (IsType.any a) = absurd (no_name_there 41 t _ _ _ right_no_piece (spaces_det a b) n)
type_det s r t x y (IsType.named a n c) (IsType.named b m d) = let (e, f) = same_at IsName name_det _ _ _ _ _ _ (spaces_det a b) n m in (closes_at 41 _ _ r t e c d, ap type_named f)

pub index_det : Det IsIndex
index_det s r t i j a b = let (e, f) = whole_number_det a.number b.number in (e, cc)

no_index_there : (s t r : Text) (i : ℕ) → 41 ∷ s ≡ t → IsIndex t r i → ⊥
no_index_there s t r i e n = let h = (subst (λ z. IsIndex z r i) (sym e) n).unsigned in cc

key_det : Det IsKey
key_det s r t v w a b = name_det s r t v w a.name b.name

-- a word before `(` is no name
bare_run : {s r w : Text} → BareString s r w → Run is_identifier_char s r
unfolding is_bare
bare_run (bare {w = w} e x y) = record { run = w; text = e; all = (and_parts _ _ x).0; stops = y }

pub function_no_name : (t q r v : Text) → Run is_identifier_char t (40 ∷ q) → starts is_identifier_char t ≡ true → IsName t r v → ⊥
function_no_name t q r v run h n = go n.string n.no_function
  where
    go : StringPiece t r v → begins 40 r ≡ false → ⊥
    go (piece.bare b) k = let e : 40 ∷ q ≡ r = run_det run (bare_run b) in let f : begins 40 r ≡ true = subst (λ z. begins 40 z ≡ true) e refl in cc
    go (piece.quoted x) k = quote_identifier t (is_quoted_begins x) h
    go (piece.raw x) k = sign_identifier t (is_raw_begins x) h

pub no_key_val : (s r v : Text) → IsName (codes "val(" ++ s) r v → ⊥
unfolding is_identifier_char is_space is_newline_char is_banned is_punctuation
no_key_val s r v n = function_no_name (codes "val(" ++ s) s r v (record { run = codes "val"; text = refl; all = refl; stops = refl }) refl n

pub no_key_prop : (s r v : Text) → IsName (codes "prop(" ++ s) r v → ⊥
unfolding is_identifier_char is_space is_newline_char is_banned is_punctuation
no_key_prop s r v n = function_no_name (codes "prop(" ++ s) s r v (record { run = codes "prop"; text = refl; all = refl; stops = refl }) refl n

pub no_key_name : (s r v : Text) → IsName (codes "name(" ++ s) r v → ⊥
unfolding is_identifier_char is_space is_newline_char is_banned is_punctuation
no_key_name s r v n = function_no_name (codes "name(" ++ s) s r v (record { run = codes "name"; text = refl; all = refl; stops = refl }) refl n

pub no_key_tag : (s r v : Text) → IsName (codes "tag(" ++ s) r v → ⊥
unfolding is_identifier_char is_space is_newline_char is_banned is_punctuation
no_key_tag s r v n = function_no_name (codes "tag(" ++ s) s r v (record { run = codes "tag"; text = refl; all = refl; stops = refl }) refl n

pub no_key_values : (s r v : Text) → IsName (codes "values(" ++ s) r v → ⊥
unfolding is_identifier_char is_space is_newline_char is_banned is_punctuation
no_key_values s r v n = function_no_name (codes "values(" ++ s) s r v (record { run = codes "values"; text = refl; all = refl; stops = refl }) refl n

pub no_key_props : (s r v : Text) → IsName (codes "props(" ++ s) r v → ⊥
unfolding is_identifier_char is_space is_newline_char is_banned is_punctuation
no_key_props s r v n = function_no_name (codes "props(" ++ s) s r v (record { run = codes "props"; text = refl; all = refl; stops = refl }) refl n

pub no_name_top : (s r v : Text) → IsName (codes "top(" ++ s) r v → ⊥
unfolding is_identifier_char is_space is_newline_char is_banned is_punctuation
no_name_top s r v n = function_no_name (codes "top(" ++ s) s r v (record { run = codes "top"; text = refl; all = refl; stops = refl }) refl n

pub accessor_det : Det IsAccessor
accessor_det s r t x y (IsAccessor.first a) (IsAccessor.first b) = (closes_at 41 _ _ r t refl a b, refl)
accessor_det s r t x y (IsAccessor.first a) (IsAccessor.nth b n c) = absurd (no_index_there r _ _ _ (spaces_det a b) n)
accessor_det s r t x y (IsAccessor.nth b n c) (IsAccessor.first a) = absurd (no_index_there t _ _ _ (spaces_det a b) n)
accessor_det s r t x y (IsAccessor.nth a n c) (IsAccessor.nth b m d) = let (e, f) = same_at IsIndex index_det _ _ _ _ _ _ (spaces_det a b) n m in (closes_at 41 _ _ r t e c d, ap argument f)
accessor_det s r t x y (IsAccessor.prop a n c) (IsAccessor.prop b m d) = let (e, f) = same_at IsName name_det _ _ _ _ _ _ (spaces_det a b) n m in (closes_at 41 _ _ r t e c d, ap property f)
accessor_det s r t x y (IsAccessor.name_of a) (IsAccessor.name_of b) = (closes_at 41 _ _ r t refl a b, refl)
accessor_det s r t x y (IsAccessor.type_of a) (IsAccessor.type_of b) = (closes_at 41 _ _ r t refl a b, refl)
accessor_det s r t x y (IsAccessor.values a) (IsAccessor.values b) = (closes_at 41 _ _ r t refl a b, refl)
accessor_det s r t x y (IsAccessor.props a) (IsAccessor.props b) = (closes_at 41 _ _ r t refl a b, refl)
accessor_det s r t x y (IsAccessor.key a) (IsAccessor.key b) = let (e, f) = key_det s r t _ _ a b in (e, ap property f)
accessor_det s r t x y (IsAccessor.first a) (IsAccessor.key b) = absurd (no_key_val _ _ _ b.name)
accessor_det s r t x y (IsAccessor.nth a n c) (IsAccessor.key b) = absurd (no_key_val _ _ _ b.name)
accessor_det s r t x y (IsAccessor.prop a n c) (IsAccessor.key b) = absurd (no_key_prop _ _ _ b.name)
accessor_det s r t x y (IsAccessor.name_of a) (IsAccessor.key b) = absurd (no_key_name _ _ _ b.name)
accessor_det s r t x y (IsAccessor.type_of a) (IsAccessor.key b) = absurd (no_key_tag _ _ _ b.name)
accessor_det s r t x y (IsAccessor.values a) (IsAccessor.key b) = absurd (no_key_values _ _ _ b.name)
accessor_det s r t x y (IsAccessor.props a) (IsAccessor.key b) = absurd (no_key_props _ _ _ b.name)
accessor_det s r t x y (IsAccessor.key b) (IsAccessor.first a) = absurd (no_key_val _ _ _ b.name)
accessor_det s r t x y (IsAccessor.key b) (IsAccessor.nth a n c) = absurd (no_key_val _ _ _ b.name)
accessor_det s r t x y (IsAccessor.key b) (IsAccessor.prop a n c) = absurd (no_key_prop _ _ _ b.name)
accessor_det s r t x y (IsAccessor.key b) (IsAccessor.name_of a) = absurd (no_key_name _ _ _ b.name)
accessor_det s r t x y (IsAccessor.key b) (IsAccessor.type_of a) = absurd (no_key_tag _ _ _ b.name)
accessor_det s r t x y (IsAccessor.key b) (IsAccessor.values a) = absurd (no_key_values _ _ _ b.name)
accessor_det s r t x y (IsAccessor.key b) (IsAccessor.props a) = absurd (no_key_props _ _ _ b.name)

pub comparison_det : Det IsComparison
comparison_det s r t x y IsComparison.equal IsComparison.equal = (refl, refl)
comparison_det s r t x y IsComparison.not_equal IsComparison.not_equal = (refl, refl)
comparison_det s r t x y (IsComparison.greater h) (IsComparison.greater k) = (refl, refl)
comparison_det s r t x y (IsComparison.greater h) IsComparison.greater_or_equal = cc
comparison_det s r t x y IsComparison.greater_or_equal (IsComparison.greater h) = cc
comparison_det s r t x y IsComparison.greater_or_equal IsComparison.greater_or_equal = (refl, refl)
comparison_det s r t x y (IsComparison.less h) (IsComparison.less k) = (refl, refl)
comparison_det s r t x y (IsComparison.less h) IsComparison.less_or_equal = cc
comparison_det s r t x y IsComparison.less_or_equal (IsComparison.less h) = cc
comparison_det s r t x y IsComparison.less_or_equal IsComparison.less_or_equal = (refl, refl)
comparison_det s r t x y IsComparison.starts_with IsComparison.starts_with = (refl, refl)
comparison_det s r t x y IsComparison.ends_with IsComparison.ends_with = (refl, refl)
comparison_det s r t x y IsComparison.contains IsComparison.contains = (refl, refl)

type_no_name : {s r t v : Text} {x : TypeTest} → IsType s r x → IsName s t v → ⊥
type_no_name (IsType.any a) n = no_name_at 40 _ _ _ left_no_piece n
type_no_name (IsType.named a m b) n = no_name_at 40 _ _ _ left_no_piece n

type_no_plain : {s r t : Text} {x : TypeTest} {v : Value} → IsType s r x → PlainPiece s t v → ⊥
type_no_plain (IsType.any a) n = no_plain_at 40 _ _ _ left_no_piece n
type_no_plain (IsType.named a m b) n = no_plain_at 40 _ _ _ left_no_piece n

pub literal_det : Det IsLiteral
literal_det s r t x y (IsLiteral.typed a) (IsLiteral.typed b) = let (e, f) = type_det s r t _ _ a b in (e, ap of_type f)
literal_det s r t x y (IsLiteral.typed a) (IsLiteral.string b) = absurd (type_no_name a b)
literal_det s r t x y (IsLiteral.typed a) (IsLiteral.plain b) = absurd (type_no_plain a b)
literal_det s r t x y (IsLiteral.string a) (IsLiteral.typed b) = absurd (type_no_name b a)
literal_det s r t x y (IsLiteral.string a) (IsLiteral.string b) = let (e, f) = name_det s r t _ _ a b in (e, ap (λ z. value (text z)) f)
literal_det s r t x y (IsLiteral.string a) (IsLiteral.plain b) = absurd (string_or_plain a.string b)
literal_det s r t x y (IsLiteral.plain a) (IsLiteral.typed b) = absurd (type_no_plain b a)
literal_det s r t x y (IsLiteral.plain a) (IsLiteral.string b) = absurd (string_or_plain b.string a)
literal_det s r t x y (IsLiteral.plain a) (IsLiteral.plain b) = let (e, f) = plain_det a b in (e, ap value f)

no_comparison_at : (s r : Text) (c : Comparison) → IsComparison (93 ∷ s) r c → ⊥
no_comparison_at s r c d = elim d [ ]

pub after_det : (a : Accessor) → Det (AfterAccessor a)
after_det a s r t x y AfterAccessor.alone AfterAccessor.alone = (refl, refl)
after_det a s r t x y AfterAccessor.alone (AfterAccessor.compared c p l h q) = absurd (no_comparison_at _ _ _ c)
after_det a s r t x y (AfterAccessor.compared c p l h q) AfterAccessor.alone = absurd (no_comparison_at _ _ _ c)
after_det a s r t x y (AfterAccessor.compared {t = u} {u = v} {v = w} {c = c} {l = l} b p m h q) (AfterAccessor.compared {t = u'} {u = v'} {v = w'} {c = c'} {l = l'} b' p' m' h' q') =
    let (e, f) = comparison_det s u u' c c' b b' in
    let (g, k) = same_at IsLiteral literal_det v v' w w' l l' (spaces_at u u' v v' e p p') m m' in
    (closes_at 93 w w' r t g q q', cc)

pub no_accessor_there : (s t r : Text) (a : Accessor) → 93 ∷ s ≡ t → IsAccessor t r a → ⊥
no_accessor_there s t r a e d = go r a (subst (λ z. IsAccessor z r a) (sym e) d)
  where
    go : (r : Text) (a : Accessor) → IsAccessor (93 ∷ s) r a → ⊥
    go r a (IsAccessor.key b) = no_name_at 93 s r _ closing_no_piece b.name

pub test_det : Det IsTest
test_det s r t x y (IsTest.nothing a) (IsTest.nothing b) = (closes_at 93 _ _ r t refl a b, refl)
test_det s r t x y (IsTest.nothing a) (IsTest.something b c d e) = absurd (no_accessor_there r _ _ _ (spaces_det a b) c)
test_det s r t x y (IsTest.something b c d e) (IsTest.nothing a) = absurd (no_accessor_there t _ _ _ (spaces_det a b) c)
test_det s r t x y (IsTest.something {t = u} {u = v} {v = w} {a = a} p c q d) (IsTest.something {t = u'} {u = v'} {v = w'} {a = a'} p' c' q' d') =
    let (e, f) = same_at IsAccessor accessor_det u u' v v' a a' (spaces_det p p') c c' in
    same_at (AfterAccessor a) (after_det a) w w' r t x y (spaces_at v v' w w' e q q') d (subst (λ z. AfterAccessor z w' t y) (sym f) d')

test_begins : {s r : Text} {x : Test} → IsTest s r x → begins 91 s ≡ true
test_begins (IsTest.nothing a) = refl
test_begins (IsTest.something a b c d) = refl

pub tests_det : Det AreTests
tests_det s r t xs ys (AreTests.none h) (AreTests.none k) = (refl, refl)
tests_det s r t xs ys (AreTests.none h) (AreTests.more a b) = let k = test_begins a in cc
tests_det s r t xs ys (AreTests.more a b) (AreTests.none h) = let k = test_begins a in cc
tests_det s r t xs ys (AreTests.more {t = u} {x = x} {xs = us} a b) (AreTests.more {t = u'} {x = x'} {xs = vs} a' b') =
    let (e, f) = test_det s u u' x x' a a' in
    let (g, h) = tests_det u r t us vs b (subst (λ z. AreTests z t vs) (sym e) b') in
    (g, cc)

test_no_type : {s r t : Text} {x : Test} {y : TypeTest} → IsTest s r x → IsType s t y → ⊥
test_no_type (IsTest.nothing a) b = elim b [ ]
test_no_type (IsTest.something a b c d) e = elim e [ ]

test_no_name : {s r t v : Text} {x : Test} → IsTest s r x → IsName s t v → ⊥
test_no_name (IsTest.nothing a) n = no_name_at 91 _ _ _ bracket_no_piece n
test_no_name (IsTest.something a b c d) n = no_name_at 91 _ _ _ bracket_no_piece n

apart_at : (s t : Text) → s ≡ t → ends_type s ≡ true → ends_type t ≡ false → ⊥
apart_at s t e h k = let f : ends_type s ≡ ends_type t = ap ends_type e in cc

pub node_det : Det IsNode
node_det s r t x y (IsNode.tested {t = u} {x = z} {xs = us} a b) (IsNode.tested {t = u'} {x = z'} {xs = vs} a' b') =
    let (e, f) = test_det s u u' z z' a a' in
    let (g, h) = same_at AreTests tests_det u u' r t us vs e b b' in
    (g, cc)
node_det s r t x y (IsNode.tested a b) (IsNode.named c d) = absurd (test_no_name a c)
node_det s r t x y (IsNode.tested a b) (IsNode.typed c h d) = absurd (test_no_type a c)
node_det s r t x y (IsNode.tested a b) (IsNode.both c h n d) = absurd (test_no_type a c)
node_det s r t x y (IsNode.named c d) (IsNode.tested a b) = absurd (test_no_name a c)
node_det s r t x y (IsNode.named {t = u} {v = v} {xs = us} a b) (IsNode.named {t = u'} {v = w} {xs = vs} a' b') =
    let (e, f) = name_det s u u' v w a a' in
    let (g, h) = same_at AreTests tests_det u u' r t us vs e b b' in
    (g, cc)
node_det s r t x y (IsNode.named a b) (IsNode.typed c h d) = absurd (type_no_name c a)
node_det s r t x y (IsNode.named a b) (IsNode.both c h n d) = absurd (type_no_name c a)
node_det s r t x y (IsNode.typed c h d) (IsNode.tested a b) = absurd (test_no_type a c)
node_det s r t x y (IsNode.typed c h d) (IsNode.named a b) = absurd (type_no_name c a)
node_det s r t x y (IsNode.typed {t = u} {y = z} {xs = us} a h b) (IsNode.typed {t = u'} {y = z'} {xs = vs} a' h' b') =
    let (e, f) = type_det s u u' z z' a a' in
    let (g, k) = same_at AreTests tests_det u u' r t us vs e b b' in
    (g, cc)
node_det s r t x y (IsNode.typed {t = u} {y = z} a h b) (IsNode.both {t = u'} {y = z'} a' h' n' b') = absurd (apart_at u u' (type_det s u u' z z' a a').0 h h')
node_det s r t x y (IsNode.both c h n d) (IsNode.tested a b) = absurd (test_no_type a c)
node_det s r t x y (IsNode.both c h n d) (IsNode.named a b) = absurd (type_no_name c a)
node_det s r t x y (IsNode.both {t = u} {y = z} a h n b) (IsNode.typed {t = u'} {y = z'} a' h' b') = absurd (apart_at u' u (type_det s u' u z' z a' a).0 h' h)
node_det s r t x y (IsNode.both {t = u} {u = v} {v = w} {y = z} {xs = us} a h n b) (IsNode.both {t = u'} {u = v'} {v = w'} {y = z'} {xs = vs} a' h' n' b') =
    let (e, f) = type_det s u u' z z' a a' in
    let (g, k) = same_at IsName name_det u u' v v' w w' e n n' in
    let (i, j) = same_at AreTests tests_det v v' r t us vs g b b' in
    (i, cc)

pub no_node_top : (s r : Text) (n : NodeTest) → IsNode (codes "top(" ++ s) r n → ⊥
no_node_top s r n (IsNode.tested a b) = elim a [ ]
no_node_top s r n (IsNode.named a b) = no_name_top s _ _ a
no_node_top s r n (IsNode.typed a h b) = elim a [ ]
no_node_top s r n (IsNode.both a h m b) = elim a [ ]

pub first_det : Det IsFirst
first_det s r t x y (IsFirst.document a) (IsFirst.document b) = (closes_at 41 _ _ r t refl a b, refl)
first_det s r t x y (IsFirst.document a) (IsFirst.a_node b) = absurd (no_node_top _ _ _ b)
first_det s r t x y (IsFirst.a_node b) (IsFirst.document a) = absurd (no_node_top _ _ _ b)
first_det s r t x y (IsFirst.a_node {n = n} a) (IsFirst.a_node {n = m} b) = let (e, f) = node_det s r t n m a b in (e, ap start f)

pub operator_det : Det IsOperator
operator_det s r t x y (IsOperator.child h) (IsOperator.child k) = (refl, refl)
operator_det s r t x y (IsOperator.child h) IsOperator.descendant = cc
operator_det s r t x y IsOperator.descendant (IsOperator.child h) = cc
operator_det s r t x y IsOperator.descendant IsOperator.descendant = (refl, refl)
operator_det s r t x y (IsOperator.next_sibling h) (IsOperator.next_sibling k) = (refl, refl)
operator_det s r t x y (IsOperator.next_sibling h) IsOperator.later_sibling = cc
operator_det s r t x y IsOperator.later_sibling (IsOperator.next_sibling h) = cc
operator_det s r t x y IsOperator.later_sibling IsOperator.later_sibling = (refl, refl)

pub no_operator_end : (s r : Text) (c : Combinator) → [] ≡ s → IsOperator s r c → ⊥
no_operator_end s r c e d = go (subst (λ z. IsOperator z r c) (sym e) d)
  where
    go : IsOperator [] r c → ⊥
    go d = elim d [ ]

pub no_operator_or : (t s r : Text) (c : Combinator) → codes "||" ++ t ≡ s → IsOperator s r c → ⊥
no_operator_or t s r c e d = go (subst (λ z. IsOperator z r c) (sym e) d)
  where
    go : IsOperator (codes "||" ++ t) r c → ⊥
    go d = elim d [ ]

pub no_or_end : (s : Text) → [] ≡ codes "||" ++ s → ⊥
no_or_end s e = cc

pub or_same : (s t : Text) → codes "||" ++ s ≡ codes "||" ++ t → s ≡ t
or_same s t e = cc

-- what follows the same selector is the same
pub rest_det : {s : Selector} {t : Text} {p q : Query} → After s t p → After s t q → p ≡ q
rest_det (After.ends a) (After.ends b) = refl
rest_det (After.ends a) (After.step b c d e f) = absurd (no_operator_end _ _ _ (spaces_det a b) c)
rest_det (After.ends a) (After.or b c d e) = absurd (no_or_end _ (spaces_det a b))
rest_det (After.step b c d e f) (After.ends a) = absurd (no_operator_end _ _ _ (spaces_det a b) c)
rest_det {s = s} {q = q'} (After.step {u = u} {v = v} {w = w} {r = r} {c = c} {n = n} {q = q} a o b m f) (After.step {u = u'} {v = v'} {w = w'} {r = r'} {c = c'} {n = n'} a' o' b' m' f') =
    let (e, g) = same_at IsOperator operator_det u u' v v' c c' (spaces_det a a') o o' in
    let (h, k) = same_at IsNode node_det w w' r r' n n' (spaces_at v v' w w' e b b') m m' in
    rest_det f (subst (λ z. After (then s c n) z q') (sym h) (subst (λ z. After (then s z n) r' q') (sym g) (subst (λ z. After (then s c' z) r' q') (sym k) f')))
rest_det (After.step b c d e f) (After.or a g h i) = absurd (no_operator_or _ _ _ _ (spaces_det a b) c)
rest_det (After.or b c d e) (After.ends a) = absurd (no_or_end _ (spaces_det a b))
rest_det (After.or a g h i) (After.step b c d e f) = absurd (no_operator_or _ _ _ _ (spaces_det a b) c)
rest_det {s = s} (After.or {x = x} {u = u} {v = v} {r = r} a b c f) (After.or {x = x'} {u = u'} {v = v'} {r = r'} {q = q'} a' b' c' f') =
    let (e, g) = same_at IsFirst first_det v v' r r' x x' (spaces_at u u' v v' (or_same u u' (spaces_det a a')) b b') c c' in
    ap (λ z. s ∷ z) (rest_det f (subst (λ z. After x z q') (sym e) (subst (λ z. After z r' q') (sym g) f')))

-- a text has at most one tree
pub query_det : {t : Text} {p q : Query} → IsQuery t p → IsQuery t q → p ≡ q
query_det {q = q} (IsQuery.query {u = u} {r = r} {s = s} a b c) (IsQuery.query {u = u'} {r = r'} {s = s'} a' b' c') =
    let (e, f) = same_at IsFirst first_det u u' r r' s s' (spaces_det a a') b b' in
    rest_det c (subst (λ z. After s z q) (sym e) (subst (λ z. After z r' q) (sym f) c'))
