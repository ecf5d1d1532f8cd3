-- Printed types, accessors, literals and tests are read back.
use Rattle.std.proofs.Common.{◌≡◌, ℕ, zero, suc, ◌<◌, ◌^◌, ℤ, pos, Bool, true, false, ◌||◌, ◌==◌, List, [], ◌∷◌, ◌++◌, length, refl, sym, ap, ◌∙◌, subst, arith, append_assoc}
use Rattle.std.proofs.lemmas.Bool.Decides.{nat_tests}
use Rattle.std.proofs.lemmas.Fmt.{decimal_is_IsNumeral_wide}
use Rattle.std.specs.Fmt.{decimal}
use Rattle.std.specs.Int.{w128}
use Rattle.std.specs.List.{AllByRecursion, flat_map}
use Rattle.std.specs.Prelude.{FitsSigned, None, if◌then◌else◌}
use Rattle.std.specs.Str.Parse.{AllDigits, digits_value}
use Rattle.kdl_text.specs.Chars.{Star, Text, begins, is_banned, is_digit, is_identifier_char, is_newline_char, is_punctuation, is_space, starts}
use Rattle.kdl_text.specs.Chars.Space.{space as space_char}
use Rattle.kdl_text.specs.Numbers.{WholeNumber, base_of, base_prefix, decimal_text, fits as number_fits, is_decimal, is_whole, signed, whole, whole_value}
use Rattle.kdl_text.specs.declared.numbers.Keyword.{Keyword}
use Rattle.kdl_text.specs.declared.numbers.Keyword.TheVariants.{True, False, Null, Infinity, NegativeInfinity, NotANumber}
use Rattle.kdl_text.specs.Trivia.{BlockComment, ValueEnd}
use Rattle.kdl_text.specs.Trivia.Ws.{space as ws_space, comment as ws_comment}
use Rattle.kdl_text.proofs.Spacing.SpaceUnique.{newline_begins}
use Rattle.kdl_value.specs.Data.{Value, text, integer, float, truth, null}
use Rattle.kdl_value.specs.Print.{print_value}
use Rattle.kdl_value.specs.WellFormed.{IsWellFormed}
use Rattle.kdl_value.proofs.Spelling.NumberReadsBack.{printed_number}
use Rattle.kdl_syntax.specs.Pieces.{PlainPiece, keyword, keyword_value, number}
use Rattle.kdl_syntax.proofs.Lexing.StringUnique.{begins_piece, plain_begins, string_begins}
use Rattle.kdl_syntax.proofs.Moving.PieceMoves.{move_plain_piece}
use Rattle.kdl_syntax.proofs.Moving.Puts.{same_piece}
use Rattle.kdl_entry.specs.Entries.{IsPlainValue, a_string, a_plain}
use Rattle.kdl_entry.proofs.Laying.ValueReadsBack.{printed_value}
use Rattle.kdl_query.specs.Data.{Accessor, Literal, Test, TypeTest, always, argument, arguments, compares, has, name, properties, property, some_type, ty, type_named, value}
use Rattle.kdl_query.specs.Printed.{print_accessor, print_compared, print_comparison, print_literal, print_name, print_test, print_type}
use Rattle.kdl_query.specs.QueryText.{AfterAccessor, AreTests, IsAccessor, IsComparison, IsIndex, IsLiteral, IsTest, IsType, QuerySpace, Spaces, is_allowed}
use Rattle.kdl_query.specs.declared.tree.Comparison.{Comparison}
use Rattle.kdl_query.specs.declared.tree.Comparison.TheVariants.{Equal, NotEqual, Greater, GreaterOrEqual, Less, LessOrEqual, StartsWith, EndsWith, Contains}
use Rattle.kdl_query.proofs.Printing.Held.{AccessorHeld, LiteralHeld, NameHeld, TestHeld, TypeHeld, ValueHeld}
use Rattle.kdl_query.proofs.Printing.Names.{Ends, ends_at, is_front, name_front, name_is}

-- a character with which a space may begin
abbrev pub is_spacing : ℕ → Bool
is_spacing c = (is_space c || is_newline_char c) || (c == 47 || c == 92)

no_space_here : (s t : Text) → starts is_spacing s ≡ false → QuerySpace s t → ⊥
no_space_here s t h (QuerySpace.ws (ws_space (space_char x))) = grind (arith, nat_tests)
no_space_here s t h (QuerySpace.ws (ws_comment (BlockComment.block b))) = grind (arith, nat_tests)
no_space_here s t h (QuerySpace.escline a n) = grind (arith, nat_tests)
no_space_here s t h (QuerySpace.last_escline a) = grind (arith, nat_tests)
no_space_here s t h (QuerySpace.newline n) = go s h (newline_begins n)
  where
    go : (s : Text) → starts is_spacing s ≡ false → starts is_newline_char s ≡ true → ⊥
    go [] h k = cc
    go (c ∷ s) h k = grind (arith, nat_tests)

-- no spaces, and one space
pub none_here : (s : Text) → starts is_spacing s ≡ false → Spaces s s
none_here s h = record { run = Star.none; stops = λ t p. no_space_here s t h p }

pub one_here : (s : Text) → starts is_spacing s ≡ false → Spaces (32 ∷ s) s
unfolding is_space
one_here s h = record { run = Star.more (QuerySpace.ws (ws_space (space_char refl))) Star.none; stops = λ t p. no_space_here s t h p }

front_no_space : (c : ℕ) → is_front c ≡ true → is_spacing c ≡ false
unfolding is_identifier_char is_space is_newline_char is_banned is_punctuation
front_no_space c h = grind (arith, nat_tests)

at_front : (s : Text) → starts is_front s ≡ true → starts is_spacing s ≡ false
at_front [] h = refl
at_front (c ∷ s) h = front_no_space c h

-- pieces begin with no space
piece_no_space : (s : Text) → starts begins_piece s ≡ true → starts is_spacing s ≡ false
unfolding is_identifier_char is_space is_newline_char is_banned is_punctuation
piece_no_space [] h = refl
piece_no_space (c ∷ s) h = grind (arith, nat_tests)

at_left : {s r : Text} {t : TypeTest} → IsType s r t → starts is_spacing s ≡ false
unfolding is_space is_newline_char
at_left (IsType.any a) = refl
at_left (IsType.named a b c) = refl

at_name : (v r : Text) → starts is_spacing (print_name v ++ r) ≡ false
at_name v r = at_front (print_name v ++ r) (name_front v r)

at_right : (r : Text) → starts is_spacing (41 ∷ r) ≡ false
unfolding is_space is_newline_char
at_right r = refl

at_bracket : (r : Text) → starts is_spacing (93 ∷ r) ≡ false
unfolding is_space is_newline_char
at_bracket r = refl

-- types
pub type_is : (t : TypeTest) (r : Text) → TypeHeld t → IsType (print_type t ++ r) r t
type_is some_type r h = IsType.any (none_here (41 ∷ r) (at_right r))
type_is (type_named v) r h =
    rw append_assoc (IsType.named (none_here _ (at_name v (41 ∷ r))) (name_is v (41 ∷ r) h (ends_at 41 r refl)) (none_here (41 ∷ r) (at_right r)))

-- indexes
digit_class : (c : ℕ) → AllDigits 10 (c ∷ []) → (is_digit c ≡ true) × (base_of c ≡ None)
digit_class c h = (grind (arith, nat_tests, h.0), grind (arith, nat_tests, h.0))

no_base : (c d : ℕ) (s : Text) → base_of d ≡ None → base_prefix (c ∷ d ∷ s) ≡ None
no_base c d s h = go (c == 48)
  where
    go : (b : Bool) → (if b then base_of d else None) ≡ None
    go true = h
    go false = refl

digits_decimal : (ds r : Text) → 0 < length ds → AllDigits 10 ds → (starts is_digit (ds ++ 41 ∷ r) ≡ true) × (base_prefix (ds ++ 41 ∷ r) ≡ None)
digits_decimal [] r some h = absurd (omega arith)
digits_decimal (c ∷ []) r some h = ((digit_class c (h.0, tt)).0, no_base c 41 r refl)
digits_decimal (c ∷ d ∷ ds) r some h = ((digit_class c (h.0, tt)).0, no_base c d (ds ++ 41 ∷ r) (digit_class d (h.1.0, tt)).1)

few : (n : ℕ) → n < 2 ^ 64 → n < 10 ^ 64
few n h = omega arith

wide : (n : ℕ) → n < 2 ^ 64 → FitsSigned w128 (pos n)
wide n h = record { sfits = omega arith }

digit_no_space : (s : Text) → starts is_digit s ≡ true → starts is_spacing s ≡ false
unfolding is_space is_newline_char
digit_no_space [] h = refl
digit_no_space (c ∷ s) h = grind (arith, nat_tests)

index_is : (i : ℕ) (r : Text) → i < 2 ^ 64 → IsIndex (decimal i ++ 41 ∷ r) (41 ∷ r) i
index_is i r h =
    let d = decimal_is_IsNumeral_wide i (few i h) in
    let p = digits_decimal (decimal i) r d.0.0 d.0.1 in
    record { number = printed_number (41 ∷ r) (ends_at 41 r refl).identifier (pos i) (wide i h); unsigned = p.0; decimal = p.1; fits = h }

at_index : (i : ℕ) (r : Text) → i < 2 ^ 64 → starts is_spacing (decimal i ++ 41 ∷ r) ≡ false
at_index i r h = digit_no_space (decimal i ++ 41 ∷ r) (index_is i r h).unsigned

key_is : (v r : Text) → NameHeld v → Ends r → IsAccessor (print_name v ++ r) r (property v)
key_is v r h e = IsAccessor.key (record { name = name_is v r h e; apart = λ k b p c i. let f = e.equals in absurd cc })

-- accessors
pub accessor_is : (a : Accessor) (s t r : Text) → IsAccessor s t a → AccessorHeld a → Ends r → IsAccessor (print_accessor a ++ r) r a
accessor_is a s t r (IsAccessor.first b) h e = IsAccessor.first (none_here (41 ∷ r) (at_right r))
accessor_is a s t r (IsAccessor.nth {i = zero} b n c) h e = IsAccessor.first (none_here (41 ∷ r) (at_right r))
accessor_is a s t r (IsAccessor.nth {i = suc i} b n c) h e = rw append_assoc (IsAccessor.nth (none_here _ (at_index (suc i) r n.fits)) (index_is (suc i) r n.fits) (none_here (41 ∷ r) (at_right r)))
accessor_is a s t r (IsAccessor.prop {v = v} b n c) h e = key_is v r h e
accessor_is a s t r (IsAccessor.name_of b) h e = IsAccessor.name_of (none_here (41 ∷ r) (at_right r))
accessor_is a s t r (IsAccessor.type_of b) h e = IsAccessor.type_of (none_here (41 ∷ r) (at_right r))
accessor_is a s t r (IsAccessor.values b) h e = IsAccessor.values (none_here (41 ∷ r) (at_right r))
accessor_is a s t r (IsAccessor.props b) h e = IsAccessor.props (none_here (41 ∷ r) (at_right r))
accessor_is a s t r (IsAccessor.key {v = v} k) h e = key_is v r h e

-- comparisons
pub comparison_is : (c : Comparison) (r : Text) → IsComparison (print_comparison c ++ 32 ∷ r) (32 ∷ r) c
comparison_is Equal r = IsComparison.equal
comparison_is NotEqual r = IsComparison.not_equal
comparison_is Greater r = IsComparison.greater refl
comparison_is GreaterOrEqual r = IsComparison.greater_or_equal
comparison_is Less r = IsComparison.less refl
comparison_is LessOrEqual r = IsComparison.less_or_equal
comparison_is StartsWith r = IsComparison.starts_with
comparison_is EndsWith r = IsComparison.ends_with
comparison_is Contains r = IsComparison.contains

at_comparison : (c : Comparison) (r : Text) → starts is_spacing (print_comparison c ++ r) ≡ false
unfolding is_space is_newline_char
at_comparison Equal r = refl
at_comparison NotEqual r = refl
at_comparison Greater r = refl
at_comparison GreaterOrEqual r = refl
at_comparison Less r = refl
at_comparison LessOrEqual r = refl
at_comparison StartsWith r = refl
at_comparison EndsWith r = refl
at_comparison Contains r = refl

-- values that are no strings
whole_fits : {t r : Text} {z : ℤ} → WholeNumber t r z → FitsSigned w128 z
whole_fits (whole {w = w} {negative = negative} {radix = radix} a b i e f g) = subst (FitsSigned w128) (sym g) (go negative (digits_value radix w) f)
  where
    go : (negative : Bool) (n : ℕ) → number_fits negative n ≡ true → FitsSigned w128 (signed negative n)
    go false n h = record { sfits = grind (arith, nat_tests) }
    go true zero h = record { sfits = omega arith }
    go true (suc n) h = record { sfits = grind (arith, nat_tests) }

-- no number and no keyword is a string
no_text : {s t : Text} {v : Value} → PlainPiece s t v → (x : Text) → v ≡ text x → ⊥
no_text (number {n = whole_value z} n e) x k = let f : integer z ≡ text x = sym e ∙ k in cc
no_text (number {n = decimal_text w} n e) x k = let f : float w ≡ text x = sym e ∙ k in cc
no_text (keyword {k = k'} k e) x h = go k' (sym e ∙ h)
  where
    go : (k : Keyword) → keyword_value k ≡ text x → ⊥
    go True h = cc
    go False h = cc
    go Null h = cc
    go Infinity h = cc
    go NegativeInfinity h = cc
    go NotANumber h = cc

integer_fits : {s t : Text} {v : Value} → PlainPiece s t v → (z : ℤ) → v ≡ integer z → FitsSigned w128 z
integer_fits (number (is_whole {z = y} w) e) z k = let f : y ≡ z = (let g : integer y ≡ integer z = sym e ∙ k in cc) in subst (FitsSigned w128) f (whole_fits w)
integer_fits (number (is_decimal {w = w} d) e) z k = let f : float w ≡ integer z = sym e ∙ k in absurd cc
integer_fits (keyword {k = k'} k e) z h = absurd (go k' (sym e ∙ h))
  where
    go : (k : Keyword) → keyword_value k ≡ integer z → ⊥
    go True h = cc
    go False h = cc
    go Null h = cc
    go Infinity h = cc
    go NegativeInfinity h = cc
    go NotANumber h = cc

well_formed : {s t : Text} (v : Value) → PlainPiece s t v → ValueHeld v → IsWellFormed v
well_formed (text s) p h = h
well_formed (integer z) p h = integer_fits p z refl
well_formed (float s) p h = h
well_formed (truth b) p h = h
well_formed null p h = h

plain_is : {s t : Text} (v : Value) (r : Text) → PlainPiece s t v → ValueHeld v → Ends r → PlainPiece (print_value v ++ r) r v
plain_is v r p h e = let m = move_plain_piece (alone v p (printed_value v [] (well_formed v p h) ValueEnd.nothing)) in subst (λ z. PlainPiece z r v) (same_piece (print_value v) m.at refl r) (m.there r e.identifier)
  where
    alone : {s t u : Text} (v : Value) → PlainPiece s t v → IsPlainValue true u [] v → PlainPiece u [] v
    alone v p (a_string {v = x} q) = absurd (no_text p x refl)
    alone v p (a_plain q e) = q

literal_of : {s t : Text} (v : Value) (r : Text) → PlainPiece s t v → PlainPiece (print_value v ++ r) r v → IsLiteral (print_literal (value v) ++ r) r (value v)
literal_of (text x) r p q = absurd (no_text p x refl)
literal_of (integer z) r p q = IsLiteral.plain q
literal_of (float s) r p q = IsLiteral.plain q
literal_of (truth b) r p q = IsLiteral.plain q
literal_of null r p q = IsLiteral.plain q

pub literal_is : (l : Literal) (s t r : Text) → IsLiteral s t l → LiteralHeld l → Ends r → IsLiteral (print_literal l ++ r) r l
literal_is l s t r (IsLiteral.typed {t = y} a) h e = IsLiteral.typed (type_is y r h)
literal_is l s t r (IsLiteral.string {v = v} n) h e = IsLiteral.string (name_is v r h e)
literal_is l s t r (IsLiteral.plain {v = v} p) h e = literal_of v r p (plain_is v r p h e)

-- tests
at_accessor : (a : Accessor) (r : Text) → starts is_spacing (print_accessor a ++ r) ≡ false
unfolding is_space is_newline_char
at_accessor (argument zero) r = refl
at_accessor (argument (suc i)) r = refl
at_accessor (property v) r = at_name v r
at_accessor name r = refl
at_accessor ty r = refl
at_accessor arguments r = refl
at_accessor properties r = refl

at_literal : (s r : Text) (l : Literal) → IsLiteral s r l → starts is_spacing s ≡ false
at_literal s r l (IsLiteral.typed t) = at_left t
at_literal s r l (IsLiteral.string n) = piece_no_space s (string_begins n.string)
at_literal s r l (IsLiteral.plain p) = piece_no_space s (plain_begins p)

-- a comparison and what follows it
abbrev after : Comparison → Literal → Text → Text
after c l r = print_comparison c ++ 32 ∷ (print_literal l ++ 93 ∷ r)

compared_is : (a : Accessor) (c : Comparison) (l : Literal) (s t r : Text) → IsLiteral s t l → LiteralHeld l → is_allowed a c l ≡ true → AfterAccessor a (after c l r) r (compares a c l)
compared_is a c l s t r m h k =
    let q = literal_is l s t (93 ∷ r) m h (ends_at 93 r refl) in
    AfterAccessor.compared (comparison_is c (print_literal l ++ 93 ∷ r)) (one_here (print_literal l ++ 93 ∷ r) (at_literal (print_literal l ++ 93 ∷ r) (93 ∷ r) l q)) q k (none_here (93 ∷ r) (at_bracket r))

bracketed : (a d r : Text) → ((91 ∷ a ++ d) ++ 93 ∷ []) ++ r ≡ 91 ∷ (a ++ (d ++ 93 ∷ r))
bracketed a d r = simp append_assoc refl

spaced : (c l r : Text) → ((32 ∷ c ++ 32 ∷ []) ++ l) ++ r ≡ 32 ∷ (c ++ 32 ∷ (l ++ r))
spaced c l r = simp append_assoc refl

compares_text : (a : Accessor) (c : Comparison) (l : Literal) (r : Text) → print_test (compares a c l) ++ r ≡ 91 ∷ (print_accessor a ++ 32 ∷ after c l r)
compares_text a c l r =
    bracketed (print_accessor a) (print_compared c l) r ∙ ap (λ s. 91 ∷ (print_accessor a ++ s)) (spaced (print_comparison c) (print_literal l) (93 ∷ r))

pub test_is : (x : Test) (s t r : Text) → IsTest s t x → TestHeld x → IsTest (print_test x ++ r) r x
test_is x s t r (IsTest.nothing a) h = IsTest.nothing (none_here (93 ∷ r) (at_bracket r))
test_is x s t r (IsTest.something {t = t'} {u = u} {a = a} p b q AfterAccessor.alone) h =
    rw append_assoc (IsTest.something (none_here _ (at_accessor a (93 ∷ r))) (accessor_is a t' u (93 ∷ r) b h (ends_at 93 r refl)) (none_here (93 ∷ r) (at_bracket r)) AfterAccessor.alone)
test_is x s t r (IsTest.something {t = t'} {u = u} {a = a} p b q (AfterAccessor.compared {u = v} {v = w} {c = c} {l = l} d e m k f)) h =
    rw (compares_text a c l r) (IsTest.something (none_here (print_accessor a ++ 32 ∷ after c l r) (at_accessor a (32 ∷ after c l r))) (accessor_is a t' u (32 ∷ after c l r) b h.0 (ends_at 32 (after c l r) refl)) (one_here (after c l r) (at_comparison c (32 ∷ (print_literal l ++ 93 ∷ r)))) (compared_is a c l v w r m h.1 k))

pub at_test : (x : Test) (r : Text) → begins 91 (print_test x ++ r) ≡ true
at_test always r = refl
at_test (has a) r = refl
at_test (compares a c l) r = refl

pub tests_are : (xs : List Test) (s t r : Text) → AreTests s t xs → AllByRecursion TestHeld xs → begins 91 r ≡ false → AreTests (flat_map print_test xs ++ r) r xs
tests_are xs s t r (AreTests.none k) h n = AreTests.none n
tests_are xs s t r (AreTests.more {t = m} {x = x} {xs = ys} a b) h n = rw (append_assoc (print_test x) (flat_map print_test ys) r) (AreTests.more (test_is x s m (flat_map print_test ys ++ r) a h.0) (tests_are ys m t r b h.1 n))
