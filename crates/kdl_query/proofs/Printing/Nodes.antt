-- Printed nodes are read back.
use Rattle.std.proofs.Common.{◌≡◌, ℕ, Bool, true, false, ◌||◌, ◌==◌, List, [], ◌∷◌, ◌++◌, refl, arith, append_assoc}
use Rattle.std.proofs.lemmas.Bool.Decides.{nat_tests}
use Rattle.std.specs.List.{flat_map}
use Rattle.kdl_text.specs.Chars.{Text, begins, is_banned, is_identifier_char, is_newline_char, is_punctuation, is_space, starts}
use Rattle.kdl_query.specs.Data.{NodeTest, Test, TypeTest, some_type, type_named}
use Rattle.kdl_query.specs.Printed.{print_name, print_node, print_test, print_type}
use Rattle.kdl_query.specs.QueryText.{IsNode, ends_type}
use Rattle.kdl_query.proofs.Printing.Held.{NodeHeld}
use Rattle.kdl_query.proofs.Printing.Names.{Ends, ends_at, ends_nothing, front_no_end, is_front, name_front, name_is}
use Rattle.kdl_query.proofs.Printing.Parts.{at_test, is_spacing, test_is, tests_are, type_is}

-- the end of the text, or a space
pub data Stops : Text → Type 0 where
  nothing : Stops []
  space : (r : Text) → Stops (32 ∷ r)

stop_ends : {r : Text} → Stops r → Ends r
stop_ends Stops.nothing = ends_nothing
stop_ends (Stops.space r) = ends_at 32 r refl

stop_no_test : {r : Text} → Stops r → begins 91 r ≡ false
stop_no_test Stops.nothing = refl
stop_no_test (Stops.space r) = refl

bracket_ends : (s : Text) → begins 91 s ≡ true → Ends s × (ends_type s ≡ true)
unfolding is_identifier_char is_space is_newline_char is_banned is_punctuation
bracket_ends [] h = cc
bracket_ends (c ∷ s) h = let e : c ≡ 91 = grind arith in rw e (ends_at 91 s refl, refl)

stop_type : {r : Text} → Stops r → ends_type r ≡ true
unfolding is_identifier_char is_space is_newline_char is_banned is_punctuation
stop_type Stops.nothing = refl
stop_type (Stops.space r) = refl

-- what follows a name or a type: tests, or the end of the node
tests_end : (xs : List Test) {r : Text} → Stops r → Ends (flat_map print_test xs ++ r) × (ends_type (flat_map print_test xs ++ r) ≡ true)
tests_end [] e = (stop_ends e, stop_type e)
tests_end (x ∷ xs) {r = r} e = rw (append_assoc (print_test x) (flat_map print_test xs) r) (bracket_ends _ (at_test x (flat_map print_test xs ++ r)))

pub node_is : (n : NodeTest) (s t r : Text) → IsNode s t n → NodeHeld n → Stops r → IsNode (print_node n ++ r) r n
node_is n s t r (IsNode.tested {t = u} {x = x} {xs = xs} a b) h e =
    rw (append_assoc (print_test x) (flat_map print_test xs) r) (IsNode.tested (test_is x s u (flat_map print_test xs ++ r) a h.tests.0) (tests_are xs u t r b h.tests.1 (stop_no_test e)))
node_is n s t r (IsNode.named {t = u} {v = v} {xs = xs} a b) h e =
    rw (append_assoc (print_name v) (flat_map print_test xs) r) (IsNode.named (name_is v (flat_map print_test xs ++ r) h.name (tests_end xs e).0) (tests_are xs u t r b h.tests (stop_no_test e)))
node_is n s t r (IsNode.typed {t = u} {y = y} {xs = xs} a k b) h e =
    simp append_assoc (IsNode.typed (type_is y (flat_map print_test xs ++ r) h.ty) (tests_end xs e).1 (tests_are xs u t r b h.tests (stop_no_test e)))
node_is n s t r (IsNode.both {t = u} {u = w} {v = v} {y = y} {xs = xs} a k m b) h e =
    let rest = flat_map print_test xs ++ r in
    simp append_assoc (IsNode.both (type_is y (print_name v ++ rest) h.ty) (front_no_end (print_name v ++ rest) (name_front v rest)) (name_is v rest h.name (tests_end xs e).0) (tests_are xs w t r b h.tests (stop_no_test e)))

-- a printed node begins with a name, a type or a test
abbrev pub is_node_front : ℕ → Bool
is_node_front c = is_front c || (c == 40 || c == 91)

or_front : (s : Text) → starts is_front s ≡ true → starts is_node_front s ≡ true
or_front [] h = cc
or_front (c ∷ s) h = rw h refl

bracket_front : (s : Text) → begins 91 s ≡ true → starts is_node_front s ≡ true
bracket_front [] h = cc
bracket_front (c ∷ s) h = grind (arith, nat_tests)

left_front : (t : TypeTest) (r : Text) → starts is_node_front (print_type t ++ r) ≡ true
unfolding is_identifier_char is_space is_newline_char is_banned is_punctuation
left_front some_type r = refl
left_front (type_named v) r = refl

pub node_front : (n : NodeTest) (s t r : Text) → IsNode s t n → starts is_node_front (print_node n ++ r) ≡ true
node_front n s t r (IsNode.tested {x = x} {xs = xs} a b) = rw (append_assoc (print_test x) (flat_map print_test xs) r) (bracket_front (print_test x ++ (flat_map print_test xs ++ r)) (at_test x (flat_map print_test xs ++ r)))
node_front n s t r (IsNode.named {v = v} {xs = xs} a b) = rw (append_assoc (print_name v) (flat_map print_test xs) r) (or_front (print_name v ++ (flat_map print_test xs ++ r)) (name_front v (flat_map print_test xs ++ r)))
node_front n s t r (IsNode.typed {y = y} {xs = xs} a k b) = simp append_assoc (left_front y (flat_map print_test xs ++ r))
node_front n s t r (IsNode.both {v = v} {y = y} {xs = xs} a k m b) = simp append_assoc (left_front y (print_name v ++ (flat_map print_test xs ++ r)))

-- no space and no byte order mark begins so
pub front_parts : (s : Text) → starts is_node_front s ≡ true → (starts is_spacing s ≡ false) × (begins 0xFEFF s ≡ false)
unfolding is_identifier_char is_space is_newline_char is_banned is_punctuation
front_parts [] h = cc
front_parts (c ∷ s) h = (grind (arith, nat_tests), grind (arith, nat_tests))
