-- Nodes and the beginnings of selectors, from what the readers of their parts return.
use Rattle.std.proofs.Common.{◌≡◌, ◌==◌, ℕ, arith, List, [], ◌∷◌, ◌++◌, true, false, codes, refl, sym, ap, ◌∙◌, subst}
use Rattle.std.specs.Prelude.{Option, Some, None, Result, Ok, Err}
use Rattle.std.proofs.Math.Bool.{or-false}
use Rattle.std.specs.Option.{option_eq}
use Rattle.kdl_text.specs.Chars.{Text, begins, is_space, is_newline_char, is_banned, is_punctuation, is_identifier_char}
use Rattle.kdl_text.specs.Internal.Here.{Here, first, tail}
use Rattle.kdl_text.specs.Internal.Reading.{Moves}
use Rattle.kdl_text.proofs.Looking.MovesJoin.{moves_then}
use Rattle.kdl_query.specs.Data.{NodeTest, Selector, Test, TypeTest, start, top}
use Rattle.kdl_query.specs.QueryText.{AreTests, IsFirst, IsName, IsNode, IsTest, IsType, Spaces, ends_type}
use Rattle.kdl_query.specs.Internal.QueryReading.{Closes, NameAfter, NodeRest, ReadsPiece, TypeRest}
use Rattle.kdl_query.specs.declared.error.Refusal.{Refusal}
use Rattle.kdl_query.proofs.Reading.{refused}
use Rattle.kdl_query.proofs.Unique.{Det, bracket_no_piece, left_no_piece, name_det, no_name_at, no_node_top, same_at, type_det}

pub name_after_det : Det NameAfter
name_after_det s r t x y (NameAfter.nothing h) (NameAfter.nothing k) = (refl, refl)
name_after_det s r t x y (NameAfter.nothing h) (NameAfter.named k n) = cc
name_after_det s r t x y (NameAfter.named k n) (NameAfter.nothing h) = cc
name_after_det s r t x y (NameAfter.named {v = v} h n) (NameAfter.named {v = w} k m) = let (e, f) = name_det s r t v w n m in (e, ap Some f)

-- `|` after a type
bar_alone : ends_type (124 ∷ []) ≡ false
unfolding is_identifier_char is_space is_newline_char is_banned is_punctuation
bar_alone = refl

bar_then : (e : ℕ) (s : Text) → ends_type (124 ∷ e ∷ s) ≡ (e == 124)
unfolding is_identifier_char is_space is_newline_char is_banned is_punctuation
bar_then e s = or-false (e == 124)

bar_ends : (s : Text) → ends_type (124 ∷ s) ≡ option_eq (λ a b. a == b) (first s) (Some 124)
bar_ends [] = bar_alone
bar_ends (e ∷ s) = bar_then e s

pub bar_ends_type : (s : Text) (o : Option ℕ) → Some 124 ≡ first s → o ≡ first (tail s) → option_eq (λ a b. a == b) o (Some 124) ≡ ends_type s
bar_ends_type [] o h k = cc
bar_ends_type (d ∷ s) o h k =
    let e : d ≡ 124 = cc in
    ap (λ z. option_eq (λ a b. a == b) z (Some 124)) k ∙ sym (bar_ends s) ∙ ap (λ z. ends_type (z ∷ s)) (sym e)

-- the name after a type, where a cursor looked at what is there
pub no_name_after : (s t : Text) → t ≡ s → true ≡ ends_type s → NameAfter s t None
no_name_after s t e h = subst (λ z. NameAfter s z None) (sym e) (NameAfter.nothing (sym h))

pub name_after : (s t r v : Text) → t ≡ s → false ≡ ends_type s → IsName t r v → NameAfter s r (Some v)
name_after s t r v e h n = NameAfter.named (sym h) (subst (λ z. IsName z r v) e n)

-- a node with a type
pub node_typed : (s t u r : Text) (y : TypeTest) (o : Option Text) (xs : List Test) → TypeRest s t y → NameAfter t u o → AreTests u r xs → NodeRest s r (record { ty = Some y; name = o; tests = xs })
node_typed s t u r y o xs a (NameAfter.nothing h) b = IsNode.typed a h b
node_typed s t u r y o xs a (NameAfter.named h n) b = IsNode.both a h n b

-- the parts of such a node
pub record TypedParts (s r : Text) (n : NodeTest) : Type 0 where
  pub after_type : Text
  pub after_name : Text
  pub ty : TypeTest
  pub name : Option Text
  pub tests : List Test
  pub is_type : TypeRest s after_type ty
  pub is_name : NameAfter after_type after_name name
  pub are_tests : AreTests after_name r tests

pub typed_parts : (s r : Text) (n : NodeTest) → NodeRest s r n → TypedParts s r n
typed_parts s r n x = go r n x
  where
    go : (r : Text) (n : NodeTest) → IsNode (40 ∷ s) r n → TypedParts s r n
    go r n (IsNode.tested a b) = elim a [ ]
    go r n (IsNode.named a b) = absurd (no_name_at 40 s _ _ left_no_piece a)
    go r n (IsNode.typed a h b) = record { after_type = _; after_name = _; ty = _; name = _; tests = _; is_type = a; is_name = NameAfter.nothing h; are_tests = b }
    go r n (IsNode.both a h m b) = record { after_type = _; after_name = _; ty = _; name = _; tests = _; is_type = a; is_name = NameAfter.named h m; are_tests = b }

pub no_node_type : (s : Text) → ((r : Text) (y : TypeTest) → TypeRest s r y → ⊥) → (r : Text) (n : NodeTest) → NodeRest s r n → ⊥
no_node_type s h r n x = let p = typed_parts s r n x in h p.after_type p.ty p.is_type

pub no_node_name : (s t : Text) (y : TypeTest) → TypeRest s t y → ((r : Text) (o : Option Text) → NameAfter t r o → ⊥) → (r : Text) (n : NodeTest) → NodeRest s r n → ⊥
no_node_name s t y a h r n x =
    let p = typed_parts s r n x in
    let e : p.after_type ≡ t = (type_det (40 ∷ s) p.after_type t p.ty y p.is_type a).0 in
    h p.after_name p.name (subst (λ z. NameAfter z p.after_name p.name) e p.is_name)

pub no_node_tests : (s t u : Text) (y : TypeTest) (o : Option Text) → TypeRest s t y → NameAfter t u o → ((r : Text) (xs : List Test) → AreTests u r xs → ⊥) → (r : Text) (n : NodeTest) → NodeRest s r n → ⊥
no_node_tests s t u y o a b h r n x =
    let p = typed_parts s r n x in
    let e : p.after_type ≡ t = (type_det (40 ∷ s) p.after_type t p.ty y p.is_type a).0 in
    let f : p.after_name ≡ u = (same_at NameAfter name_after_det p.after_type t p.after_name u p.name o e p.is_name b).0 in
    h r p.tests (subst (λ z. AreTests z r p.tests) f p.are_tests)

-- a node that begins with its name
pub record NamedParts (s r : Text) : Type 0 where
  pub after_name : Text
  pub name : Text
  pub tests : List Test
  pub is_name : IsName s after_name name
  pub are_tests : AreTests after_name r tests

pub named_parts : (s r : Text) (n : NodeTest) → begins 40 s ≡ false → begins 91 s ≡ false → IsNode s r n → NamedParts s r
named_parts s r n h k (IsNode.tested a b) = absurd (go a k)
  where
    go : {s t : Text} {x : Test} → IsTest s t x → begins 91 s ≡ false → ⊥
    go (IsTest.nothing a) k = cc
    go (IsTest.something a b c d) k = cc
named_parts s r n h k (IsNode.named a b) = record { after_name = _; name = _; tests = _; is_name = a; are_tests = b }
named_parts s r n h k (IsNode.typed a m b) = absurd (no_type a h)
  where
    no_type : {s t : Text} {y : TypeTest} → IsType s t y → begins 40 s ≡ false → ⊥
    no_type (IsType.any a) h = cc
    no_type (IsType.named a b c) h = cc
named_parts s r n h k (IsNode.both a m c b) = absurd (no_type a h)
  where
    no_type : {s t : Text} {y : TypeTest} → IsType s t y → begins 40 s ≡ false → ⊥
    no_type (IsType.any a) h = cc
    no_type (IsType.named a b c) h = cc

pub no_named_name : (s : Text) → begins 40 s ≡ false → begins 91 s ≡ false → ((r v : Text) → IsName s r v → ⊥) → (r : Text) (n : NodeTest) → IsNode s r n → ⊥
no_named_name s h k f r n x = let p = named_parts s r n h k x in f p.after_name p.name p.is_name

pub no_named_tests : (s t v : Text) → begins 40 s ≡ false → begins 91 s ≡ false → IsName s t v → ((r : Text) (xs : List Test) → AreTests t r xs → ⊥) → (r : Text) (n : NodeTest) → IsNode s r n → ⊥
no_named_tests s t v h k a f r n x =
    let p = named_parts s r n h k x in
    f r p.tests (subst (λ z. AreTests z r p.tests) (name_det s p.after_name t p.name v p.is_name a).0 p.are_tests)

-- a node that begins with a test
pub node_tested : (s r : Text) (xs : List Test) → begins 91 s ≡ true → AreTests s r xs → IsNode s r (record { ty = None; name = None; tests = xs })
node_tested s r xs h (AreTests.none k) = cc
node_tested s r xs h (AreTests.more a b) = IsNode.tested a b

no_type_bracket : {s t : Text} {y : TypeTest} → IsType s t y → begins 91 s ≡ true → ⊥
no_type_bracket (IsType.any a) h = cc
no_type_bracket (IsType.named a b c) h = cc

name_bracket : (s r v : Text) → begins 91 s ≡ true → IsName s r v → ⊥
name_bracket [] r v h n = cc
name_bracket (c ∷ s) r v h n = let e : c ≡ 91 = grind arith in no_name_at 91 s r v bracket_no_piece (subst (λ z. IsName (z ∷ s) r v) e n)

pub no_tested : (s : Text) → begins 91 s ≡ true → ((r : Text) (xs : List Test) → AreTests s r xs → ⊥) → (r : Text) (n : NodeTest) → IsNode s r n → ⊥
no_tested s h f r n (IsNode.tested a b) = f r _ (AreTests.more a b)
no_tested s h f r n (IsNode.named a b) = name_bracket s _ _ h a
no_tested s h f r n (IsNode.typed a m b) = no_type_bracket a h
no_tested s h f r n (IsNode.both a m c b) = no_type_bracket a h

-- a node after its `(`
pub node_on : {A : Type 0} (says : A → NodeTest) (o : Result A Refusal) (a m b : Here) → a.rest ≡ 40 ∷ m.rest → Moves a m → ReadsPiece NodeRest says o m b → ReadsPiece IsNode says o a b
node_on says (Ok x) a m b e v h = record { returns = subst (λ z. IsNode z b.rest (says x)) (sym e) h.returns; moves = moves_then v h.moves }
node_on says (Err f) a m b e v h = refused says f a b h (moves_then v h.moves) (λ n r y k. n r y (subst (λ z. IsNode z r y) e k))

-- the beginning of a selector
pub no_document : (s t : Text) → s ≡ codes "top(" ++ t → ((r : Text) (x : Unit {0}) → Closes 41 t r x → ⊥) → (r : Text) (x : Selector) → IsFirst s r x → ⊥
no_document s t e h r x f = go r x (subst (λ z. IsFirst z r x) e f)
  where
    go : (r : Text) (x : Selector) → IsFirst (codes "top(" ++ t) r x → ⊥
    go r x (IsFirst.document a) = h r tt a
    go r x (IsFirst.a_node n) = no_node_top _ _ _ n

pub document_at : (s t r : Text) → s ≡ codes "top(" ++ t → Spaces t (41 ∷ r) → IsFirst s r top
document_at s t r e a = subst (λ z. IsFirst z r top) (sym e) (IsFirst.document a)

pub node_at : (s t r : Text) (n : NodeTest) → t ≡ s → IsNode t r n → IsFirst s r (start n)
node_at s t r n e a = IsFirst.a_node (subst (λ z. IsNode z r n) e a)
