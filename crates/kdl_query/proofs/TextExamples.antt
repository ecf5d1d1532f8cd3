-- Texts that are queries, texts that are not, and texts that queries print.
use Rattle.std.proofs.Common.{◌≡◌, ℕ, [], ◌∷◌, true, false, codes, refl, sym, subst, inl, inr, pos, arith}
use Rattle.std.proofs.lemmas.Bool.Decides.{nat_tests}
use Rattle.std.specs.Prelude.{Some, None}
use Rattle.kdl_text.specs.Bare.{bare, is_bare}
use Rattle.kdl_text.specs.Chars.{Text, Star, is_space, is_newline_char, is_banned, is_punctuation, is_identifier_char}
use Rattle.kdl_text.specs.Chars.Space.{space as space_char}
use Rattle.kdl_text.specs.Trivia.{BlockComment, Ws}
use Rattle.kdl_text.specs.Trivia.Ws.{space as ws_space, comment as ws_comment}
use Rattle.kdl_text.proofs.Spacing.SpaceUnique.{backslash_no_newline, backslash_no_space, block_begins, newline_begins, slash_no_newline}
use Rattle.kdl_syntax.specs.Pieces as piece
use Rattle.kdl_syntax.proofs.Lexing.StringUnique.{string_begins}
use Rattle.kdl_query.specs.Data.{Query, Selector, argument, compares, has, name, of_type, property, some_type, start, then, top, value}
use Rattle.kdl_query.specs.Printed.{print_name, print_query}
use Rattle.kdl_query.specs.QueryText.{After, AreTests, IsComparison, IsFirst, IsKey, IsName, IsNode, IsQuery, QuerySpace, Spaces, is_allowed}
use Rattle.kdl_value.specs.Data.{text, integer, null}
use Rattle.kdl_value.specs.Spelled.{spelled}
use Rattle.kdl_query.specs.declared.tree.Combinator.TheVariants.{Child}
use Rattle.kdl_query.specs.declared.tree.Comparison.TheVariants.{Equal, Greater, NotEqual, StartsWith}
use Rattle.kdl_query.proofs.Spacing.{at_slash}
use Rattle.kdl_query.proofs.Unique.{query_det, spaces_det}

-- no space begins with an identifier character, or at the end of the text
no_space_at : (c : ℕ) (s t : Text) → is_identifier_char c ≡ true → QuerySpace (c ∷ s) t → ⊥
unfolding is_identifier_char is_space is_newline_char is_banned is_punctuation
no_space_at c s t h (QuerySpace.ws (ws_space (space_char x))) = grind (arith, nat_tests)
no_space_at c s t h (QuerySpace.ws (ws_comment (BlockComment.block b))) = cc
no_space_at c s t h (QuerySpace.escline a n) = cc
no_space_at c s t h (QuerySpace.last_escline a) = cc
no_space_at c s t h (QuerySpace.newline n) = let x = newline_begins n in grind (arith, nat_tests)

no_space_end : (t : Text) → QuerySpace [] t → ⊥
no_space_end t (QuerySpace.ws (ws_space x)) = elim x [ ]
no_space_end t (QuerySpace.ws (ws_comment b)) = elim b [ ]
no_space_end t (QuerySpace.newline n) = elim n [ ]

-- no space begins with `//`, and no escline has a line comment
no_ws : (s t : Text) → Ws (47 ∷ 47 ∷ s) t → ⊥
no_ws s t w = at_slash w (λ b. let h = block_begins b in cc)

no_line_comment : (s t : Text) → QuerySpace (47 ∷ 47 ∷ s) t → ⊥
no_line_comment s t (QuerySpace.ws w) = no_ws s t w
no_line_comment s t (QuerySpace.newline n) = let x = newline_begins n in let y = slash_no_newline in cc

no_comment_after : (s t : Text) → QuerySpace (92 ∷ 47 ∷ 47 ∷ s) t → ⊥
no_comment_after s t (QuerySpace.ws (ws_space (space_char x))) = let y = backslash_no_space in cc
no_comment_after s t (QuerySpace.ws (ws_comment b)) = let y = block_begins b in cc
no_comment_after s t (QuerySpace.newline n) = let x = newline_begins n in let y = backslash_no_newline in cc
no_comment_after s t (QuerySpace.escline Star.none n) = let x = newline_begins n in let y = slash_no_newline in cc
no_comment_after s t (QuerySpace.escline (Star.more w a) n) = no_ws s _ w
no_comment_after s t (QuerySpace.last_escline (Star.more w a)) = no_ws s _ w

at_end : Spaces [] []
at_end = record { run = Star.none; stops = no_space_end }

a_name : IsName (codes "a") [] (codes "a")
unfolding is_bare is_identifier_char is_space is_newline_char is_banned is_punctuation
a_name = record { string = piece.bare (bare {w = codes "a"} refl refl refl); no_operator = λ b o. elim o [ inl e ↦ cc | inr o ↦ elim o [ inl e ↦ cc | inr o ↦ elim o [ inl e ↦ cc | inr o ↦ elim o [ inl e ↦ cc | inr e ↦ cc ] ] ] ]; no_function = refl }

at_a : Spaces (codes "a") (codes "a")
unfolding is_identifier_char is_space is_newline_char is_banned is_punctuation
at_a = record { run = Star.none; stops = λ t p. no_space_at 97 [] t refl p }

-- `a`
pub one_name : IsQuery (codes "a") (start (record { ty = None; name = Some (codes "a"); tests = [] }) ∷ [])
one_name = IsQuery.query at_a (IsFirst.a_node (IsNode.named a_name (AreTests.none refl))) (After.ends at_end)

-- and nothing else: not `top()`
pub no_other_tree : IsQuery (codes "a") (top ∷ []) → ⊥
no_other_tree h = let e = query_det one_name h in cc

-- the empty text
pub no_empty : (q : Query) → IsQuery [] q → ⊥
no_empty q (IsQuery.query {u = u} {r = r} {s = s} a b c) = go r s (subst (λ z. IsFirst z r s) (sym (spaces_det at_end a)) b)
  where
    go : (r : Text) (s : Selector) → IsFirst [] r s → ⊥
    go r s (IsFirst.a_node (IsNode.tested x y)) = elim x [ ]
    go r s (IsFirst.a_node (IsNode.named x y)) = let f : false ≡ true = string_begins x.string in cc
    go r s (IsFirst.a_node (IsNode.typed x h y)) = elim x [ ]
    go r s (IsFirst.a_node (IsNode.both x h z y)) = elim x [ ]

-- `>` is no name
pub no_operator_name : IsName (codes ">") [] (codes ">") → ⊥
unfolding is_bare is_identifier_char is_space is_newline_char is_banned is_punctuation
no_operator_name n = n.no_operator (bare {w = codes ">"} refl refl refl) (inl refl)

-- `a!` before `=` is no key, and `>=` is one comparison
pub no_joined_key : IsKey (codes "a!=1") (codes "=1") (codes "a!") → ⊥
unfolding is_bare is_identifier_char is_space is_newline_char is_banned is_punctuation
no_joined_key k = let e = k.apart refl (bare {w = codes "a!"} refl refl refl) (codes "a") 33 refl in cc

pub longest_comparison : IsComparison (codes ">=1") (codes "=1") Greater → ⊥
longest_comparison (IsComparison.greater h) = cc

-- `a = 1`, `val() ^= b`; not `a > b`, `name() > 1`, `a ^= (b)`
pub some_allowed : (is_allowed (property (codes "a")) Equal (value (integer (pos 1))) ≡ true) × (is_allowed (argument 0) StartsWith (value (text (codes "b"))) ≡ true)
some_allowed = (refl, refl)

pub some_refused : (is_allowed (property (codes "a")) Greater (value (text (codes "b"))) ≡ false) × (is_allowed name Greater (value (integer (pos 1))) ≡ false) × (is_allowed (property (codes "a")) StartsWith (of_type some_type) ≡ false)
some_refused = (refl, refl, refl)

-- `a` is printed bare, `+` between quotes
pub printed_bare : print_name (codes "a") ≡ codes "a"
unfolding is_bare is_identifier_char is_space is_newline_char is_banned is_punctuation spelled
printed_bare = refl

pub printed_quoted : print_name (codes "+") ≡ 34 ∷ 43 ∷ 34 ∷ []
unfolding is_bare is_identifier_char is_space is_newline_char is_banned is_punctuation
printed_quoted = refl

pub printed_selectors : print_query (then (start (record { ty = None; name = Some (codes "a"); tests = [] })) Child (record { ty = Some some_type; name = None; tests = has (property (codes "k")) ∷ compares (argument 0) NotEqual (value null) ∷ [] }) ∷ top ∷ [])
    ≡ codes "a > ()[k][val() != #null] || top()"
unfolding is_bare is_identifier_char is_space is_newline_char is_banned is_punctuation spelled
printed_selectors = refl
