-- Printed queries are read back.
use Rattle.std.proofs.Common.{◌≡◌, true, false, [], ◌∷◌, ◌++◌, refl, sym, subst, append_assoc}
use Rattle.std.specs.List.{flat_map}
use Rattle.kdl_text.specs.Chars.{Text, begins, is_banned, is_identifier_char, is_newline_char, is_punctuation, is_space, starts}
use Rattle.kdl_query.specs.Data.{NodeTest, Query, Selector, start, then, top}
use Rattle.kdl_query.specs.Printed.{print_combinator, print_node, print_other, print_query, print_selector, query_prints}
use Rattle.kdl_query.specs.QueryText.{After, IsFirst, IsNode, IsOperator, IsQuery, Spaces, without_bom}
use Rattle.kdl_query.specs.Tree.{query_says}
use Rattle.kdl_query.specs.declared.tree.Query as memory
use Rattle.kdl_query.specs.declared.tree.Combinator.{Combinator}
use Rattle.kdl_query.specs.declared.tree.Combinator.TheVariants.{Child, Descendant, NextSibling, LaterSibling}
use Rattle.kdl_query.proofs.Printing.Held.{NodeHeld, QueryHeld, SelectorHeld}
use Rattle.kdl_query.proofs.Printing.InMemory.{query_held}
use Rattle.kdl_query.proofs.Printing.Nodes.{Stops, front_parts, is_node_front, node_front, node_is}
use Rattle.kdl_query.proofs.Printing.Parts.{is_spacing, none_here, one_here}

-- selectors from here to the end of the text, with no space before them
record Begins (s : Text) (q : Query) : Type 0 where
  rest : Text
  selector : Selector
  front : starts is_node_front s ≡ true
  first : IsFirst s rest selector
  after : After selector rest q

-- the printed selector begins what follows it
abbrev Prints : Selector → Type 0
Prints x = (r : Text) (q : Query) → Stops r → After x r q → Begins (print_selector x ++ r) q

document_prints : Prints top
unfolding is_identifier_char is_space is_newline_char is_banned is_punctuation
document_prints r q e a = record { rest = r; selector = top; front = refl; first = IsFirst.document (none_here (41 ∷ r) refl); after = a }

node_prints : (n : NodeTest) (s t : Text) → IsNode s t n → NodeHeld n → Prints (start n)
node_prints n s t m h r q e a = record { rest = r; selector = start n; front = node_front n s t r m; first = IsFirst.a_node (node_is n s t r m h e); after = a }

operator_is : (c : Combinator) (r : Text) → IsOperator (print_combinator c ++ 32 ∷ r) (32 ∷ r) c
operator_is Child r = IsOperator.child refl
operator_is Descendant r = IsOperator.descendant
operator_is NextSibling r = IsOperator.next_sibling refl
operator_is LaterSibling r = IsOperator.later_sibling

at_operator : (c : Combinator) (r : Text) → starts is_spacing (print_combinator c ++ r) ≡ false
unfolding is_space is_newline_char
at_operator Child r = refl
at_operator Descendant r = refl
at_operator NextSibling r = refl
at_operator LaterSibling r = refl

-- one more step
abbrev stepped : Combinator → NodeTest → Text → Text
stepped c n r = print_combinator c ++ 32 ∷ (print_node n ++ r)

pieces : (x c n r : Text) → (x ++ ((32 ∷ c ++ 32 ∷ []) ++ n)) ++ r ≡ x ++ 32 ∷ (c ++ 32 ∷ (n ++ r))
pieces x c n r = simp append_assoc refl

step_text : (x : Selector) (c : Combinator) (n : NodeTest) (r : Text) → print_selector (then x c n) ++ r ≡ print_selector x ++ 32 ∷ stepped c n r
step_text x c n r = pieces (print_selector x) (print_combinator c) (print_node n) r

step_prints : (x : Selector) (c : Combinator) (n : NodeTest) (s t : Text) → Prints x → IsNode s t n → NodeHeld n → Prints (then x c n)
step_prints x c n s t f m h r q e a =
    let p = (front_parts (print_node n ++ r) (node_front n s t r m)).0 in
    rw (step_text x c n r) (f (32 ∷ stepped c n r) q (Stops.space (stepped c n r)) (After.step (one_here (stepped c n r) (at_operator c (32 ∷ (print_node n ++ r)))) (operator_is c (print_node n ++ r)) (one_here (print_node n ++ r) p) (node_is n s t r m h e) a))

-- the first selector of the query has these parts
first_held : {x : Selector} {r : Text} {q : Query} → After x r q → QueryHeld q → SelectorHeld x
first_held (After.ends a) h = h.0
first_held (After.step a b c d e) h = (first_held e h).0
first_held (After.or a b c d) h = h.0

-- the last step, as it is read
node_held : {x : Selector} {c : Combinator} {n : NodeTest} {r : Text} {q : Query} → After (then x c n) r q → QueryHeld q → NodeHeld n
node_held a h = (first_held a h).1

first_prints : (x : Selector) (s r : Text) → IsFirst s r x → SelectorHeld x → Prints x
first_prints x s r (IsFirst.document a) h = document_prints
first_prints x s r (IsFirst.a_node {n = n} m) h = node_prints n s r m h

-- the selectors after the first one
others_stop : (q : Query) → Stops (flat_map print_other q)
others_stop [] = Stops.nothing
others_stop (x ∷ q) = Stops.space _

at_bars : (r : Text) → starts is_spacing (124 ∷ r) ≡ false
unfolding is_space is_newline_char
at_bars r = refl

or_after : (x : Selector) (q : Query) → Begins (print_query q) q → After x (flat_map print_other q) (x ∷ q)
or_after x [] b = absurd (let f = b.front in cc)
or_after x (y ∷ q) b = After.or (one_here (124 ∷ 124 ∷ 32 ∷ print_query (y ∷ q)) (at_bars (124 ∷ 32 ∷ print_query (y ∷ q)))) (one_here (print_query (y ∷ q)) (front_parts (print_query (y ∷ q)) b.front).0) b.first b.after

after_prints : {x : Selector} {r : Text} {q : Query} → After x r q → QueryHeld q → Prints x → Begins (print_query q) q
after_prints {x = x} (After.ends a) h f = f [] (x ∷ []) Stops.nothing (After.ends (none_here [] refl))
after_prints {x = x} (After.step {t = t} {u = u} {v = v} {w = w} {r = r} {c = c} {n = n} a b d m e) h f = after_prints e h (step_prints x c n w r f m (node_held e h))
after_prints {x = x} (After.or {x = y} {v = v} {r = r} {q = q} a b c d) h f = f (flat_map print_other q) (x ∷ q) (others_stop q) (or_after x q (after_prints d h.1 (first_prints y v r c (first_held d h.1))))

bom_stays : (s : Text) → begins 0xFEFF s ≡ false → without_bom s ≡ s
bom_stays [] h = refl
bom_stays (c ∷ s) h = rw h refl

printed_is : (t : Text) (q : Query) → IsQuery t q → QueryHeld q → IsQuery (print_query q) q
printed_is t q (IsQuery.query {u = u} {r = r} {s = x} a b c) h =
    let p = after_prints c h (first_prints x u r b (first_held c h)) in
    let e = front_parts (print_query q) p.front in
    IsQuery.query (subst (λ z. Spaces z (print_query q)) (sym (bom_stays (print_query q) e.1)) (none_here (print_query q) e.0)) p.first p.after

-- a query that some text has prints a text of this query
pub printed_again : (t : Text) (q : memory.Query) → IsQuery t (query_says q) → IsQuery (query_prints q) (query_says q)
printed_again t q h = printed_is t (query_says q) h (query_held q)
