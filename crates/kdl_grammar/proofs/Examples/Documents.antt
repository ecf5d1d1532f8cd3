-- Small texts that are documents, and small texts that are none.
use Rattle.std.proofs.Common.{true, [], ◌∷◌, Some, None, refl}
use Rattle.std.specs.Prelude.{pos}
use Rattle.kdl_text.specs.Chars.{Text, is_identifier_char, is_space, is_newline_char, is_banned, is_punctuation}
use Rattle.kdl_text.specs.Bare.{is_bare}
use Rattle.kdl_text.specs.Numbers.{is_digit_of}
use Rattle.kdl_text.specs.Trivia.{NodeSpace, Break}
use Rattle.kdl_value.specs.Data.{text, integer, truth}
use Rattle.kdl_syntax.specs.Pieces.{StringPiece}
use Rattle.kdl_syntax.specs.Tokens.{Token, BeginsToken, t_space, t_newline, t_string, t_value}
use Rattle.kdl_syntax.proofs.Lexing.StringUnique.{string_begins, plain_begins}
use Rattle.kdl_grammar.proofs.Reading.NoToken.{here, then, faulty}
use Rattle.kdl_grammar.specs.Data.{node, no_children, Nodes, none, first}
use Rattle.kdl_grammar.specs.Grammar.{IsDocument}
use Rattle.kdl_grammar.proofs.Examples.Tokens.{end, derived, derived_after_bom, refused, blank, line_feed, block, comment, escline_, dash, open_paren, close_paren, open_brace, close_brace, equals_sign, semi, a_bom, empty, keyword_true, letter, digit, argument, keyed, name, with, just}

-- ``
nothing : IsDocument ([]) (none)
unfolding is_bare is_identifier_char is_space is_newline_char is_banned is_punctuation is_digit_of
nothing = derived (end) (none) refl

-- `a`
one_name : IsDocument (97 ∷ []) (just (name 97 []))
unfolding is_bare is_identifier_char is_space is_newline_char is_banned is_punctuation is_digit_of
one_name = derived (letter 97 refl refl end) (just (name 97 [])) refl

-- `a/-b`
dash_at_once : IsDocument (97 ∷ 47 ∷ 45 ∷ 98 ∷ []) (just (name 97 []))
unfolding is_bare is_identifier_char is_space is_newline_char is_banned is_punctuation is_digit_of
dash_at_once = derived (letter 97 refl refl (dash (letter 98 refl refl end))) (just (name 97 [])) refl

-- `a/-b 1`
dash_and_more : IsDocument (97 ∷ 47 ∷ 45 ∷ 98 ∷ 32 ∷ 49 ∷ []) (just (name 97 (argument (integer (pos 1)) ∷ [])))
unfolding is_bare is_identifier_char is_space is_newline_char is_banned is_punctuation is_digit_of
dash_and_more = derived (letter 97 refl refl (dash (letter 98 refl refl (blank (digit 49 refl refl refl refl refl refl end))))) (just (name 97 (argument (integer (pos 1)) ∷ []))) refl

-- `a/-{}{ }`
dash_block : IsDocument (97 ∷ 47 ∷ 45 ∷ 123 ∷ 125 ∷ 123 ∷ 32 ∷ 125 ∷ []) (just (with 97 [] none))
unfolding is_bare is_identifier_char is_space is_newline_char is_banned is_punctuation is_digit_of
dash_block = derived (letter 97 refl refl (dash (open_brace (close_brace (open_brace (blank (close_brace end))))))) (just (with 97 [] none)) refl

-- `n k=1/-2 3`
dash_after_number : IsDocument (110 ∷ 32 ∷ 107 ∷ 61 ∷ 49 ∷ 47 ∷ 45 ∷ 50 ∷ 32 ∷ 51 ∷ []) (just (name 110 (keyed 107 (integer (pos 1)) ∷ argument (integer (pos 3)) ∷ [])))
unfolding is_bare is_identifier_char is_space is_newline_char is_banned is_punctuation is_digit_of
dash_after_number = derived (letter 110 refl refl (blank (letter 107 refl refl (equals_sign (digit 49 refl refl refl refl refl refl (dash (digit 50 refl refl refl refl refl refl (blank (digit 51 refl refl refl refl refl refl end))))))))) (just (name 110 (keyed 107 (integer (pos 1)) ∷ argument (integer (pos 3)) ∷ []))) refl

-- `/-a/-b`
dash_in_dropped : IsDocument (47 ∷ 45 ∷ 97 ∷ 47 ∷ 45 ∷ 98 ∷ []) (none)
unfolding is_bare is_identifier_char is_space is_newline_char is_banned is_punctuation is_digit_of
dash_in_dropped = derived (dash (letter 97 refl refl (dash (letter 98 refl refl end)))) (none) refl

-- `a{}/-{}/-{}`
blocks_after : IsDocument (97 ∷ 123 ∷ 125 ∷ 47 ∷ 45 ∷ 123 ∷ 125 ∷ 47 ∷ 45 ∷ 123 ∷ 125 ∷ []) (just (with 97 [] none))
unfolding is_bare is_identifier_char is_space is_newline_char is_banned is_punctuation is_digit_of
blocks_after = derived (letter 97 refl refl (open_brace (close_brace (dash (open_brace (close_brace (dash (open_brace (close_brace end))))))))) (just (with 97 [] none)) refl

-- `a;b`
two_nodes : IsDocument (97 ∷ 59 ∷ 98 ∷ []) (first (name 97 []) (just (name 98 [])))
unfolding is_bare is_identifier_char is_space is_newline_char is_banned is_punctuation is_digit_of
two_nodes = derived (letter 97 refl refl (semi (letter 98 refl refl end))) (first (name 97 []) (just (name 98 []))) refl

-- `a⏎b`
two_lines : IsDocument (97 ∷ 10 ∷ 98 ∷ []) (first (name 97 []) (just (name 98 [])))
unfolding is_bare is_identifier_char is_space is_newline_char is_banned is_punctuation is_digit_of
two_lines = derived (letter 97 refl refl (line_feed (letter 98 refl refl end))) (first (name 97 []) (just (name 98 []))) refl

-- `(t)a`
typed_name : IsDocument (40 ∷ 116 ∷ 41 ∷ 97 ∷ []) (just (node (Some (116 ∷ [])) (97 ∷ []) [] no_children))
unfolding is_bare is_identifier_char is_space is_newline_char is_banned is_punctuation is_digit_of
typed_name = derived (open_paren (letter 116 refl refl (close_paren (letter 97 refl refl end)))) (just (node (Some (116 ∷ [])) (97 ∷ []) [] no_children)) refl

-- `( t ) a`
typed_spaced : IsDocument (40 ∷ 32 ∷ 116 ∷ 32 ∷ 41 ∷ 32 ∷ 97 ∷ []) (just (node (Some (116 ∷ [])) (97 ∷ []) [] no_children))
unfolding is_bare is_identifier_char is_space is_newline_char is_banned is_punctuation is_digit_of
typed_spaced = derived (open_paren (blank (letter 116 refl refl (blank (close_paren (blank (letter 97 refl refl end))))))) (just (node (Some (116 ∷ [])) (97 ∷ []) [] no_children)) refl

-- `a (t)1`
typed_value : IsDocument (97 ∷ 32 ∷ 40 ∷ 116 ∷ 41 ∷ 49 ∷ []) (just (name 97 (record { key = None; ty = Some (116 ∷ []); value = integer (pos 1) } ∷ [])))
unfolding is_bare is_identifier_char is_space is_newline_char is_banned is_punctuation is_digit_of
typed_value = derived (letter 97 refl refl (blank (open_paren (letter 116 refl refl (close_paren (digit 49 refl refl refl refl refl refl end)))))) (just (name 97 (record { key = None; ty = Some (116 ∷ []); value = integer (pos 1) } ∷ []))) refl

-- `a k = (t) v`
spaced_property : IsDocument (97 ∷ 32 ∷ 107 ∷ 32 ∷ 61 ∷ 32 ∷ 40 ∷ 116 ∷ 41 ∷ 32 ∷ 118 ∷ []) (just (name 97 (record { key = Some (107 ∷ []); ty = Some (116 ∷ []); value = text (118 ∷ []) } ∷ [])))
unfolding is_bare is_identifier_char is_space is_newline_char is_banned is_punctuation is_digit_of
spaced_property = derived (letter 97 refl refl (blank (letter 107 refl refl (blank (equals_sign (blank (open_paren (letter 116 refl refl (close_paren (blank (letter 118 refl refl end))))))))))) (just (name 97 (record { key = Some (107 ∷ []); ty = Some (116 ∷ []); value = text (118 ∷ []) } ∷ []))) refl

-- `a{b}`
child : IsDocument (97 ∷ 123 ∷ 98 ∷ 125 ∷ []) (just (with 97 [] (just (name 98 []))))
unfolding is_bare is_identifier_char is_space is_newline_char is_banned is_punctuation is_digit_of
child = derived (letter 97 refl refl (open_brace (letter 98 refl refl (close_brace end)))) (just (with 97 [] (just (name 98 [])))) refl

-- `a { b;c }`
children_two : IsDocument (97 ∷ 32 ∷ 123 ∷ 32 ∷ 98 ∷ 59 ∷ 99 ∷ 32 ∷ 125 ∷ []) (just (with 97 [] (first (name 98 []) (just (name 99 [])))))
unfolding is_bare is_identifier_char is_space is_newline_char is_banned is_punctuation is_digit_of
children_two = derived (letter 97 refl refl (blank (open_brace (blank (letter 98 refl refl (semi (letter 99 refl refl (blank (close_brace end))))))))) (just (with 97 [] (first (name 98 []) (just (name 99 []))))) refl

-- `a {} ;`
ended_after_block : IsDocument (97 ∷ 32 ∷ 123 ∷ 125 ∷ 32 ∷ 59 ∷ []) (just (with 97 [] none))
unfolding is_bare is_identifier_char is_space is_newline_char is_banned is_punctuation is_digit_of
ended_after_block = derived (letter 97 refl refl (blank (open_brace (close_brace (blank (semi end)))))) (just (with 97 [] none)) refl

-- `a /-b c`
dropped_entry : IsDocument (97 ∷ 32 ∷ 47 ∷ 45 ∷ 98 ∷ 32 ∷ 99 ∷ []) (just (name 97 (argument (text (99 ∷ [])) ∷ [])))
unfolding is_bare is_identifier_char is_space is_newline_char is_banned is_punctuation is_digit_of
dropped_entry = derived (letter 97 refl refl (blank (dash (letter 98 refl refl (blank (letter 99 refl refl end)))))) (just (name 97 (argument (text (99 ∷ [])) ∷ []))) refl

-- `a /-k=1`
dropped_property : IsDocument (97 ∷ 32 ∷ 47 ∷ 45 ∷ 107 ∷ 61 ∷ 49 ∷ []) (just (name 97 []))
unfolding is_bare is_identifier_char is_space is_newline_char is_banned is_punctuation is_digit_of
dropped_property = derived (letter 97 refl refl (blank (dash (letter 107 refl refl (equals_sign (digit 49 refl refl refl refl refl refl end)))))) (just (name 97 [])) refl

-- `a /- ⏎ b c`
dash_over_lines : IsDocument (97 ∷ 32 ∷ 47 ∷ 45 ∷ 32 ∷ 10 ∷ 32 ∷ 98 ∷ 32 ∷ 99 ∷ []) (just (name 97 (argument (text (99 ∷ [])) ∷ [])))
unfolding is_bare is_identifier_char is_space is_newline_char is_banned is_punctuation is_digit_of
dash_over_lines = derived (letter 97 refl refl (blank (dash (blank (line_feed (blank (letter 98 refl refl (blank (letter 99 refl refl end))))))))) (just (name 97 (argument (text (99 ∷ [])) ∷ []))) refl

-- `/-a{b};c`
dropped_node : IsDocument (47 ∷ 45 ∷ 97 ∷ 123 ∷ 98 ∷ 125 ∷ 59 ∷ 99 ∷ []) (just (name 99 []))
unfolding is_bare is_identifier_char is_space is_newline_char is_banned is_punctuation is_digit_of
dropped_node = derived (dash (letter 97 refl refl (open_brace (letter 98 refl refl (close_brace (semi (letter 99 refl refl end))))))) (just (name 99 [])) refl

-- `a //⏎b`
comment_ends : IsDocument (97 ∷ 32 ∷ 47 ∷ 47 ∷ 10 ∷ 98 ∷ []) (first (name 97 []) (just (name 98 [])))
unfolding is_bare is_identifier_char is_space is_newline_char is_banned is_punctuation is_digit_of
comment_ends = derived (letter 97 refl refl (blank (comment (letter 98 refl refl end)))) (first (name 97 []) (just (name 98 []))) refl

-- `a \⏎ b`
joined_lines : IsDocument (97 ∷ 32 ∷ 92 ∷ 10 ∷ 32 ∷ 98 ∷ []) (just (name 97 (argument (text (98 ∷ [])) ∷ [])))
unfolding is_bare is_identifier_char is_space is_newline_char is_banned is_punctuation is_digit_of
joined_lines = derived (letter 97 refl refl (blank (escline_ (blank (letter 98 refl refl end))))) (just (name 97 (argument (text (98 ∷ [])) ∷ []))) refl

-- `a/**/b`
comment_is_space : IsDocument (97 ∷ 47 ∷ 42 ∷ 42 ∷ 47 ∷ 98 ∷ []) (just (name 97 (argument (text (98 ∷ [])) ∷ [])))
unfolding is_bare is_identifier_char is_space is_newline_char is_banned is_punctuation is_digit_of
comment_is_space = derived (letter 97 refl refl (block (letter 98 refl refl end))) (just (name 97 (argument (text (98 ∷ [])) ∷ []))) refl

-- `a ""`
empty_string : IsDocument (97 ∷ 32 ∷ 34 ∷ 34 ∷ []) (just (name 97 (argument (text []) ∷ [])))
unfolding is_bare is_identifier_char is_space is_newline_char is_banned is_punctuation is_digit_of
empty_string = derived (letter 97 refl refl (blank (empty refl end))) (just (name 97 (argument (text []) ∷ []))) refl

-- `a #true`
keyword_value : IsDocument (97 ∷ 32 ∷ 35 ∷ 116 ∷ 114 ∷ 117 ∷ 101 ∷ []) (just (name 97 (argument (truth true) ∷ [])))
unfolding is_bare is_identifier_char is_space is_newline_char is_banned is_punctuation is_digit_of
keyword_value = derived (letter 97 refl refl (blank (keyword_true refl end))) (just (name 97 (argument (truth true) ∷ []))) refl

-- `a/-{b} /-{c}{d}`
blocks_before : IsDocument (97 ∷ 47 ∷ 45 ∷ 123 ∷ 98 ∷ 125 ∷ 32 ∷ 47 ∷ 45 ∷ 123 ∷ 99 ∷ 125 ∷ 123 ∷ 100 ∷ 125 ∷ []) (just (with 97 [] (just (name 100 []))))
unfolding is_bare is_identifier_char is_space is_newline_char is_banned is_punctuation is_digit_of
blocks_before = derived (letter 97 refl refl (dash (open_brace (letter 98 refl refl (close_brace (blank (dash (open_brace (letter 99 refl refl (close_brace (open_brace (letter 100 refl refl (close_brace end))))))))))))) (just (with 97 [] (just (name 100 [])))) refl

-- `a {}`
no_block_is_no_empty_block : IsDocument (97 ∷ 32 ∷ 123 ∷ 125 ∷ []) (just (with 97 [] none))
unfolding is_bare is_identifier_char is_space is_newline_char is_banned is_punctuation is_digit_of
no_block_is_no_empty_block = derived (letter 97 refl refl (blank (open_brace (close_brace end)))) (just (with 97 [] none)) refl

-- `a{/-b;}`
block_of_gap : IsDocument (97 ∷ 123 ∷ 47 ∷ 45 ∷ 98 ∷ 59 ∷ 125 ∷ []) (just (with 97 [] none))
unfolding is_bare is_identifier_char is_space is_newline_char is_banned is_punctuation is_digit_of
block_of_gap = derived (letter 97 refl refl (open_brace (dash (letter 98 refl refl (semi (close_brace end)))))) (just (with 97 [] none)) refl

-- `a{b{c}}`
inner_end : IsDocument (97 ∷ 123 ∷ 98 ∷ 123 ∷ 99 ∷ 125 ∷ 125 ∷ []) (just (with 97 [] (just (with 98 [] (just (name 99 []))))))
unfolding is_bare is_identifier_char is_space is_newline_char is_banned is_punctuation is_digit_of
inner_end = derived (letter 97 refl refl (open_brace (letter 98 refl refl (open_brace (letter 99 refl refl (close_brace (close_brace end))))))) (just (with 97 [] (just (with 98 [] (just (name 99 [])))))) refl

-- `U+FEFFn`
bom_name : IsDocument (0xFEFF ∷ 110 ∷ []) (just (name 110 []))
unfolding is_bare is_identifier_char is_space is_newline_char is_banned is_punctuation is_digit_of
bom_name = derived_after_bom (letter 110 refl refl end) (just (name 110 [])) refl

-- `U+FEFF`
bom_alone : IsDocument (0xFEFF ∷ []) (none)
unfolding is_bare is_identifier_char is_space is_newline_char is_banned is_punctuation is_digit_of
bom_alone = derived_after_bom (end) (none) refl

-- not `a {} /-b`
entry_after_block : (x : Nodes) → IsDocument (97 ∷ 32 ∷ 123 ∷ 125 ∷ 32 ∷ 47 ∷ 45 ∷ 98 ∷ []) x → ⊥
unfolding is_bare is_identifier_char is_space is_newline_char is_banned is_punctuation is_digit_of
entry_after_block x i = refused (letter 97 refl refl (blank (open_brace (close_brace (blank (dash (letter 98 refl refl end))))))) refl refl x i

-- not `a/-/-b`
dash_twice : (x : Nodes) → IsDocument (97 ∷ 47 ∷ 45 ∷ 47 ∷ 45 ∷ 98 ∷ []) x → ⊥
unfolding is_bare is_identifier_char is_space is_newline_char is_banned is_punctuation is_digit_of
dash_twice x i = refused (letter 97 refl refl (dash (dash (letter 98 refl refl end)))) refl refl x i

-- not `n (t/-x)1`
dash_in_type : (x : Nodes) → IsDocument (110 ∷ 32 ∷ 40 ∷ 116 ∷ 47 ∷ 45 ∷ 120 ∷ 41 ∷ 49 ∷ []) x → ⊥
unfolding is_bare is_identifier_char is_space is_newline_char is_banned is_punctuation is_digit_of
dash_in_type x i = refused (letter 110 refl refl (blank (open_paren (letter 116 refl refl (dash (letter 120 refl refl (close_paren (digit 49 refl refl refl refl refl refl end)))))))) refl refl x i

-- not `a {} {}`
two_blocks : (x : Nodes) → IsDocument (97 ∷ 32 ∷ 123 ∷ 125 ∷ 32 ∷ 123 ∷ 125 ∷ []) x → ⊥
unfolding is_bare is_identifier_char is_space is_newline_char is_banned is_punctuation is_digit_of
two_blocks x i = refused (letter 97 refl refl (blank (open_brace (close_brace (blank (open_brace (close_brace end))))))) refl refl x i

-- not `;`
semicolon_alone : (x : Nodes) → IsDocument (59 ∷ []) x → ⊥
unfolding is_bare is_identifier_char is_space is_newline_char is_banned is_punctuation is_digit_of
semicolon_alone x i = refused (semi end) refl refl x i

-- not `a;;`
semicolon_twice : (x : Nodes) → IsDocument (97 ∷ 59 ∷ 59 ∷ []) x → ⊥
unfolding is_bare is_identifier_char is_space is_newline_char is_banned is_punctuation is_digit_of
semicolon_twice x i = refused (letter 97 refl refl (semi (semi end))) refl refl x i

-- not ` U+FEFF`
bom_after_space : (x : Nodes) → IsDocument (32 ∷ 0xFEFF ∷ []) x → ⊥
unfolding is_bare is_identifier_char is_space is_newline_char is_banned is_punctuation is_digit_of
bom_after_space x i = refused (blank (a_bom end)) refl refl x i

-- not `{}`
block_alone : (x : Nodes) → IsDocument (123 ∷ 125 ∷ []) x → ⊥
unfolding is_bare is_identifier_char is_space is_newline_char is_banned is_punctuation is_digit_of
block_alone x i = refused (open_brace (close_brace end)) refl refl x i

-- not `a}`
brace_alone : (x : Nodes) → IsDocument (97 ∷ 125 ∷ []) x → ⊥
unfolding is_bare is_identifier_char is_space is_newline_char is_banned is_punctuation is_digit_of
brace_alone x i = refused (letter 97 refl refl (close_brace end)) refl refl x i

-- not `a{`
open_block : (x : Nodes) → IsDocument (97 ∷ 123 ∷ []) x → ⊥
unfolding is_bare is_identifier_char is_space is_newline_char is_banned is_punctuation is_digit_of
open_block x i = refused (letter 97 refl refl (open_brace end)) refl refl x i

-- not `1`
number_as_name : (x : Nodes) → IsDocument (49 ∷ []) x → ⊥
unfolding is_bare is_identifier_char is_space is_newline_char is_banned is_punctuation is_digit_of
number_as_name x i = refused (digit 49 refl refl refl refl refl refl end) refl refl x i

-- not `(t)1`
number_after_type : (x : Nodes) → IsDocument (40 ∷ 116 ∷ 41 ∷ 49 ∷ []) x → ⊥
unfolding is_bare is_identifier_char is_space is_newline_char is_banned is_punctuation is_digit_of
number_after_type x i = refused (open_paren (letter 116 refl refl (close_paren (digit 49 refl refl refl refl refl refl end)))) refl refl x i

-- not `a k=`
no_value : (x : Nodes) → IsDocument (97 ∷ 32 ∷ 107 ∷ 61 ∷ []) x → ⊥
unfolding is_bare is_identifier_char is_space is_newline_char is_banned is_punctuation is_digit_of
no_value x i = refused (letter 97 refl refl (blank (letter 107 refl refl (equals_sign end)))) refl refl x i

-- not `a (t)k=1`
typed_key : (x : Nodes) → IsDocument (97 ∷ 32 ∷ 40 ∷ 116 ∷ 41 ∷ 107 ∷ 61 ∷ 49 ∷ []) x → ⊥
unfolding is_bare is_identifier_char is_space is_newline_char is_banned is_punctuation is_digit_of
typed_key x i = refused (letter 97 refl refl (blank (open_paren (letter 116 refl refl (close_paren (letter 107 refl refl (equals_sign (digit 49 refl refl refl refl refl refl end)))))))) refl refl x i

-- not `a =1`
no_key : (x : Nodes) → IsDocument (97 ∷ 32 ∷ 61 ∷ 49 ∷ []) x → ⊥
unfolding is_bare is_identifier_char is_space is_newline_char is_banned is_punctuation is_digit_of
no_key x i = refused (letter 97 refl refl (blank (equals_sign (digit 49 refl refl refl refl refl refl end)))) refl refl x i

-- not `a/-`
dash_alone : (x : Nodes) → IsDocument (97 ∷ 47 ∷ 45 ∷ []) x → ⊥
unfolding is_bare is_identifier_char is_space is_newline_char is_banned is_punctuation is_digit_of
dash_alone x i = refused (letter 97 refl refl (dash end)) refl refl x i

-- not `a k=/-v`
dash_after_equals : (x : Nodes) → IsDocument (97 ∷ 32 ∷ 107 ∷ 61 ∷ 47 ∷ 45 ∷ 118 ∷ []) x → ⊥
unfolding is_bare is_identifier_char is_space is_newline_char is_banned is_punctuation is_digit_of
dash_after_equals x i = refused (letter 97 refl refl (blank (letter 107 refl refl (equals_sign (dash (letter 118 refl refl end)))))) refl refl x i

-- not `/-/-a`
dropped_twice : (x : Nodes) → IsDocument (47 ∷ 45 ∷ 47 ∷ 45 ∷ 97 ∷ []) x → ⊥
unfolding is_bare is_identifier_char is_space is_newline_char is_banned is_punctuation is_digit_of
dropped_twice x i = refused (dash (dash (letter 97 refl refl end))) refl refl x i

-- not `a ""b`
strings_joined : (x : Nodes) → IsDocument (97 ∷ 32 ∷ 34 ∷ 34 ∷ 98 ∷ []) x → ⊥
unfolding is_bare is_identifier_char is_space is_newline_char is_banned is_punctuation is_digit_of
strings_joined x i = refused (letter 97 refl refl (blank (empty refl (letter 98 refl refl end)))) refl refl x i

-- not `(t)`
type_alone : (x : Nodes) → IsDocument (40 ∷ 116 ∷ 41 ∷ []) x → ⊥
unfolding is_bare is_identifier_char is_space is_newline_char is_banned is_punctuation is_digit_of
type_alone x i = refused (open_paren (letter 116 refl refl (close_paren end))) refl refl x i

no_token_at_slash : {s r : Text} {k : Token} → BeginsToken (47 ∷ 32 ∷ s) k r → ⊥
unfolding is_space is_newline_char is_identifier_char is_banned is_punctuation
no_token_at_slash (t_space (NodeSpace.ws (Rattle.kdl_text.specs.Trivia.Ws.space (Rattle.kdl_text.specs.Chars.Space.space x)))) = cc
no_token_at_slash (t_space (NodeSpace.ws (Rattle.kdl_text.specs.Trivia.Ws.comment p))) = elim p [ ]
no_token_at_slash (t_space (NodeSpace.escline p)) = elim p [ ]
no_token_at_slash (t_newline (Break.newline (Rattle.kdl_text.specs.Chars.Newline.one x y))) = cc
no_token_at_slash (t_newline (Break.comment p)) = elim p [ ]
no_token_at_slash (t_string p) = let x = string_begins p in cc
no_token_at_slash (t_value p) = let x = plain_begins p in cc

-- not `a/ -b`
slash_alone : (x : Nodes) → IsDocument (97 ∷ 47 ∷ 32 ∷ 45 ∷ 98 ∷ []) x → ⊥
unfolding is_bare is_identifier_char is_space is_newline_char is_banned is_punctuation
slash_alone x i = faulty (then (t_string (StringPiece.bare (Rattle.kdl_text.specs.Bare.bare {w = 97 ∷ []} refl refl refl))) here) (λ e. cc) (λ k t b. no_token_at_slash b) x i
