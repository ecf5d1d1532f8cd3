-- Printed names are read back, before each text that may follow a name.
use Rattle.std.proofs.Common.{◌≡◌, ℕ, Bool, true, false, not, ◌&&◌, ◌||◌, ◌==◌, [], ◌∷◌, ◌++◌, map, codes, refl, sym, ap, subst, inl, inr, arith, append-nil}
use Rattle.std.proofs.lemmas.Bool.{and_parts, cases_Bool}
use Rattle.std.proofs.lemmas.Bool.Decides.{nat_tests}
use Rattle.std.specs.List.{list_all, list_any}
use Rattle.std.specs.Str.{bytes_eq}
use Rattle.kdl_text.specs.Bare.{BareString, is_bare}
use Rattle.kdl_text.specs.Chars.{Text, begins, begins_with, is_banned, is_identifier_char, is_literal, is_newline_char, is_punctuation, is_scalar, is_space, starts}
use Rattle.kdl_text.specs.MultiLine.{IsQuoted}
use Rattle.kdl_text.specs.Strings.{AreUnits, body, literal, more, none, one_literal, quoted, values}
use Rattle.kdl_text.specs.Trivia.{ValueEnd}
use Rattle.kdl_text.proofs.Quoted.BareReads.{bare_begins}
use Rattle.kdl_value.specs.Spelled.{spelled}
use Rattle.kdl_syntax.specs.Pieces as piece
use Rattle.kdl_syntax.specs.Pieces.{StringPiece}
use Rattle.kdl_syntax.proofs.Lexing.StringUnique.{begins_piece}
use Rattle.kdl_syntax.proofs.Moving.Puts.{same_piece}
use Rattle.kdl_syntax.proofs.Moving.StringMoves.{move_piece}
use Rattle.kdl_entry.specs.Entries.{IsString, string}
use Rattle.kdl_entry.proofs.Laying.ValueReadsBack.{printed_string}
use Rattle.kdl_query.specs.Printed.{is_operator_char, print_name}
use Rattle.kdl_query.specs.QueryText.{IsName, IsOperatorWord, ends_type}

identifier_literal : (c : ℕ) → is_identifier_char c ≡ true → is_literal c ≡ true
unfolding is_literal is_identifier_char is_space is_newline_char is_banned is_punctuation
identifier_literal c h = grind (arith, nat_tests)

no_quote : (c : ℕ) → is_identifier_char c ≡ true → (c == 34) ≡ false
unfolding is_identifier_char is_space is_newline_char is_banned is_punctuation
no_quote c h = grind (arith, nat_tests)

or_left : (x y : Bool) → (x || y) ≡ false → x ≡ false
or_left true y h = cc
or_left false y h = refl

-- what may follow a printed piece of a query
pub record Ends (r : Text) : Type 0 where
  pub identifier : starts is_identifier_char r ≡ false
  pub quote : begins 34 r ≡ false
  pub left : begins 40 r ≡ false
  pub equals : begins 61 r ≡ false

-- a space, `)`, `[` or `]`
abbrev pub is_end : ℕ → Bool
is_end c = (c == 32 || c == 41) || (c == 91 || c == 93)

end_class : (c : ℕ) → is_end c ≡ true → (is_identifier_char c ≡ false) × ((c == 34) ≡ false) × ((c == 40) ≡ false) × ((c == 61) ≡ false)
unfolding is_identifier_char is_space is_newline_char is_banned is_punctuation
end_class c h = (grind (arith, nat_tests), grind (arith, nat_tests), grind (arith, nat_tests), grind (arith, nat_tests))

pub ends_at : (c : ℕ) (r : Text) → is_end c ≡ true → Ends (c ∷ r)
ends_at c r h = let e = end_class c h in record { identifier = e.0; quote = e.1; left = e.2; equals = e.3 }

pub ends_nothing : Ends []
ends_nothing = record { identifier = refl; quote = refl; left = refl; equals = refl }

-- what a printed name begins with: a quote, or an identifier character of no operator
abbrev pub is_front : ℕ → Bool
is_front c = c == 34 || (is_identifier_char c && not (is_operator_char c))

front_class : (c : ℕ) → is_identifier_char c ≡ true → is_operator_char c ≡ false → is_front c ≡ true
front_class c h k = rw (h, k) (grind (arith, nat_tests))

bare_front : (v r : Text) → is_bare v ≡ true → list_any is_operator_char v ≡ false → starts is_front (v ++ r) ≡ true
unfolding is_bare
bare_front [] r h k = cc
bare_front (c ∷ v) r h k =
    let (all, form) = and_parts (list_all is_identifier_char (c ∷ v)) _ h in
    let (here, others) = and_parts (is_identifier_char c) _ all in
    front_class c here (or_left (is_operator_char c) _ k)

pub name_front : (v r : Text) → starts is_front (print_name v ++ r) ≡ true
unfolding spelled
name_front v r =
    elim (cases_Bool (is_bare v)) [
      | inl is ↦ elim (cases_Bool (list_any is_operator_char v)) [
        | inl some ↦ rw (is, some) refl
        | inr plain ↦ elim (cases_Bool (bytes_eq v (codes "-inf"))) [
          | inl k ↦ rw (is, plain, k) refl
          | inr k ↦ rw (is, plain, k) (bare_front v r is plain)
        ]
      ]
      | inr isnt ↦ rw isnt refl
    ]

-- what begins so is no space, no name after a type that would end there
front_parts : (c : ℕ) → is_front c ≡ true → (begins_piece c ≡ true) × ((c == 62) ≡ false) × ((c == 43) ≡ false) × ((c == 124) ≡ false)
front_parts c h = (grind (arith, nat_tests), grind (arith, nat_tests), grind (arith, nat_tests), grind (arith, nat_tests))

pub front_no_end : (s : Text) → starts is_front s ≡ true → ends_type s ≡ false
front_no_end [] h = cc
front_no_end (c ∷ s) h = let p = front_parts c h in rw (p.1, p.2, p.3) (grind (arith, nat_tests))

-- a name between quotes
units_of : (v r : Text) → list_all is_identifier_char v ≡ true → AreUnits (v ++ r) r (map literal v)
units_of [] r h = none
units_of (c ∷ v) r h = let (here, others) = and_parts (is_identifier_char c) _ h in more (one_literal (identifier_literal c here)) (units_of v r others)

values_of : (v : Text) → v ≡ values (map literal v)
values_of [] = refl
values_of (c ∷ v) = ap (λ z. c ∷ z) (values_of v)

no_three : (v : Text) → is_bare v ≡ true → begins_with (34 ∷ 34 ∷ 34 ∷ []) (34 ∷ v ++ (34 ∷ [])) ≡ false
unfolding is_bare
no_three [] h = cc
no_three (c ∷ v) h = let (all, form) = and_parts (list_all is_identifier_char (c ∷ v)) _ h in rw (no_quote c (and_parts (is_identifier_char c) _ all).0) refl

quoted_piece : (v : Text) → is_bare v ≡ true → StringPiece (34 ∷ v ++ (34 ∷ [])) [] v
unfolding is_bare
quoted_piece v h = piece.quoted (IsQuoted.on_one_line (no_three v h) (quoted (body (units_of v (34 ∷ []) (and_parts (list_all is_identifier_char v) _ h).0) (values_of v))))

spelled_piece : (v : Text) → list_all is_scalar v ≡ true → StringPiece (spelled v) [] v
spelled_piece v h = go (printed_string v [] h ValueEnd.nothing)
  where
    go : IsString true (spelled v ++ []) [] v → StringPiece (spelled v) [] v
    go (string p e) = subst (λ z. StringPiece z [] v) (append-nil (spelled v)) p

name_piece : (v : Text) → list_all is_scalar v ≡ true → StringPiece (print_name v) [] v
name_piece v h =
    elim (cases_Bool (is_bare v)) [
      | inl is ↦ elim (cases_Bool (list_any is_operator_char v)) [
        | inl some ↦ rw (is, some) (quoted_piece v is)
        | inr plain ↦ rw (is, plain) (spelled_piece v h)
      ]
      | inr isnt ↦ rw isnt (spelled_piece v h)
    ]

name_there : (v r : Text) → list_all is_scalar v ≡ true → Ends r → StringPiece (print_name v ++ r) r v
name_there v r h e =
    let m = move_piece (name_piece v h) in
    subst (λ z. StringPiece z r v) (same_piece (print_name v) m.at (sym (append-nil (print_name v))) r) (m.there r e.identifier e.quote)

-- an operator is between quotes
word_quoted : (v : Text) → IsOperatorWord v → print_name v ≡ 34 ∷ v ++ (34 ∷ [])
unfolding is_bare is_identifier_char is_space is_newline_char is_banned is_punctuation
word_quoted v o =
    elim o [
      | inl e ↦ rw e refl
      | inr o ↦ elim o [
        | inl e ↦ rw e refl
        | inr o ↦ elim o [
          | inl e ↦ rw e refl
          | inr o ↦ elim o [
            | inl e ↦ rw e refl
            | inr e ↦ rw e refl
          ]
        ]
      ]
    ]

quote_no_bare : (s r v : Text) → BareString (34 ∷ s) r v → ⊥
unfolding is_identifier_char is_space is_newline_char is_banned is_punctuation
quote_no_bare s r v b = let f : false ≡ true = bare_begins b in cc

no_word : (v r : Text) → BareString (print_name v ++ r) r v → IsOperatorWord v → ⊥
no_word v r b o = quote_no_bare _ r v (subst (λ z. BareString (z ++ r) r v) (word_quoted v o) b)

pub name_is : (v r : Text) → list_all is_scalar v ≡ true → Ends r → IsName (print_name v ++ r) r v
name_is v r h e = record { string = name_there v r h e; no_operator = no_word v r; no_function = e.left }
