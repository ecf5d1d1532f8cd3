-- A text is one identifier at most, and one entry at most.
use Rattle.std.proofs.Common.{◌≡◌, Bool, true, false, [], ◌∷◌, Option, Some, refl, sym, subst, ap}
use Rattle.kdl_text.specs.Chars.{Text, Star, Plus, plus}
use Rattle.kdl_text.specs.Chars.Star.{none, more}
use Rattle.kdl_text.specs.Trivia.{NodeSpace, LineSpace, Slashdash, slashdash}
use Rattle.kdl_text.proofs.Looking.Stars.{star_map, longest_det}
use Rattle.kdl_text.proofs.Spacing.SpaceUnique.{node_space_dets, line_space_dets}
use Rattle.kdl_value.specs.Data.{Value, text}
use Rattle.kdl_entry.specs.Data.{Entry}
use Rattle.kdl_entry.specs.Entries.{IsString, string, IsPlainValue, a_string, a_plain, IsType, parens, untyped, typed, IsValue, value, IsEntry, property, argument, IsIdentifierTextIn, DroppedFirst, dropped_first, before_entry, IsEntryTextIn, entry_text}
use Rattle.kdl_syntax.specs.Tokens.{Token, space, newline, string as string_token, value as value_token, left, BeginsToken, t_space, t_newline, t_slashdash, t_string, t_value, t_left, t_right, t_equals}
use Rattle.kdl_syntax.proofs.Lexing.TokenUnique.{token_det, no_token}
use Rattle.kdl_syntax.proofs.Lexing.StringUnique.{string_det, plain_det, string_or_plain}

-- where a token begins that is no node-space, none begins
no_space : {s r t : Text} {k : Token} → BeginsToken s k t → (space ≡ k → ⊥) → NodeSpace s r → ⊥
no_space t n x = n (token_det (t_space x) t).1

no_line_space : {s r t : Text} {k : Token} → BeginsToken s k t → (space ≡ k → ⊥) → (newline ≡ k → ⊥) → LineSpace s r → ⊥
no_line_space t n m (LineSpace.space x) = n (token_det (t_space x) t).1
no_line_space t n m (LineSpace.«break» x) = m (token_det (t_newline x) t).1

pub string_same : {a b : Bool} {s r t v w : Text} → IsString a s r v → IsString b s t w → (r ≡ t) × (v ≡ w)
string_same (string p e) (string q f) = string_det p q

plain_same : {a b : Bool} {s r t : Text} {v w : Value} → IsPlainValue a s r v → IsPlainValue b s t w → (r ≡ t) × (v ≡ w)
plain_same (a_string x) (a_string y) = let d = string_same x y in (d.0, ap text d.1)
plain_same (a_plain p e) (a_plain q f) = plain_det p q
plain_same (a_string (string p e)) (a_plain q f) = absurd (string_or_plain p q)
plain_same (a_plain q f) (a_string (string p e)) = absurd (string_or_plain p q)

-- two runs of node-spaces from one text to where none begins
spaces_same : {s r t : Text} → Star NodeSpace s r → ((u : Text) → NodeSpace r u → ⊥) → Star NodeSpace s t → ((u : Text) → NodeSpace t u → ⊥) → r ≡ t
spaces_same p x q y = longest_det node_space_dets p x q y

at_string : {a : Bool} {s r v : Text} → IsString a s r v → (u : Text) → NodeSpace s u → ⊥
at_string (string p e) u x = no_space (t_string p) (λ h. cc) x

at_plain : {a : Bool} {s r : Text} {v : Value} → IsPlainValue a s r v → (u : Text) → NodeSpace s u → ⊥
at_plain (a_string d) u x = at_string d u x
at_plain (a_plain p e) u x = no_space (t_value p) (λ h. cc) x

at_right : {r : Text} (u : Text) → NodeSpace (41 ∷ r) u → ⊥
at_right u x = no_space t_right (λ h. cc) x

at_equals : {r : Text} (u : Text) → NodeSpace (61 ∷ r) u → ⊥
at_equals u x = no_space t_equals (λ h. cc) x

type_same : {a b : Bool} {s r t v w : Text} → IsType a s r v → IsType b s t w → (r ≡ t) × (v ≡ w)
type_same {b = b} (parens {t = t} {u = u} ss d us) (parens {u = u'} {r = r'} {v = w} ss' d' us') =
    let x = spaces_same ss (at_string d) ss' (at_string d') in
    let y = string_same d (subst (λ z. IsString b z u' w) (sym x) d') in
    let z = spaces_same us at_right (subst (λ z. Star NodeSpace z (41 ∷ r')) (sym y.0) us') at_right in
    (cc, y.1)

no_left : {a : Bool} {s r : Text} {v : Value} → IsPlainValue a (40 ∷ s) r v → ⊥
no_left (a_string (string p e)) = let x = (token_det (t_string p) t_left).1 in cc
no_left (a_plain p e) = let x = (token_det (t_value p) t_left).1 in cc

value_same : {a b : Bool} {s r t : Text} {x y : Option Text} {v w : Value} → IsValue a s r x v → IsValue b s t y w → (r ≡ t) × (x ≡ y) × (v ≡ w)
value_same (value untyped d) (value untyped e) = let p = plain_same d e in (p.0, refl, p.1)
value_same {b = b} (value (typed n ss) d) (value {r = q} {v = w} (typed {t = t} {r = r} m us) e) =
    let x = type_same n m in
    let y = spaces_same ss (at_plain d) (subst (λ z. Star NodeSpace z r) (sym x.0) us) (at_plain e) in
    let z = plain_same d (subst (λ z. IsPlainValue b z q w) (sym y) e) in
    (z.0, ap Some x.1, z.1)
value_same (value untyped d) (value (typed (parens ss n us) vs) e) = absurd (no_left d)
value_same (value (typed (parens ss n us) vs) e) (value untyped d) = absurd (no_left d)

-- no `=` follows, after node-spaces or without
abbrev pub NoEquals : Text → Type 0
NoEquals s = (u : Text) → Star NodeSpace s (61 ∷ u) → ⊥

-- a string before `=` is no value
key_or_value : {a b : Bool} {s t u r k : Text} {y : Option Text} {v : Value} → IsString a s t k → Star NodeSpace t (61 ∷ u) → IsValue b s r y v → NoEquals r → ⊥
key_or_value {u = u} (string p e) ss (value untyped (a_string (string q f))) m = m u (subst (λ z. Star NodeSpace z (61 ∷ u)) (string_det p q).0 ss)
key_or_value (string p e) ss (value untyped (a_plain q f)) m = string_or_plain p q
key_or_value (string p e) ss (value (typed (parens us n vs) ws) d) m = let x = (token_det (t_string p) t_left).1 in cc

-- with no `=` after them, two entries at the front of a text are one
pub entry_same : {a b : Bool} {s r t : Text} {x y : Entry} → IsEntry a s r x → NoEquals r → IsEntry b s t y → NoEquals t → (r ≡ t) × (x ≡ y)
entry_same (argument v) n (argument w) m = let d = value_same v w in let e = d.1 in let f = d.2 in (d.0, cc)
entry_same {b = b} (property {t = t} {u = u} {w = p} k ss us v) n (property {t = t'} {u = u'} {w = p'} {r = r'} {y = y} {v = w} k' ss' us' v') m =
    let x = string_same k k' in
    let y1 = spaces_same ss at_equals (subst (λ z. Star NodeSpace z (61 ∷ u')) (sym x.0) ss') at_equals in
    let e : u' ≡ u = cc in
    let y2 = spaces_same us (at_value v) (subst (λ z. Star NodeSpace z p') e us') (at_value v') in
    let d = value_same v (subst (λ z. IsValue b z r' y w) (sym y2) v') in
    let f = x.1 in let g = d.1 in let h = d.2 in
    (d.0, cc)
  where
    at_value : {a : Bool} {s r : Text} {y : Option Text} {v : Value} → IsValue a s r y v → (u : Text) → NodeSpace s u → ⊥
    at_value (value untyped d) u x = at_plain d u x
    at_value (value (typed (parens ss n us) vs) d) u x = no_space t_left (λ h. cc) x
entry_same (property k ss us v) n (argument w) m = absurd (key_or_value k ss w m)
entry_same (argument w) m (property k ss us v) n = absurd (key_or_value k ss w m)

-- a string, a number, a keyword or `(`
abbrev begins_entry : Token → Bool
begins_entry (string_token v) = true
begins_entry (value_token v) = true
begins_entry left = true
begins_entry _ = false

-- the token at the front of an entry
record Front (s : Text) : Type 0 where
  token : Token
  following : Text
  begins : BeginsToken s token following
  is : begins_entry token ≡ true

entry_front : {a : Bool} {s r : Text} {x : Entry} → IsEntry a s r x → Front s
entry_front (property (string p e) ss us v) = record { token = _; following = _; begins = t_string p; is = refl }
entry_front (argument (value untyped (a_string (string p e)))) = record { token = _; following = _; begins = t_string p; is = refl }
entry_front (argument (value untyped (a_plain p e))) = record { token = _; following = _; begins = t_value p; is = refl }
entry_front (argument (value (typed (parens ss n us) vs) d)) = record { token = left; following = _; begins = t_left; is = refl }

entry_no : {s r : Text} {k : Token} → Front s → BeginsToken s k r → begins_entry k ≡ false → ⊥
entry_no f t h = let x : f.token ≡ _ = (token_det f.begins t).1 in let y = f.is in cc

no_lines : {s : Text} → Front s → (u : Text) → LineSpace s u → ⊥
no_lines f u (LineSpace.space n) = entry_no f (t_space n) refl
no_lines f u (LineSpace.«break» n) = entry_no f (t_newline n) refl

no_dash : {a : Bool} {s r t : Text} {x : Entry} → IsEntry a s r x → Slashdash s t → ⊥
no_dash d (slashdash ls) = entry_no (entry_front d) t_slashdash refl

dash_lines : {s t : Text} → Slashdash s t → (u : Text) → LineSpace s u → ⊥
dash_lines (slashdash ls) u x = no_line_space t_slashdash (λ h. cc) (λ h. cc) x

-- line-spaces up to the end, or node-spaces up to an entry or a slashdash, come before no `=`
to_lines : {s r : Text} → Star NodeSpace s r → Star LineSpace s r
to_lines ss = star_map (λ u v. LineSpace.space) ss

equals_lines : {r : Text} (u : Text) → LineSpace (61 ∷ r) u → ⊥
equals_lines u x = no_line_space t_equals (λ h. cc) (λ h. cc) x

end_lines : (u : Text) → LineSpace [] u → ⊥
end_lines u (LineSpace.space n) = no_token (t_space n)
end_lines u (LineSpace.«break» n) = no_token (t_newline n)

no_equals_end : {r : Text} → Star LineSpace r [] → NoEquals r
no_equals_end ls u ss = let e = longest_det line_space_dets ls end_lines (to_lines ss) equals_lines in cc

no_equals_then : {r t : Text} → Plus NodeSpace r t → ((u : Text) → LineSpace t u → ⊥) → ((u : Text) → t ≡ 61 ∷ u → ⊥) → NoEquals r
no_equals_then (plus n ss) x y u us = y u (longest_det line_space_dets (to_lines (more n ss)) x (to_lines us) equals_lines)

-- what comes after a dropped entry and its spaces: more of them, or the entry
data Items (a : Bool) : Text → Text → Type 0 where
  items : {s t r : Text} {x : Entry} → Star (DroppedFirst a) s t → IsEntry a t r x → Items a s r

items_lines : {a : Bool} {s r : Text} → Items a s r → (u : Text) → LineSpace s u → ⊥
items_lines (items none d) u x = no_lines (entry_front d) u x
items_lines (items (more (dropped_first m i n) ds) d) u x = dash_lines m u x

items_equals : {a : Bool} {s r : Text} → Items a s r → (u : Text) → s ≡ 61 ∷ u → ⊥
items_equals {a = a} {r = r} i u e = go (subst (λ z. Items a z r) e i)
  where
    go : {s r : Text} → Items a (61 ∷ s) r → ⊥
    go (items none d) = entry_no (entry_front d) t_equals refl
    go (items (more (dropped_first m i n) ds) d) = elim m [ ]

after_dropped : {a : Bool} {s t r : Text} → Plus NodeSpace s t → Items a t r → NoEquals s
after_dropped n i = no_equals_then n (items_lines i) (items_equals i)

last_same : {a : Bool} {s t u r q : Text} {x y : Entry} → Star (DroppedFirst a) s t → IsEntry a t r x → Star LineSpace r [] → Star (DroppedFirst a) s u → IsEntry a u q y → Star LineSpace q [] → x ≡ y
last_same none d e none d' e' = (entry_same d (no_equals_end e) d' (no_equals_end e')).1
last_same none d e (more (dropped_first m i n) ds) d' e' = absurd (no_dash d m)
last_same (more (dropped_first m i n) ds) d e none d' e' = absurd (no_dash d' m)
last_same {a = a} {u = u} (more (dropped_first {t = p} (slashdash ls) i n) ds) d e (more (dropped_first {t = p'} {u = v} {r = w} {e = z} (slashdash ls') i' n') ds') d' e' =
    let x = longest_det line_space_dets ls (no_lines (entry_front i)) ls' (no_lines (entry_front i')) in
    let y = entry_same i (after_dropped n (items ds d)) (subst (λ q. IsEntry a q v z) (sym x) i') (after_dropped n' (items ds' d')) in
    let k = plus_same n (items_lines (items ds d)) (subst (λ q. Plus NodeSpace q w) (sym y.0) n') (items_lines (items ds' d')) in
    last_same ds d e (subst (λ q. Star (DroppedFirst a) q u) (sym k) ds') d' e'
  where
    plus_same : {s r t : Text} → Plus NodeSpace s r → ((u : Text) → LineSpace r u → ⊥) → Plus NodeSpace s t → ((u : Text) → LineSpace t u → ⊥) → r ≡ t
    plus_same (plus n ss) x (plus m us) y = spaces_same (more n ss) (λ u h. x u (LineSpace.space h)) (more m us) (λ u h. y u (LineSpace.space h))

pub one_identifier : (wide : Bool) (t v w : Text) → IsIdentifierTextIn wide t v → IsIdentifierTextIn wide t w → v ≡ w
one_identifier wide t v w a b = (string_same a b).1

pub one_entry : (wide : Bool) (t : Text) (x y : Entry) → IsEntryTextIn wide t x → IsEntryTextIn wide t y → x ≡ y
one_entry wide t x y (entry_text (before_entry ls ds) d e) (entry_text {u = u} (before_entry ls' ds') d' e') =
    let k = longest_det line_space_dets ls (items_lines (items ds d)) ls' (items_lines (items ds' d')) in
    last_same ds d e (subst (λ q. Star (DroppedFirst wide) q u) (sym k) ds') d' e'
