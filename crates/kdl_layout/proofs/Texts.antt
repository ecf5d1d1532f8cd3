-- Texts of one or four characters, and the formats of lines and documents.
use Rattle.kdl_layout.proofs.Common.{◌≡◌, ◌≢◌, ℕ, Bool, zero, suc, true, false, List, [], ◌∷◌, ◌++◌, ◌==◌, lit<, refl, sym, ap, ◌∙◌, Option, None, Some, String, string_bytes, Global, IfOk, MatchBool, MatchOption, Result, Ok, Err, ◌+◌, add-one, append_assoc, and_parts, eqb-true, chars-IsAscii, chars-nil, chars-append, chars_past_char, encodes-chars, IsUtf8-string_bytes, encode_utf8, list_all, repeat, chars, encode_utf8_all, IsAscii, IsUtf8, Text, times, Value, print_value, put_format, text_of, Entry, EntryFormat, empty_format, entry_format_tree, KdlEntryFormat, DocumentFormat, NodeFormat, node_format_tree, document_format_tree, KdlNodeFormat, or_empty_document, in_braces, without_bom, NodeTexts, line_of, following, option_map, Identifier, autoformatted_format, is_kept_format, plain_format}
use Rattle.std.proofs.Common.{string_len}
use Rattle.std.proofs.lemmas.Bool.{ltb-true}
use Rattle.std.proofs.lemmas.Str.{chars_from_encodes}
use Rattle.std.specs.Prelude.{nat_lt}
use Rattle.kdl_layout.proofs.Rewriting.Pushing.{no_bytes}

ascii : (s : Text) → list_all (λ c. nat_lt c 128) s ≡ true → IsAscii s
ascii [] h i = lit< tt
ascii (c ∷ s) h zero = ltb-true c 128 (and_parts (nat_lt c 128) (list_all (λ c. nat_lt c 128) s) h).0
ascii (c ∷ s) h (suc i) = ascii s (and_parts (nat_lt c 128) (list_all (λ c. nat_lt c 128) s) h).1 i

pub ascii_text : (s : Text) → list_all (λ c. nat_lt c 128) s ≡ true → chars s ≡ s
ascii_text s h = chars-IsAscii s (ascii s h)

pub newline_text : chars (10 ∷ []) ≡ 10 ∷ []
newline_text = ascii_text (10 ∷ []) refl

pub space_text : chars (32 ∷ []) ≡ 32 ∷ []
space_text = ascii_text (32 ∷ []) refl

-- a format with five other texts, and none around the type
pub line_put : (f : NodeFormat) (a b c d e : Text) (k : NodeTexts) (before : Text) → a ≡ k.before ++ before → b ≡ k.before_block ++ (32 ∷ []) → c ≡ k.last ++ k.space → d ≡ k.comment ++ (10 ∷ []) → e ≡ k.following
    → record f { leading = a; before_children = b; before_terminator = c; terminator = d; trailing = e; before_ty_name = []; after_ty_name = []; after_ty = [] } ≡ line_of before k
line_put f a b c d e k before x y z u v = rw (x, y, z, u, v) refl

pub type_cleared : (f : KdlNodeFormat) (a b c : String Global) → text_of a ≡ [] → text_of b ≡ [] → text_of c ≡ []
    → node_format_tree (record f { before_ty_name = a; after_ty_name = b; after_ty = c }) ≡ record (node_format_tree f) { before_ty_name = []; after_ty_name = []; after_ty = [] }
type_cleared f a b c x y z = rw (x, y, z) refl

-- a text that was made, or put in place of an old one
pub put_text : (P : Type 0) (o : Option (String Global)) (a : String Global) (more t : Text) → MatchOption o (P × (more ≡ t)) (λ s. text_of s ≡ t) → MatchOption o (text_of a ≡ more) (λ s. text_of a ≡ text_of s) → text_of a ≡ t
put_text P None a more t h p = p ∙ h.1
put_text P (Some s) a more t h p = p ∙ h

-- the texts around the nodes of a document, and between braces
pub content_made : {a b : Text} (leading : Text) → a ≡ b → ◌≡◌ {A = Option DocumentFormat} (Some (record { leading = leading; trailing = a })) (Some (record { leading = leading; trailing = b }))
content_made leading e = ap (λ (t : Text). let f : DocumentFormat = record { leading = leading; trailing = t } in Some f) e

pub braces_made : (l t : String Global) (f g : DocumentFormat) (before : Text) → text_of l ≡ 10 ∷ f.leading → text_of t ≡ f.trailing ++ before → Some f ≡ Some g → document_format_tree (record { leading = l; trailing = t }) ≡ in_braces before g
braces_made l t f g before x y e = rw (x, y) (ap (λ (o : Option DocumentFormat). in_braces before (or_empty_document o)) e)

-- the format of an entry after a text
pub format_made : (f : KdlEntryFormat) (a b : String Global) (t : Text) (v : Value) → entry_format_tree f ≡ empty_format → text_of a ≡ print_value v → text_of b ≡ t ++ (32 ∷ []) → t ≢ []
    → Some (entry_format_tree (record f { value_repr = a; leading = b })) ≡ plain_format t v
format_made f a b [] v h x y n = absurd (n refl)
format_made f a b (c ∷ s) v h x y n = ap (λ (z : EntryFormat). let g : EntryFormat = record z { value_repr = text_of a; leading = text_of b } in Some g) h ∙ rw (x, y) refl

-- an entry with this format follows the text
pub put_plain : (t : Text) (e : Entry) → put_format (plain_format t e.value) e ≡ following t e
put_plain [] e = refl
put_plain (c ∷ t) e = refl

-- a printed text
pub printed_text : {E : Type 0} (r : Result (String Global) E) (t : Text) → IfOk r (λ s. string_bytes s ≡ encode_utf8_all t) → IfOk r (λ s. text_of s ≡ t)
printed_text (Ok s) t h = sym (chars_from_encodes t (string_bytes s) (IsUtf8-string_bytes s) (sym h))
printed_text (Err e) t h = tt

-- a string has no characters where it has no bytes
pub empty_string : (b : Bool) (s : String Global) → b ≡ (string_len s == 0) → MatchBool b (text_of s ≡ []) (text_of s ≢ [])
empty_string b s e = no_bytes b (string_bytes s) (IsUtf8-string_bytes s) (e ∙ ap (λ (n : ℕ). n == 0) s.bytes.ok.0)

-- the U+FEFF that begins a text
pub bom_cut : (bs rest : List ℕ) → IsUtf8 bs → bs ≡ encode_utf8 0xFEFF ++ rest → chars rest ≡ without_bom (chars bs)
bom_cut bs rest u e = sym (ap without_bom (chars_past_char bs rest 0xFEFF u e))

same_without_bom : (s : Text) → ((t : Text) → s ≡ 0xFEFF ∷ t → ⊥) → s ≡ without_bom s
same_without_bom [] h = refl
same_without_bom (c ∷ s) h = go (c == 0xFEFF) refl
  where
    go : (b : Bool) → (c == 0xFEFF) ≡ b → c ∷ s ≡ without_bom (c ∷ s)
    go true e = absurd (h s (ap (λ (d : ℕ). d ∷ s) (eqb-true c 0xFEFF e)))
    go false e = rw e refl

pub no_bom : (bs : List ℕ) → IsUtf8 bs → ((rest : List ℕ) → bs ≢ encode_utf8 0xFEFF ++ rest) → chars bs ≡ without_bom (chars bs)
no_bom bs u h = same_without_bom (chars bs) (λ t e. h (encode_utf8_all t) (sym (encodes-chars bs u) ∙ ap encode_utf8_all e))

-- a text so many times
chars_repeated : (n : ℕ) (bs : List ℕ) → IsUtf8 bs → chars (repeat n bs) ≡ repeat n (chars bs)
chars_repeated zero bs u = chars-nil
chars_repeated (suc n) bs u = chars-append bs (repeat n bs) u ∙ ap (λ (t : Text). chars bs ++ t) (chars_repeated n bs u)

pub text_repeated : {E : Type 0} (r : Result (String Global) E) (n : ℕ) (bs : List ℕ) → IsUtf8 bs → IfOk r (λ s. string_bytes s ≡ repeat n bs) → IfOk r (λ s. text_of s ≡ repeat n (chars bs))
text_repeated (Ok s) n bs u h = ap chars h ∙ chars_repeated n bs u
text_repeated (Err e) n bs u h = tt

-- newlines, written one by one
-- one newline more
times_more : (n : ℕ) → times n 10 ++ (10 ∷ []) ≡ times (ℕ.suc n) 10
times_more ℕ.zero = refl
times_more (ℕ.suc n) = ap (λ (t : Text). 10 ∷ t) (times_more n)

pub more_newlines : (now was start : Text) (n : ℕ) → now ≡ was ++ chars (10 ∷ []) → was ≡ start ++ times n 10 → now ≡ start ++ times (n + 1) 10
more_newlines now was start n e h = e ∙ rw (h, newline_text) (append_assoc start (times n 10) (10 ∷ [])) ∙ ap (λ (z : Text). start ++ z) (times_more n) ∙ ap (λ (k : ℕ). start ++ times k 10) (sym (add-one n))

-- what an identifier says
abbrev pub name_of : Option Identifier → Option Text
name_of o = option_map (λ (i : Identifier). i.value) o

pub type_joined : (b n a r : Text) → (b ++ n ++ a ++ (41 ∷ [])) ++ r ≡ b ++ (n ++ (a ++ (41 ∷ r)))
type_joined b n a r = simp append_assoc

pub key_joined : (n b a r : Text) → (n ++ b ++ (61 ∷ []) ++ a) ++ r ≡ n ++ (b ++ (61 ∷ (a ++ r)))
key_joined n b a r = simp append_assoc

-- an entry that keeps no form
pub no_format : (o : Option EntryFormat) → is_kept_format o ≡ false → autoformatted_format o ≡ None
no_format None h = refl
no_format (Some f) h = rw h refl
