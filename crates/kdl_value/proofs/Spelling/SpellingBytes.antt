-- Printing a string: its characters, and the bytes that are written.
use Rattle.std.proofs.Common.{◌≡◌, ℕ, zero, suc, ◌<◌, ◌^◌, true, false, ◌||◌, List, [], ◌∷◌, ◌++◌, refl, sym, ap, ◌∙◌, arith}
use Rattle.std.proofs.lemmas.Bool.{and_parts}
use Rattle.std.proofs.lemmas.Bool.Decides.{nat_tests, same_from_decides}
use Rattle.std.proofs.lemmas.Slice.Eq.{bytes_eq-Decides}
use Rattle.std.specs.List.{list_all}
use Rattle.std.specs.Fmt.{digits}
use Rattle.std.specs.Str.{chars, IsUtf8, IsAscii, bytes_eq, encode_utf8_all}
use Rattle.std.specs.Str.Parse.{AllDigits}
use Rattle.std.proofs.lemmas.Str.{encodes-chars, chars-IsAscii, encodes-IsAscii, encodes-append}
use Rattle.std.proofs.lemmas.Fmt.{digits_is_IsNumeral}
use Rattle.std.proofs.lemmas.List.Folds.{list_all-append}
use Rattle.std.specs.Char.{is_ascii}
use Rattle.kdl_text.specs.Chars.{is_banned, is_newline_char}
use Rattle.kdl_value.specs.Spelled.{escape_letter, char_text, escaped_text, prints_bare, spelled}

pub IsAscii-from_test : (bs : List ℕ) → list_all is_ascii bs ≡ true → IsAscii bs
IsAscii-from_test [] h i = omega arith
IsAscii-from_test (b ∷ bs) h zero = let (here, more) = and_parts (is_ascii b) _ h in grind (arith, nat_tests)
IsAscii-from_test (b ∷ bs) h (suc i) = IsAscii-from_test bs (and_parts (is_ascii b) _ h).1 i

-- a text is an ASCII word exactly where its characters are
pub bytes_eq-chars : (bs word : List ℕ) → IsUtf8 bs → list_all is_ascii word ≡ true → bytes_eq bs word ≡ bytes_eq (chars bs) word
bytes_eq-chars bs word text ascii =
    let a = IsAscii-from_test word ascii in
    let d = bytes_eq-Decides bs word in
    let e = bytes_eq-Decides (chars bs) word in
    let to : bs ≡ word → chars bs ≡ word = λ h. ap chars h ∙ chars-IsAscii word a in
    let from : chars bs ≡ word → bs ≡ word = λ h. sym (encodes-chars bs text) ∙ ap encode_utf8_all h ∙ encodes-IsAscii word a in
    same_from_decides _ _ d (λ h. from (e.0 h), λ k. e.1 (to k))

hex_ascii : (ds : List ℕ) → AllDigits 16 ds → list_all is_ascii ds ≡ true
hex_ascii [] h = refl
hex_ascii (d ∷ ds) h = rw (hex_ascii ds h.1) (grind (arith, nat_tests))

code_ascii : (ds : List ℕ) → list_all is_ascii ds ≡ true → list_all is_ascii (92 ∷ 117 ∷ 123 ∷ ds ++ (125 ∷ [])) ≡ true
code_ascii ds h = rw (list_all-append is_ascii ds (125 ∷ []), h)

pub code_bytes : (c : ℕ) → c < 2 ^ 32 → encode_utf8_all (92 ∷ 117 ∷ 123 ∷ digits 16 false c ++ (125 ∷ [])) ≡ 92 ∷ 117 ∷ 123 ∷ digits 16 false c ++ (125 ∷ [])
code_bytes c small =
    let numeral = digits_is_IsNumeral 16 false (omega arith) (omega arith) c (omega arith) in
    let ds = digits 16 false c in
    let text = 92 ∷ 117 ∷ 123 ∷ ds ++ (125 ∷ []) in
    encodes-IsAscii text (IsAscii-from_test text (code_ascii ds (hex_ascii ds numeral.0.1)))

pub coded_bytes : (c : ℕ) → c < 2 ^ 32 → escape_letter c ≡ 0 → (is_newline_char c || is_banned c) ≡ true
    → 92 ∷ 117 ∷ 123 ∷ digits 16 false c ++ (125 ∷ []) ≡ encode_utf8_all (char_text c)
unfolding char_text
coded_bytes c small none coded = rw (none, coded) (sym (code_bytes c small))

pub bare_bytes : (bs : List ℕ) → IsUtf8 bs → prints_bare (chars bs) ≡ true → bs ≡ encode_utf8_all (spelled (chars bs))
unfolding spelled
bare_bytes bs text h = rw h (sym (encodes-chars bs text))

pub quoted_bytes : (bs : List ℕ) → prints_bare (chars bs) ≡ false
    → ((34 ∷ []) ++ encode_utf8_all (escaped_text (chars bs))) ++ (34 ∷ []) ≡ encode_utf8_all (spelled (chars bs))
unfolding spelled lib.Utf8.encode
quoted_bytes bs h = rw h (ap (λ x. 34 ∷ x) (sym (encodes-append (escaped_text (chars bs)) (34 ∷ []))))
