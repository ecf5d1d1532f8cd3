-- What `write_frame` writes is read as the message.
use Rattle.std.proofs.Common.{◌≡◌, ℕ, suc, ◌+◌, ◌-◌, ◌^◌, ◌<◌, ◌≤◌, Bool, true, false, not, ◌&&◌, nat_eq, None, Some, is_some, List, [], ◌∷◌, ◌++◌, length, get_or, take, drop, reverse, codes, decimal, refl, sym, ap, ◌∙◌, arith}
use Rattle.std.specs.Char.{is_ascii_whitespace}
use Rattle.std.specs.List.{prefix_len, suffix_len}
use Rattle.std.specs.Option.{option_map}
use Rattle.std.specs.Str.{all_ascii_digits}
use Rattle.std.specs.Str.Parse.{AllDigits}
use Rattle.std.proofs.lemmas.Bool.{and_from, and_left, and_parts, cond-true, cond-false, ne_eqb, not-true}
use Rattle.std.proofs.lemmas.Bool.Decides.{nat_tests}
use Rattle.std.proofs.lemmas.Fmt.{decimal_is_IsNumeral, digits_decimal, length-decimal-le}
use Rattle.std.proofs.lemmas.List.{append_assoc, drop_at, get_or-reverse, length-append, length-reverse, take_all, take_at}
use Rattle.std.proofs.lemmas.Str.Parse.{digit_at, digit_from_value, numerals_by_value, tells_all_ascii_digits}
use Rattle.lsp_frames.specs.Heads.{first_length, head_end, length_in, length_of_line, line_end, number, place_of, trimmed}
use Rattle.lsp_frames.specs.Frames.{frame_in, frame_of, head_size, most}
use Rattle.lsp_frames.proofs.Fronts.{whole_of}
use Rattle.lsp_frames.proofs.Growing.{head_append}
use Rattle.lsp_frames.proofs.Lines.{lines_missing}
use Rattle.lsp_frames.proofs.Numbers.{number_fits}

-- no byte is CR
abbrev has_no_return : List ℕ → Bool
has_no_return [] = true
has_no_return (b ∷ bs) = not (nat_eq 13 b) && has_no_return bs

no_return_append : (xs ys : List ℕ) → has_no_return xs ≡ true → has_no_return ys ≡ true → has_no_return (xs ++ ys) ≡ true
no_return_append [] ys h g = g
no_return_append (x ∷ xs) ys h g =
    let p = and_parts (not (nat_eq 13 x)) (has_no_return xs) h in
    and_from _ _ p.0 (no_return_append xs ys p.1 g)

no_return_digits : (ds : List ℕ) → AllDigits 10 ds → has_no_return ds ≡ true
no_return_digits [] h = refl
no_return_digits (d ∷ ds) h =
    let r = digit_from_value d h.0 in
    and_from _ _ (ap not (ne_eqb 13 d (λ e. omega (arith, r.0, r.1)))) (no_return_digits ds h.1)

-- the end of a head is after bytes with no CR
place_after : (bs : List ℕ) → has_no_return bs ≡ true → place_of head_end (bs ++ head_end) ≡ Some (length bs)
unfolding place_of
place_after [] h = refl
place_after (b ∷ bs) h =
    let p = and_parts (not (nat_eq 13 b)) (has_no_return bs) h in
    cond-false _ _ _ (and_left _ _ (not-true (nat_eq 13 b) p.0)) ∙ ap (option_map suc) (place_after bs p.1)

no_line_end : (bs : List ℕ) → has_no_return bs ≡ true → place_of line_end bs ≡ None
unfolding place_of
no_line_end [] h = refl
no_line_end (b ∷ bs) h =
    let p = and_parts (not (nat_eq 13 b)) (has_no_return bs) h in
    cond-false _ _ _ (and_left _ _ (not-true (nat_eq 13 b) p.0)) ∙ ap (option_map suc) (no_line_end bs p.1)

no_space : (bs : List ℕ) → 0 < length bs → is_ascii_whitespace (get_or bs 0 0) ≡ false → prefix_len is_ascii_whitespace bs ≡ 0
no_space [] l h = refl
no_space (b ∷ bs) l h = cond-false _ _ _ h

digit_no_space : (d : ℕ) → 48 ≤ d → d ≤ 57 → is_ascii_whitespace d ≡ false
digit_no_space d l h = grind (arith, nat_tests)

-- digits after a space are trimmed to the digits
trimmed_digits : (ds : List ℕ) → 0 < length ds → AllDigits 10 ds → trimmed (32 ∷ ds) ≡ ds
trimmed_digits ds l h =
    let first = digit_at ds 0 h l in
    let last = digit_at ds (length ds - 1) h (omega arith) in
    let front : prefix_len is_ascii_whitespace ds ≡ 0 = no_space ds l (digit_no_space _ first.0 first.1) in
    let at : get_or (reverse ds) 0 0 ≡ get_or ds (length ds - 1) 0 =
    get_or-reverse ds 0 0 l ∙ ap (λ k. get_or ds k 0) (omega arith) in
    let back : suffix_len is_ascii_whitespace ds ≡ 0 =
    no_space (reverse ds) (omega (arith, length-reverse ds)) (ap is_ascii_whitespace at ∙ digit_no_space _ last.0 last.1) in
    let begins : drop (prefix_len is_ascii_whitespace (32 ∷ ds)) (32 ∷ ds) ≡ ds = ap (λ k. drop (1 + k) (32 ∷ ds)) front in
    ap (λ t. take (length t - suffix_len is_ascii_whitespace t) t) begins ∙ ap (λ k. take (length ds - k) ds) back ∙ take_all (length ds - 0) ds (omega arith)

number_decimal : (n : ℕ) → n < 2 ^ 64 → number (decimal n) ≡ Some n
number_decimal n l =
    let numeral = decimal_is_IsNumeral n l in
    let digits = digits_decimal (numerals_by_value (λ ds. all_ascii_digits ds ≡ true) tells_all_ascii_digits) n l in
    sym (number_fits (decimal n) numeral.0.0 digits (omega (arith, numeral.1))) ∙ ap Some numeral.1

-- the line of a head that `write_frame` writes
abbrev written_line : ℕ → List ℕ
written_line n = codes "Content-Length: " ++ decimal n

line_gives : (n : ℕ) → n < 2 ^ 64 → length_of_line (written_line n) ≡ Some n
unfolding length_of_line place_of
line_gives n l =
    let numeral = decimal_is_IsNumeral n l in
    ap number (trimmed_digits (decimal n) numeral.0.0 numeral.0.1) ∙ number_decimal n l

no_return_line : (n : ℕ) → n < 2 ^ 64 → has_no_return (written_line n) ≡ true
no_return_line n l = no_return_append (codes "Content-Length: ") (decimal n) refl (no_return_digits (decimal n) (decimal_is_IsNumeral n l).0.1)

head_gives : (n : ℕ) → n < 2 ^ 64 → length_in (written_line n) ≡ Some n
unfolding length_in
head_gives n l =
    let line = written_line n in
    let e = line_gives n l in
    ap first_length (lines_missing line (no_line_end line (no_return_line n l))) ∙ cond-true _ _ _ (ap is_some e) ∙ e

head_of_line : (n : ℕ) → n < 2 ^ 64 → head_size (written_line n ++ head_end) ≡ Some (length (written_line n))
unfolding head_size
head_of_line n l =
    let line = written_line n in
    let short = length-decimal-le 20 n (omega arith) (omega arith) l in
    let all : take most (line ++ head_end) ≡ line ++ head_end = take_all most (line ++ head_end) (omega (arith, length-append line head_end, length-append (codes "Content-Length: ") (decimal n))) in
    ap (place_of head_end) all ∙ place_after line (no_return_line n l)

pub written_is_read : (message rest : List ℕ) → length message < 2 ^ 64 → frame_in (frame_of message ++ rest) ≡ Some (message, rest)
written_is_read message rest l =
    let n = length message in
    let line = written_line n in
    let begin = line ++ head_end in
    let bytes = begin ++ (message ++ rest) in
    let split : frame_of message ++ rest ≡ bytes = append_assoc begin message rest in
    let size : length line + 4 ≡ length begin = sym (length-append line head_end) in
    let rear : drop (length line + 4) bytes ≡ message ++ rest = drop_at begin (message ++ rest) (length line + 4) (sym size) in
    let front : take (length line) bytes ≡ line = ap (take (length line)) (append_assoc line head_end (message ++ rest)) ∙ take_at line (head_end ++ (message ++ rest)) (length line) refl in
    ap frame_in split
    ∙ whole_of bytes (message ++ rest) message rest (length line) n (head_append begin (message ++ rest) (length line) (head_of_line n l))
    (ap length_in front ∙ head_gives n l) (sym rear) (omega (arith, length-append message rest))
    (sym (take_at message rest n refl)) (sym (drop_at message rest n refl))
