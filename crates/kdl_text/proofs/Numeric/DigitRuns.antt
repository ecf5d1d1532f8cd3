-- Decimal digits at the front of a text.
use Rattle.std.proofs.Common.{◌≡◌, ℕ, ◌+◌, ◌*◌, ◌%◌, ◌<◌, ◌≤◌, Bool, false, List, [], ◌∷◌, ◌++◌, length, take, drop, get_or, refl, ap, sym, subst, ◌∙◌, arith, IsAscii, IsUtf8, IsCharBoundary, chars, length-append, length-take, inl, inr, lt-ltb, ne_eqb, append-nil, Some, None, ◌||◌}
use Rattle.std.specs.Prelude.{nat_lt, ◌==◌, ◌^◌}
use Rattle.std.proofs.lemmas.Bool.{cases_lt, le-ltb}
use Rattle.std.proofs.lemmas.List.{get_or-drop, length-drop, take-append-drop}
use Rattle.std.proofs.lemmas.Str.{byte_from_char, chars-append, chars-IsAscii, encodes-chars, IsUtf8-drop, IsUtf8-from_ascii, IsCharBoundary-from_take, length-encode, len_utf8_bounds, digit_value_digit}
use Rattle.std.proofs.lemmas.Str.Ascii.{IsAscii-from_reads}
use Rattle.std.proofs.lemmas.Str.Parse.{digit_from_value, digit_at}
use Rattle.std.proofs.lemmas.Int.Digits.{digits_value_more, digits_more}
use Rattle.std.specs.Char.{digit_value}
use Rattle.std.specs.Str.Parse.{AllDigits, digits_value}
use Rattle.kdl_text.specs.Chars.{Text, starts}
use Rattle.kdl_text.specs.Numbers.{is_digit_of, is_part, Digits, Integer, integer}
use Rattle.kdl_text.specs.Numbers.Digits.{stop, digit}
use Rattle.kdl_text.specs.Internal.Here.{Here}
use Rattle.kdl_text.specs.Internal.DigitRuns.{DecimalsLen, DigitRun, RanDigits}
use Rattle.kdl_text.specs.Internal.NumberReading.{Counts, ReadsDigits, ReadsInteger}
use Rattle.kdl_text.specs.Internal.Reading.{Past, Consumed}
use Rattle.kdl_text.specs.Spans.{bytes}
use Rattle.kdl_text.proofs.Looking.MovesJoin.{bytes-append}
use Rattle.kdl_text.proofs.Looking.SliceCost.{past_then}
use Rattle.kdl_text.proofs.Looking.Texts.{bytes-chars}
use Rattle.kdl_text.proofs.Numeric.NumberReads.{value_after}
use lib.Utf8.{encodes, encode}

-- the digits read so far
pub record InDecimals (s : List ℕ) (n v : ℕ) : Type 0 where
  pub few : n ≤ length s
  pub digits : AllDigits 10 (take n s)
  pub value : v ≡ digits_value 10 (take n s)

pub decimals_turn : (s : List ℕ) (n v d : ℕ) → InDecimals s n v → n < length s → d ≡ (get_or s n 0 + 208) % 256 → get_or s n 0 < 256 → d ≤ 9 → InDecimals s (n + 1) (v * 10 + d)
decimals_turn s n v d i l e byte h =
    let same : d + 48 ≡ get_or s n 0 = omega (arith, e, byte, h) in
    let value : digit_value (get_or s n 0) + 48 ≡ get_or s n 0 = digit_value_digit (get_or s n 0) (omega (arith, same), omega (arith, same, h)) in
    record {
      few = omega (arith, l);
      digits = digits_more 10 s n l i.digits (omega (arith, value, same, h));
      value = omega (arith, i.value, value, same, digits_value_more 10 s n l);
    }

-- a byte that is no digit
pub no_digit : (c : ℕ) → (48 ≤ c → c ≤ 57 → ⊥) → nat_lt (digit_value c) 10 ≡ false
no_digit c n = elim (cases_lt (digit_value c) 10) [ inl l ↦ absurd (n (digit_from_value c l).0 (digit_from_value c l).1) | inr g ↦ le-ltb (digit_value c) 10 g ]

pub no_part : (c : ℕ) → (48 ≤ c → c ≤ 57 → ⊥) → (c == 95) ≡ false → is_part 10 c ≡ false
unfolding is_digit_of
no_part c n u = ap (λ b. b || (c == 95)) (no_digit c n) ∙ u

-- the loop ends at a byte that is no digit
pub decimals_stop : (s : List ℕ) (n v : ℕ) → InDecimals s n v → 9 < (get_or s n 0 + 208) % 256 → DecimalsLen s n v (get_or s n 0 == 95)
decimals_stop s n v i h =
    let none : 48 ≤ get_or s n 0 → get_or s n 0 ≤ 57 → ⊥ = λ a b. omega (arith, h, a, b) in
    record {
      few = i.few;
      digits = i.digits;
      value = i.value;
      none = λ z l. no_digit (get_or s n 0) none;
      stops = λ z l. no_part (get_or s n 0) none z;
    }

digits_ascii : (ds : List ℕ) → AllDigits 10 ds → IsAscii ds
digits_ascii ds a = IsAscii-from_reads ds (length ds) (omega arith) (λ k l. omega (arith, (digit_at ds k a l).1))

high_digit : (c : ℕ) → 128 ≤ c → is_digit_of 10 c ≡ false
unfolding is_digit_of
high_digit c h = no_digit c (λ a b. omega (arith, h, b))

high_part : (c : ℕ) → 128 ≤ c → is_part 10 c ≡ false
high_part c h = no_part c (λ a b. omega (arith, h, b)) (ne_eqb c 95 (λ e. omega (arith, h, e)))

-- the first byte tells whether the first character is one of some ASCII characters
byte_stops : (p : ℕ → Bool) (s cs : List ℕ) → ((c : ℕ) → 128 ≤ c → p c ≡ false) → encodes cs ≡ s → (0 < length s → p (get_or s 0 0) ≡ false) → starts p cs ≡ false
byte_stops p s [] high e h = refl
byte_stops p s (c ∷ cs) high e h =
    elim (cases_lt c 128) [
      | inl l ↦
          let byte : get_or s 0 0 ≡ c = byte_from_char s (encodes cs) c (sym e) l in
          let some : 0 < length s = omega (arith, ap length e, length-append (encode c) (encodes cs), length-encode c, (len_utf8_bounds c).0) in
          subst (λ z. p z ≡ false) byte (h some)
      | inr g ↦ high c g
    ]

module _ (s : List ℕ) (n v : ℕ) (m : Bool) (i : DecimalsLen s n v m) (u : IsUtf8 s) where
  pub digits_boundary : IsCharBoundary s n
  digits_boundary = IsCharBoundary-from_take s n u i.few (IsUtf8-from_ascii (take n s) (digits_ascii (take n s) i.digits))

  stops_here : (p : ℕ → Bool) (r : List ℕ) → ((c : ℕ) → 128 ≤ c → p c ≡ false) → r ≡ drop n s → IsUtf8 r → (n < length s → p (get_or s n 0) ≡ false) → starts p (chars r) ≡ false
  stops_here p r high e back h =
      byte_stops p r (chars r) high (encodes-chars r back) (λ some.
      let at : get_or r 0 0 ≡ get_or s n 0 = ap (λ l. get_or l 0 0) e ∙ get_or-drop n s 0 0 ∙ ap (λ k. get_or s k 0) (omega arith) in
      rw at (h (omega (arith, some, ap length e, length-drop n s))))

  pub digit_run : (r : List ℕ) → r ≡ drop n s → DigitRun s r n v m
  unfolding is_digit_of
  digit_run r e =
      let ascii = digits_ascii (take n s) i.digits in
      let front = IsUtf8-from_ascii (take n s) ascii in
      let same = chars-IsAscii (take n s) ascii in
      let long : length (take n s) ≡ n = omega (arith, length-take n s, i.few) in
      let back : IsUtf8 r = subst IsUtf8 (sym e) (IsUtf8-drop s n u digits_boundary) in record {
        run = take n s;
        text = ap chars (sym (take-append-drop n s)) ∙ chars-append (take n s) (drop n s) front ∙ ap (λ x. x ++ chars (drop n s)) same ∙ ap (λ x. take n s ++ chars x) (sym e);
        digits = i.digits;
        len = omega (arith, length-drop n s, ap length e, i.few);
        count_is = long;
        bytes_is = ap bytes (sym same) ∙ bytes-chars (take n s) front ∙ long;
        value = i.value;
        none = λ z. stops_here (is_digit_of 10) r high_digit e back (i.none z);
        stops = λ z. stops_here (is_part 10) r high_part e back (i.stops z);
      }

-- the digits begin an integer
digits_on : (w r q u : Text) → AllDigits 10 w → Digits 10 r q u → Digits 10 (w ++ r) q (w ++ u)
unfolding is_digit_of
digits_on [] r q u a d = d
digits_on (c ∷ w) r q u a d = digit (lt-ltb (digit_value c) 10 a.0) (digits_on w r q u a.1 d)

integer_on : (w r q u : Text) → 0 < length w → AllDigits 10 w → Digits 10 r q u → Integer 10 (w ++ r) q (w ++ u)
unfolding is_digit_of
integer_on [] r q u l a d = absurd (omega arith)
integer_on (c ∷ w) r q u l a d = integer (lt-ltb (digit_value c) 10 a.0) (digits_on w r q u a.1 d)

module _ (run : Text) (n v : ℕ) (m : Bool) (a b : Here) (i : RanDigits run n v m a b) where
  run_past : Past 2 1 a b
  run_past = record {
    moves = record { piece = (run, i.text); at = omega (arith, ap bytes i.text, bytes-append run b.rest, i.bytes_is, i.at); counts = omega (arith, i.steps); same = i.same };
    costs = record { most = omega (arith, i.steps, ap bytes i.text, bytes-append run b.rest, i.bytes_is); least = omega (arith, i.steps, ap length i.text, length-append run b.rest, i.count_is) };
  }

  -- a digit at least
  run_tight : (n ≡ 0 → ⊥) → Past 2 0 a b
  run_tight some =
      let h : 1 ≤ n = omega (arith, some) in
      record { moves = run_past.moves; costs = record { most = omega (arith, h, i.steps, ap bytes i.text, bytes-append run b.rest, i.bytes_is); least = run_past.costs.least } }

  pub no_integer : n ≡ 0 → Consumed 2 1 (ReadsInteger 10 None) a b
  no_integer z =
      let none : (w : Text) → length w ≡ 0 → w ++ b.rest ≡ b.rest = empty in
      let same : a.rest ≡ b.rest = i.text ∙ none run (i.count_is ∙ z) in
      record { reads = (sym same, subst (λ q. starts (is_digit_of 10) q ≡ false) (sym same) (i.none z)); past = run_past }
    where
      empty : (w : Text) → length w ≡ 0 → w ++ b.rest ≡ b.rest
      empty [] e = refl
      empty (c ∷ w) e = absurd (omega (arith, e))

  pub run_integer : (n ≡ 0 → ⊥) → m ≡ false → v < 2 ^ 64 → Consumed 2 1 (ReadsInteger 10 (Some v)) a b
  run_integer some last small = record {
    reads = (
      run,
      subst (λ q. Integer 10 q b.rest run) (sym i.text) (subst (Integer 10 (run ++ b.rest) b.rest) (append-nil run)
          (integer_on run b.rest b.rest [] (omega (arith, some, i.count_is)) i.digits (stop (i.stops last)))),
      omega (arith, i.value, small),
    );
    past = run_past;
  }

  pub run_more : (k : ℕ) (e : Here) → (n ≡ 0 → ⊥) → v < 2 ^ 64 → Consumed 2 1 (ReadsDigits 10 v k) b e → Consumed 2 1 (ReadsInteger 10 (Some k)) a e
  run_more k e some small d = record {
    reads = (
      run ++ d.reads.0,
      subst (λ q. Integer 10 q e.rest (run ++ d.reads.0)) (sym i.text) (integer_on run b.rest e.rest d.reads.0 (omega (arith, some, i.count_is)) i.digits d.reads.1),
      subst (λ q. Counts k q) (sym (value_after 10 run d.reads.0 0)) (d.reads.2 (digits_value 10 run) (omega (arith, i.value, small))),
    );
    past = past_then (run_tight some) d.past;
  }
