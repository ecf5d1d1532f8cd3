-- Strings in each spelling come before each rest that begins with no identifier character and no quote, and before each rest that begins with the same character, or is none.
use Rattle.std.proofs.Common.{◌≡◌, ℕ, ◌≤◌, Bool, true, false, ◌&&◌, ◌==◌, List, [], ◌∷◌, ◌++◌, length, refl, sym, ap, ◌∙◌, append_assoc, length-append, arith}
use Rattle.std.proofs.lemmas.Bool.Decides.{nat_tests}
use Rattle.kdl_text.specs.Dedent.{LineUnit}
use Rattle.kdl_text.specs.Chars.{Text, begins, begins_two, begins_with, times, starts, is_identifier_char, is_space, is_newline_char, Newline, crlf, one}
use Rattle.kdl_text.specs.Chars.Space.{space as a_space}
use Rattle.kdl_text.specs.Bare.{BareString, bare as bare_text, is_bare}
use Rattle.kdl_text.specs.Internal.Here.{first}
use Rattle.kdl_text.specs.MultiLine.{ContentUnit, Content, MultiLineBody, MultiLineString, multi_line, IsQuoted}
use Rattle.kdl_text.specs.Raw.{closing, RawUnit, RawUnits, RawContent, content, RawString, MultiLineRawBody, MultiLineRawString, IsRaw}
use Rattle.kdl_text.specs.Strings.{StringUnit, IsUnit, one_literal, one_letter, one_number, one_gap, AreUnits, body, QuotedString, quoted as quoted_text, HexNumber, is_escaped_space}
use Rattle.kdl_text.specs.Trivia.{ends_value, ValueEnd, escline}
use Rattle.kdl_syntax.specs.Pieces.{StringPiece, bare, quoted, raw}
use Rattle.kdl_syntax.proofs.Moving.Puts.{Put, stands, also, joined, before, first_piece, same, starts_first, begins_first, Move}

-- it comes before each rest that begins with no identifier character and no quote
pub record MoveString (R : Text → Text → Type 0) (s r : Text) : Type 0 where
  pub at : Put s r
  pub full : (u : Text) → first (at.put u) ≡ first s
  pub there : (u : Text) → starts is_identifier_char u ≡ false → begins 34 u ≡ false → R (at.put u) u

-- it comes before each rest
pub record MoveClosed (R : Text → Text → Type 0) (s r : Text) : Type 0 where
  pub at : Put s r
  pub full : (u : Text) → first (at.put u) ≡ first s
  pub there : (u : Text) → R (at.put u) u

space_no_quote : (c : ℕ) → is_space c ≡ true → (c == 34) ≡ false
unfolding is_space
space_no_quote c h = grind (arith, nat_tests)

newline_no_quote : (c : ℕ) → is_newline_char c ≡ true → (c == 34) ≡ false
unfolding is_newline_char
newline_no_quote c h = grind (arith, nat_tests)

punctuation_no_quote : (c : ℕ) → ends_value c ≡ true → (c == 34) ≡ false
unfolding ends_value
punctuation_no_quote c h = grind (arith, nat_tests)

pub value_end_no_quote : {wide : Bool} {s : Text} → ValueEnd wide s → begins 34 s ≡ false
value_end_no_quote ValueEnd.nothing = refl
value_end_no_quote (ValueEnd.punctuation {c = c} x) = punctuation_no_quote c x
value_end_no_quote (ValueEnd.space (a_space {c = c} x)) = space_no_quote c x
value_end_no_quote (ValueEnd.newline crlf) = refl
value_end_no_quote (ValueEnd.newline (one {c = c} x y)) = newline_no_quote c x
value_end_no_quote (ValueEnd.escline (escline p e)) = refl
value_end_no_quote ValueEnd.line_comment = refl
value_end_no_quote ValueEnd.block_comment = refl
value_end_no_quote (ValueEnd.slashdash x) = refl

bare_full : (w : Text) → is_bare w ≡ true → (u r : Text) → first (w ++ u) ≡ first (w ++ r)
unfolding is_bare
bare_full [] h u r = absurd cc
bare_full (c ∷ w) h u r = refl

move_bare : {s r v : Text} → BareString s r v → MoveString (λ s r. BareString s r v) s r
move_bare {r = r} (bare_text {w = w} e h n) = record { at = before w e; full = λ u. bare_full w h u r ∙ ap first (sym e); there = λ u x y. bare_text refl h x }

move_hex : {t r : Text} {c : ℕ} (x : HexNumber t r c) → Put t r
move_hex x = record { put = λ u. x.digits ++ (125 ∷ u); piece = x.digits ++ (125 ∷ []); text = λ u. sym (append_assoc x.digits (125 ∷ []) u); here = x.text }

hex_there : {t r : Text} {c : ℕ} (x : HexNumber t r c) (u : Text) → HexNumber ((move_hex x).put u) u c
unfolding move_hex
hex_there x u = record { digits = x.digits; text = refl; all = x.all; some = x.some; few = x.few; value = x.value; scalar = x.scalar }

pub move_unit : {t r : Text} {u : StringUnit} → IsUnit t r u → Move (λ s r. IsUnit s r u) t r
move_unit (one_literal {c = c} x) = record { at = also c stands; there = λ u e. one_literal x }
move_unit (one_letter {e = l} x) = record { at = also 92 (also l stands); there = λ u e. one_letter x }
move_unit (one_number x) = record { at = also 92 (also 117 (also 123 (move_hex x))); there = λ u e. one_number (hex_there x u) }
move_unit {r = r} (one_gap {e = l} x y) =
    record { at = also 92 (also l (before y.run y.text)); there = λ u e. one_gap x (record { run = y.run; text = refl; all = y.all; stops = starts_first is_escaped_space u r e ∙ y.stops }) }

pub move_units : {t r : Text} {us : List StringUnit} → AreUnits t r us → Move (λ s r. AreUnits s r us) t r
move_units AreUnits.none = record { at = stands; there = λ u e. AreUnits.none }
move_units (AreUnits.more x xs) =
    let m = move_unit x in let k = move_units xs in
    record { at = joined m.at k.at; there = λ u e. AreUnits.more (m.there (k.at.put u) (same k.at u e)) (k.there u e) }

move_quoted : {s r v : Text} → QuotedString s r v → MoveClosed (λ s r. QuotedString s r v) s r
move_quoted {r = r} (quoted_text (body us e)) =
    let m = move_units us in
    record { at = also 34 (joined m.at (also 34 stands)); full = λ u. refl; there = λ u. quoted_text (body (m.there (34 ∷ u) refl) e) }

one_quote : (u : Text) → begins 34 u ≡ false → begins_with (34 ∷ []) u ≡ false
one_quote [] h = refl
one_quote (c ∷ u) h = rw h refl

two_quotes : (p u r : Text) → begins 34 u ≡ false → begins_with (34 ∷ 34 ∷ []) (p ++ 34 ∷ r) ≡ false → begins_with (34 ∷ 34 ∷ []) (p ++ 34 ∷ u) ≡ false
two_quotes [] u r n h = one_quote u n
two_quotes (c ∷ []) u r n h = h
two_quotes (c ∷ d ∷ p) u r n h = h

-- the text after the first quote begins with no two quotes, whatever comes after the last
not_three : {t r v : Text} (q : QuotedString t r v) → begins_with (34 ∷ 34 ∷ 34 ∷ []) t ≡ false
    → (u : Text) → begins 34 u ≡ false → begins_with (34 ∷ 34 ∷ 34 ∷ []) ((move_quoted q).at.put u) ≡ false
unfolding move_quoted
not_three {r = r} (quoted_text (body us e)) h u n =
    let m = move_units us in
    ap (begins_with (34 ∷ 34 ∷ [])) (m.at.text (34 ∷ u)) ∙ two_quotes m.at.piece u r n (ap (begins_with (34 ∷ 34 ∷ [])) (sym (m.at.text (34 ∷ r)) ∙ sym m.at.here) ∙ h)

pub move_newline : {s r : Text} → Newline s r → Move Newline s r
move_newline crlf = record { at = also 13 (also 10 stands); there = λ u e. crlf }
move_newline (one {c = c} {r = r} x y) = record { at = also c stands; there = λ u e. one x (ap (λ b. (c == 13) && b) (begins_first 10 u r e) ∙ y) }

-- a text of three characters at least
abbrev pub Long : Text → Type 0
Long p = 3 ≤ length p

longer : (p q : Text) → Long q → Long (p ++ q)
longer p q h = omega (arith, h, length-append p q)

begins_long : (a b : ℕ) (p u r : Text) → Long p → begins_two a b (p ++ u) ≡ begins_two a b (p ++ r)
begins_long a b [] u r h = absurd (omega (arith, h))
begins_long a b (c ∷ []) u r h = absurd (omega (arith, h))
begins_long a b (c ∷ d ∷ p) u r h = refl

pub record MoveContent (us : List LineUnit) (s r : Text) : Type 0 where
  pub at : Put s r
  pub full : (u : Text) → first (at.put u) ≡ first s
  pub long : Long at.piece
  pub there : (u : Text) → Content (at.put u) u us

no_two : {s r : Text} (p : Put s r) → Long p.piece → begins_two 34 34 s ≡ false → (u : Text) → begins_two 34 34 (p.put u) ≡ false
no_two {r = r} p h e u = ap (begins_two 34 34) (p.text u) ∙ begins_long 34 34 p.piece u r h ∙ ap (begins_two 34 34) (sym (p.text r) ∙ sym p.here) ∙ e

pub move_content : {t r : Text} {us : List LineUnit} → Content t r us → MoveContent us t r
move_content Content.close = record { at = also 34 (also 34 (also 34 stands)); full = λ u. refl; long = omega arith; there = λ u. Content.close }
move_content (Content.more (ContentUnit.quote h) k e) =
    let m = move_content k in
    record { at = also 34 m.at; full = λ u. refl; long = omega (arith, m.long); there = λ u. Content.more (ContentUnit.quote (no_two m.at m.long h u)) (m.there u) e }
move_content (Content.more (ContentUnit.line n) k e) =
    let a = move_newline n in let m = move_content k in
    record {
      at = joined a.at m.at;
      full = λ u. same a.at (m.at.put u) (m.full u);
      long = longer a.at.piece m.at.piece m.long;
      there = λ u. Content.more (ContentUnit.line (a.there (m.at.put u) (m.full u))) (m.there u) e;
    }
move_content (Content.more (ContentUnit.unit x y) k e) =
    let a = move_unit x in let m = move_content k in
    record {
      at = joined a.at m.at;
      full = λ u. same a.at (m.at.put u) (m.full u);
      long = longer a.at.piece m.at.piece m.long;
      there = λ u. Content.more (ContentUnit.unit (a.there (m.at.put u) (m.full u)) y) (m.there u) e;
    }

move_multi_line : {s r v : Text} → MultiLineString s r v → MoveClosed (λ s r. MultiLineString s r v) s r
move_multi_line (multi_line (MultiLineBody.lines n k d)) =
    let a = move_newline n in let m = move_content k in
    record {
      at = also 34 (also 34 (also 34 (joined a.at m.at)));
      full = λ u. refl;
      there = λ u. multi_line (MultiLineBody.lines (a.there (m.at.put u) (m.full u)) (m.there u) d);
    }

move_is_quoted : {s r v : Text} → IsQuoted s r v → MoveString (λ s r. IsQuoted s r v) s r
move_is_quoted (IsQuoted.on_one_line h q) =
    let m = move_quoted q in record { at = m.at; full = m.full; there = λ u e n. IsQuoted.on_one_line (not_three q h u n) (m.there u) }
move_is_quoted (IsQuoted.on_many_lines q) = let m = move_multi_line q in record { at = m.at; full = m.full; there = λ u e n. IsQuoted.on_many_lines (m.there u) }

-- what a text begins with hangs on so many of its characters alone
begins_far : (p q u r : Text) → length p ≤ length q → begins_with p (q ++ u) ≡ begins_with p (q ++ r)
begins_far [] q u r h = refl
begins_far (c ∷ p) [] u r h = absurd (omega (arith, h))
begins_far (c ∷ p) (d ∷ q) u r h = ap (λ b. (d == c) && b) (begins_far p q u r (omega (arith, h)))

-- the closing comes before each rest, and no other closing before it
record MoveRaw (close : Text) (us : List LineUnit) (s m : Text) : Type 0 where
  at : Put s m
  there : (u : Text) → first u ≡ first m → ((q : Text) → begins_with close (q ++ u) ≡ begins_with close (q ++ m)) → RawUnits close (at.put u) u us

move_raw_units : {close t m : Text} {us : List LineUnit} → RawUnits close t m us → MoveRaw close us t m
move_raw_units RawUnits.none = record { at = stands; there = λ u e f. RawUnits.none }
move_raw_units {close = close} {m = m} (RawUnits.more (RawUnit.char {c = c} h x) k) =
    let n = move_raw_units k in
    record {
      at = also c n.at;
      there = λ u e f.
          let y = ap (λ (z : Text). begins_with close (c ∷ z)) (n.at.text u) ∙ f (c ∷ n.at.piece) ∙ ap (λ (z : Text). begins_with close (c ∷ z)) (sym (n.at.text m) ∙ sym n.at.here) ∙ h in
          RawUnits.more (RawUnit.char y x) (n.there u e f);
    }
move_raw_units (RawUnits.more (RawUnit.line n) k) =
    let a = move_newline n in let b = move_raw_units k in
    record { at = joined a.at b.at; there = λ u e f. RawUnits.more (RawUnit.line (a.there (b.at.put u) (same b.at u e))) (b.there u e f) }

close_far : (close q u r : Text) → begins_with close (q ++ (close ++ u)) ≡ begins_with close (q ++ (close ++ r))
close_far close q u r =
    let e = λ (z : Text). ap (begins_with close) (append_assoc q close z) in
    sym (e u) ∙ begins_far close (q ++ close) u r (omega (arith, length-append q close)) ∙ e r

module _ (close : Text) (begun : (u r : Text) → first (close ++ u) ≡ first (close ++ r)) where
  pub move_raw_content : {t r : Text} {us : List LineUnit} → RawContent close t r us → MoveClosed (λ t r. RawContent close t r us) t r
  move_raw_content {r = r} (content k e) =
      let m = move_raw_units k in
      let f = λ (u : Text). begun u r ∙ ap first (sym e) in
      record {
        at = joined m.at (before close e);
        full = λ u. same m.at (close ++ u) (f u);
        there = λ u. content (m.there (close ++ u) (f u) (λ q. close_far close q u r ∙ ap (λ (z : Text). begins_with close (q ++ z)) (sym e))) refl;
      }

move_raw_string : {s r v : Text} → RawString s r v → MoveClosed (λ s r. RawString s r v) s r
move_raw_string x =
    let m = move_raw_content (closing 1 x.signs) (λ u r. refl) x.content in
    record {
      at = joined (before (times x.signs 35) x.text) (also 34 m.at);
      full = λ u. first_piece (times x.signs 35) (34 ∷ m.at.put u) (34 ∷ x.body) refl ∙ ap first (sym x.text);
      there = λ u. record { signs = x.signs; some = x.some; body = m.at.put u; text = refl; content = m.there u; single = x.single };
    }

move_raw_body : {k : ℕ} {s r v : Text} → MultiLineRawBody k s r v → MoveClosed (λ s r. MultiLineRawBody k s r v) s r
move_raw_body {k = k} (MultiLineRawBody.lines n c d) =
    let a = move_newline n in let m = move_raw_content (closing 3 k) (λ u r. refl) c in
    record { at = joined a.at m.at; full = λ u. same a.at (m.at.put u) (m.full u); there = λ u. MultiLineRawBody.lines (a.there (m.at.put u) (m.full u)) (m.there u) d }

move_raw_lines : {s r v : Text} → MultiLineRawString s r v → MoveClosed (λ s r. MultiLineRawString s r v) s r
move_raw_lines x =
    let m = move_raw_body x.is_body in
    record {
      at = joined (before (times x.signs 35) x.text) (also 34 (also 34 (also 34 m.at)));
      full = λ u. first_piece (times x.signs 35) (34 ∷ 34 ∷ 34 ∷ m.at.put u) (34 ∷ 34 ∷ 34 ∷ x.body) refl ∙ ap first (sym x.text);
      there = λ u. record { signs = x.signs; some = x.some; body = m.at.put u; text = refl; is_body = m.there u };
    }

move_is_raw : {s r v : Text} → IsRaw s r v → MoveClosed (λ s r. IsRaw s r v) s r
move_is_raw (IsRaw.on_one_line x) = let m = move_raw_string x in record { at = m.at; full = m.full; there = λ u. IsRaw.on_one_line (m.there u) }
move_is_raw (IsRaw.on_many_lines x) = let m = move_raw_lines x in record { at = m.at; full = m.full; there = λ u. IsRaw.on_many_lines (m.there u) }

-- each spelling of a string
pub move_piece : {s r v : Text} → StringPiece s r v → MoveString (λ s r. StringPiece s r v) s r
move_piece (bare x) = let m = move_bare x in record { at = m.at; full = m.full; there = λ u e n. bare (m.there u e n) }
move_piece (quoted x) = let m = move_is_quoted x in record { at = m.at; full = m.full; there = λ u e n. quoted (m.there u e n) }
move_piece (raw x) = let m = move_is_raw x in record { at = m.at; full = m.full; there = λ u e n. raw (m.there u) }

-- before a rest that begins with the same character, or is none
one_first : (u r : Text) → first u ≡ first r → begins_with (34 ∷ []) u ≡ begins_with (34 ∷ []) r
one_first [] [] e = refl
one_first [] (d ∷ r) e = cc
one_first (c ∷ u) [] e = cc
one_first (c ∷ u) (d ∷ r) e = let f : c ≡ d = cc in ap (λ (z : ℕ). (z == 34) && true) f

two_first : (p u r : Text) → first u ≡ first r → begins_with (34 ∷ 34 ∷ []) (p ++ 34 ∷ r) ≡ false → begins_with (34 ∷ 34 ∷ []) (p ++ 34 ∷ u) ≡ false
two_first [] u r e h = one_first u r e ∙ h
two_first (c ∷ []) u r e h = h
two_first (c ∷ d ∷ p) u r e h = h

-- the text after the first quote begins with no two quotes there either
not_three_first : {t r v : Text} (q : QuotedString t r v) → begins_with (34 ∷ 34 ∷ 34 ∷ []) t ≡ false
    → (u : Text) → first u ≡ first r → begins_with (34 ∷ 34 ∷ 34 ∷ []) ((move_quoted q).at.put u) ≡ false
unfolding move_quoted
not_three_first {r = r} (quoted_text (body us e)) h u n =
    let m = move_units us in
    ap (begins_with (34 ∷ 34 ∷ [])) (m.at.text (34 ∷ u)) ∙ two_first m.at.piece u r n (ap (begins_with (34 ∷ 34 ∷ [])) (sym (m.at.text (34 ∷ r)) ∙ sym m.at.here) ∙ h)

first_quoted : {s r v : Text} → IsQuoted s r v → Move (λ s r. IsQuoted s r v) s r
first_quoted (IsQuoted.on_one_line h q) = let m = move_quoted q in record { at = m.at; there = λ u e. IsQuoted.on_one_line (not_three_first q h u e) (m.there u) }
first_quoted (IsQuoted.on_many_lines q) = let m = move_multi_line q in record { at = m.at; there = λ u e. IsQuoted.on_many_lines (m.there u) }

pub move_piece_first : {s r v : Text} → StringPiece s r v → Move (λ s r. StringPiece s r v) s r
move_piece_first {r = r} (bare (bare_text {w = w} e h n)) = record { at = before w e; there = λ u x. bare (bare_text refl h (starts_first is_identifier_char u r x ∙ n)) }
move_piece_first (quoted x) = let m = first_quoted x in record { at = m.at; there = λ u e. quoted (m.there u e) }
move_piece_first (raw x) = let m = move_is_raw x in record { at = m.at; there = λ u e. raw (m.there u) }
