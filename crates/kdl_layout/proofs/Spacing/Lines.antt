-- What is counted in the lines that are written; what is kept with blank lines is a gap, and holds the items of its text.
use Rattle.kdl_layout.proofs.Common.{◌≡◌, ℕ, zero, suc, Bool, true, false, List, [], ◌∷◌, ◌++◌, map, sym, ap, subst, ◌∙◌, append_assoc, append-nil, refl, ◌+◌, ◌-◌, ◌==◌, length, drop, arith, drop-append_seam, nat_tests, and_parts, list_all, if◌then◌else◌, min, ◌&&◌, max, Text, times, BlockComment, slashdash, Gap, NodeFormat, Item, GapItems, comment, piece, item_text, line_text, on_line, lines, blank_lines, empty_lines, read, spaced_lines, past_items, at_start, from_item, last_of, newlines, one_if, ItemsIn, WrittenUnless, Settings, indentation, SpacedLines, SpacesTexts, NodeTexts, newline_gap, Before, Nothing, Thing, Last, Cr, Other, is_space, is_newline_char}
use Rattle.std.proofs.Math.Nat.{zero-min}
use Rattle.kdl_text.specs.Trivia.{block as a_block}
use Rattle.kdl_layout.proofs.Listing.ItemsUnique.{gap_in_det}
use Rattle.kdl_layout.proofs.Rewriting.LinesAgain.{AreStanding, gap_items, one_line, one_gap, spaces_before, spaces_gap, Standing, DroppedLine, line_text_again, text_on_line}
use Rattle.kdl_layout.specs.Blank.{after_item, past_item, last_after_item, last_before}
use Rattle.kdl_layout.specs.declared.blank.Last.TheVariants.{Escline}
use Rattle.kdl_layout.proofs.Keeping.GapFronts.{Front, nothing, joined, newline}
use Rattle.kdl_layout.proofs.Keeping.KeptPlaces.{level_spaces}
use Rattle.kdl_layout.proofs.Rewriting.LastCharacters.{space_other}

-- a space is no slash, no newline and no backslash
pub space_no_slash : (c : ℕ) → is_space c ≡ true → (c == 47) ≡ false
unfolding is_space
space_no_slash c h = grind (arith, nat_tests)

pub space_no_newline : (c : ℕ) → is_space c ≡ true → is_newline_char c ≡ false
unfolding is_space is_newline_char
space_no_newline c h = grind (arith, nat_tests)

space_no_backslash : (c : ℕ) → is_space c ≡ true → (c == 92) ≡ false
unfolding is_space
space_no_backslash c h = grind (arith, nat_tests)

-- a character that is none of these
counts_none : (slash newline cr backslash : Bool) (r : Text) → slash ≡ false → newline ≡ false → cr ≡ false → backslash ≡ false
    → (if slash then 0 else one_if (newline && true) + newlines (if cr then Cr else if newline then Other else if backslash then Escline else Other) r) ≡ newlines Other r
counts_none slash newline cr backslash r e f g h = rw (e, f, g, h) (omega arith)

last_none : (slash newline cr backslash : Bool) (r : Text) → slash ≡ false → newline ≡ false → cr ≡ false → backslash ≡ false
    → (if slash then Other else last_of (if cr then Cr else if newline then Other else if backslash then Escline else Other) r) ≡ last_of Other r
last_none slash newline cr backslash r e f g h = rw (e, f, g, h) refl

module _ (c : ℕ) (h : is_space c ≡ true) (r : Text) where
  space_counts : newlines Other (c ∷ r) ≡ newlines Other r
  space_counts = counts_none (c == 47) (is_newline_char c) (c == 13) (c == 92) r (space_no_slash c h) (space_no_newline c h) (space_other c h) (space_no_backslash c h)

  space_last : last_of Other (c ∷ r) ≡ last_of Other r
  space_last = last_none (c == 47) (is_newline_char c) (c == 13) (c == 92) r (space_no_slash c h) (space_no_newline c h) (space_other c h) (space_no_backslash c h)

-- what comes after spaces: nothing, or an item
abbrev pub IsEnd : Text → Type 0
IsEnd [] = Unit {0}
IsEnd (c ∷ s) = c ≡ 47

pub spaces_count : (ind r : Text) → list_all is_space ind ≡ true → IsEnd r → newlines Other (ind ++ r) ≡ 0
spaces_count [] [] ok e = refl
spaces_count [] (c ∷ r) ok e = rw e refl
spaces_count (c ∷ ind) r ok e =
    let (here, others) = and_parts (is_space c) (list_all is_space ind) ok in
    space_counts c here (ind ++ r) ∙ spaces_count ind r others e

spaces_last : (ind r : Text) → list_all is_space ind ≡ true → IsEnd r → last_of Other (ind ++ r) ≡ Other
spaces_last [] [] ok e = refl
spaces_last [] (c ∷ r) ok e = rw e refl
spaces_last (c ∷ ind) r ok e =
    let (here, others) = and_parts (is_space c) (list_all is_space ind) ok in
    space_last c here (ind ++ r) ∙ spaces_last ind r others e

pub spaces_from : (ind r : Text) → list_all is_space ind ≡ true → IsEnd r → from_item (ind ++ r) ≡ r
spaces_from [] [] ok e = refl
spaces_from [] (c ∷ r) ok e = rw e refl
spaces_from (c ∷ ind) r ok e =
    let (here, others) = and_parts (is_space c) (list_all is_space ind) ok in
    rw (space_no_slash c here) (spaces_from ind r others e)

-- LF before a text
lf_first : (r : Text) → newlines Other (10 ∷ r) ≡ 1 + newlines Other r
unfolding is_newline_char
lf_first r = refl

lf_last : (r : Text) → last_of Other (10 ∷ r) ≡ last_of Other r
unfolding is_newline_char
lf_last r = refl

pub lines_count : (k : ℕ) (r : Text) → newlines Other (times k 10 ++ r) ≡ k + newlines Other r
lines_count zero r = omega arith
lines_count (suc k) r = lf_first (times k 10 ++ r) ∙ ap (λ (n : ℕ). 1 + n) (lines_count k r) ∙ omega arith

lines_last : (k : ℕ) (r : Text) → last_of Other (times k 10 ++ r) ≡ last_of Other r
lines_last zero r = refl
lines_last (suc k) r = lf_last (times k 10 ++ r) ∙ lines_last k r

pub lines_from : (k : ℕ) (r : Text) → from_item (times k 10 ++ r) ≡ from_item r
lines_from zero r = refl
lines_from (suc k) r = lines_from k r

-- what comes before a thing once the document is laid out: each line is ended
abbrev pub again : Before → Before
again (Nothing l) = at_start
again (Thing most n l) = Thing 0 1 Other

pub again_read : (s : Text) (b : Before) → again (read s b) ≡ again b
again_read s (Nothing l) = refl
again_read s (Thing most n l) = refl

again_item : (i : Item) (b : Before) → again (past_item true i b) ≡ again b
again_item i (Nothing l) = refl
again_item i (Thing most n l) = refl

pub again_past : (b : Before) (s : Text) (is : List Item) → again (past_items true b s is) ≡ again b
again_past b s [] = again_read s b
again_past b s (i ∷ is) = again_past (past_item true i (read s b)) (after_item i s) is ∙ again_item i (read s b) ∙ again_read s b

-- the blank lines that are written before a thing are counted again
count_again : (number x n : ℕ) → n ≡ min number x → min number (max 0 (1 + n - 1)) ≡ min number x
count_again number x n e = omega (arith, e)

pub lines_again : (number : ℕ) (b : Before) (r : Text) → newlines Other r ≡ 0 → empty_lines number (read (empty_lines number b ++ r) (again b)) ≡ empty_lines number b
lines_again number (Nothing l) r h = refl
lines_again number (Thing most n l) r h =
    let k = min number (max most (n - 1)) in
    let e : newlines Other (times k 10 ++ r) ≡ k = lines_count k r ∙ ap (λ (m : ℕ). k + m) h ∙ omega arith in
    ap (λ (m : ℕ). times m 10) (count_again number (max most (n - 1)) (newlines Other (times k 10 ++ r)) e)

-- an item on a line begins with a slash
block_begins : {s r : Text} → BlockComment s r → (x : Text) × (s ≡ 47 ∷ x)
block_begins (a_block {s = s} b) = (42 ∷ s, refl)

dropped_begins : {s r : Text} → DroppedLine s r → (x : Text) × (s ≡ 47 ∷ x)
dropped_begins (DroppedLine.dropped (slashdash {s = s} l) n e o) = (45 ∷ s, refl)

abbrev first_char : Text → ℕ
first_char [] = 0
first_char (c ∷ s) = c

begins_before : (t x : Text) → t ++ (10 ∷ []) ≡ 47 ∷ x → (y : Text) × (t ≡ 47 ∷ y)
begins_before [] x e = let h : 10 ≡ 47 = ap first_char e in absurd (omega (arith, h))
begins_before (c ∷ t) x e = (t, ap (λ (d : ℕ). d ∷ t) (ap first_char e))

pub line_slash : (i : Item) → Standing i → (x : Text) × (line_text (item_text i) ≡ 47 ∷ x)
line_slash _ (Standing.line_comment s) = (_, refl)
line_slash _ (Standing.block_comment {t = t} f e) = let b = block_begins (f []) in (b.0, e ∙ sym (append-nil t) ∙ b.1)
line_slash _ (Standing.dropped_node {t = t} f) = let d = dropped_begins (f []) in begins_before (line_text t) d.0 d.1

-- what is known of the text before comes last nowhere in the lines that are written
last_read : (s : Text) (b : Before) → last_before (read s (again b)) ≡ last_of Other s
last_read s (Nothing l) = refl
last_read s (Thing most n l) = refl

line_last : (i : Item) → last_after_item (on_line i) Other ≡ Other
line_last (comment t) = refl
line_last (piece t) = refl

-- after LF it counts one newline more
read_line : (x : Text) → read (10 ∷ x) (Thing 0 0 Other) ≡ read x (Thing 0 1 Other)
read_line x =
    let e : newlines Other (10 ∷ x) ≡ 1 + newlines Other x = lf_first x in
    let h : 0 + newlines Other (10 ∷ x) ≡ 1 + newlines Other x = omega (arith, e) in
    ap (λ (n : ℕ). Thing 0 n (last_of Other (10 ∷ x))) h ∙ ap (Thing 0 (1 + newlines Other x)) (lf_last x)

-- before anything else it counts none
pub read_first : (x : Text) → read (10 ∷ x) at_start ≡ read x at_start
read_first x = ap Nothing (lf_last x)

-- so it makes no other difference
pub lines_first : (number : ℕ) (ind x : Text) (is : List Item) (b c : Before) → read (10 ∷ x) b ≡ read x c → spaced_lines number ind b (10 ∷ x) is ≡ spaced_lines number ind c x is
lines_first number ind x [] b c e = refl
lines_first number ind x (i ∷ is) b c e =
    ap (λ (z : Before). (empty_lines number z ++ ind ++ line_text (item_text i) ++ (10 ∷ [])) ++ spaced_lines number ind (past_item false i z) (after_item i x) is) e

pub past_first : (out : Bool) (x : Text) (is : List Item) (b c : Before) → read (10 ∷ x) b ≡ read x c → past_items out b (10 ∷ x) is ≡ past_items out c x is
past_first out x [] b c e = e
past_first out x (i ∷ is) b c e = ap (λ (z : Before). past_items out (past_item out i z) (after_item i x) is) e

-- a line, and what comes after it
pub line_joined : (e b l m r : Text) → ((e ++ b ++ l ++ (10 ∷ [])) ++ m) ++ r ≡ e ++ (b ++ (l ++ (10 ∷ (m ++ r))))
line_joined e b l m r = simp append_assoc

module _ (number : ℕ) (ind : Text) (ok : list_all is_space ind ≡ true) where
  -- the text from its first item on, and after it
  from_line : (e : Before) (l x r : Text) → l ≡ 47 ∷ x → from_item (empty_lines number e ++ (ind ++ (l ++ r))) ≡ l ++ r
  from_line e l x r h =
      lines_from (min number (blank_lines e)) (ind ++ (l ++ r))
      ∙ rw h (spaces_from ind (47 ∷ (x ++ r)) ok refl)

  none_before : (l x r : Text) → l ≡ 47 ∷ x → newlines Other (ind ++ (l ++ r)) ≡ 0
  none_before l x r h = rw h (spaces_count ind (47 ∷ (x ++ r)) ok refl)

  after_line : (i : Item) (e : Before) (x r : Text) → line_text (item_text i) ≡ 47 ∷ x → after_item (on_line i) (empty_lines number e ++ (ind ++ (line_text (item_text i) ++ r))) ≡ r
  after_line i e x r h =
      ap (λ (t : Text). drop (length (item_text (on_line i))) t) (from_line e (line_text (item_text i)) x r h)
      ∙ ap (λ (t : Text). drop (length t) (line_text (item_text i) ++ r)) (text_on_line i)
      ∙ drop-append_seam (line_text (item_text i)) r

  read_again : (b : Before) (s l x r : Text) → l ≡ 47 ∷ x → empty_lines number (read (empty_lines number (read s b) ++ (ind ++ (l ++ r))) (again b)) ≡ empty_lines number (read s b)
  read_again b s l x r h =
      ap (λ (c : Before). empty_lines number (read (empty_lines number (read s b) ++ (ind ++ (l ++ r))) c)) (sym (again_read s b))
      ∙ lines_again number (read s b) (ind ++ (l ++ r)) (none_before l x r h)

  -- after an item that is written nothing is due
  line_state : (i : Item) (b e : Before) (l x r : Text) → l ≡ 47 ∷ x → past_item false (on_line i) (read (empty_lines number e ++ (ind ++ (l ++ r))) (again b)) ≡ Thing 0 0 Other
  line_state i b e l x r h =
      let rest : last_of Other (ind ++ (l ++ r)) ≡ Other = rw h (spaces_last ind (47 ∷ (x ++ r)) ok refl) in
      ap (λ (k : Last). Thing 0 0 (last_after_item (on_line i) k))
      (last_read (empty_lines number e ++ (ind ++ (l ++ r))) b ∙ lines_last (min number (blank_lines e)) (ind ++ (l ++ r)) ∙ rest)
      ∙ ap (Thing 0 0) (line_last i)

  same_text : (i : Item) → line_text (item_text (on_line i)) ≡ line_text (item_text i)
  same_text i = ap line_text (text_on_line i) ∙ line_text_again (item_text i)

  all_again : (b : Before) (s : Text) (is : List Item) → AreStanding is → (r : Text) → (spaced_lines number ind (again b) (spaced_lines number ind b s is ++ r) (map on_line is) ≡ spaced_lines number ind b s is)
      × (past_items false (again b) (spaced_lines number ind b s is ++ r) (map on_line is) ≡ read r (again (past_items false b s is)))
  all_again b s [] a r = (refl, ap (read r) (sym (again_read s b)))
  all_again b s (i ∷ is) a r =
      let l = line_text (item_text i) in
      let slash = line_slash i a.0 in
      let e = empty_lines number (read s b) in
      let next = past_item false i (read s b) in
      let more = spaced_lines number ind next (after_item i s) is in
      let rest = 10 ∷ (more ++ r) in
      let text = e ++ (ind ++ (l ++ rest)) in
      let js = map on_line is in
      let following : Before = past_item false (on_line i) (read text (again b)) in
      let joined = line_joined e ind l more r in
      let after = after_line i (read s b) slash.0 rest slash.1 in
      let state = line_state i b (read s b) l slash.0 rest slash.1 in
      let others = all_again next (after_item i s) is a.1 r in (
        ap (λ (t : Text). spaced_lines number ind (again b) t (on_line i ∷ js)) joined
            ∙ ap (λ (t : Text). (t ++ ind ++ line_text (item_text (on_line i)) ++ (10 ∷ [])) ++ spaced_lines number ind following (after_item (on_line i) text) js) (read_again b s l slash.0 rest slash.1)
            ∙ ap (λ (t : Text). (e ++ ind ++ t ++ (10 ∷ [])) ++ spaced_lines number ind following (after_item (on_line i) text) js) (same_text i)
            ∙ ap (λ (t : Text). (e ++ ind ++ l ++ (10 ∷ [])) ++ spaced_lines number ind following t js) after
            ∙ ap (λ (c : Before). (e ++ ind ++ l ++ (10 ∷ [])) ++ spaced_lines number ind c rest js) state
            ∙ ap (λ (t : Text). (e ++ ind ++ l ++ (10 ∷ [])) ++ t) (lines_first number ind (more ++ r) js (Thing 0 0 Other) (Thing 0 1 Other) (read_line (more ++ r)) ∙ others.0),
        ap (λ (t : Text). past_items false (again b) t (on_line i ∷ js)) joined
            ∙ ap (λ (t : Text). past_items false following t js) after
            ∙ ap (λ (c : Before). past_items false c rest js) state
            ∙ past_first false (more ++ r) js (Thing 0 0 Other) (Thing 0 1 Other) (read_line (more ++ r)) ∙ others.1,
      )

  pub spaced_again : (b : Before) (s : Text) {p : Text} (is : List Item) → GapItems p is → (r : Text) → spaced_lines number ind (again b) (spaced_lines number ind b s is ++ r) (map on_line is) ≡ spaced_lines number ind b s is
  spaced_again b s is d r = (all_again b s is (gap_items d) r).0

  pub passed_again : (b : Before) (s : Text) {p : Text} (is : List Item) → GapItems p is → (r : Text) → past_items false (again b) (spaced_lines number ind b s is ++ r) (map on_line is) ≡ read r (again (past_items false b s is))
  passed_again b s is d r = (all_again b s is (gap_items d) r).1

-- where no blank lines stay
pub no_lines : (b : Before) → empty_lines 0 b ≡ []
no_lines b = ap (λ (n : ℕ). times n 10) (zero-min (blank_lines b))

pub no_lines_before : (b : Before) (t lines : Text) → t ≡ lines ++ empty_lines 0 b → t ≡ lines
no_lines_before b t lines e = e ∙ ap (λ (u : Text). lines ++ u) (no_lines b) ∙ append-nil lines

-- empty lines
pub times_gap : (n : ℕ) → {t r : Text} → Gap true t r → Gap true (times n 10 ++ t) r
times_gap zero g = g
times_gap (suc n) g = newline_gap (times_gap n g)

pub times_front : (n : ℕ) → Front (times n 10) []
times_front zero = nothing
times_front (suc n) = joined newline (times_front n)

-- a line for each item, after empty lines
module _ (number : ℕ) (ind : Text) (ok : list_all is_space ind ≡ true) where
  all_items : (b : Before) (s : Text) (is : List Item) → AreStanding is → {r : Text} {js : List Item} → GapItems r js → GapItems (spaced_lines number ind b s is ++ r) (map on_line is ++ js)
  all_items b s [] a g = g
  all_items b s (i ∷ is) a {r} {js} g =
      rw (line_joined (empty_lines number (read s b)) ind (line_text (item_text i)) (spaced_lines number ind (past_item false i (read s b)) (after_item i s) is) r)
      ((times_front (min number (blank_lines (read s b)))).items (spaces_before ind ok (one_line a.0 (all_items (past_item false i (read s b)) (after_item i s) is a.1 g))))

  all_gap : (b : Before) (s : Text) (is : List Item) → AreStanding is → {t r : Text} → Gap true t r → Gap true (spaced_lines number ind b s is ++ t) r
  all_gap b s [] a g = g
  all_gap b s (i ∷ is) a {t} {r} g =
      rw (line_joined (empty_lines number (read s b)) ind (line_text (item_text i)) (spaced_lines number ind (past_item false i (read s b)) (after_item i s) is) t)
      (times_gap (min number (blank_lines (read s b))) (spaces_gap ind ok (one_gap a.0 (all_gap (past_item false i (read s b)) (after_item i s) is a.1 g))))

  pub spaced_items : (b : Before) (s : Text) {p : Text} (is : List Item) → GapItems p is → {r : Text} {js : List Item} → GapItems r js → GapItems (spaced_lines number ind b s is ++ r) (map on_line is ++ js)
  spaced_items b s is d g = all_items b s is (gap_items d) g

  pub spaced_gap : (b : Before) (s : Text) {p : Text} (is : List Item) → GapItems p is → {t r : Text} → Gap true t r → Gap true (spaced_lines number ind b s is ++ t) r
  spaced_gap b s is d g = all_gap b s is (gap_items d) g

-- a line for each item, where no blank lines are kept
pub zero_lines : (ind : Text) (b : Before) (s : Text) (is : List Item) → spaced_lines 0 ind b s is ≡ lines ind is
zero_lines ind b s [] = refl
zero_lines ind b s (i ∷ is) =
    ap (λ (t : Text). (t ++ ind ++ line_text (item_text i) ++ (10 ∷ [])) ++ spaced_lines 0 ind (past_item false i (read s b)) (after_item i s) is) (no_lines (read s b))
    ∙ ap (λ (t : Text). (ind ++ line_text (item_text i) ++ (10 ∷ [])) ++ t) (zero_lines ind (past_item false i (read s b)) (after_item i s) is)

module _ (s : Settings) (ok : list_all is_space s.indent ≡ true) where
  pub lines_gap : (number level : ℕ) (b b' : Before) (place t : Text) → SpacedLines number s level b place t b' → {u r : Text} → Gap true u r → Gap true (t ++ u) r
  lines_gap number level b b' place t (k, p) {u} {r} g = go s.no_comments k
    where
      go : (x : Bool) → WrittenUnless x (GapItems place) (spaced_lines number (indentation s level) b place) t → Gap true (t ++ u) r
      go true k = rw k g
      go false (is, ItemsIn.items d, e) = rw e (spaced_gap number (indentation s level) (level_spaces s.indent ok level) b place is d g)
      go false (_, ItemsIn.no_items f, e) = rw e g

  -- before a node
  pub before_gap : (number level : ℕ) (has : Bool) (b : Before) (f : NodeFormat) (k : NodeTexts) → SpacesTexts number s level has b f k → {u r : Text} → Gap true u r → Gap true (k.before ++ u) r
  before_gap number level has b f k w {u} {r} g =
      subst (λ (t : Text). Gap true t r) (sym (ap (λ (t : Text). t ++ u) w.before ∙ append_assoc w.lines (empty_lines number w.at_node) u))
      (lines_gap number level b w.at_node f.leading w.lines w.leading (times_gap _ g))

  module _ (with : s.no_comments ≡ false) where
    items_front : (number level : ℕ) (b : Before) (place : Text) {is : List Item} → ItemsIn (GapItems place) is → Front (spaced_lines number (indentation s level) b place is) (map on_line is)
    items_front number level b place (ItemsIn.items {is = is} d) =
        let ind = indentation s level in let spaces = level_spaces s.indent ok level in
        record { gap = λ g. spaced_gap number ind spaces b place is d g; items = λ g. spaced_items number ind spaces b place is d g }
    items_front number level b place (ItemsIn.no_items f) = nothing

    pub lines_front : (number level : ℕ) (b b' : Before) (place t : Text) {is : List Item} → SpacedLines number s level b place t b' → ItemsIn (GapItems place) is → Front t (map on_line is)
    lines_front number level b b' place t k i =
        let ind = indentation s level in
        let (js, j, e) = subst (λ (x : Bool). WrittenUnless x (GapItems place) (spaced_lines number ind b place) t) with k.0 in
        rw e (subst (λ (l : List Item). Front (spaced_lines number ind b place js) (map on_line l)) (gap_in_det j i) (items_front number level b place j))

    pub before_front : (number level : ℕ) (has : Bool) (b : Before) (f : NodeFormat) (k : NodeTexts) {is : List Item} → SpacesTexts number s level has b f k → ItemsIn (GapItems f.leading) is → Front k.before (map on_line is)
    before_front number level has b f k {is} w i =
        subst (λ (t : Text). Front t (map on_line is)) (sym w.before)
        (subst (λ (l : List Item). Front (w.lines ++ empty_lines number w.at_node) l) (append-nil (map on_line is))
        (joined (lines_front number level b w.at_node f.leading w.lines w.leading i) (times_front _)))
