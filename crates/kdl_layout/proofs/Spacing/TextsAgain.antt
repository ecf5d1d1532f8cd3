-- What is laid out is the same once it is laid out again, however many blank lines are kept.
use Rattle.kdl_layout.proofs.Common.{◌≡◌, Keeping, keeps_texts, ℕ, zero, suc, ◌+◌, Bool, true, false, List, ◌∷◌, ◌++◌, map, refl, sym, ap, subst, ◌∙◌, append_assoc, append-nil, Option, Some, option_map, None, [], list_all, list_any, if◌then◌else◌, ◌||◌, ◌&&◌, not, is_some, Text, is_space, NodeFormat, DocumentFormat, Node, Nodes, Item, GapItems, on_line, at_start, empty_lines, last_in, one_if, past_items, past_node, read, spaced_lines, newlines, Settings, indentation, or_empty, or_empty_document, in_braces, ItemsIn, without_bom, WrittenUnless, Passes, PassesText, SpacesTexts, IsSpacedLine, PassesNode, PassesNodes, IsSpacedContent, IsSpacedBraced, SpacedLines, SpacesContent, PassesFormat, NodeTexts, line_of, has_block, content_of, newline_at_end, IsTypedFormat, with_type_texts, Before, Thing, Other, is_newline_char}
use Rattle.std.proofs.lemmas.List.Folds.{list_any-append}
use Rattle.kdl_layout.proofs.Listing.ItemsUnique.{gap_in_det}
use Rattle.kdl_layout.proofs.Rewriting.LinesAgain.{newline_items}
use Rattle.kdl_layout.proofs.Keeping.GapFronts.{alone, joined, newline_if, indented, gap_without_bom}
use Rattle.kdl_layout.proofs.Keeping.Blocks.{Braces, together, apart, block_texts, block_same, end_same}
use Rattle.kdl_layout.proofs.Keeping.KeptReads as kept
use Rattle.kdl_layout.proofs.Keeping.KeptPlaces.{level_spaces}
use Rattle.kdl_layout.proofs.Spacing.Lines.{spaced_items, times_front, again, again_past, lines_again, past_first, passed_again, spaced_again, spaces_count, lines_first, read_first, no_lines}
use Rattle.kdl_layout.proofs.Spacing.Reads.{any_before, passes_as, read_nothing}
use Rattle.kdl_layout.proofs.Respelling.Spelled.{SpelledNode, spelled, SpelledNodes, nodeless, one_more, same_newline}

-- the items of what is kept of a place, with a rest after it, and what they make again
record Known (x : Bool) (number : ℕ) (ind : Text) (b : Before) (place t r : Text) : Type 0 where
  items : List Item
  gap : GapItems (t ++ r) items
  text : (if x then [] else spaced_lines number ind (again b) (t ++ r) items) ≡ t
  state : (b' : Before) → Passes x b place b' → past_items x (again b) (t ++ r) items ≡ read r (again b')

-- a second layout of a text with these items
kept_of : (x : Bool) (number : ℕ) (ind : Text) (c : Before) (p t u : Text) (is : List Item) → GapItems p is → (if x then [] else spaced_lines number ind c p is) ≡ t → WrittenUnless x (GapItems p) (spaced_lines number ind c p) u → u ≡ t
kept_of true number ind c p t u is g e k = k ∙ e
kept_of false number ind c p t u is g e (js, j, k) = k ∙ ap (spaced_lines number ind c p) (gap_in_det j (ItemsIn.items g)) ∙ e

module _ (number : ℕ) (s : Settings) (ok : list_all is_space s.indent ≡ true) (level : ℕ) where
  known : (b : Before) (place t : Text) → WrittenUnless s.no_comments (GapItems place) (spaced_lines number (indentation s level) b place) t → (r : Text) → GapItems r [] → Known s.no_comments number (indentation s level) b place t r
  known b place t k r g = go s.no_comments k
    where
      ind : Text
      ind = indentation s level

      spaces : list_all is_space ind ≡ true
      spaces = level_spaces s.indent ok level

      left_out : (b' : Before) → Passes true b place b' → read r (again b) ≡ read r (again b')
      left_out _ (Passes.items {is = is} d) = ap (read r) (sym (again_past b place is))
      left_out _ (Passes.no_gap f) = refl

      written : {is : List Item} → GapItems place is → (b' : Before) → Passes false b place b' → past_items false (again b) (spaced_lines number ind b place is ++ r) (map on_line is) ≡ read r (again b')
      written {is} d b' p = passed_again number ind spaces b place is d r ∙ ap (λ (z : Before). read r (again z)) (sym (passes_as d p))

      none : ((is : List Item) → GapItems place is → ⊥) → (b' : Before) → Passes false b place b' → read r (again b) ≡ read r (again b')
      none f _ (Passes.items {is = is} d) = absurd (f is d)
      none f _ (Passes.no_gap h) = refl

      go : (x : Bool) → WrittenUnless x (GapItems place) (spaced_lines number ind b place) t → Known x number ind b place t r
      go true k = rw k (record { items = []; gap = g; text = refl; state = left_out })
      go false (is, ItemsIn.items d, e) = rw e (record {
        items = map on_line is;
        gap = subst (λ (l : List Item). GapItems (spaced_lines number ind b place is ++ r) l) (append-nil (map on_line is)) (spaced_items number ind spaces b place is d g);
        text = spaced_again number ind spaces b place is d r;
        state = written d;
      })
      go false (_, ItemsIn.no_items f, e) = rw e (record { items = []; gap = g; text = refl; state = none f })

-- each node that is laid out ends its line
or_true : (x : Bool) → (x || true) ≡ true
or_true true = refl
or_true false = refl

newline_there : list_any is_newline_char (10 ∷ []) ≡ true
unfolding is_newline_char
newline_there = refl

lf_last : (t : Text) → last_in (t ++ (10 ∷ [])) ≡ Other
lf_last [] = refl
lf_last (c ∷ []) = refl
lf_last (c ∷ d ∷ t) = lf_last (d ∷ t)

line_ended : (t : Text) → past_node (t ++ (10 ∷ [])) ≡ Thing 0 1 Other
line_ended t =
    ap (Thing 0 (one_if (list_any is_newline_char (t ++ (10 ∷ []))))) (lf_last t)
    ∙ ap (λ (x : Bool). Thing 0 (one_if x) Other) (list_any-append is_newline_char t (10 ∷ []) ∙ ap (λ (x : Bool). list_any is_newline_char t || x) newline_there ∙ or_true (list_any is_newline_char t))

-- what comes before the next thing when it is laid out again, if blank lines are counted
abbrev pub IsAgain : ℕ → Before → Before → Type 0
IsAgain zero b c = Unit {0}
IsAgain (suc n) b c = c ≡ again b

-- and after a rest
abbrev AfterRest : ℕ → Text → Before → Before → Type 0
AfterRest zero r b c = Unit {0}
AfterRest (suc n) r b c = c ≡ read r (again b)

ended : (number : ℕ) (t u : Text) → IsAgain number (past_node t) (past_node (u ++ (10 ∷ [])))
ended zero t u = tt
ended (suc n) t u = line_ended u

pub start_again : (number : ℕ) → IsAgain number at_start at_start
start_again zero = tt
start_again (suc n) = refl

-- layout does not look at the texts around the type of a node
typed_passes : (number : ℕ) (s : Settings) (c : Bool) (f : NodeFormat) (m x : Option NodeFormat) (b : Before) → IsTypedFormat c f m x → PassesFormat number s (or_empty x) b → PassesFormat number s (or_empty m) b
typed_passes number s false f m x b h p = subst (λ (z : Option NodeFormat). PassesFormat number s (or_empty z) b) h p
typed_passes number s true f m x b (t, k, h) p = go m (subst (λ (z : Option NodeFormat). PassesFormat number s (or_empty z) b) h p)
  where
    go : (m : Option NodeFormat) → PassesFormat number s (or_empty (option_map (with_type_texts t) m)) b → PassesFormat number s (or_empty m) b
    go None p = p
    go (Some g) p = p

module _ (s : Settings) (ok : list_all is_space s.indent ≡ true) where
  -- what is kept of a text is kept again, before a rest without items
  at_again : (number level : ℕ) (b c : Before) (p u : Text) → IsAgain number b c → WrittenUnless s.no_comments (GapItems p) (spaced_lines number (indentation s level) c p) u → WrittenUnless s.no_comments (GapItems p) (spaced_lines number (indentation s level) (again b) p) u
  at_again zero level b c p u i k = any_before s level c (again b) p u k
  at_again (suc n) level b c p u i k = subst (λ (d : Before). WrittenUnless s.no_comments (GapItems p) (spaced_lines (suc n) (indentation s level) d p) u) i k

  rest_again : (number level : ℕ) (b b' c c' : Before) (place t r : Text) → Known s.no_comments number (indentation s level) b place t r → PassesText number s b place b' → IsAgain number b c → PassesText number s c (t ++ r) c' → AfterRest number r b' c'
  rest_again zero level b b' c c' place t r k p i q = tt
  rest_again (suc n) level b b' c c' place t r k p i q = passes_as k.gap (subst (λ (d : Before). Passes s.no_comments d (t ++ r) c') i q) ∙ k.state b' p

  lines_stay : (number level : ℕ) (b b' c c' : Before) (place t r u : Text) → SpacedLines number s level b place t b' → GapItems r [] → IsAgain number b c → SpacedLines number s level c (t ++ r) u c'
      → (u ≡ t) × AfterRest number r b' c'
  lines_stay number level b b' c c' place t r u (w, p) g i (v, q) =
      let k = known number s ok level b place t w r g in
      (kept_of s.no_comments number (indentation s level) (again b) (t ++ r) t u k.items k.gap k.text (at_again number level b c (t ++ r) u i v), rest_again number level b b' c c' place t r k p i q)

  -- with nothing after it
  nothing_after : (number : ℕ) (b c : Before) → AfterRest number [] b c → IsAgain number b c
  nothing_after zero b c h = tt
  nothing_after (suc n) b c h = h ∙ read_nothing (again b)

  -- at the start of a document, and after the LF of a block
  start_stays : (number level : ℕ) (b c : Before) (place t u : Text) → SpacedLines number s level at_start place t b → SpacedLines number s level at_start (without_bom t) u c → (u ≡ t) × IsAgain number b c
  start_stays number level b c place t u w v =
      let k = known number s ok level at_start place t w.0 [] GapItems.none in
      let g : GapItems t k.items = subst (λ (x : Text). GapItems x k.items) (append-nil t) k.gap in
      let z = lines_stay number level at_start b at_start c place t [] u w GapItems.none (start_again number) (subst (λ (x : Text). SpacedLines number s level at_start x u c) (gap_without_bom t g ∙ sym (append-nil t)) v) in
      (z.0, nothing_after number b c z.1)

  first_stays : (number level : ℕ) (b c : Before) (place t u : Text) → SpacedLines number s level at_start place t b → SpacedLines number s level at_start (10 ∷ t) u c → (u ≡ t) × IsAgain number b c
  first_stays number level b c place t u (w, p) (v, q) =
      let ind = indentation s level in
      let k = known number s ok level at_start place t w [] GapItems.none in
      let g : GapItems t k.items = subst (λ (x : Text). GapItems x k.items) (append-nil t) k.gap in
      let x = subst (λ (y : Text). (if s.no_comments then [] else spaced_lines number ind at_start y k.items) ≡ t) (append-nil t) k.text in (
        kept_of s.no_comments number ind at_start (10 ∷ t) t u k.items (newline_items g)
            (ap (λ (y : Text). if s.no_comments then [] else y) (lines_first number ind t k.items at_start at_start (read_first t)) ∙ x) v,
        go number k g p q,
      )
    where
      go : (n : ℕ) (k : Known s.no_comments number (indentation s level) at_start place t []) → GapItems t k.items → PassesText n s at_start place b → PassesText n s at_start (10 ∷ t) c → IsAgain n b c
      go zero k g p q = tt
      go (suc n) k g p q =
          passes_as (newline_items g) q ∙ past_first s.no_comments t k.items at_start at_start (read_first t)
          ∙ subst (λ (y : Text). past_items s.no_comments at_start y k.items ≡ read [] (again b)) (append-nil t) (k.state b p) ∙ read_nothing (again b)

  -- the texts around the parts of a node
  spaces_none : (level : ℕ) → newlines Other (indentation s level) ≡ 0
  spaces_none level = subst (λ (t : Text). newlines Other t ≡ 0) (append-nil (indentation s level)) (spaces_count (indentation s level) [] (level_spaces s.indent ok level) tt)

  empty_again : (number level : ℕ) (b c : Before) → AfterRest number (empty_lines number b ++ indentation s level) b c → empty_lines number c ≡ empty_lines number b
  empty_again zero level b c h = no_lines c ∙ sym (no_lines b)
  empty_again (suc n) level b c h = ap (empty_lines (suc n)) h ∙ lines_again (suc n) b (indentation s level) (spaces_none level)

  before_stays : (number level : ℕ) (has : Bool) (b c : Before) (f : NodeFormat) (k l : NodeTexts) → IsAgain number b c → SpacesTexts number s level has b f k → SpacesTexts number s level has c (line_of (indentation s level) k) l
      → l.before ≡ k.before
  before_stays number level has b c f k l i w v =
      let ind = indentation s level in
      let lines = empty_lines number w.at_node in
      let g : GapItems (lines ++ ind) [] = alone (joined (times_front _) (indented s ok level)) in
      let e : k.before ++ ind ≡ w.lines ++ (lines ++ ind) = ap (λ (t : Text). t ++ ind) w.before ∙ append_assoc w.lines lines ind in
      let x = lines_stay number level b w.at_node c v.at_node f.leading w.lines (lines ++ ind) v.lines w.leading g i (subst (λ (t : Text). SpacedLines number s level c t v.lines v.at_node) e v.leading) in
      v.before ∙ ap (λ (t : Text). t ++ empty_lines number v.at_node) x.0 ∙ ap (λ (t : Text). w.lines ++ t) (empty_again number level w.at_node v.at_node x.1) ∙ sym w.before

  after_stays : (number level : ℕ) (has : Bool) (b c : Before) (f : NodeFormat) (k l : NodeTexts) → SpacesTexts number s level has b f k → SpacesTexts number s level has c (line_of (indentation s level) k) l
      → l.following ≡ k.following
  after_stays number level has b c f k l w v =
      let end = past_node (k.comment ++ (10 ∷ [])) in
      (lines_stay number level (past_node f.terminator) w.after_it end v.after_it f.trailing k.following [] l.following w.following GapItems.none (ended number f.terminator k.comment)
      (subst (λ (t : Text). SpacedLines number s level end t l.following v.after_it) (sym (append-nil k.following)) v.following)).0

  texts_stay : (number level : ℕ) (has : Bool) (b c : Before) (f : NodeFormat) (k l : NodeTexts) → IsAgain number b c → SpacesTexts number s level has b f k → SpacesTexts number s level has c (line_of (indentation s level) k) l
      → line_of (indentation s level) l ≡ line_of (indentation s level) k
  texts_stay number level has b c f k l i w v =
      let e = kept.end_stays s.no_comments f.terminator k.space k.comment l.space l.comment w.end v.end in
      rw (
        before_stays number level has b c f k l i w v,
        kept.before_block_stays s has f.before_children k.before_block l.before_block w.before_block v.before_block,
        kept.last_stays s has f.before_terminator k.last l.last f.terminator k.space k.comment w.end w.last v.last,
        e.0,
        e.1,
        after_stays number level has b c f k l w v,
      ) refl

  pub line_stays : (number level : ℕ) (has : Bool) (b c : Before) (f : NodeFormat) (g h : Option NodeFormat) → IsAgain number b c → IsSpacedLine number s level has b f g → IsSpacedLine number s level has c (or_empty g) h → h ≡ g
  line_stays number level has b c f g h i w v =
      let d = subst (λ (x : Option NodeFormat). IsSpacedLine number s level has c (or_empty x) h) w.2 v in
      d.2 ∙ ap Some (texts_stay number level has b c f w.0 d.0 i w.1 d.1) ∙ sym w.2

  -- what comes before the next thing
  format_passes : (n level : ℕ) (has : Bool) (b p q : Before) (f : NodeFormat) (g : Option NodeFormat) → IsSpacedLine (suc n) s level has b f g → Passes s.no_comments (past_node f.terminator) f.trailing p
      → Passes s.no_comments (past_node (or_empty g).terminator) (or_empty g).trailing q → q ≡ again p
  format_passes n level has b p q f g (k, w, e) x y =
      let k' = known (suc n) s ok level (past_node f.terminator) f.trailing k.following w.following.0 [] GapItems.none in
      let z : Passes s.no_comments (past_node (k.comment ++ (10 ∷ []))) k.following q =
      subst (λ (o : Option NodeFormat). Passes s.no_comments (past_node (or_empty o).terminator) (or_empty o).trailing q) e y in
      let z' : Passes s.no_comments (Thing 0 1 Other) (k.following ++ []) q =
      subst (λ (t : Text). Passes s.no_comments (Thing 0 1 Other) t q) (sym (append-nil k.following)) (subst (λ (c : Before). Passes s.no_comments c k.following q) (line_ended k.comment) z) in
      passes_as k'.gap z' ∙ k'.state p x ∙ read_nothing (again p)

  module _ (keep : Keeping) where
    pub node_passes : {compact : Bool} (number : ℕ) (p q : Before) {level : ℕ} {b : Before} {n x : Node} → SpelledNode compact number s keep level b n x → PassesNode number s n p → PassesNode number s x q → IsAgain number p q
    node_passes zero p q f x y = tt
    node_passes (suc n) p q (spelled {level = level} {b = b} {h = h} {x = h'} {k = k} f kids) x y =
        format_passes n level (has_block k) b p q (or_empty h.format) f.laid.format f.spaced.format x
        (typed_passes (suc n) s (keeps_texts keep && not s.no_comments && is_some h.ty) (or_empty h.format) f.laid.format h'.format q f.respelled.format y)

    nodes_pass : {compact : Bool} (number : ℕ) (b c e q : Before) {level : ℕ} {a : Before} {ns xs : Nodes} → SpelledNodes compact number s keep level a ns xs → IsAgain number b c → PassesNodes number s b ns e → PassesNodes number s c xs q → IsAgain number e q
    nodes_pass number b c e q nodeless i x y = subst (λ (z : Before). IsAgain number z q) (sym x) (subst (IsAgain number b) (sym y) i)
    nodes_pass number b c e q (one_more f p nodeless) i x y = node_passes number e q f x y
    nodes_pass number b c e q (one_more f p (one_more g o fs)) i x y = nodes_pass number b c e q (one_more g o fs) i x y

    -- the texts around the nodes of a document, and of a block
    trailing_stays : {compact : Bool} (number level : ℕ) {b c : Before} {ns xs : Nodes} (f f' : DocumentFormat) (x y x' y' r : Text) → SpelledNodes compact number s keep level b ns xs → SpacesContent number s level ns f b x y
        → SpacesContent number s level xs f' c x' y' → IsAgain number b c → GapItems r [] → f'.trailing ≡ y ++ r → y' ≡ y
    trailing_stays number level {b} {c} f f' x y x' y' r nodes w v i g e =
        (lines_stay number level w.last w.after_it v.last v.after_it f.trailing y r y' w.trailing g (nodes_pass number b c w.last v.last nodes i w.passes v.passes) (subst (λ (t : Text). SpacedLines number s level v.last t y' v.after_it) e v.trailing)).0

    pub content_stays : {compact : Bool} (number level : ℕ) {b c : Before} {ns xs : Nodes} (f : DocumentFormat) (g h : Option DocumentFormat) → SpelledNodes compact number s keep level b ns xs
        → IsSpacedContent compact number s level ns f b g → IsSpacedContent compact number s level xs (or_empty_document g) c h → IsAgain number b c × (h ≡ g)
    content_stays {compact} number level {b} {c} {ns} {xs} f g h nodes (x, y, w, e) second =
        let (x', y', v, e') = subst (λ (o : Option DocumentFormat). IsSpacedContent compact number s level xs (or_empty_document o) c h) e second in
        let l = start_stays number level b c (without_bom f.leading) x x' w.leading v.leading in
        let t = trailing_stays number level f (content_of compact ns x y) x y x' y' (newline_at_end compact ns) nodes w v l.1 (alone (newline_if compact ns)) refl in
        (l.1, e' ∙ rw (l.0, t, end_same compact _ _ (same_newline nodes)) refl ∙ sym e)

    -- what is kept between the braces of a block, which prints `{}` or does not
    block_stays : {compact : Bool} (number level : ℕ) {b c : Before} {ns xs : Nodes} {x y x' y' : Text} (f : DocumentFormat) {g : DocumentFormat} → SpelledNodes compact number s keep (level + 1) b ns xs → SpacesContent number s (level + 1) ns f b x y
        → Braces (indentation s level) compact ns x y g → SpacesContent number s (level + 1) xs g c x' y' → IsAgain number b c × (x' ≡ x) × (y' ≡ y)
    block_stays number level {b} {c} {x' = x'} {y' = y'} f nodes w together v =
        let l = start_stays number (level + 1) b c (without_bom f.leading) [] x' w.leading v.leading in
        (l.1, l.0, trailing_stays number (level + 1) f (record { leading = []; trailing = [] }) [] [] x' y' [] nodes w v l.1 GapItems.none refl)
    block_stays number level {b} {c} {x = x} {y = y} {x' = x'} {y' = y'} f nodes w (apart {compact = compact} {ns = ns}) v =
        let ind = indentation s level in
        let l = first_stays number (level + 1) b c (without_bom f.leading) x x' w.leading v.leading in
        let end = newline_at_end compact ns in
        (l.1, l.0, trailing_stays number (level + 1) f (in_braces ind (content_of compact ns x y)) x y x' y' (end ++ ind) nodes w v l.1 (alone (joined (newline_if compact ns) (indented s ok level))) (append_assoc y end ind))

    pub braced_stays : {compact : Bool} (number level : ℕ) {b c : Before} {ns xs : Nodes} (f : DocumentFormat) (g h : Option DocumentFormat) → SpelledNodes compact number s keep (level + 1) b ns xs
        → IsSpacedBraced compact number s level ns f b g → IsSpacedBraced compact number s level xs (or_empty_document g) c h → IsAgain number b c × (h ≡ g)
    braced_stays {compact} number level {b} {c} {ns} {xs} f g h nodes (x, y, w, e) second =
        let ind = indentation s level in
        let (x', y', v, e') = subst (λ (o : Option DocumentFormat). IsSpacedBraced compact number s level xs (or_empty_document o) c h) e second in
        let (i, l, t) = block_stays number level f nodes w (block_texts compact ind ns x y) v in
        (i, e' ∙ ap Some (rw (l, t) (block_same compact ind x y _ _ (same_newline nodes))) ∙ sym e)
