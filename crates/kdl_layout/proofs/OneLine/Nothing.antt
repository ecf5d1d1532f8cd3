-- Of the texts of a node that is on one line, layout keeps no comment, and no blank line.
use Rattle.kdl_layout.proofs.Common.{◌≡◌, Keeping, ℕ, zero, suc, ◌+◌, ◌-◌, ◌==◌, Bool, true, false, List, [], ◌∷◌, ◌++◌, refl, ap, subst, ◌∙◌, Option, Some, arith, nat_tests, and_parts, eqb-true, list_all, list_any, if◌then◌else◌, ◌&&◌, min, max, Text, is_newline_char, times, LineComment, no_line_comment, Identifier, NodeFormat, Head, node, Children, no_children, children, Nodes, none, first, Item, GapItems, Place, before_block, PlaceItems, tail, at_start, blank_lines, empty_lines, newlines, one_if, past_node, read, spaced_lines, Settings, indentation, or_empty, EndItems, ItemsIn, KeptEnd, WrittenUnless, end_comment, end_space, without_bom, end_on_line, head_on_line, is_end, line_on_line, nodes_on_line, maybe_on_line, name_on_line, entry_on_line, only_spaces, plain_line, TypeTexts, node_type_texts, with_type_texts, PassesNode, SpacedLines, SpacesTexts, NodeTexts, line_of, Before, Nothing, Thing, Last, is_space}
use Rattle.kdl_layout.proofs.Listing.ItemsUnique.{end_items_det, gap_items_det, items_in_det, place_items_det}
use Rattle.kdl_layout.proofs.Rewriting.LinesAgain.{spaces_items}
use Rattle.kdl_layout.specs.Blank.{after_char, counts}
use Rattle.kdl_layout.proofs.Respelling.Kept.{OnlySpaces}
use Rattle.kdl_layout.proofs.Respelling.Written.{IsTypedLine, head_line}
use Rattle.kdl_layout.proofs.Respelling.Spelled.{spelled, blockless, spelled_block, SpelledNodes, nodeless, one_more}
use Rattle.kdl_layout.proofs.Keeping.KeptReads.{spaces_in}
use Rattle.kdl_layout.proofs.Spacing.Reads.{passes_as}
use Rattle.kdl_layout.proofs.Spacing.Lines.{space_no_newline, space_no_slash, no_lines}

space_no_bom : (c : ℕ) → is_space c ≡ true → (c == 0xFEFF) ≡ false
unfolding is_space
space_no_bom c h = grind (arith, nat_tests)

-- nothing is kept of a text without items
nothing_written : (out : Bool) (has : List Item → Type 0) (write : List Item → Text) {u : Text} → ((is js : List Item) → has is → has js → is ≡ js) → write [] ≡ [] → ItemsIn has [] → WrittenUnless out has write u → u ≡ []
nothing_written true has write det e h k = k
nothing_written false has write det e h (is, i, q) = q ∙ ap write (items_in_det det i h) ∙ e

pub nothing_tailed : (out : Bool) (p : Place) (t u : Text) → only_spaces t ≡ true → WrittenUnless out (PlaceItems p t) tail u → u ≡ []
nothing_tailed out p t u h k = nothing_written out (PlaceItems p t) tail (λ is js d e. place_items_det d e) refl (spaces_in p t h) k

pub nothing_kept : (number : ℕ) (s : Settings) (level : ℕ) (b b' : Before) (t u : Text) → GapItems t [] → SpacedLines number s level b t u b' → u ≡ []
nothing_kept number s level b b' t u g k = nothing_written s.no_comments (GapItems t) (spaced_lines number (indentation s level) b t) (λ is js d e. gap_items_det d e) refl (ItemsIn.items g) k.0

-- spaces hold no newlines
no_newline_here : (slash newline k : Bool) (l : Last) (t : Text) → slash ≡ false → newline ≡ false → newlines l t ≡ 0 → (if slash then 0 else one_if (newline && k) + newlines l t) ≡ 0
no_newline_here slash newline k l t e f g = rw (e, f, g) refl

no_newlines : (l : Last) (t : Text) → only_spaces t ≡ true → newlines l t ≡ 0
no_newlines l [] h = refl
no_newlines l (c ∷ t) h =
    let e = and_parts (is_space c) (only_spaces t) h in
    no_newline_here (c == 47) (is_newline_char c) (counts l c) (after_char l c) t (space_no_slash c e.0) (space_no_newline c e.0) (no_newlines (after_char l c) t e.1)

-- no blank line comes before a thing
abbrev pub Quiet : ℕ → Before → Type 0
Quiet zero b = Unit {0}
Quiet (suc number) b = blank_lines b ≡ 0

pub read_spaces : (t : Text) (b : Before) → only_spaces t ≡ true → blank_lines b ≡ 0 → blank_lines (read t b) ≡ 0
read_spaces t (Nothing l) h q = refl
read_spaces t (Thing most n l) h q = let e : n + newlines l t ≡ n = omega (arith, no_newlines l t h) in ap (λ (k : ℕ). max most (k - 1)) e ∙ q

one_at_most : (x : Bool) → max 0 (one_if x - 1) ≡ 0
one_at_most true = refl
one_at_most false = refl

pub quiet_node : (terminator : Text) → blank_lines (past_node terminator) ≡ 0
quiet_node terminator = one_at_most (list_any is_newline_char terminator)

pub quiet_lines : (number : ℕ) (b : Before) → Quiet number b → empty_lines number b ≡ []
quiet_lines zero b q = no_lines b
quiet_lines (suc number) b q = let e : min (suc number) (blank_lines b) ≡ 0 = omega (arith, q) in ap (λ (k : ℕ). times k 10) e

pub quiet_start : (number : ℕ) → Quiet number at_start
quiet_start zero = tt
quiet_start (suc number) = refl

pub quiet_lead : (number : ℕ) (s : Settings) (level : ℕ) (b b' : Before) (t u : Text) → only_spaces t ≡ true → SpacedLines number s level b t u b' → Quiet number b → Quiet number b'
quiet_lead zero s level b b' t u h k q = tt
quiet_lead (suc number) s level b b' t u h k q = ap blank_lines (passes_as (spaces_items t h) k.1) ∙ read_spaces t b h q

-- of a terminator nothing is kept
pub no_comment : (last : Bool) (terminator : Text) → end_on_line last terminator ≡ true → LineComment terminator [] → ⊥
no_comment last [] h l = no_line_comment refl l
no_comment last (c ∷ s) h l =
    let e : c ≡ 59 = eqb-true c 59 (and_parts (c == 59) (list_all (λ d. d == 59) s) h).0 in
    no_line_comment {s = 59 ∷ s} refl (subst (λ (x : ℕ). LineComment (x ∷ s) []) e l)

pub nothing_ended : (b : Bool) (terminator space comment : Text) → (LineComment terminator [] → ⊥) → KeptEnd b terminator space comment → (space ≡ []) × (comment ≡ [])
nothing_ended true terminator space comment bare k = k
nothing_ended false terminator space comment bare (is, i, e, f) = let d = end_items_det i (EndItems.other bare) in (e ∙ ap end_space d, f ∙ ap end_comment d)

-- the parts of a node's format
pub record LineParts (last : Bool) (f : NodeFormat) : Type 0 where
  pub leading : only_spaces f.leading ≡ true
  pub types : OnlySpaces (node_type_texts f)
  pub before_terminator : only_spaces f.before_terminator ≡ true
  pub trailing : only_spaces f.trailing ≡ true
  pub terminator : end_on_line last f.terminator ≡ true

pub line_parts : (last : Bool) (f : NodeFormat) → line_on_line last f ≡ true → LineParts last f
line_parts last f h =
    let (six, end) = and_parts _ (end_on_line last f.terminator) h in
    let (five, trailing) = and_parts _ (only_spaces f.trailing) six in
    let (four, before) = and_parts _ (only_spaces f.before_terminator) five in
    let (three, after) = and_parts _ (only_spaces f.after_ty) four in
    let (two, after_name) = and_parts _ (only_spaces f.after_ty_name) three in
    let (leading, before_name) = and_parts (only_spaces f.leading) (only_spaces f.before_ty_name) two in
    record { leading = leading; types = record { before_name = before_name; after_name = after_name; after = after }; before_terminator = before; trailing = trailing; terminator = end }

pub record HeadParts (last : Bool) (h : Head) : Type 0 where
  pub ty : maybe_on_line h.ty ≡ true
  pub name : name_on_line h.name ≡ true
  pub entries : list_all entry_on_line h.entries ≡ true
  pub line : line_on_line last (or_empty h.format) ≡ true

pub head_parts : (last : Bool) (h : Head) → head_on_line last h ≡ true → HeadParts last h
head_parts last h e =
    let (three, line) = and_parts _ (line_on_line last (or_empty h.format)) e in
    let (two, entries) = and_parts _ (list_all entry_on_line h.entries) three in
    let (ty, name) = and_parts (maybe_on_line h.ty) (name_on_line h.name) two in
    record { ty = ty; name = name; entries = entries; line = line }

-- a node on one line, laid out on a line of its own
module _ (number : ℕ) (s : Settings) (level : ℕ) where
  pub line_is_plain : (last : Bool) (b : Before) (f : NodeFormat) (k : NodeTexts) → line_on_line last f ≡ true → Quiet number b → SpacesTexts number s level false b f k → line_of (indentation s level) k ≡ plain_line (indentation s level)
  line_is_plain last b f k h q w =
      let p = line_parts last f h in
      let lines = nothing_kept number s level b w.at_node f.leading w.lines (spaces_items f.leading p.leading) w.leading in
      let before : k.before ≡ [] = w.before ∙ ap (λ (t : Text). t ++ empty_lines number w.at_node) lines ∙ quiet_lines number w.at_node (quiet_lead number s level b w.at_node f.leading w.lines p.leading w.leading q) in
      let end = nothing_ended s.no_comments f.terminator k.space k.comment (no_comment last f.terminator p.terminator) w.end in
      let last_text : k.last ≡ [] = nothing_tailed s.no_comments before_block f.before_terminator k.last p.before_terminator w.last in
      let following : k.following ≡ [] = nothing_kept number s level (past_node f.terminator) w.after_it f.trailing k.following (spaces_items f.trailing p.trailing) w.following in
      rw (before, w.before_block, last_text, end.0, end.1, following) refl

  pub quiet_passes : (last : Bool) (h : Head) (k : Children) (b : Before) → line_on_line last (or_empty h.format) ≡ true → PassesNode number s (node h k) b → Quiet number b
  quiet_passes last h k b e p = go number p
    where
      f : NodeFormat
      f = or_empty h.format

      trailing : only_spaces f.trailing ≡ true
      trailing = (line_parts last f e).trailing

      go : (number : ℕ) → PassesNode number s (node h k) b → Quiet number b
      go zero p = tt
      go (suc number) p = ap blank_lines (passes_as (spaces_items f.trailing trailing) p) ∙ read_spaces f.trailing (past_node f.terminator) trailing (quiet_node f.terminator)

-- around the type of a node on one line nothing is kept
pub bare_line : (number : ℕ) (s : Settings) (level : ℕ) (last : Bool) (b : Before) (f : NodeFormat) (ty : Option Identifier) (g : Option NodeFormat) (l : IsTypedLine number s level false b f ty g) → line_on_line last f ≡ true
    → g ≡ Some (line_of (indentation s level) l.texts)
bare_line number s level last b f ty g l h = l.is ∙ ap (λ (x : TypeTexts). Some (with_type_texts x (line_of (indentation s level) l.texts))) (l.bare (line_parts last f h).types)

-- nodes without blocks, each on a line of its own without comments
abbrev pub ArePlain : Text → Nodes → Type 0
ArePlain ind none = Unit {0}
ArePlain ind (first (node h no_children) ns) = (h.format ≡ Some (plain_line ind)) × ArePlain ind ns
ArePlain ind (first (node h (children d)) ns) = ⊥

pub are_plain : {compact : Bool} {number : ℕ} {s : Settings} {keep : Keeping} {level : ℕ} {b : Before} {ns xs : Nodes} → nodes_on_line ns ≡ true → Quiet number b → SpelledNodes compact number s keep level b ns xs → ArePlain (indentation s level) xs
are_plain h q nodeless = tt
are_plain h q (one_more (spelled f (spelled_block c at nodes)) p fs) = absurd cc
are_plain {number = number} {s = s} h q (one_more {level = level} {b = b} {b' = b'} {ns = ns} (spelled {h = y} {x = x} f blockless) p fs) =
    let e = and_parts (head_on_line (is_end ns) y) (nodes_on_line ns) h in
    let line = (head_parts (is_end ns) y e.0).line in
    let format = head_line level false b y x f in (
      bare_line number s level (is_end ns) b (or_empty y.format) x.ty x.format format line ∙ ap Some (line_is_plain number s level (is_end ns) b (or_empty y.format) format.texts line q format.kept),
      are_plain e.1 (quiet_passes number s level (is_end ns) y no_children b' line p) fs,
    )

-- a text of spaces has no U+FEFF at its start
pub spaces_without_bom : (t : Text) → only_spaces t ≡ true → without_bom t ≡ t
spaces_without_bom [] h = refl
spaces_without_bom (c ∷ t) h = rw (space_no_bom c (and_parts (is_space c) (only_spaces t) h).0) refl
