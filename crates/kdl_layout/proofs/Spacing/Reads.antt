-- What is read and written of a text between nodes, from the items that were read in it.
use Rattle.kdl_layout.proofs.Common.{◌≡◌, ℕ, ◌+◌, Bool, arith, List, [], refl, sym, ap, subst, ◌∙◌, Text, GapItems, lines, empty_node_format, past_items, past_node, read, spaced_lines, Settings, indentation, ItemsIn, WrittenUnless, Passes, PassesFormat, PassesText, SpacedLines, items_view, Before, Nothing, Thing}
use Rattle.kdl_layout.specs.Items as items
use Rattle.kdl_layout.specs.declared.spaces.Item.{Item}
use Rattle.kdl_layout.proofs.Keeping.KeptReads.{kept_empty, kept_same}
use Rattle.kdl_layout.proofs.Listing.ItemsUnique.{gap_items_det}
use Rattle.kdl_layout.proofs.Spacing.Lines.{zero_lines}

-- of the items that were read
pub passes_read : (x : Bool) (b b' : Before) (place : Text) (xs ys : List Item) → GapItems place (items_view ys) → xs ≡ ys → b' ≡ past_items x b place (items_view xs) → Passes x b place b'
passes_read x b b' place xs ys d h g = subst (λ (z : Before). Passes x b place z) (sym (g ∙ ap (λ (z : List Item). past_items x b place (items_view z)) h)) (Passes.items {is = items_view ys} d)

-- where the items are known
pub passes_as : {x : Bool} {b b' : Before} {place : Text} {is : List items.Item} → GapItems place is → Passes x b place b' → b' ≡ past_items x b place is
passes_as {x} {b} {place = place} g (Passes.items d) = ap (past_items x b place) (gap_items_det d g)
passes_as g (Passes.no_gap f) = absurd (f _ g)

-- where blank lines stay, and where nothing is counted
pub counted : (number : ℕ) (s : Settings) (b b' : Before) (place : Text) → Passes s.no_comments b place b' → PassesText number s b place b'
counted ℕ.zero s b b' place p = tt
counted (ℕ.suc number) s b b' place p = p

pub uncounted : (number : ℕ) (s : Settings) (b b' : Before) (place : Text) → number ≡ 0 → PassesText number s b place b'
uncounted ℕ.zero s b b' place e = tt
uncounted (ℕ.suc number) s b b' place e = absurd cc

-- where none stay, what comes before a thing makes no difference
pub any_before : (s : Settings) (level : ℕ) (b c : Before) (place t : Text) → WrittenUnless s.no_comments (GapItems place) (spaced_lines 0 (indentation s level) b place) t
    → WrittenUnless s.no_comments (GapItems place) (spaced_lines 0 (indentation s level) c place) t
any_before s level b c place t k =
    let ind = indentation s level in
    kept_same s.no_comments (GapItems place) (spaced_lines 0 ind b place) (spaced_lines 0 ind c place) t (λ is. zero_lines ind b place is ∙ sym (zero_lines ind c place is)) k

-- the lines that are written there
pub lines_zero : (number : ℕ) (s : Settings) (level : ℕ) (b : Before) (place ind t : Text) → number ≡ 0 → ind ≡ indentation s level → WrittenUnless s.no_comments (GapItems place) (lines ind) t
    → WrittenUnless s.no_comments (GapItems place) (spaced_lines number (indentation s level) b place) t
lines_zero number s level b place ind t e h k =
    rw e
    (kept_same s.no_comments (GapItems place) (lines ind) (spaced_lines 0 (indentation s level) b place) t
    (λ is. ap (λ (u : Text). lines u is) h ∙ sym (zero_lines (indentation s level) b place is)) k)

-- of a text without items
pub read_nothing : (b : Before) → read [] b ≡ b
read_nothing (Nothing l) = refl
read_nothing (Thing most n l) = let e : n + 0 ≡ n = omega arith in ap (λ (k : ℕ). Thing most k l) e

pub nothing_of : (number : ℕ) (s : Settings) (level : ℕ) (b : Before) (t : Text) → GapItems t [] → SpacedLines number s level b t [] (read t b)
nothing_of number s level b t g =
    (kept_empty s.no_comments (GapItems t) (spaced_lines number (indentation s level) b t) [] (ItemsIn.items g) refl refl, counted number s b (read t b) t (Passes.items {is = []} g))

pub lines_empty : (number : ℕ) (s : Settings) (level : ℕ) (b : Before) (place : Text) → place ≡ [] → SpacedLines number s level b place [] b
lines_empty number s level b place p = rw p (subst (λ (x : Before). SpacedLines number s level b [] [] x) (read_nothing b) (nothing_of number s level b [] GapItems.none))

-- a node without a format
pub format_none : (number : ℕ) (s : Settings) (b : Before) → b ≡ past_node [] → PassesFormat number s empty_node_format b
format_none number s b e = rw e (counted number s (past_node []) (past_node []) [] (Passes.items {is = []} GapItems.none))

-- of the same texts, under other names
pub lines_as : (number : ℕ) (s : Settings) (level : ℕ) {b c : Before} {place place' : Text} (b' : Before) (t : Text) → b ≡ c → place ≡ place' → SpacedLines number s level b place t b' → SpacedLines number s level c place' t b'
lines_as number s level {b} {c} {place} {place'} b' t e h k =
    subst (λ (x : Before). SpacedLines number s level x place' t b') e (subst (λ (p : Text). SpacedLines number s level b p t b') h k)

-- of a text after a thing that is known where blank lines are kept
pub lines_after : (number : ℕ) (s : Settings) (level : ℕ) (b c b' : Before) (place t : Text) → ((number ≡ 0 → ⊥) → b ≡ c) → SpacedLines number s level b place t b' → SpacedLines number s level c place t b'
lines_after ℕ.zero s level b c b' place t e (k, p) = (any_before s level b c place t k, tt)
lines_after (ℕ.suc number) s level b c b' place t e k = subst (λ (x : Before). SpacedLines (ℕ.suc number) s level x place t b') (e (λ (z : ℕ.suc number ≡ 0). absurd cc)) k
