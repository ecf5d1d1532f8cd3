-- The spaces of a query, from what the readers of comments and spaces return.
use Rattle.std.proofs.Common.{◌≡◌, ◌⊎◌, inl, inr, ℕ, ◌<◌, Bool, [], ◌∷◌, true, false, length, refl, sym, ap, ◌∙◌, subst}
use Rattle.std.specs.Prelude.{Some}
use Rattle.kdl_text.specs.Chars.{Text, Newline, Space, Star, begins_two, is_space}
use Rattle.kdl_text.specs.Chars.Space.{space as space_char}
use Rattle.kdl_text.specs.Internal.Here.{Here, first, looked, tail}
use Rattle.kdl_text.specs.Internal.Reading.{Longest, Moves, Reads, ReadsNewline}
use Rattle.kdl_text.specs.Internal.TriviaReading.{ReadsSlash}
use Rattle.kdl_text.specs.Trivia.{BlockComment, EscEnd, LineComment, Ws}
use Rattle.kdl_text.specs.Trivia.Ws.{space as ws_space, comment as ws_comment}
use Rattle.kdl_text.specs.declared.trivia.SlashRead.{SlashRead}
use Rattle.kdl_text.specs.declared.trivia.SlashRead.TheVariants.{Block, Line, Dash, Unclosed, Other}
use Rattle.kdl_text.proofs.Looking.MovesJoin.{moves_then, stays}
use Rattle.kdl_text.proofs.Looking.Stars.{meets, snoc, stops}
use Rattle.kdl_text.proofs.Spacing.SpacePieces.{newline_shorter, node_space_shorter, ws_shorter}
use Rattle.kdl_text.proofs.Spacing.SpaceUnique.{backslash_no_newline, backslash_no_space, block_begins, esc_end_ws, newline_begins, slash_no_space, ws_det, ws_dets}
use Rattle.kdl_query.specs.QueryText.{QuerySpace, Spaces}
use Rattle.kdl_query.specs.QueryText.QuerySpace.{ws, newline, escline, last_escline}
use Rattle.kdl_query.proofs.Unique.{in_document, query_space_det}

-- one space, and no other
found : {s r : Text} → QuerySpace s r → Reads QuerySpace true s r
found {s = s} p t = (λ q. query_space_det q p, λ e. subst (QuerySpace s) (sym e) p)

found_ws : {s r : Text} → Ws s r → Reads Ws true s r
found_ws {s = s} p t = (λ q. ws_det q p, λ e. subst (Ws s) (sym e) p)

-- a slash begins a block comment, or no space
pub at_slash : {s r : Text} → Ws (47 ∷ s) r → (BlockComment (47 ∷ s) r → ⊥) → ⊥
at_slash (ws_space (space_char x)) f = let y = slash_no_space in cc
at_slash (ws_comment b) f = f b

slash_none : (s r : Text) → first s ≡ Some 47 → ((r : Text) → BlockComment s r → ⊥) → Ws s r → ⊥
slash_none [] r e f p = cc
slash_none (c ∷ s) r e f p =
    let k : c ≡ 47 = cc in
    at_slash (subst (λ z. Ws (z ∷ s) r) k p) (λ b. f r (subst (λ z. BlockComment (z ∷ s) r) (sym k) b))

no_block : (s r : Text) → begins_two 47 42 s ≡ false → BlockComment s r → ⊥
no_block s r h b = let k = block_begins b in cc

no_block_in_line : {s r t : Text} → LineComment s r → BlockComment s t → ⊥
no_block_in_line (LineComment.line l) b = let k = block_begins b in cc

slash_dash : (a b : Here) → a.rest ≡ 47 ∷ 45 ∷ b.rest → Reads Ws false a.rest b.rest
slash_dash a b e r p = at_slash (subst (λ z. Ws z r) e p) (λ t. no_block _ r refl t)

-- the same, after a look
at_look : (a b : Here) → b ≡ looked a → b.rest ≡ a.rest
at_look a b e = ap (λ z. z.rest) e

pub slash_is : (o : SlashRead) (a b d : Here) → b ≡ looked a → o ≡ Block → ReadsSlash o b d → Reads Ws true a.rest d.rest
slash_is o a b d e k h = subst (λ s. Reads Ws true s d.rest) (at_look a b e) (found_ws (ws_comment ((subst (λ z. ReadsSlash z b d) k h d.rest).1 refl)))

pub slash_not : (o : SlashRead) (a b d : Here) → first a.rest ≡ Some 47 → b ≡ looked a → (o ≡ Line) ⊎ (o ≡ Dash) ⊎ (o ≡ Unclosed) ⊎ (o ≡ Other) → ReadsSlash o b d → Reads Ws false a.rest d.rest
slash_not o a b d f e k h = subst (λ s. Reads Ws false s d.rest) (at_look a b e) (go k)
  where
    here : first b.rest ≡ Some 47
    here = ap first (at_look a b e) ∙ f

    go : (o ≡ Line) ⊎ (o ≡ Dash) ⊎ (o ≡ Unclosed) ⊎ (o ≡ Other) → Reads Ws false b.rest d.rest
    go (inl k) = λ r p. slash_none b.rest r here (λ t. no_block_in_line ((subst (λ z. ReadsSlash z b d) k h d.rest).1 refl)) p
    go (inr (inl k)) = slash_dash b d (subst (λ z. ReadsSlash z b d) k h)
    go (inr (inr (inl k))) = λ r p. slash_none b.rest r here (subst (λ z. ReadsSlash z b d) k h).0.unclosed p
    go (inr (inr (inr k))) = λ r p. slash_none b.rest r here (λ t. no_block b.rest t (subst (λ z. ReadsSlash z b d) k h).0) p

-- a space
pub space_here : (s t : Text) (c : ℕ) → first s ≡ Some c → is_space c ≡ true → t ≡ tail s → Reads Ws true s t
space_here [] t c e h k = absurd cc
space_here (d ∷ s) t c e h k = let m : is_space d ≡ true = (let n : d ≡ c = cc in ap is_space n ∙ h) in found_ws (ws_space (subst (Space (d ∷ s)) (sym k) (space_char m)))

-- anything else
pub other_char : (s t : Text) (c : ℕ) → first s ≡ Some c → (c ≡ 47 → ⊥) → is_space c ≡ false → Reads Ws false s t
other_char s t c e f h r (ws_space (space_char x)) = cc
other_char s t c e f h r (ws_comment (BlockComment.block b)) = f cc

-- a backslash
pub escline_here : (u m r : Text) → Longest Ws u m → Newline m r → Reads QuerySpace true (92 ∷ u) r
escline_here u m r l n = found (escline l.0 n)

escline_at_end : (u m : Text) → Longest Ws u m → m ≡ [] → Reads QuerySpace true (92 ∷ u) m
escline_at_end u m l e = subst (λ z. Reads QuerySpace true (92 ∷ u) z) (sym e) (found (last_escline (subst (Star Ws u) e l.0)))

no_escline : (u m r : Text) → Longest Ws u m → ((t : Text) → Newline m t → ⊥) → (m ≡ [] → ⊥) → QuerySpace (92 ∷ u) r → ⊥
no_escline u m r l n e (ws (ws_space (space_char x))) = let y = backslash_no_space in cc
no_escline u m r l n e (ws (ws_comment b)) = let y = block_begins b in cc
no_escline u m r l n e (newline k) = let x = newline_begins k in let y = backslash_no_newline in cc
no_escline u m r l n e (escline a k) = n r (subst (λ z. Newline z r) (stops (meets ws_dets a l.0 l.1) (λ t. esc_end_ws (EscEnd.newline k))) k)
no_escline u m r l n e (last_escline a) = e (sym (stops (meets ws_dets a l.0 l.1) (λ t. esc_end_ws EscEnd.ends)))

pub escline_end : (v : Bool) (u m r : Text) → Longest Ws u m → ((t : Text) → Newline m t → ⊥) → (v ≡ true → m ≡ []) → (v ≡ false → m ≡ [] → ⊥) → r ≡ m → Reads QuerySpace v (92 ∷ u) r
escline_end true u m r l n e f k = subst (λ z. Reads QuerySpace true (92 ∷ u) z) (sym k) (escline_at_end u m l (e refl))
escline_end false u m r l n e f k = λ q p. no_escline u m q l n (f refl) p

-- anything else than a backslash
pub ws_reads : (s t : Text) → Reads Ws true s t → Reads QuerySpace true s t
ws_reads s t h = found (ws ((h t).1 refl))

no_other : (s r : Text) → (first s ≡ Some 92 → ⊥) → (Ws s r → ⊥) → (Newline s r → ⊥) → QuerySpace s r → ⊥
no_other s r f w n (ws p) = w p
no_other s r f w n (newline x) = n x
no_other s r f w n (escline x y) = f refl
no_other s r f w n (last_escline x) = f refl

pub newline_reads : (v : Bool) (s : Text) (a b : Here) → (first s ≡ Some 92 → ⊥) → ((r : Text) → Ws s r → ⊥) → a.rest ≡ s → ReadsNewline v a b → Reads QuerySpace v s b.rest
newline_reads true s a b f w e n = found (newline (subst (λ z. Newline z b.rest) e n))
newline_reads false s a b f w e n = λ r p. no_other s r f (w r) (λ x. n.1 r (subst (λ z. Newline z r) (sym e) x)) p

-- spaces so far
space_shorter : {s r : Text} → QuerySpace s r → length r < length s
space_shorter p = elim (in_document p) [ inl q ↦ node_space_shorter q | inr n ↦ newline_shorter n ]

pub shorter_ws : (s r : Text) → Reads Ws true s r → length r < length s
shorter_ws s r h = ws_shorter ((h r).1 refl)

pub reads_shorter : (s r : Text) → Reads QuerySpace true s r → length r < length s
reads_shorter s r h = space_shorter ((h r).1 refl)

pub record SoFar (R : Text → Text → Type 0) (first now : Here) : Type 0 where
  pub run : Star R first.rest now.rest
  pub moves : Moves first now

pub one_more_space : {R : Text → Text → Type 0} (f a b : Here) → SoFar R f a → Reads R true a.rest b.rest → Moves a b → SoFar R f b
one_more_space f a b h r m = record { run = snoc h.run ((r b.rest).1 refl); moves = moves_then h.moves m }

pub all_spaces : (f a b : Here) → SoFar QuerySpace f a → Reads QuerySpace false a.rest b.rest → b.rest ≡ a.rest → Spaces f.rest b.rest
all_spaces f a b h r e = rw e (record { run = h.run; stops = r })

pub all_ws : (f a b : Here) → SoFar Ws f a → Reads Ws false a.rest b.rest → b.rest ≡ a.rest → Longest Ws f.rest b.rest
all_ws f a b h r e = rw e (h.run, r)

pub spaces_begin : {R : Text → Text → Type 0} (a : Here) → SoFar R a a
spaces_begin a = record { run = Star.none; moves = stays a }
