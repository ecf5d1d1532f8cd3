-- What the readers of comments and spaces have read: lines, runs of spaces and block comments, esclines.
use Rattle.std.proofs.Common.{◌≡◌, ℕ, ◌↔◌, [], ◌∷◌, ◌++◌, Bool, true, false, length, refl, ap, sym, ◌∙◌, subst, arith}
use Rattle.std.proofs.lemmas.Bool.{and_parts}
use Rattle.std.specs.Prelude.{Some, None}
use Rattle.std.specs.List.{list_all}
use Rattle.kdl_text.specs.Chars.{Text, is_space, begins, begins_two, starts, Newline, Star, Space}
use Rattle.kdl_text.specs.Chars.Star.{none, more}
use Rattle.kdl_text.specs.Chars.Space.{space}
use Rattle.kdl_text.specs.Internal.Here.{Here, Ran, Took, TookTwo, Stayed, Ate, AteTwo, looked, first}
use Rattle.kdl_text.specs.Spans.{bytes}
use Rattle.kdl_text.specs.Internal.Reading.{Reads, Moves, Past, Longest, ReadsNewline}
use Rattle.kdl_text.specs.Trivia.{Parts, BlockComment, Line, LineComment, Ws, EscEnd}
use Rattle.kdl_text.specs.Trivia.BlockComment.{block}
use Rattle.kdl_text.specs.Trivia.LineComment.{line}
use Rattle.kdl_text.specs.Trivia.Ws.{space as ws_space, comment as ws_comment}
use Rattle.kdl_text.specs.Trivia.EscEnd.{comment, newline, ends}
use Rattle.kdl_text.specs.Internal.TriviaReading.{Opens, RanWs}
use Rattle.kdl_text.proofs.Looking.Stars.{join, snoc, star_map}
use Rattle.kdl_text.proofs.Looking.MovesJoin.{moves_then, moves_stayed, moves_two, fewer_bytes, stayed_looked}
pub use Rattle.kdl_text.proofs.Looking.SliceCost.{moves_ran}
use Rattle.kdl_text.proofs.Looking.SliceCost.{past_start, past_then, past_two, past_three, past_more, past_stayed}
use Rattle.kdl_text.proofs.Spacing.SpaceUnique.{block_det, line_comment_det, esc_end_det, no_line_comment}

-- one piece was found, and there is one at most
pub reads_found : (R : Text → Text → Type 0) (s t : Text) → R s t → ((r : Text) → R s r → r ≡ t) → (r : Text) → R s r ↔ (r ≡ t)
reads_found R s t found same r = (same r, λ x. subst (R s) (sym x) found)

-- spaces
star_run : (run rest : Text) → list_all is_space run ≡ true → Star Space (run ++ rest) rest
star_run [] rest h = none
star_run (c ∷ run) rest h = let k = and_parts (is_space c) (list_all is_space run) h in more (space k.0) (star_run run rest k.1)

no_more : {s t : Text} → starts is_space s ≡ false → Space s t → ⊥
no_more x (space y) = cc

pub spaces_ran : {run : Text} {a b : Here} → Ran is_space run a b → Longest Space a.rest b.rest
spaces_ran {run = run} {b = b} r = (rw r.text (star_run run b.rest r.all), λ t. no_more r.stops)

-- what the caller knows to be here was eaten
pub ate_here : (c : ℕ) (b : Bool) (old new : Here) → begins c old.rest ≡ true → Ate c b old new → Took (Some c) old new
ate_here c true old new h t = t
ate_here c false old new h (x, t) = cc

pub ate_two_here : (c d : ℕ) (b : Bool) (old new : Here) → begins_two c d old.rest ≡ true → AteTwo c d b old new → TookTwo c d old new
ate_two_here c d true old new h t = t
ate_two_here c d false old new h (x, t) = cc

pub moves_ate_two : (c d : ℕ) (b : Bool) (old new : Here) → AteTwo c d b old new → Moves old new
moves_ate_two c d true old new t = moves_two t
moves_ate_two c d false old new (x, s) = moves_stayed s

-- comments after their first two characters
block_parts : {s r : Text} → BlockComment (47 ∷ 42 ∷ s) r → Parts s r
block_parts (block p) = p

pub block_reads : (b : Bool) (a m : Here) (e : Text) → TookTwo 47 42 a m → Reads Parts b m.rest e → Reads BlockComment b a.rest e
block_reads true a m e t p = let found : BlockComment a.rest e = rw t.rest (block ((p e).1 refl)) in reads_found BlockComment _ _ found (λ r w. block_det w found)
block_reads false a m e t p = λ r w. p r (block_parts (rw t.rest at w))

pub opens_here : (a m : Here) (e : Text) → TookTwo 47 42 a m → Reads Parts false m.rest e → Opens a.rest
opens_here a m e t p = record { opens = rw t.rest refl; unclosed = block_reads false a m e t p }

pub line_reads : (a m : Here) (e : Text) → TookTwo 47 47 a m → ((r : Text) → Line m.rest r ↔ (r ≡ e)) → (r : Text) → LineComment a.rest r ↔ (r ≡ e)
line_reads a m e t p = let found : LineComment a.rest e = rw t.rest (line ((p e).1 refl)) in reads_found LineComment _ _ found (λ r l. line_comment_det l found)

pub stayed_line : (n : ℕ) (a b m : Here) (e : Text) → Stayed n a b → TookTwo 47 47 b m → ((r : Text) → Line m.rest r ↔ (r ≡ e)) → (r : Text) → LineComment a.rest r ↔ (r ≡ e)
stayed_line n a b m e s t p r = rw s.rest at (line_reads b m e t p r)

-- a run of spaces and block comments so far
pub record Running (f a : Here) : Type 0 where
  pub run : Star Ws f.rest a.rest
  pub past : Past 3 0 f a

pub begun : (f : Here) → Running f f
begun f = record { run = none; past = past_start }

pub no_ws_here : {s t : Text} → ((u : Text) → Space s u → ⊥) → begins_two 47 42 s ≡ false → Ws s t → ⊥
no_ws_here n x (ws_space p) = n _ p
no_ws_here n x (ws_comment (block p)) = cc

module _ (f a b : Here) (i : Running f a) (l : Longest Space a.rest b.rest) (m : Past 1 1 a b) where
  spaced : Star Ws f.rest b.rest
  spaced = join i.run (star_map (λ u v. ws_space) l.0)

  pub run_stops : (d : Here) → AteTwo 47 42 false b d → RanWs true f d
  run_stops d (x, s) = record {
    reads = let y : begins_two 47 42 d.rest ≡ false = rw s.rest x in ((subst (Star Ws f.rest) (sym s.rest) spaced, λ t. no_ws_here (rw (← s.rest) at l.1) y), y);
    past = past_then i.past (past_three (past_two (past_then m (past_stayed s))));
  }

  module _ (d e : Here) (two : TookTwo 47 42 b d) (v : Past 2 1 d e) where
    turned : Past 3 0 f e
    turned = record {
      moves = moves_then i.past.moves (moves_then m.moves (moves_then (moves_two two) v.moves));
      costs = record {
        most = omega (arith, i.past.costs.most, m.costs.most, two.steps, ap bytes two.rest, v.costs.most, fewer_bytes m.moves, fewer_bytes v.moves);
        least = omega (arith, i.past.costs.least, m.costs.least, two.steps, ap length two.rest, v.costs.least);
      };
    }

    pub run_unclosed : Reads Parts false d.rest e.rest → RanWs false f e
    run_unclosed p = record { reads = (b.rest, spaced, opens_here b d e.rest two p); past = past_more (omega arith) turned }

    pub run_turn : Reads Parts true d.rest e.rest → Running f e
    run_turn p = record { run = snoc spaced (ws_comment ((block_reads true b d e.rest two p e.rest).1 refl)); past = turned }

-- the end of an escline
pub end_comment : (a m : Here) (e : Text) → TookTwo 47 47 a m → ((r : Text) → Line m.rest r ↔ (r ≡ e)) → (r : Text) → EscEnd a.rest r ↔ (r ≡ e)
end_comment a m e t p = let found : EscEnd a.rest e = comment ((line_reads a m e t p e).1 refl) in reads_found EscEnd _ _ found (λ r x. esc_end_det x found)

pub end_newline : (a b : Here) (e : Text) → Stayed 2 a b → Newline b.rest e → (r : Text) → EscEnd a.rest r ↔ (r ≡ e)
end_newline a b e s n = let found : EscEnd a.rest e = newline (rw s.rest at n) in reads_found EscEnd _ _ found (λ r x. esc_end_det x found)

pub end_text : (a b d e : Here) → Stayed 2 a b → Stayed 1 b d → None ≡ first d.rest → e ≡ looked d → (r : Text) → EscEnd a.rest r ↔ (r ≡ e.rest)
end_text a b d e s t n l =
    let x : d.rest ≡ [] = nothing d.rest n in
    let y : a.rest ≡ [] = sym s.rest ∙ sym t.rest ∙ x in
    let z : e.rest ≡ [] = (stayed_looked d e l).rest ∙ x in
    let found : EscEnd a.rest e.rest = rw (y, z) ends in reads_found EscEnd _ _ found (λ r x. esc_end_det x found)
  where
    nothing : (v : Text) → None ≡ first v → v ≡ []
    nothing [] n = refl
    nothing (c ∷ v) n = cc

no_end : {c : ℕ} {s r : Text} → begins_two 47 47 (c ∷ s) ≡ false → ((t : Text) → Newline (c ∷ s) t → ⊥) → EscEnd (c ∷ s) r → ⊥
no_end x n (comment l) = no_line_comment x l
no_end x n (newline m) = n _ m

pub end_none : (c : ℕ) (a b d : Here) → AteTwo 47 47 false a b → ReadsNewline false b d → Some c ≡ first d.rest → (r : Text) → EscEnd a.rest r → ⊥
end_none c a b d (x, s) (t, n) h r = go d.rest (t.rest ∙ s.rest) h
  where
    go : (v : Text) → v ≡ a.rest → Some c ≡ first v → EscEnd a.rest r → ⊥
    go [] e h p = cc
    go (k ∷ v) e h p = no_end (rw (← e) at x) (λ u w. n u (subst (λ z. Newline z u) (e ∙ sym s.rest) w)) (rw (← e) at p)
