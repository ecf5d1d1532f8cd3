-- The loop over the units of a string, of which the first fault is kept.
use Rattle.std.proofs.Common.{◌≡◌, ℕ, ◌+◌, ◌-◌, ◌*◌, ◌<◌, ◌≤◌, ◌++◌, Bool, ap, arith}
use Rattle.std.specs.Prelude.{Option}
use Rattle.kdl_text.specs.Chars.{Text}
use Rattle.kdl_text.specs.Internal.Here.{Here, Position, Returned, Skips, looked}
use Rattle.kdl_text.specs.Spans.{bytes}
use Rattle.kdl_text.specs.Internal.Reading.{Moves}
use Rattle.kdl_text.proofs.Looking.MovesJoin.{moves_then, fewer_bytes, bytes-append}
use Rattle.kdl_text.proofs.Looking.Returns.{moves_returned}
use Rattle.kdl_diagnostics.specs.Internal.Reading.{FindsAlso, FindsOn, OnFound, Passed, Reads, ReadsFrom, Since}
use Rattle.kdl_diagnostics.specs.declared.strings.Found.{Found}
use Rattle.kdl_diagnostics.proofs.Passing.{after_then, ended, found_on, passed_here, since_bytes, reads_looked, reads_more, reads_ran, reads_then}

-- no other fault was found
pub finds_same : {k c : ℕ} {a b : Here} (f : Option Found) → Reads k c a b → FindsOn k c f a f b
finds_same {a = a} {b = b} f r = record { reads = r; finds = λ s m o. found_on s f o r.moves }

pub finds_more : (i : ℕ) {k c : ℕ} {f g : Option Found} {a b : Here} → FindsOn k c f a g b → FindsOn k (c + i) f a g b
finds_more i x = record { reads = reads_more i x.reads; finds = x.finds }

pub finds_then : {k c d : ℕ} {f g h : Option Found} {a b e : Here} → FindsOn k c f a g b → FindsOn k d g b h e → FindsOn k (c + d) f a h e
finds_then x y = record { reads = reads_then x.reads y.reads; finds = λ s m o. y.finds s (after_then _ _ _ m x.reads.moves.piece) (x.finds s m o) }

-- after a run of plain characters and a look at what follows them, which begins at the place
pub record Turn (a e : Here) (place : Position) : Type 0 where
  pub reads : Reads 1 2 a e
  pub passed : (s : Text) → (p : Text) × (s ≡ p ++ a.rest) → Passed s place e.rest

pub turn : (p : ℕ → Bool) (a b e : Here) (place : Position) → Skips p a b → e ≡ looked b → place.rest ≡ b.rest → Turn a e place
turn p a b e place r l x = record {
  reads = ended p a b e r l;
  passed = λ s m. passed_here x (after_then _ _ _ m (reads_ran r).moves.piece) (reads_looked 1 b e l).moves;
}

-- the string ends there, with that fault or the one found before
pub turn_ends : {f g h : Option Found} {o a e : Here} {place : Position} → FindsOn 5 0 f o g a → Turn a e place → FindsAlso g place h → FindsOn 5 2 f o h e
turn_ends {g = g} {a = a} {e = e} i t also = record {
  reads = record { moves = moves_then i.reads.moves t.reads.moves; most = omega (arith, i.reads.most, t.reads.most, fewer_bytes t.reads.moves) };
  finds = λ s m x. also s e.rest (found_on s g (i.finds s m x) t.reads.moves) (t.passed s (after_then _ _ _ m i.reads.moves.piece));
}

-- a unit more
pub turn_on : {f g h : Option Found} {o a e b : Here} {place : Position} → FindsOn 5 0 f o g a → Turn a e place → FindsOn 3 0 g e h b → bytes b.rest < bytes e.rest → FindsOn 5 0 f o h b
turn_on {g = g} {a = a} {e = e} i t u few = record {
  reads = record { moves = moves_then i.reads.moves (moves_then t.reads.moves u.reads.moves); most = omega (arith, i.reads.most, t.reads.most, u.reads.most, fewer_bytes t.reads.moves) };
  finds = λ s m x. u.finds s (after_then _ _ _ (after_then _ _ _ m i.reads.moves.piece) t.reads.moves.piece) (found_on s g (i.finds s m x) t.reads.moves);
}

pub turn_nearer : {a e : Here} {place : Position} (b : Text) → Turn a e place → bytes b < bytes e.rest → bytes b < bytes a.rest
turn_nearer b t few = omega (arith, few, fewer_bytes t.reads.moves)

-- what was found since the start of a string
pub found_from : {k c : ℕ} {place : Position} {a b e : Here} {f g : Option Found} → Since place a → Moves a b → FindsOn k c f b g e → OnFound place.rest f b.rest → OnFound place.rest g e.rest
found_from {place = place} s m i o = i.finds place.rest (after_then _ _ _ s.before m.piece) o

-- a string that is read, from its start on
pub reads_from : {c n : ℕ} {place : Position} {a b : Here} → Since place a → Reads 5 c a b → c ≤ n → ReadsFrom 10 n place a b
reads_from s r h = record { moves = r.moves; most = omega (arith, r.most, h, since_bytes s, fewer_bytes r.moves) }

pub reads_back : {place : Position} {a b e : Here} → Since place a → Reads 5 5 a b → Returned (5 * (bytes place.rest - bytes b.rest) + 9) b e → ReadsFrom 10 14 place a e
reads_back s r back = record { moves = moves_then r.moves (moves_returned back); most = omega (arith, r.most, since_bytes s, fewer_bytes r.moves, back.most, ap bytes back.rest) }

-- a string that is read once more, in a segment of the text from the place on
pub read_once_more : (s : Position) (a i o e : Here) (place : Position) (x : Text) → s.rest ≡ x ++ a.rest → i ≡ record a { rest = x; at = 0 } → Reads 4 9 i o → e ≡ record o { rest = place.rest; at = place.at }
    → e.steps ≤ a.steps + (5 * (bytes s.rest - bytes a.rest) + 9)
read_once_more s a i o e place x t is k back = omega (arith, ap bytes t, bytes-append x a.rest, ap (λ y. y.steps) is, ap (λ y. bytes y.rest) is, k.most, ap (λ y. y.steps) back)
