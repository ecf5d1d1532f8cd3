-- Gaps, nodes and blocks come before another rest too.
use Rattle.std.proofs.Common.{◌≡◌, ℕ, Bool, true, List, [], ◌∷◌, Some, refl, sym, subst}
use Rattle.kdl_text.specs.Chars.{Text, Star, none, more, plus}
use Rattle.kdl_text.specs.Internal.Here.{first}
use Rattle.kdl_text.specs.Trivia.{NodeSpace, Break, Slashdash, ValueEnd}
use Rattle.kdl_text.proofs.Spacing.ValueEnds.{space_ends, break_ends}
use Rattle.kdl_entry.specs.Data.{Entry}
use Rattle.kdl_entry.specs.Places.{DroppedEntry, dropped as dropped_e}
use Rattle.kdl_syntax.proofs.Moving.StringMoves.{move_newline}
use Rattle.kdl_entry.proofs.Moving.EntryMoves.{move_comment, move_spaces, move_plus, move_slashdash, move_line_space, move_string, move_maybe, move_entry, punctuation_end, spaces_end, spaces_dash}
use Rattle.kdl_syntax.proofs.Moving.Puts.{Put, stands, also, joined, same, nothing, Move}
use Rattle.kdl_grammar.specs.Data as data'
use Rattle.kdl_grammar.specs.Data.{Node, Children, Nodes}
use Rattle.kdl_grammar.specs.Grammar.{Terminator, IsNode, named, AfterName, kept_entry, dropped_entry, Blocks, dropped_block, block, no_block, AfterBlock, dropped_later, no_more, Gap, no_gap, line_space, dropped_node, AreNodes, last_gap, node_then, IsBlock, braces}
use Rattle.kdl_grammar.specs.Places.{DroppedBlock, dropped, AfterChildren, after, BeforeChildren, before}

begun : (c : ℕ) (u : Text) → first u ≡ Some c → (t : Text) × (u ≡ c ∷ t)
begun c [] e = cc
begun c (d ∷ t) e = (t, cc)

pub terminator_end : {r v : Text} → Terminator r v → ValueEnd true r
terminator_end Terminator.semicolon = punctuation_end 59 refl
terminator_end (Terminator.newline n) = ValueEnd.newline n
terminator_end (Terminator.comment n) = break_ends (Break.comment n)
terminator_end Terminator.at_end = ValueEnd.nothing
terminator_end Terminator.at_close = punctuation_end 125 refl

closes_here : (u : Text) → first u ≡ Some 125 → Terminator u u
closes_here u e = let t = begun 125 u e in subst (λ (z : Text). Terminator z z) (sym t.1) Terminator.at_close

pub move_terminator : {r v : Text} → Terminator r v → Move Terminator r v
move_terminator Terminator.semicolon = record { at = also 59 stands; there = λ u e. Terminator.semicolon }
move_terminator (Terminator.newline n) = let m = move_newline n in record { at = m.at; there = λ u e. Terminator.newline (m.there u e) }
move_terminator (Terminator.comment n) = let m = move_comment n in record { at = m.at; there = λ u e. Terminator.comment (m.there u e) }
move_terminator Terminator.at_end = record { at = stands; there = λ u e. subst (λ (z : Text). Terminator z z) (sym (nothing u e)) Terminator.at_end }
move_terminator Terminator.at_close = record { at = stands; there = λ u e. closes_here u e }

-- with the terminator
data WithEnd (R : Text → Text → Type 0) : Text → Text → Type 0 where
  ends : {s r v : Text} → R s r → Terminator r v → WithEnd R s v

abbrev NameEnds : List Entry → Children → Text → Text → Type 0
NameEnds es k = WithEnd (λ s r. AfterName true s r es k)

abbrev BlocksEnd : Children → Bool → Text → Text → Type 0
BlocksEnd k b = WithEnd (λ s r. Blocks true b s r k)

abbrev LaterEnds : Text → Text → Type 0
LaterEnds = WithEnd (AfterBlock true)

abbrev NodeEnds : Node → Text → Text → Type 0
NodeEnds x = WithEnd (λ s r. IsNode true s r x)

with_end : {R S : Text → Text → Type 0} {s t v : Text} → ((r : Text) → R s r → S t r) → WithEnd R s v → WithEnd S t v
with_end f (ends d e) = ends (f _ d) e

block_end : {s r : Text} {xs : Nodes} → Star NodeSpace s r → {v : Text} → IsBlock true r v xs → ValueEnd true s
block_end ss (braces ns) = spaces_end ss (punctuation_end 123 refl)

blocks_end : {b : Bool} {s v : Text} {k : Children} → BlocksEnd k b s v → ValueEnd true s
blocks_end (ends (dropped_block ss m b d) e) = spaces_dash ss m
blocks_end (ends (block ss b d) e) = block_end ss b
blocks_end (ends (no_block ss) e) = spaces_end ss (terminator_end e)

name_end : {s v : Text} {es : List Entry} {k : Children} → NameEnds es k s v → ValueEnd true s
name_end (ends (kept_entry (plus n ss) i d) e) = space_ends n
name_end (ends (dropped_entry ss m i d) e) = spaces_dash ss m
name_end (ends (AfterName.blocks d) e) = blocks_end (ends d e)

-- it comes before every rest
record Closed (R : Text → Text → Type 0) (s r : Text) : Type 0 where
  at : Put s r
  full : (u : Text) → first (at.put u) ≡ first s
  there : (u : Text) → R (at.put u) u

drop_node : {s t u r : Text} {x : Node} → Slashdash s t → NodeEnds x t u → Gap true u r → Gap true s r
drop_node m (ends x e) g = dropped_node m x e g

first_node : {s t u r : Text} {x : Node} {xs : Nodes} → Gap true s t → NodeEnds x t u → AreNodes true u r xs → AreNodes true s r (data'.first x xs)
first_node g (ends x e) ds = node_then g x e ds

mutual
  move_name : {s r : Text} {es : List Entry} {k : Children} → AfterName true s r es k → {v : Text} → Terminator r v → Move (NameEnds es k) s v
  move_name (kept_entry n i d) e =
      let a = move_plus n in let b = move_entry i in let c = move_name d e in
      record { at = joined a.at (joined b.at c.at); there = λ u f. let last = c.there u f in with_end (λ r d. kept_entry (a.there (b.at.put (c.at.put u)) (b.full (c.at.put u))) (b.there (c.at.put u) (name_end last)) d) last }
  move_name (dropped_entry ss m i d) e =
      let a = move_spaces ss in let o = move_slashdash m in let b = move_entry i in let c = move_name d e in
      record {
        at = joined a.at (joined o.at (joined b.at c.at));
        there = λ u f.
            let last = c.there u f in let g = b.full (c.at.put u) in
            with_end (λ r d. dropped_entry (a.there (o.at.put (b.at.put (c.at.put u))) (same o.at (b.at.put (c.at.put u)) g)) (o.there (b.at.put (c.at.put u)) g) (b.there (c.at.put u) (name_end last)) d) last;
      }
  move_name (AfterName.blocks d) e = let a = move_blocks d e in record { at = a.at; there = λ u f. with_end (λ r d. AfterName.blocks d) (a.there u f) }

  move_blocks : {b : Bool} {s r : Text} {k : Children} → Blocks true b s r k → {v : Text} → Terminator r v → Move (BlocksEnd k b) s v
  move_blocks (dropped_block ss m b d) e =
      let a = move_spaces ss in let o = move_slashdash m in let c = move_block b in let k = move_blocks d e in
      record {
        at = joined a.at (joined o.at (joined c.at k.at));
        there = λ u f.
            let g = c.full (k.at.put u) in
            with_end (λ r d. dropped_block (a.there (o.at.put (c.at.put (k.at.put u))) (same o.at (c.at.put (k.at.put u)) g)) (o.there (c.at.put (k.at.put u)) g) (c.there (k.at.put u)) d) (k.there u f);
      }
  move_blocks (block ss b d) e =
      let a = move_spaces ss in let c = move_block b in let k = move_later d e in
      record { at = joined a.at (joined c.at k.at); there = λ u f. with_end (λ r d. block (a.there (c.at.put (k.at.put u)) (c.full (k.at.put u))) (c.there (k.at.put u)) d) (k.there u f) }
  move_blocks (no_block ss) e =
      let a = move_spaces ss in let k = move_terminator e in
      record { at = joined a.at k.at; there = λ u f. ends (no_block (a.there (k.at.put u) (same k.at u f))) (k.there u f) }

  move_later : {s r : Text} → AfterBlock true s r → {v : Text} → Terminator r v → Move LaterEnds s v
  move_later (dropped_later ss m b d) e =
      let a = move_spaces ss in let o = move_slashdash m in let c = move_block b in let k = move_later d e in
      record {
        at = joined a.at (joined o.at (joined c.at k.at));
        there = λ u f.
            let g = c.full (k.at.put u) in
            with_end (λ r d. dropped_later (a.there (o.at.put (c.at.put (k.at.put u))) (same o.at (c.at.put (k.at.put u)) g)) (o.there (c.at.put (k.at.put u)) g) (c.there (k.at.put u)) d) (k.there u f);
      }
  move_later (no_more ss) e =
      let a = move_spaces ss in let k = move_terminator e in
      record { at = joined a.at k.at; there = λ u f. ends (no_more (a.there (k.at.put u) (same k.at u f))) (k.there u f) }

  pub move_gap : {s r : Text} → Gap true s r → Move (Gap true) s r
  move_gap no_gap = record { at = stands; there = λ u e. no_gap }
  move_gap (line_space n g) = let a = move_line_space n in let b = move_gap g in record { at = joined a.at b.at; there = λ u e. line_space (a.there (b.at.put u) (same b.at u e)) (b.there u e) }
  move_gap (dropped_node m (named y w d) e g) =
      let a = move_slashdash m in let b = move_maybe y in let o = move_string w in let c = move_name d e in let k = move_gap g in
      record {
        at = joined a.at (joined b.at (joined o.at (joined c.at k.at)));
        there = λ u f.
            let last = c.there (k.at.put u) (same k.at u f) in
            let g = o.full (c.at.put (k.at.put u)) in
            let h = same b.at (o.at.put (c.at.put (k.at.put u))) g in
            drop_node (a.there (b.at.put (o.at.put (c.at.put (k.at.put u)))) h) (with_end (λ r d. named (b.there (o.at.put (c.at.put (k.at.put u))) g) (o.there (c.at.put (k.at.put u)) (name_end last)) d) last) (k.there u f);
      }

  pub move_nodes : {s r : Text} {xs : Nodes} → AreNodes true s r xs → Move (λ s r. AreNodes true s r xs) s r
  move_nodes (last_gap g) = let a = move_gap g in record { at = a.at; there = λ u e. last_gap (a.there u e) }
  move_nodes (node_then g (named y w d) e ds) =
      let a = move_gap g in let b = move_maybe y in let o = move_string w in let c = move_name d e in let k = move_nodes ds in
      record {
        at = joined a.at (joined b.at (joined o.at (joined c.at k.at)));
        there = λ u f.
            let last = c.there (k.at.put u) (same k.at u f) in
            let g = o.full (c.at.put (k.at.put u)) in
            let h = same b.at (o.at.put (c.at.put (k.at.put u))) g in
            first_node (a.there (b.at.put (o.at.put (c.at.put (k.at.put u)))) h) (with_end (λ r d. named (b.there (o.at.put (c.at.put (k.at.put u))) g) (o.there (c.at.put (k.at.put u)) (name_end last)) d) last) (k.there u f);
      }

  move_block : {s r : Text} {xs : Nodes} → IsBlock true s r xs → Closed (λ s r. IsBlock true s r xs) s r
  move_block (braces ns) =
      let a = move_nodes ns in
      record { at = also 123 (joined a.at (also 125 stands)); full = λ u. refl; there = λ u. braces (a.there (125 ∷ u) refl) }

-- the places before and after a block
pub after_end : {s r : Text} → AfterChildren s r → ValueEnd true r → ValueEnd true s
after_end (after none ss) e = spaces_end ss e
after_end (after (more (dropped us m b) ds) ss) e = spaces_dash us m

pub before_end : {s r : Text} → BeforeChildren s r → ValueEnd true r → ValueEnd true s
before_end (before none a) e = after_end a e
before_end (before (more (dropped_e ss m i) ds) a) e = spaces_dash ss m

one_block : {s t r : Text} → DroppedBlock s t → AfterChildren t r → AfterChildren s r
one_block d (after ds ss) = after (more d ds) ss

one_entry : {s t r : Text} → DroppedEntry s t → BeforeChildren t r → BeforeChildren s r
one_entry d (before ds a) = before (more d ds) a

move_blocks_then : {s t r : Text} → Star DroppedBlock s t → Star NodeSpace t r → Move AfterChildren s r
move_blocks_then none ss = let m = move_spaces ss in record { at = m.at; there = λ u e. after none (m.there u e) }
move_blocks_then (more (dropped us m b) ds) ss =
    let a = move_spaces us in let o = move_slashdash m in let c = move_block b in let k = move_blocks_then ds ss in
    record {
      at = joined a.at (joined o.at (joined c.at k.at));
      there = λ u f.
          let g = c.full (k.at.put u) in
          one_block (dropped (a.there (o.at.put (c.at.put (k.at.put u))) (same o.at (c.at.put (k.at.put u)) g)) (o.there (c.at.put (k.at.put u)) g) (c.there (k.at.put u))) (k.there u f);
    }

pub move_after : {s r : Text} → AfterChildren s r → Move AfterChildren s r
move_after (after ds ss) = move_blocks_then ds ss

-- it comes before each rest that begins with the same character and ends a value
pub record MoveEnd (R : Text → Text → Type 0) (s r : Text) : Type 0 where
  pub at : Put s r
  pub there : (u : Text) → first u ≡ first r → ValueEnd true u → R (at.put u) u

move_entries_then : {s t r : Text} → Star DroppedEntry s t → AfterChildren t r → MoveEnd BeforeChildren s r
move_entries_then none a = let m = move_after a in record { at = m.at; there = λ u f e. before none (m.there u f) }
move_entries_then (more (dropped_e ss m i) ds) x =
    let a = move_spaces ss in let b = move_slashdash m in let c = move_entry i in let k = move_entries_then ds x in
    record {
      at = joined a.at (joined b.at (joined c.at k.at));
      there = λ u f e.
          let last = k.there u f e in
          let g = c.full (k.at.put u) in
          one_entry (dropped_e (a.there (b.at.put (c.at.put (k.at.put u))) (same b.at (c.at.put (k.at.put u)) g)) (b.there (c.at.put (k.at.put u)) g) (c.there (k.at.put u) (before_end last e))) last;
    }

pub move_before : {s r : Text} → BeforeChildren s r → MoveEnd BeforeChildren s r
move_before (before ds a) = move_entries_then ds a
