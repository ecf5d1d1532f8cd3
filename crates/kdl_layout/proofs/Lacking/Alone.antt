-- What may come before a `}` may be a whole text.
use Rattle.kdl_layout.proofs.Common.{◌≡◌, ◌⊎◌, inl, inr, Bool, true, false, ◌&&◌, ◌==◌, [], ◌∷◌, ◌++◌, length, refl, sym, subst, ◌∙◌, arith, append-nil, ap, length-append, Text, begins, Newline, crlf, Star, more, Line, LineComment, NodeSpace, Break, LineSpace, Slashdash, ValueEnd, star_map, DroppedEntry, move_spaces, move_slashdash, move_entry, punctuation_end, spaces_end, Put, stands, also, joined, same, same_piece, Terminator, IsNode, Gap, no_gap, line_space, dropped_node, AreNodes, last_gap, DroppedBlock, AfterChildren, after, BeforeChildren, before, before_end, terminator_end}
use Rattle.kdl_text.specs.Chars.{one, none}
use Rattle.kdl_text.specs.Internal.Here.{first}
use Rattle.kdl_text.specs.Trivia.{line as a_line}
use Rattle.kdl_entry.specs.Places.{dropped as dropped_e}
use Rattle.kdl_grammar.specs.Data as data'
use Rattle.kdl_grammar.specs.Places.{dropped}
use Rattle.kdl_grammar.proofs.ReadingBack.Following.{Follows, put_follows, Shift, shift_spaces}
use Rattle.kdl_grammar.proofs.ReadingBack.Reads.{join_gaps}
use Rattle.kdl_layout.specs.Lacks.{Terminating}
use Rattle.kdl_layout.proofs.Dropping.Paths.{Halt, at_end, at_brace, halts}
use Rattle.kdl_layout.proofs.Lacking.GapPieces.{lines_gap}
use Rattle.kdl_layout.proofs.Rewriting.BeforeNewlines.{closed_braces, cut_node}

-- nothing follows as any text does
alone : {r : Text} → Follows [] r
alone = record { lf = λ h. refl; end = λ h. refl }

-- it is not empty, and comes before each rest that follows so
record Moved (R : Text → Text → Type 0) (s r : Text) : Type 0 where
  at : Put s r
  full : (u : Text) → first (at.put u) ≡ first s
  there : (u : Text) → Follows u r → R (at.put u) u

lone : (b : Bool) (u r : Text) → (b && begins 10 r) ≡ false → Follows u r → (b && begins 10 u) ≡ false
lone true u r h f = f.lf h
lone false u r h f = refl

moved_newline : {s r : Text} → Newline s r → Moved Newline s r
moved_newline crlf = record { at = also 13 (also 10 stands); full = λ u. refl; there = λ u f. crlf }
moved_newline {r = r} (one {c = c} x y) = record { at = also c stands; full = λ u. refl; there = λ u f. one x (lone (c == 13) u r y f) }

shift_line : {s r : Text} → Line s r → Shift Line s r
shift_line Line.ends = record { at = stands; there = λ u f. subst (λ (z : Text). Line z z) (sym (f.end refl)) Line.ends }
shift_line (Line.newline n) = let m = moved_newline n in record { at = m.at; there = λ u f. Line.newline (m.there u f) }
shift_line (Line.other {c = c} x l) = let m = shift_line l in record { at = also c m.at; there = λ u f. Line.other x (m.there u f) }

moved_comment : {s r : Text} → LineComment s r → Moved LineComment s r
moved_comment (a_line l) = let m = shift_line l in record { at = also 47 (also 47 m.at); full = λ u. refl; there = λ u f. a_line (m.there u f) }

-- a terminator has characters of its own, or nothing goes on at it
moved_end : {u v : Text} → Terminator u v → Moved Terminator u v ⊎ (Halt v × (u ≡ v))
moved_end Terminator.semicolon = inl (record { at = also 59 stands; full = λ w. refl; there = λ w f. Terminator.semicolon })
moved_end (Terminator.newline n) = let m = moved_newline n in inl (record { at = m.at; full = m.full; there = λ w f. Terminator.newline (m.there w f) })
moved_end (Terminator.comment l) = let m = moved_comment l in inl (record { at = m.at; full = m.full; there = λ w f. Terminator.comment (m.there w f) })
moved_end Terminator.at_end = inr (at_end, refl)
moved_end Terminator.at_close = inr (at_brace, refl)

shift_lines : {s r : Text} → LineSpace s r → Shift (Gap true) s r
shift_lines (LineSpace.space n) = let m = shift_spaces (more n none) in record { at = m.at; there = λ u f. lines_gap (star_map (λ s r n. LineSpace.space n) (m.there u f)) }
shift_lines (LineSpace.«break» (Break.newline n)) = let m = moved_newline n in record { at = m.at; there = λ u f. line_space (LineSpace.«break» (Break.newline (m.there u f))) no_gap }
shift_lines (LineSpace.«break» (Break.comment l)) = let m = moved_comment l in record { at = m.at; there = λ u f. line_space (LineSpace.«break» (Break.comment (m.there u f))) no_gap }

-- a gap before a rest, and alone
record GapAlone (s r : Text) : Type 0 where
  at : Put s r
  alone : Gap true (at.put []) []

-- a dropped node with its terminator, and one without
dropped_alone : {s t u v r : Text} {x : data'.Node} → Slashdash s t → IsNode true t u x → Moved Terminator u v ⊎ (Halt v × (u ≡ v)) → Gap true v r → GapAlone v r → GapAlone s r
dropped_alone m x (inl e) g k =
    let o = move_slashdash m in let c = cut_node x in let n = move_spaces c.spaces in
    let w = k.at.put [] in
    let z = e.at.put w in
    let tm = e.there w (put_follows k.at [] alone) in
    let ss = n.there z (e.full w) in
    record {
      at = joined o.at (joined c.at (joined n.at (joined e.at k.at)));
      alone = dropped_node (o.there (c.at.put (n.at.put z)) (c.full (n.at.put z))) (c.there (n.at.put z) z (spaces_end ss (terminator_end tm)) ss) tm k.alone;
    }
dropped_alone {s = s} m x (inr (h, e)) g k =
    let o = move_slashdash m in let c = cut_node x in let n = shift_spaces c.spaces in
    let z = n.at.put [] in
    let ss = n.there [] alone in
    subst (λ (r : Text). GapAlone s r) (e ∙ halts h g) (record {
      at = joined o.at (joined c.at n.at);
      alone = dropped_node (o.there (c.at.put z) (c.full z)) (c.there z [] (spaces_end ss ValueEnd.nothing) ss) Terminator.at_end no_gap;
    })

gap_alone : {s r : Text} → Gap true s r → GapAlone s r
gap_alone no_gap = record { at = stands; alone = no_gap }
gap_alone (line_space n g) = let k = gap_alone g in let m = shift_lines n in record { at = joined m.at k.at; alone = join_gaps (m.there (k.at.put []) (put_follows k.at [] alone)) k.alone }
gap_alone (dropped_node m x e g) = dropped_alone m x (moved_end e) g (gap_alone g)

-- the text before the rest
put_front : (t r : Text) (p : Put (t ++ r) r) → p.put [] ≡ t
put_front t r p = same_piece t p refl [] ∙ append-nil t

pub gap_before_close : (t u : Text) → Gap true (t ++ (125 ∷ u)) (125 ∷ u) → Gap true t []
gap_before_close t u g = let k = gap_alone g in subst (λ (y : Text). Gap true y []) (put_front t (125 ∷ u) k.at) k.alone

-- the places before and after a block
one_block : {s t r : Text} → DroppedBlock s t → AfterChildren t r → AfterChildren s r
one_block d (after ds ss) = after (more d ds) ss

shift_blocks : {s t r : Text} → Star DroppedBlock s t → Star NodeSpace t r → Shift AfterChildren s r
shift_blocks none ss = let m = shift_spaces ss in record { at = m.at; there = λ u f. after none (m.there u f) }
shift_blocks (more (dropped us m b) ds) ss =
    let a = move_spaces us in let o = move_slashdash m in let c = closed_braces b in let k = shift_blocks ds ss in
    record {
      at = joined a.at (joined o.at (joined c.at k.at));
      there = λ u f.
          let g = c.full (k.at.put u) in
          one_block (dropped (a.there (o.at.put (c.at.put (k.at.put u))) (same o.at (c.at.put (k.at.put u)) g)) (o.there (c.at.put (k.at.put u)) g) (c.there (k.at.put u))) (k.there u f);
    }

-- it may be before the rest u
record EntriesAt (u s r : Text) : Type 0 where
  at : Put s r
  there : BeforeChildren (at.put u) u

one_entry : {s t r : Text} → DroppedEntry s t → BeforeChildren t r → BeforeChildren s r
one_entry d (before ds a) = before (more d ds) a

entries_at : (u : Text) {s t r : Text} → ValueEnd true u → Follows u r → Star DroppedEntry s t → AfterChildren t r → EntriesAt u s r
entries_at u v f none (after ds ss) = let m = shift_blocks ds ss in record { at = m.at; there = before none (m.there u f) }
entries_at u v f (more (dropped_e ss m i) ds) x =
    let a = move_spaces ss in let o = move_slashdash m in let c = move_entry i in let k = entries_at u v f ds x in
    let z = k.at.put u in
    let g = c.full z in
    record {
      at = joined a.at (joined o.at (joined c.at k.at));
      there = one_entry (dropped_e (a.there (o.at.put (c.at.put z)) (same o.at (c.at.put z) g)) (o.there (c.at.put z) g) (c.there z (before_end k.there v))) k.there;
    }

-- what is before some text is before each value end that follows so
before_moves : (t r u : Text) → Follows u r → ValueEnd true u → BeforeChildren (t ++ r) r → BeforeChildren (t ++ u) u
before_moves t r u f v (before ds a) = let k = entries_at u v f ds a in subst (λ (y : Text). BeforeChildren y u) (same_piece t k.at refl u) k.there

pub before_alone : (t r : Text) → BeforeChildren (t ++ r) r → BeforeChildren t []
before_alone t r x = subst (λ (y : Text). BeforeChildren y []) (append-nil t) (before_moves t r [] alone ValueEnd.nothing x)

-- what is before a `}` is before a block
pub before_brace : (t s : Text) → BeforeChildren (t ++ (125 ∷ [])) (125 ∷ []) → BeforeChildren (t ++ (123 ∷ s)) (123 ∷ s)
before_brace t s x = before_moves t (125 ∷ []) (123 ∷ s) (record { lf = λ h. refl; end = λ e. cc }) (punctuation_end 123 refl) x

pub after_before_close : (t u : Text) → AfterChildren (t ++ (125 ∷ u)) (125 ∷ u) → AfterChildren t []
after_before_close t u (after ds ss) = let m = shift_blocks ds ss in subst (λ (y : Text). AfterChildren y []) (put_front t (125 ∷ u) m.at) (m.there [] alone)

-- a terminator with a gap after it
record EndAlone (s r : Text) : Type 0 where
  at : Put s r
  alone : Terminating (at.put [])

end_alone : {s v r : Text} → Moved Terminator s v ⊎ (Halt v × (s ≡ v)) → Gap true v r → (s ≡ r → ⊥) → EndAlone s r
end_alone (inl e) g f = let k = gap_alone g in let w = k.at.put [] in record { at = joined e.at k.at; alone = (w, e.there w (put_follows k.at [] alone), k.alone) }
end_alone (inr (h, e)) g f = absurd (f (e ∙ halts h g))

no_front : (t r : Text) → (t ≡ [] → ⊥) → t ++ r ≡ r → ⊥
no_front [] r f e = f refl
no_front (c ∷ t) r f e = omega (arith, ap length e, length-append t r)

pub terminator_before_close : (t u v : Text) → (t ≡ [] → ⊥) → Terminator (t ++ (125 ∷ u)) v → AreNodes true v (125 ∷ u) data'.none → Terminating t
terminator_before_close t u v f e (last_gap g) = let k = end_alone (moved_end e) g (no_front t (125 ∷ u) f) in subst Terminating (put_front t (125 ∷ u) k.at) k.alone
