-- Spaces, comments and entries come before another rest too.
use Rattle.std.proofs.Common.{◌≡◌, ℕ, true, false, ◌&&◌, ◌||◌, ◌==◌, arith, ◌∷◌, Option, refl, sym, ap, subst, ◌∙◌}
use Rattle.std.proofs.lemmas.Bool.Decides.{nat_tests}
use Rattle.kdl_text.specs.Chars.{Text, begins_two, Star, none, more, Plus, plus, space as a_space}
use Rattle.kdl_text.specs.Internal.Here.{first}
use Rattle.kdl_text.specs.Trivia.{Parts, close, nested, block, Line, LineComment, line, Ws, EscEnd, escline, NodeSpace, Break, LineSpace, Slashdash, slashdash, ends_value, ValueEnd}
use Rattle.kdl_text.specs.declared.span.SourceSpan.{SourceSpan}
use Rattle.kdl_text.proofs.Spacing.ValueEnds.{value_end_no_identifier, space_ends}
use Rattle.kdl_entry.specs.Data as data'
use Rattle.kdl_value.specs.Data.{Value}
use Rattle.kdl_entry.specs.Entries.{IsString, string, IsPlainValue, a_string, a_plain, IsType, parens, MaybeType, untyped, typed, IsValue, value, IsEntry, property, argument}
use Rattle.kdl_entry.specs.Laid.{LaidIdentifier, spelled, LaidType, no_type, a_type, no_key, a_key, LaidItem, item}
use Rattle.kdl_entry.specs.Places.{Is, DroppedEntry, dropped, EntryLeading, leading}
use Rattle.kdl_entry.specs.Tree.{Identifier, Entry}
use Rattle.kdl_syntax.proofs.Moving.PieceMoves.{move_plain_piece}
use Rattle.kdl_syntax.proofs.Moving.StringMoves.{move_piece, value_end_no_quote, move_newline}
use Rattle.kdl_syntax.proofs.Moving.Puts.{Put, stands, also, joined, same, same_piece, begins_first, nothing, Move}

pub is_move : {R : Text → Text → Type 0} {p s r : Text} (m : Move R s r) → Is R p s r → (u : Text) → first u ≡ first r → Is R p (m.at.put u) u
is_move m d u e = record { is = m.there u e; text = same_piece _ m.at d.text u }

-- before each rest with a value end, and not empty
pub record MoveValue (R : Text → Text → Type 0) (s r : Text) : Type 0 where
  pub at : Put s r
  pub full : (u : Text) → first (at.put u) ≡ first s
  pub there : (u : Text) → ValueEnd true u → R (at.put u) u

pub is_move_value : {R : Text → Text → Type 0} {p s r : Text} (m : MoveValue R s r) → Is R p s r → (u : Text) → ValueEnd true u → Is R p (m.at.put u) u
is_move_value m d u e = record { is = m.there u e; text = same_piece _ m.at d.text u }

two_same : (a b c : ℕ) (s t : Text) → first s ≡ first t → begins_two a b (c ∷ s) ≡ begins_two a b (c ∷ t)
two_same a b c s t e = ap (λ x. (c == a) && x) (begins_first b s t e)

move_parts : {s r : Text} → Parts s r → Move Parts s r
move_parts close = record { at = also 42 (also 47 stands); there = λ u e. close }
move_parts (nested p q) =
    let m = move_parts p in let n = move_parts q in
    record { at = also 47 (also 42 (joined m.at n.at)); there = λ u e. nested (m.there (n.at.put u) (same n.at u e)) (n.there u e) }
move_parts (Parts.other {c = c} {s = s} x y p) =
    let m = move_parts p in
    record { at = also c m.at; there = λ u e. let f = same m.at u e in Parts.other (two_same 47 42 c (m.at.put u) s f ∙ x) (two_same 42 47 c (m.at.put u) s f ∙ y) (m.there u e) }

move_line : {s r : Text} → Line s r → Move Line s r
move_line Line.ends = record { at = stands; there = λ u e. subst (λ (z : Text). Line z z) (sym (nothing u e)) Line.ends }
move_line (Line.newline n) = let m = move_newline n in record { at = m.at; there = λ u e. Line.newline (m.there u e) }
move_line (Line.other {c = c} x l) = let m = move_line l in record { at = also c m.at; there = λ u e. Line.other x (m.there u e) }

pub move_comment : {s r : Text} → LineComment s r → Move LineComment s r
move_comment (line l) = let m = move_line l in record { at = also 47 (also 47 m.at); there = λ u e. line (m.there u e) }

move_ws : {s r : Text} → Ws s r → Move Ws s r
move_ws (Ws.space (a_space {c = c} x)) = record { at = also c stands; there = λ u e. Ws.space (a_space x) }
move_ws (Ws.comment (block p)) = let m = move_parts p in record { at = also 47 (also 42 m.at); there = λ u e. Ws.comment (block (m.there u e)) }

pub move_star : {R : Text → Text → Type 0} {s r : Text} → ((s r : Text) → R s r → Move R s r) → Star R s r → Move (Star R) s r
move_star f none = record { at = stands; there = λ u e. none }
move_star f (more n ns) =
    let m = f _ _ n in let k = move_star f ns in
    record { at = joined m.at k.at; there = λ u e. more (m.there (k.at.put u) (same k.at u e)) (k.there u e) }

move_esc : {s r : Text} → EscEnd s r → Move EscEnd s r
move_esc (EscEnd.comment l) = let m = move_comment l in record { at = m.at; there = λ u e. EscEnd.comment (m.there u e) }
move_esc (EscEnd.newline n) = let m = move_newline n in record { at = m.at; there = λ u e. EscEnd.newline (m.there u e) }
move_esc EscEnd.ends = record { at = stands; there = λ u e. subst (λ (z : Text). EscEnd z z) (sym (nothing u e)) EscEnd.ends }

pub move_space : {s r : Text} → NodeSpace s r → Move NodeSpace s r
move_space (NodeSpace.ws w) = let m = move_ws w in record { at = m.at; there = λ u e. NodeSpace.ws (m.there u e) }
move_space (NodeSpace.escline (escline ss f)) =
    let m = move_star (λ s r w. move_ws w) ss in let n = move_esc f in
    record { at = also 92 (joined m.at n.at); there = λ u e. NodeSpace.escline (escline (m.there (n.at.put u) (same n.at u e)) (n.there u e)) }

pub move_line_space : {s r : Text} → LineSpace s r → Move LineSpace s r
move_line_space (LineSpace.space n) = let m = move_space n in record { at = m.at; there = λ u e. LineSpace.space (m.there u e) }
move_line_space (LineSpace.«break» (Break.newline n)) = let m = move_newline n in record { at = m.at; there = λ u e. LineSpace.«break» (Break.newline (m.there u e)) }
move_line_space (LineSpace.«break» (Break.comment n)) = let m = move_comment n in record { at = m.at; there = λ u e. LineSpace.«break» (Break.comment (m.there u e)) }

abbrev pub move_spaces : {s r : Text} → Star NodeSpace s r → Move (Star NodeSpace) s r
move_spaces ss = move_star (λ s r n. move_space n) ss

pub move_plus : {s r : Text} → Plus NodeSpace s r → Move (Plus NodeSpace) s r
move_plus (plus n ss) = let m = move_space n in let k = move_spaces ss in record { at = joined m.at k.at; there = λ u e. plus (m.there (k.at.put u) (same k.at u e)) (k.there u e) }

pub move_slashdash : {s r : Text} → Slashdash s r → Move Slashdash s r
move_slashdash (slashdash ls) = let m = move_star (λ s r n. move_line_space n) ls in record { at = also 47 (also 45 m.at); there = λ u e. slashdash (m.there u e) }

pub move_string : {s r v : Text} → IsString true s r v → MoveValue (λ s r. IsString true s r v) s r
move_string (string p e) = let m = move_piece p in record { at = m.at; full = m.full; there = λ u v. string (m.there u (value_end_no_identifier v) (value_end_no_quote v)) v }

pub move_plain : {s r : Text} {v : Value} → IsPlainValue true s r v → MoveValue (λ s r. IsPlainValue true s r v) s r
move_plain (a_string d) = let m = move_string d in record { at = m.at; full = m.full; there = λ u e. a_string (m.there u e) }
move_plain (a_plain p e) = let m = move_plain_piece p in record { at = m.at; full = m.full; there = λ u v. a_plain (m.there u (value_end_no_identifier v)) v }

pub punctuation_end : (c : ℕ) → ((c == 41) || ((c == 61) || ((c == 123) || ((c == 125) || (c == 59))))) ≡ true → {s : Text} → ValueEnd true (c ∷ s)
unfolding ends_value
punctuation_end c h = ValueEnd.punctuation (grind (arith, nat_tests))

-- spaces and then punctuation, or spaces alone, are a value end
pub spaces_end : {s r : Text} → Star NodeSpace s r → ValueEnd true r → ValueEnd true s
spaces_end none e = e
spaces_end (more n ss) e = space_ends n

move_parens : {s r v : Text} → IsType true s r v → Move (λ s r. IsType true s r v) s r
move_parens (parens ss d us) =
    let a = move_spaces ss in let b = move_string d in let c = move_spaces us in
    let brace = λ (u : Text). c.there (41 ∷ u) refl in
    record {
      at = also 40 (joined a.at (joined b.at (following c.at)));
      there = λ u e. parens (a.there (b.at.put (c.at.put (41 ∷ u))) (b.full (c.at.put (41 ∷ u)))) (b.there (c.at.put (41 ∷ u)) (spaces_end (brace u) (punctuation_end 41 refl))) (brace u);
    }
  where
    following : {t r : Text} → Put t (41 ∷ r) → Put t r
    following p = joined p (also 41 stands)

pub move_maybe : {s r : Text} {y : Option Text} → MaybeType true s r y → Move (λ s r. MaybeType true s r y) s r
move_maybe untyped = record { at = stands; there = λ u e. untyped }
move_maybe (typed n ss) = let a = move_parens n in let b = move_spaces ss in record { at = joined a.at b.at; there = λ u e. typed (a.there (b.at.put u) (same b.at u e)) (b.there u e) }

move_value : {s r : Text} {y : Option Text} {v : Value} → IsValue true s r y v → MoveValue (λ s r. IsValue true s r y v) s r
move_value (value y d) =
    let a = move_maybe y in let c = move_plain d in
    record { at = joined a.at c.at; full = λ u. same a.at (c.at.put u) (c.full u); there = λ u e. value (a.there (c.at.put u) (c.full u)) (c.there u e) }

pub move_entry : {s r : Text} {x : data'.Entry} → IsEntry true s r x → MoveValue (λ s r. IsEntry true s r x) s r
move_entry (argument v) = let m = move_value v in record { at = m.at; full = m.full; there = λ u e. argument (m.there u e) }
move_entry (property k ss us v) =
    let a = move_string k in let b = move_spaces ss in let c = move_spaces us in let d = move_value v in
    let after = λ (u : Text). c.at.put (d.at.put u) in
    let before = λ (u : Text). b.there (61 ∷ after u) refl in
    record {
      at = joined a.at (joined b.at (also 61 (joined c.at d.at)));
      full = λ u. a.full (b.at.put (61 ∷ after u));
      there = λ u e. property (a.there (b.at.put (61 ∷ after u)) (spaces_end (before u) (punctuation_end 61 refl))) (before u) (c.there (d.at.put u) (d.full u)) (d.there u e);
    }

pub spaces_dash : {s t r : Text} → Star NodeSpace s t → Slashdash t r → ValueEnd true s
spaces_dash none (slashdash ls) = ValueEnd.slashdash refl
spaces_dash (more n ss) m = space_ends n

pub leading_end : {s r : Text} → EntryLeading s r → ValueEnd true s
leading_end (leading none (plus n ss)) = space_ends n
leading_end (leading (more (dropped ss m i) ds) n) = spaces_dash ss m

one_more : {s t r : Text} → DroppedEntry s t → EntryLeading t r → EntryLeading s r
one_more d (leading ds n) = leading (more d ds) n

move_dropped : {s t r : Text} → Star DroppedEntry s t → Plus NodeSpace t r → Move EntryLeading s r
move_dropped none n = let m = move_plus n in record { at = m.at; there = λ u e. leading none (m.there u e) }
move_dropped (more (dropped ss m i) ds) n =
    let a = move_spaces ss in let b = move_slashdash m in let c = move_entry i in let k = move_dropped ds n in
    record {
      at = joined a.at (joined b.at (joined c.at k.at));
      there = λ u e.
          let last = k.there u e in
          let third = c.there (k.at.put u) (leading_end last) in
          let second = b.there (c.at.put (k.at.put u)) (c.full (k.at.put u)) in
          let first' = a.there (b.at.put (c.at.put (k.at.put u))) (same b.at (c.at.put (k.at.put u)) (c.full (k.at.put u))) in
          one_more (dropped first' second third) last;
    }

pub move_leading : {s t : Text} → EntryLeading s t → Move EntryLeading s t
move_leading (leading ds n) = move_dropped ds n

-- what is laid, where spans may be any
module _ (whole : Text) where
  pub move_identifier : {s r : Text} {i : Identifier} → LaidIdentifier false whole i s r → MoveValue (λ s r. LaidIdentifier false whole i s r) s r
  move_identifier (spelled d x) = let m = move_string d.is in record { at = m.at; full = m.full; there = λ u e. spelled (is_move_value m d u e) tt }

  pub move_laid_type : {b a h s r : Text} {y : Option Identifier} → LaidType false whole y b a h s r → Move (λ s r. LaidType false whole y b a h s r) s r
  move_laid_type no_type = record { at = stands; there = λ u e. no_type }
  move_laid_type (a_type ss d us vs) =
      let a = move_spaces ss.is in let b = move_identifier d in let c = move_spaces us.is in let k = move_spaces vs.is in
      let brace = λ (u : Text). c.there (41 ∷ k.at.put u) refl in
      record {
        at = also 40 (joined a.at (joined b.at (joined c.at (also 41 k.at))));
        there = λ u e. a_type (is_move a ss (b.at.put (c.at.put (41 ∷ k.at.put u))) (b.full (c.at.put (41 ∷ k.at.put u))))
            (b.there (c.at.put (41 ∷ k.at.put u)) (spaces_end (brace u) (punctuation_end 41 refl)))
            (is_move c us (41 ∷ k.at.put u) refl) (is_move k vs u e);
      }

  pub move_item : {q w s r : Text} {at : SourceSpan} {e : Entry} → LaidItem false whole q w at e s r → MoveValue (λ s r. LaidItem false whole q w at e s r) s r
  move_item (item no_key y d) =
      let a = move_laid_type y in let b = move_plain d.is in
      record {
        at = joined a.at b.at;
        full = λ u. same a.at (b.at.put u) (b.full u);
        there = λ u e. item no_key (a.there (b.at.put u) (b.full u)) (is_move_value b d u e);
      }
  move_item (item (a_key k ss us) y d) =
      let a = move_identifier k in let b = move_spaces ss.is in let c = move_spaces us.is in let f = move_laid_type y in let g = move_plain d.is in
      let after = λ (u : Text). c.at.put (f.at.put (g.at.put u)) in
      let before = λ (u : Text). b.there (61 ∷ after u) refl in
      record {
        at = joined a.at (joined b.at (also 61 (joined c.at (joined f.at g.at))));
        full = λ u. a.full (b.at.put (61 ∷ after u));
        there = λ u e. item (a_key (a.there (b.at.put (61 ∷ after u)) (spaces_end (before u) (punctuation_end 61 refl))) (is_move b ss (61 ∷ after u) refl)
            (is_move c us (f.at.put (g.at.put u)) (same f.at (g.at.put u) (g.full u)))) (f.there (g.at.put u) (g.full u)) (is_move_value g d u e);
      }
