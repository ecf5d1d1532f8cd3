-- Spaces and what comes before an entry, before another rest: one that begins with LF only where the old one does, and ends only where it does.
use Rattle.std.proofs.Common.{◌≡◌, ℕ, Bool, true, false, ◌&&◌, ◌==◌, [], ◌∷◌, ◌++◌, Option, refl, sym, ap, subst, ◌∙◌}
use Rattle.kdl_text.specs.Chars.{Text, begins, begins_two, Newline, crlf, one, Star, none, more, Plus, plus, space as a_space}
use Rattle.kdl_text.specs.Internal.Here.{first}
use Rattle.kdl_text.specs.Trivia.{Parts, close, nested, block, Line, LineComment, line, Ws, EscEnd, escline, NodeSpace}
use Rattle.kdl_entry.specs.Laid.{LaidType, no_type, a_type, LaidKey, no_key, a_key}
use Rattle.kdl_entry.specs.Places.{Is, DroppedEntry, dropped, EntryLeading, leading}
use Rattle.kdl_entry.specs.Tree.{Identifier}
use Rattle.kdl_entry.proofs.Moving.EntryMoves.{move_spaces, move_slashdash, move_identifier, punctuation_end, spaces_end, leading_end, move_entry, is_move}
use Rattle.kdl_syntax.proofs.Moving.Puts.{Put, stands, also, joined, same, same_piece, begins_first, nothing}

pub record Follows (u r : Text) : Type 0 where
  pub lf : begins 10 r ≡ false → begins 10 u ≡ false
  pub end : r ≡ [] → u ≡ []

pub same_first : (u r : Text) → first u ≡ first r → Follows u r
same_first u r e = record { lf = λ h. begins_first 10 u r e ∙ h; end = λ h. nothing u (e ∙ ap first h) }

after_piece : (q u r : Text) → Follows u r → Follows (q ++ u) (q ++ r)
after_piece [] u r f = f
after_piece (c ∷ q) u r f = same_first _ _ refl

pub put_follows : {s r : Text} (p : Put s r) (u : Text) → Follows u r → Follows (p.put u) s
put_follows {r = r} p u f =
    subst (λ (x : Text). Follows (p.put u) x) (sym (p.here ∙ p.text r))
    (subst (λ (x : Text). Follows x (p.piece ++ r)) (sym (p.text u)) (after_piece p.piece u r f))

-- it comes before each such rest
pub record Shift (R : Text → Text → Type 0) (s r : Text) : Type 0 where
  pub at : Put s r
  pub there : (u : Text) → Follows u r → R (at.put u) u

pub is_shift : {R : Text → Text → Type 0} {p s r : Text} (m : Shift R s r) → Is R p s r → (u : Text) → Follows u r → Is R p (m.at.put u) u
is_shift m d u e = record { is = m.there u e; text = same_piece _ m.at d.text u }

-- it comes before each rest
pub record Anywhere (R : Text → Text → Type 0) (s r : Text) : Type 0 where
  pub at : Put s r
  pub full : (u : Text) → first (at.put u) ≡ first s
  pub there : (u : Text) → R (at.put u) u

two_same : (a b c : ℕ) (s t : Text) → first s ≡ first t → begins_two a b (c ∷ s) ≡ begins_two a b (c ∷ t)
two_same a b c s t e = ap (λ x. (c == a) && x) (begins_first b s t e)

pub shift_parts : {s r : Text} → Parts s r → Anywhere Parts s r
shift_parts close = record { at = also 42 (also 47 stands); full = λ u. refl; there = λ u. close }
shift_parts (nested p q) = let m = shift_parts p in let n = shift_parts q in record { at = also 47 (also 42 (joined m.at n.at)); full = λ u. refl; there = λ u. nested (m.there (n.at.put u)) (n.there u) }
shift_parts (Parts.other {c = c} {s = s} x y p) =
    let m = shift_parts p in
    record { at = also c m.at; full = λ u. refl; there = λ u. Parts.other (two_same 47 42 c (m.at.put u) s (m.full u) ∙ x) (two_same 42 47 c (m.at.put u) s (m.full u) ∙ y) (m.there u) }

lone : (b : Bool) (u r : Text) → (b && begins 10 r) ≡ false → Follows u r → (b && begins 10 u) ≡ false
lone true u r y f = f.lf y
lone false u r y f = refl

shift_newline : {s r : Text} → Newline s r → Shift Newline s r
shift_newline crlf = record { at = also 13 (also 10 stands); there = λ u f. crlf }
shift_newline {r = r} (one {c = c} x y) = record { at = also c stands; there = λ u f. one x (lone (c == 13) u r y f) }

shift_line : {s r : Text} → Line s r → Shift Line s r
shift_line Line.ends = record { at = stands; there = λ u f. subst (λ (z : Text). Line z z) (sym (f.end refl)) Line.ends }
shift_line (Line.newline n) = let m = shift_newline n in record { at = m.at; there = λ u f. Line.newline (m.there u f) }
shift_line (Line.other {c = c} x l) = let m = shift_line l in record { at = also c m.at; there = λ u f. Line.other x (m.there u f) }

shift_comment : {s r : Text} → LineComment s r → Shift LineComment s r
shift_comment (line l) = let m = shift_line l in record { at = also 47 (also 47 m.at); there = λ u f. line (m.there u f) }

shift_ws : {s r : Text} → Ws s r → Shift Ws s r
shift_ws (Ws.space (a_space {c = c} x)) = record { at = also c stands; there = λ u f. Ws.space (a_space x) }
shift_ws (Ws.comment (block p)) = let m = shift_parts p in record { at = also 47 (also 42 m.at); there = λ u f. Ws.comment (block (m.there u)) }

shift_star : {R : Text → Text → Type 0} {s r : Text} → ((s r : Text) → R s r → Shift R s r) → Star R s r → Shift (Star R) s r
shift_star f none = record { at = stands; there = λ u e. none }
shift_star f (more n ns) =
    let m = f _ _ n in let k = shift_star f ns in
    record { at = joined m.at k.at; there = λ u e. more (m.there (k.at.put u) (put_follows k.at u e)) (k.there u e) }

pub shift_blanks : {s r : Text} → Star Ws s r → Shift (Star Ws) s r
shift_blanks ss = shift_star (λ s r n. shift_ws n) ss

shift_esc : {s r : Text} → EscEnd s r → Shift EscEnd s r
shift_esc (EscEnd.comment l) = let m = shift_comment l in record { at = m.at; there = λ u f. EscEnd.comment (m.there u f) }
shift_esc (EscEnd.newline n) = let m = shift_newline n in record { at = m.at; there = λ u f. EscEnd.newline (m.there u f) }
shift_esc EscEnd.ends = record { at = stands; there = λ u f. subst (λ (z : Text). EscEnd z z) (sym (f.end refl)) EscEnd.ends }

shift_space : {s r : Text} → NodeSpace s r → Shift NodeSpace s r
shift_space (NodeSpace.ws w) = let m = shift_ws w in record { at = m.at; there = λ u f. NodeSpace.ws (m.there u f) }
shift_space (NodeSpace.escline (escline ss e)) =
    let m = shift_blanks ss in let n = shift_esc e in
    record { at = also 92 (joined m.at n.at); there = λ u f. NodeSpace.escline (escline (m.there (n.at.put u) (put_follows n.at u f)) (n.there u f)) }

pub shift_spaces : {s r : Text} → Star NodeSpace s r → Shift (Star NodeSpace) s r
shift_spaces ss = shift_star (λ s r n. shift_space n) ss

one_more : {s t r : Text} → DroppedEntry s t → EntryLeading t r → EntryLeading s r
one_more d (leading ds n) = leading (more d ds) n

shift_dropped : {s t r : Text} → Star DroppedEntry s t → Plus NodeSpace t r → Shift EntryLeading s r
shift_dropped none (plus n ss) =
    let m = shift_space n in let k = shift_spaces ss in
    record { at = joined m.at k.at; there = λ u f. leading none (plus (m.there (k.at.put u) (put_follows k.at u f)) (k.there u f)) }
shift_dropped (more (dropped ss m i) ds) n =
    let a = move_spaces ss in let b = move_slashdash m in let c = move_entry i in let k = shift_dropped ds n in
    record {
      at = joined a.at (joined b.at (joined c.at k.at));
      there = λ u f.
          let last = k.there u f in
          let g = c.full (k.at.put u) in
          one_more (dropped (a.there (b.at.put (c.at.put (k.at.put u))) (same b.at (c.at.put (k.at.put u)) g)) (b.there (c.at.put (k.at.put u)) g) (c.there (k.at.put u) (leading_end last))) last;
    }

pub shift_leading : {s t : Text} → EntryLeading s t → Shift EntryLeading s t
shift_leading (leading ds n) = shift_dropped ds n

-- what is laid, where spans may be any
module _ (whole : Text) where
  pub shift_type : {b a h s r : Text} {y : Option Identifier} → LaidType false whole y b a h s r → Shift (λ s r. LaidType false whole y b a h s r) s r
  shift_type no_type = record { at = stands; there = λ u f. no_type }
  shift_type (a_type ss d us vs) =
      let a = move_spaces ss.is in let b = move_identifier whole d in let c = move_spaces us.is in let k = shift_spaces vs.is in
      let brace = λ (u : Text). c.there (41 ∷ k.at.put u) refl in
      record {
        at = also 40 (joined a.at (joined b.at (joined c.at (also 41 k.at))));
        there = λ u f. a_type (is_move a ss (b.at.put (c.at.put (41 ∷ k.at.put u))) (b.full (c.at.put (41 ∷ k.at.put u))))
            (b.there (c.at.put (41 ∷ k.at.put u)) (spaces_end (brace u) (punctuation_end 41 refl)))
            (is_move c us (41 ∷ k.at.put u) refl) (is_shift k vs u f);
      }

  pub shift_key : {b h s r : Text} {y : Option Identifier} → LaidKey false whole y b h s r → Shift (λ s r. LaidKey false whole y b h s r) s r
  shift_key no_key = record { at = stands; there = λ u f. no_key }
  shift_key (a_key k ss us) =
      let a = move_identifier whole k in let b = move_spaces ss.is in let c = shift_spaces us.is in
      let before = λ (u : Text). b.there (61 ∷ c.at.put u) refl in
      record {
        at = joined a.at (joined b.at (also 61 c.at));
        there = λ u f. a_key (a.there (b.at.put (61 ∷ c.at.put u)) (spaces_end (before u) (punctuation_end 61 refl))) (is_move b ss (61 ∷ c.at.put u) refl) (is_shift c us u f);
      }
