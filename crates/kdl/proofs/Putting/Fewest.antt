-- Fewer newlines at the ends of nodes, which do not do.
use Rattle.kdl.proofs.Common.{◌≡◌, inl, ℕ, zero, suc, ◌+◌, ◌≤◌, Bool, true, false, [], ◌∷◌, ◌++◌, length, ap, ◌∙◌, sym, refl, subst, append_assoc, arith, Option, Some, None, unwrap_or, append-nil, Text, t_newline, t_space, token_det, ValueEnd, Gap, Terminator, no_gap, last_gap, AfterChildren, BeforeChildren, after, Anything, AddsNothing, BeforeTerminator, Terminates, terminator_text, Children, no_children, children, NodeFormat, PlaceLacks, a_newline, EndFewest, EndSays, FewestBefore, FormatFewest, GapFewest, GapSays, IsLacking, PlaceFewest, PlaceSays, block_if, formless_count, lengthened, newlines, Rest}
use Rattle.kdl_text.specs.Chars.{Newline, times}
use Rattle.kdl_layout.specs.Internal.Lacking.{letter}
use Rattle.kdl_text.specs.Chars.Star.{none as no_star}
use Rattle.kdl_text.specs.Trivia.{Break, LineComment}
use Rattle.kdl_entry.specs.Entries.{string as a_string', untyped}
use Rattle.kdl_entry.proofs.Moving.EntryMoves.{punctuation_end}
use Rattle.kdl_grammar.specs.Data as data'
use Rattle.kdl_grammar.specs.Grammar.{IsNode, named, braces}
use Rattle.kdl_grammar.specs.Places.{before}
use Rattle.kdl_grammar.proofs.Laying.LaidIsDerived.{braced_of, later_of, plain_of}
use Rattle.kdl_grammar.proofs.Moving.Moves.{before_end}
use Rattle.kdl_layout.specs.Items.{ItemEnd}
use Rattle.kdl_layout.specs.Lacks.{GapLacks, TerminatorLacks}
use Rattle.kdl_layout.proofs.Dropping.DroppedNodes.{passes_det, passes_node}
use Rattle.kdl_layout.proofs.Lacking.Fewest.{a, a_piece, letter_node, letter_space}
use Rattle.kdl_text.proofs.Spacing.ValueEnds.{value_end_no_identifier}
use Rattle.kdl_text.specs.Bare.BareString.{bare as a_bare}
use Rattle.kdl_syntax.specs.Pieces.{StringPiece}
use Rattle.kdl_layout.proofs.Rewriting.BeforeNewlines.{newline_end}
use Rattle.kdl_layout.specs.Kept.{last_place}
use Rattle.kdl.specs.Internal.Ends.{newline_count}

-- a letter after an empty terminator is no terminator
no_line : {v : Text} → Break letter v → ⊥
no_line n = let d = token_det (t_newline n) (t_space letter_space) in cc

same_first : (c d : ℕ) (s t : Text) → ◌≡◌ {A = Text} (c ∷ s) (d ∷ t) → c ≡ d
same_first c d s t e = cc

no_terminator : {s v : Text} (t : Text) → s ≡ t → t ≡ letter → Terminator s v → ⊥
no_terminator t e h (Terminator.semicolon {r = r}) = omega (arith, same_first 59 32 r (97 ∷ []) (e ∙ h))
no_terminator {v = v} t e h (Terminator.newline n) = no_line (Break.newline (subst (λ (y : Text). Newline y v) (e ∙ h) n))
no_terminator {v = v} t e h (Terminator.comment l) = no_line (Break.comment (subst (λ (y : Text). LineComment y v) (e ∙ h) l))
no_terminator t e h Terminator.at_end = let k : ◌≡◌ {A = Text} [] letter = e ∙ h in absurd (cc)
no_terminator t e h (Terminator.at_close {r = r}) = omega (arith, same_first 125 32 r (97 ∷ []) (e ∙ h))

nothing_ends : (t : Text) → t ≡ [] → Terminates Anything t → ⊥
nothing_ends t e f = let k = f letter [] (data'.first a data'.none) tt (inl refl) letter_node in no_terminator letter (ap (λ (y : Text). y ++ letter) e) refl k.1

-- a node of one letter, without a block or with an empty one, before what follows
letter_piece : {s : Text} → ValueEnd true s → StringPiece (97 ∷ s) s (97 ∷ [])
letter_piece e = StringPiece.bare (a_bare refl a_piece (value_end_no_identifier e))

abbrev front : Children → Text → Text
front no_children s = 97 ∷ s
front (children d) s = 97 ∷ 123 ∷ 125 ∷ s

place_node : (c : Children) (s : Text) {r : Text} → BeforeTerminator c s r → ValueEnd true r → (x : data'.Node) × IsNode true (front c s) r x
place_node no_children s h v =
    let e = before_end h v in
    (data'.node None (97 ∷ []) [] data'.no_children, named untyped (a_string' (letter_piece e) e) (plain_of h))
place_node (children d) s h v =
    let e = punctuation_end 123 refl in (
      data'.node None (97 ∷ []) [] (data'.children data'.none),
      named untyped (a_string' (letter_piece e) e) (braced_of (before no_star (after no_star no_star)) (braces (last_gap no_gap)) (later_of h)),
    )

-- a node ends at one place of a text
node_end : {s u v w u' v' w' : Text} {x y : data'.Node} → IsNode true s u x → ItemEnd u v w → IsNode true s u' y → ItemEnd u' v' w' → u ≡ u'
node_end i m j n = let d = passes_det (passes_node no_star i m).1 (passes_node no_star j n).1 in cc

-- where a place ends with a newline before each terminator, it is not before a newline
pub not_before_newline : (c : Children) (t : Text) → ((r v : Text) → Terminator r v → BeforeTerminator c ((t ++ (10 ∷ [])) ++ r) r) → ((r : Text) → BeforeTerminator c (t ++ (10 ∷ r)) (10 ∷ r)) → ⊥
not_before_newline c t f g =
    let r = 59 ∷ [] in
    let x = place_node c (t ++ (10 ∷ r)) (g r) (newline_end r) in
    let y = place_node c ((t ++ (10 ∷ [])) ++ r) (f r [] Terminator.semicolon) (punctuation_end 59 refl) in
    let same : (t ++ (10 ∷ [])) ++ r ≡ t ++ (10 ∷ r) = append_assoc t (10 ∷ []) r in
    let e : ◌≡◌ {A = Text} (10 ∷ r) r = node_end x.1 (ItemEnd.line (Break.newline (a_newline r))) (subst (λ (z : Text). IsNode true (front c z) r y.0) same y.1) ItemEnd.semicolon in
    not_longer r e
  where
    not_longer : (r : Text) → ◌≡◌ {A = Text} (10 ∷ r) r → ⊥
    not_longer r e = omega (arith, ap (length {A = ℕ}) e)

-- what the readers say
times_same : (n : ℕ) → times n 10 ≡ newlines n
times_same zero = refl
times_same (suc n) = ap (λ (t : Text). 10 ∷ t) (times_same n)

pub gap_read : (t u : Text) (o : Option ℕ) → u ≡ t → GapLacks u o → IsLacking 2 (GapSays t) (GapFewest t) (unwrap_or o 0)
gap_read t u None e f = record { few = omega arith; says = λ h. absurd (f (subst (λ (x : Text). Gap true x []) (sym e) h)); fewest = λ m l x. omega arith }
gap_read t u (Some n) e (l, g, (a, less)) = record {
  few = l;
  says = λ h. subst (λ (x : Text). AddsNothing (x ++ newlines n)) e (subst (λ (x : Text). AddsNothing (u ++ x)) (times_same n) a);
  fewest = λ m h x. less m h (subst (λ (z : Text). AddsNothing (u ++ z)) (sym (times_same m)) (subst (λ (z : Text). AddsNothing (z ++ newlines m)) (sym e) x));
}

pub end_read : (t u : Text) (o : Option ℕ) → u ≡ t → TerminatorLacks u o → IsLacking 2 (EndSays t) (EndFewest t) (unwrap_or o 0)
end_read t u None e f = record { few = omega arith; says = λ v x y. absurd (f (v, subst (λ (z : Text). Terminator z v) (sym e) x, y)); fewest = λ m l x. omega arith }
end_read t u (Some n) e (l, g, (a, less)) = record {
  few = l;
  says = λ v x y. subst (λ (z : Text). Terminates Anything (z ++ newlines n)) e (subst (λ (z : Text). Terminates Anything (u ++ z)) (times_same n) a);
  fewest = λ m h x. less m h (subst (λ (z : Text). Terminates Anything (u ++ z)) (sym (times_same m)) (subst (λ (z : Text). Terminates Anything (z ++ newlines m)) (sym e) x));
}

place_one : (c : Children) (t : Text) → ((r v : Text) → Terminator r v → BeforeTerminator c ((t ++ (10 ∷ [])) ++ r) r) → PlaceFewest c t 1
place_one c t f m h g =
    let z : m ≡ 0 = omega arith in
    not_before_newline c t f (λ r. subst (λ (y : Text). BeforeTerminator c (y ++ (10 ∷ r)) (10 ∷ r)) (ap (λ (n : ℕ). t ++ newlines n) z ∙ append-nil t) (g r))

pub place_read : (b : Bool) (t : Text) (o : Option Bool) → PlaceLacks (last_place b) t o → IsLacking 1 (PlaceSays (block_if b) t) (PlaceFewest (block_if b) t) (newline_count o)
place_read true t None x = record { few = omega arith; says = λ h. absurd (x h); fewest = λ m h g. omega arith }
place_read true t (Some false) x = record { few = omega arith; says = λ h r v q. subst (λ (z : Text). AfterChildren (z ++ r) r) (sym (append-nil t)) (x.1 r v q); fewest = λ m h g. omega arith }
place_read true t (Some true) x = record { few = omega arith; says = λ h r v q. x.1.0 r v q; fewest = place_one (block_if true) t (λ r v q. x.1.0 r v q) }
place_read false t None x = record { few = omega arith; says = λ h. absurd (x h); fewest = λ m h g. omega arith }
place_read false t (Some false) x = record { few = omega arith; says = λ h r v q. subst (λ (z : Text). BeforeChildren (z ++ r) r) (sym (append-nil t)) (x.1 r v q); fewest = λ m h g. omega arith }
place_read false t (Some true) x = record { few = omega arith; says = λ h r v q. x.1.0 r v q; fewest = place_one (block_if false) t (λ r v q. x.1.0 r v q) }

-- a format with fewer newlines
more_after : (f : NodeFormat) (b e : ℕ) → terminator_text (lengthened b e f) ≡ terminator_text f ++ newlines e
more_after f b e = sym (append_assoc f.terminator f.trailing (newlines e))

pub ended_fewest : (c : Children) (f : NodeFormat) (n : ℕ) → EndFewest (terminator_text f) n → FormatFewest c f n
ended_fewest c f n less b e h x = less e (omega arith) (subst (Terminates Anything) (more_after f b e) x.terminator)

pub open_fewest : (c : Children) (f : NodeFormat) (n : ℕ) → terminator_text f ≡ [] → n ≤ 1 → PlaceFewest c f.before_terminator n → FormatFewest c f (n + 1)
open_fewest c f n z few less b zero h x = nothing_ends _ (more_after f b 0 ∙ ap (λ (y : Text). y ++ newlines 0) z) x.terminator
open_fewest c f n z few less b (suc e) h x =
    let one : e ≡ 0 = omega arith in
    let none : b ≡ 0 = omega arith in
    less b (omega arith) (λ r. here r one)
  where
    here : (r : Text) → e ≡ 0 → BeforeTerminator c ((f.before_terminator ++ newlines b) ++ (10 ∷ r)) (10 ∷ r)
    here r one =
        let t : terminator_text (lengthened b (suc e) f) ++ r ≡ 10 ∷ r = ap (λ (y : Text). y ++ r) (more_after f b (suc e) ∙ ap (λ (y : Text). y ++ newlines (suc e)) z ∙ ap (λ (m : ℕ). newlines (suc m)) one) in
        subst (λ (y : Text). BeforeTerminator c ((f.before_terminator ++ newlines b) ++ y) y) t
        (x.place r tt (subst (λ (y : Text). Terminator y r) (sym t) (Terminator.newline (a_newline r))))

-- before what follows
pub ended_before : (rest : Rest) (c : Children) (f : NodeFormat) (m n : ℕ) → m ≡ n → (terminator_text f ≡ [] → ⊥) → EndFewest (terminator_text f) n → FewestBefore rest c f m
ended_before Rest.End c f m n e some less = tt
ended_before Rest.Text c f m n e some less = subst (FormatFewest c f) (sym e) (ended_fewest c f n less)
ended_before Rest.Brace c f m n e some less = (subst (FormatFewest c f) (sym e) (ended_fewest c f n less), λ z. absurd (some z))

pub open_before : (rest : Rest) (c : Children) (f : NodeFormat) (n e : ℕ) → e ≡ formless_count rest → terminator_text f ≡ [] → n ≤ 1 → PlaceFewest c f.before_terminator n → FewestBefore rest c f (n + e)
open_before Rest.End c f n e h z few less = tt
open_before Rest.Text c f n e h z few less = subst (λ (m : ℕ). FormatFewest c f (n + m)) (sym h) (open_fewest c f n z few less)
open_before Rest.Brace c f n e h z few less =
    let more = open_fewest c f n z few less in
    let same : n + e ≡ n = omega arith in
    (λ b e l x. more b e (omega arith) x, λ y. subst (λ (m : ℕ). FormatFewest c f (m + 1)) (sym same) more)
