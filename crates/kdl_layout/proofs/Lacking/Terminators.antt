-- A terminator and the gap after it.
use Rattle.kdl_layout.proofs.Common.{◌≡◌, inl, ℕ, suc, ◌<◌, arith, true, [], ◌∷◌, ◌++◌, Option, Some, None, List, Bor, refl, sym, subst, ◌∙◌, append_assoc, append-nil, chars, Text, Newline, Break, break_det, t_space, t_newline, t_closing, t_semicolon, token_det, no_token, Terminator, Gap, no_gap, AreNodes, Anything, Terminates, Item, line_end, letter, GapRead, LineEnds, adding, InReturn, Open}
use Rattle.kdl_grammar.specs.Data.{Nodes, none, first}
use Rattle.kdl_layout.specs.Lacks.{newlines, TerminatorLacks}
use Rattle.kdl_layout.specs.declared.spaces.Ending.TheVariants.{Before}
use Rattle.kdl_layout.proofs.Dropping.Paths.{at_brace, halts}
use Rattle.kdl_layout.proofs.Lacking.Fewest.{a, letter_space, letter_node, some_nodes, no_nodes, fewer_not, ends_more, no_gap_items}
use Rattle.kdl_layout.proofs.Lacking.GapPieces.{break_terminator, return_ends}
use Rattle.kdl_layout.proofs.Lacking.SpaceEnds.{alone, break_at, break_open, break_ends_as, letter_line}
use Rattle.kdl_layout.proofs.Listing.PlaceTexts.{gap_of}
use Rattle.kdl_layout.proofs.Rewriting.BeforeNewlines.{a_newline}

-- no newline or line comment begins with `;`
semicolon_break : {s r : Text} → Break (59 ∷ s) r → ⊥
semicolon_break b = let e = (token_det (t_newline b) t_semicolon).1 in cc

-- after a semicolon
following : {r v : Text} → Terminator (59 ∷ r) v → v ≡ r
following Terminator.semicolon = refl
following (Terminator.newline n) = absurd (semicolon_break (Break.newline n))
following (Terminator.comment l) = absurd (semicolon_break (Break.comment l))

-- where one newline fewer leaves no node, fewer are not enough
fewer : (t : Text) (k : ℕ) → ((j : ℕ) → suc j ≡ k → (v : Text) → Terminator ((t ++ newlines j) ++ letter) v → AreNodes true v [] (first a none) → first a none ≡ none) → (j : ℕ) → j < k → Terminates Anything (t ++ newlines j) → ⊥
fewer t k f = fewer_not (Terminates Anything) t k (ends_more t) (λ j e p. let (v, m, ds) = p letter [] (first a none) tt (inl refl) letter_node in some_nodes (f j e v m ds))

-- after a break
break_only : {s r v : Text} → Break s r → Terminator s v → v ≡ r
break_only b Terminator.semicolon = absurd (semicolon_break b)
break_only b (Terminator.newline n) = break_det (Break.newline n) b
break_only b (Terminator.comment l) = break_det (Break.comment l) b
break_only b Terminator.at_end = absurd (no_token (t_newline b))
break_only b Terminator.at_close = let e = (token_det (t_newline b) t_closing).1 in absurd cc

-- a terminator that ends before a rest, whatever follows it, and the gap there
ends_lacks : (t r : Text) (o : Option ℕ) (old new : Option (List Item)) → ((w : Text) → Terminator (t ++ w) (r ++ w)) → ((w v : Text) → Terminator (t ++ w) v → v ≡ r ++ w) → GapRead r o old new → TerminatorLacks t o
ends_lacks t r None old new b only f = λ (v, m, g). no_gap_items r f (subst (λ (y : Text). Gap true y []) (only [] v (subst (λ (y : Text). Terminator y v) (sym (append-nil t)) m) ∙ append-nil r) g)
ends_lacks t r (Some k) old new b only (adding is i g, (bound, f, few)) = (
  bound,
  (r, alone Terminator t r (b []), gap_of g),
  (
    λ w z xs i e ds. (
      r ++ (newlines k ++ w),
      subst (λ (y : Text). Terminator y (r ++ (newlines k ++ w))) (sym (append_assoc t (newlines k) w)) (b (newlines k ++ w)),
      subst (λ (y : Text). AreNodes true y z xs) (append_assoc r (newlines k) w) (f w z xs e ds),
    ),
    fewer t k (λ j e v m ds.
        let x : v ≡ r ++ (newlines j ++ letter) = only (newlines j ++ letter) v (subst (λ (y : Text). Terminator y v) (append_assoc t (newlines j) letter) m) in
        few j e (first a none) (subst (λ (y : Text). AreNodes true y [] (first a none)) (x ∙ sym (append_assoc r (newlines j) letter)) ds)),
  ),
)

pub semicolon_gap : (t r : Text) (o : Option ℕ) (old new : Option (List Item)) → t ≡ 59 ∷ r → GapRead r o old new → TerminatorLacks t o
semicolon_gap t r o old new e g = subst (λ (y : Text). TerminatorLacks y o) (sym e) (ends_lacks (59 ∷ r) r o old new (λ w. Terminator.semicolon) (λ w v m. following m) g)

pub line_gap : {t u : Text} (r : Bor (List ℕ)) (o : Option ℕ) (old new : Option (List Item)) → Break t u → LineEnds (line_end t) (Before r) → GapRead (chars r.now) o old new → TerminatorLacks t o
line_gap {t = t} r o old new b n g =
    let at = λ (w : Text). break_at b w (chars r.now ++ w) (n w) in
    ends_lacks t (chars r.now) o old new (λ w. break_terminator (at w)) (λ w v m. break_only (at w) m) g

pub return_alone : {t u : Text} → Break t u → LineEnds (line_end t) InReturn → TerminatorLacks t (Some 0)
return_alone {t = t} b n = let k = break_ends_as InReturn b n in (
  omega arith,
  ([], break_terminator (alone Break t [] (k.alone [] refl)), no_gap),
  (λ w z xs i e ds. subst (λ (y : Text). (v : Text) × Terminator (y ++ w) v × AreNodes true v z xs) (sym (append-nil t)) (let (v, m, es) = return_ends k w z xs e ds in (v, break_terminator m, es)), λ j h. absurd (omega (arith, h))),
)

letter_terminator : {v : Text} → Terminator letter v → ⊥
letter_terminator (Terminator.newline n) = let e = (token_det (t_newline (Break.newline n)) (t_space letter_space)).1 in cc
letter_terminator (Terminator.comment l) = let e = (token_det (t_newline (Break.comment l)) (t_space letter_space)).1 in cc

lacks_lf : (t : Text) → Terminator t [] → ((w : Text) → Break (t ++ (10 ∷ w)) w) → ((v : Text) (xs : Nodes) → Terminator (t ++ letter) v → AreNodes true v [] xs → xs ≡ none) → TerminatorLacks t (Some 1)
lacks_lf t m b f = (
  omega arith,
  ([], m, no_gap),
  (
    λ w z xs i e ds. (w, subst (λ (y : Text). Terminator y w) (sym (append_assoc t (10 ∷ []) w)) (break_terminator (b w)), ds),
    fewer t 1 (λ j i v m ds.
        let k : j ≡ 0 = omega (arith, i) in
        f v (first a none) (subst (λ (y : Text). Terminator (y ++ letter) v) (append-nil t) (subst (λ (c : ℕ). Terminator ((t ++ newlines c) ++ letter) v) k m)) ds),
  ),
)

pub open_alone : {t u : Text} → Break t u → LineEnds (line_end t) Open → TerminatorLacks t (Some 1)
open_alone {t = t} b n = let k = break_ends_as Open b n in lacks_lf t (break_terminator k.alone) k.ended (λ v xs m ds. no_nodes (subst (λ (z : Text). AreNodes true z [] xs) (break_only (break_open b n letter letter_line) m) ds))

pub end_alone : (t : Text) → t ≡ [] → TerminatorLacks t (Some 1)
end_alone t e = lacks_lf t (subst (λ (z : Text). Terminator z []) (sym e) Terminator.at_end) (λ w. Break.newline (subst (λ (z : Text). Newline (z ++ (10 ∷ w)) w) (sym e) (a_newline w))) (λ v xs m ds. absurd (letter_terminator (subst (λ (z : Text). Terminator (z ++ letter) v) e m)))

pub no_terminator : (t : Text) → ((r : Text) → t ≡ 59 ∷ r → ⊥) → ((r : Text) → Break t r → ⊥) → (t ≡ [] → ⊥) → TerminatorLacks t None
no_terminator t f g h = λ (v, m, x). none f g h m x
  where
    none : {t v : Text} → ((r : Text) → t ≡ 59 ∷ r → ⊥) → ((r : Text) → Break t r → ⊥) → (t ≡ [] → ⊥) → Terminator t v → Gap true v [] → ⊥
    none f g h (Terminator.semicolon {r = r}) x = f r refl
    none f g h (Terminator.newline n) x = g _ (Break.newline n)
    none f g h (Terminator.comment l) x = g _ (Break.comment l)
    none f g h Terminator.at_end x = h refl
    none f g h Terminator.at_close x = let z = halts at_brace x in cc
