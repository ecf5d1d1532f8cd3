-- What ends a line or a node, before any rest: it takes an LF that follows, or nothing of the rest.
use Rattle.std.proofs.Common.{◌≡◌, ℕ, Bool, true, false, ◌&&◌, ◌==◌, [], ◌∷◌, ◌++◌, refl, sym, ap, subst, ◌∙◌, ◌⊎◌, inl, inr, arith, append_assoc}
use Rattle.std.proofs.lemmas.Bool.{eqb-true}
use Rattle.std.proofs.lemmas.Bool.Decides.{nat_tests}
use Rattle.kdl_text.specs.Chars.{Text, begins, starts, is_space, is_newline_char, is_banned, is_punctuation, is_identifier_char, Newline, crlf, one, Star, none, more, plus, space as a_space}
use Rattle.kdl_text.specs.Internal.Here.{first}
use Rattle.kdl_text.specs.Trivia.{Line, LineComment, line, Ws, block, EscEnd, escline, NodeSpace, Break, LineSpace, Slashdash, slashdash, ValueEnd}
use Rattle.kdl_text.proofs.Looking.Ends.{then, end_star}
use Rattle.kdl_value.specs.Data.{Value}
use Rattle.kdl_entry.specs.Entries.{string, IsPlainValue, a_string, a_plain, parens, untyped, typed}
use Rattle.kdl_syntax.specs.Tokens.{Token, BeginsToken, t_space, t_newline, t_closing}
use Rattle.kdl_entry.specs.Places.{dropped, EntryLeading, leading}
use Rattle.kdl_syntax.proofs.Lexing.StringUnique.{begins_piece, string_begins, plain_begins}
use Rattle.kdl_syntax.proofs.Lexing.TokenUnique.{token_det, no_token}
use Rattle.kdl_entry.proofs.Moving.EntryEnds.{end_lines, end_spaces, end_some, end_slashdash, end_entry, end_dropped}
use Rattle.kdl_grammar.specs.Data as data'
use Rattle.kdl_grammar.specs.Grammar.{Terminator, IsNode, named, Gap, no_gap, line_space, dropped_node, AreNodes, last_gap, node_then}
use Rattle.kdl_grammar.specs.ReadsBack.{NodesEnd, Anything, Terminates}
use Rattle.kdl_grammar.proofs.ReadingBack.Following.{same_first, shift_parts, shift_blanks}

-- before each rest it takes nothing of it, or an LF
pub record Closing (R : Text → Text → Type 0) (s r : Text) : Type 0 where
  pub piece : Text
  pub text : s ≡ piece ++ r
  pub full : (u : Text) → first (piece ++ u) ≡ first s
  pub closes : (u : Text) → R (piece ++ u) u ⊎ ((v : Text) × (u ≡ 10 ∷ v) × R (piece ++ u) v)

mapped : {R S : Text → Text → Type 0} {s r : Text} (c : ℕ) (m : Closing R s r) → ((t u : Text) → R t u → S (c ∷ t) u) → Closing S (c ∷ s) r
mapped {R = R} {S = S} c m f = record { piece = c ∷ m.piece; text = ap (λ (x : Text). c ∷ x) m.text; full = λ u. refl; closes = λ u. go u (m.closes u) }
  where
    go : (u : Text) → R (m.piece ++ u) u ⊎ ((v : Text) × (u ≡ 10 ∷ v) × R (m.piece ++ u) v) → S (c ∷ (m.piece ++ u)) u ⊎ ((v : Text) × (u ≡ 10 ∷ v) × S (c ∷ (m.piece ++ u)) v)
    go u (inl x) = inl (f _ _ x)
    go u (inr (v, e, x)) = inr (v, e, f _ _ x)

wrapped : {R S : Text → Text → Type 0} {s r : Text} (m : Closing R s r) → ((t u : Text) → R t u → S t u) → Closing S s r
wrapped {R = R} {S = S} m f = record { piece = m.piece; text = m.text; full = m.full; closes = λ u. go u (m.closes u) }
  where
    go : (u : Text) → R (m.piece ++ u) u ⊎ ((v : Text) × (u ≡ 10 ∷ v) × R (m.piece ++ u) v) → S (m.piece ++ u) u ⊎ ((v : Text) × (u ≡ 10 ∷ v) × S (m.piece ++ u) v)
    go u (inl x) = inl (f _ _ x)
    go u (inr (v, e, x)) = inr (v, e, f _ _ x)

one_closes : (c : ℕ) → is_newline_char c ≡ true → (u : Text) → Newline (c ∷ u) u ⊎ ((v : Text) × (u ≡ 10 ∷ v) × Newline (c ∷ u) v)
one_closes c x [] = inl (one x (nothing (c == 13)))
  where
    nothing : (b : Bool) → (b && false) ≡ false
    nothing true = refl
    nothing false = refl
one_closes c x (d ∷ u) = go (c == 13) refl (d == 10) refl
  where
    go : (a : Bool) → (c == 13) ≡ a → (b : Bool) → (d == 10) ≡ b → Newline (c ∷ d ∷ u) (d ∷ u) ⊎ ((v : Text) × (d ∷ u ≡ 10 ∷ v) × Newline (c ∷ d ∷ u) v)
    go true e true f =
        let p : c ≡ 13 = eqb-true c 13 e in let q : d ≡ 10 = eqb-true d 10 f in
        inr (u, ap (λ (x : ℕ). x ∷ u) q, subst (λ (x : ℕ). Newline (x ∷ d ∷ u) u) (sym p) (subst (λ (x : ℕ). Newline (13 ∷ x ∷ u) u) (sym q) crlf))
    go true e false f = inl (one x (rw (e, f) refl))
    go false e b f = inl (one x (rw e refl))

newline_closes : {s r : Text} → Newline s r → Closing Newline s r
newline_closes crlf = record { piece = 13 ∷ 10 ∷ []; text = refl; full = λ u. refl; closes = λ u. inl crlf }
newline_closes (one {c = c} x y) = record { piece = c ∷ []; text = refl; full = λ u. refl; closes = λ u. one_closes c x u }

line_closes : {s r : Text} → Line s r → (r ≡ [] → ⊥) → Closing Line s r
line_closes Line.ends h = absurd (h refl)
line_closes (Line.newline n) h = wrapped (newline_closes n) (λ t u x. Line.newline x)
line_closes (Line.other {c = c} x l) h = mapped c (line_closes l h) (λ t u y. Line.other x y)

comment_closes : {s r : Text} → LineComment s r → (r ≡ [] → ⊥) → Closing LineComment s r
comment_closes (line l) h = mapped {R = λ t u. LineComment (47 ∷ t) u} 47 (mapped 47 (line_closes l h) (λ t u x. line x)) (λ t u x. x)

esc_closes : {s r : Text} → EscEnd s r → (r ≡ [] → ⊥) → Closing EscEnd s r
esc_closes (EscEnd.comment l) h = wrapped (comment_closes l h) (λ t u x. EscEnd.comment x)
esc_closes (EscEnd.newline n) h = wrapped (newline_closes n) (λ t u x. EscEnd.newline x)
esc_closes EscEnd.ends h = absurd (h refl)

pub terminator_closes : {s r : Text} → Terminator s r → (r ≡ [] → ⊥) → ((t : Text) → r ≡ 125 ∷ t → ⊥) → Closing Terminator s r
terminator_closes Terminator.semicolon h k = record { piece = 59 ∷ []; text = refl; full = λ u. refl; closes = λ u. inl Terminator.semicolon }
terminator_closes (Terminator.newline n) h k = wrapped (newline_closes n) (λ t u x. Terminator.newline x)
terminator_closes (Terminator.comment l) h k = wrapped (comment_closes l h) (λ t u x. Terminator.comment x)
terminator_closes Terminator.at_end h k = absurd (h refl)
terminator_closes Terminator.at_close h k = absurd (k _ refl)

-- a string, a number or a keyword begins with a character of its own
begins_no : (k : ℕ) → begins_piece k ≡ false → (s : Text) → starts begins_piece s ≡ true → begins k s ≡ false
begins_no k x [] h = cc
begins_no k x (c ∷ s) h = go (c == k) refl
  where
    go : (b : Bool) → (c == k) ≡ b → (c == k) ≡ false
    go true e = let f : c ≡ k = eqb-true c k e in let g : begins_piece k ≡ true = subst (λ (z : ℕ). begins_piece z ≡ true) f h in cc
    go false e = e

some_piece : (s : Text) → starts begins_piece s ≡ true → s ≡ [] → ⊥
some_piece [] h e = cc
some_piece (c ∷ s) h e = cc

piece_10 : begins_piece 10 ≡ false
unfolding is_identifier_char is_space is_newline_char is_banned is_punctuation
piece_10 = refl

piece_125 : begins_piece 125 ≡ false
unfolding is_identifier_char is_space is_newline_char is_banned is_punctuation
piece_125 = refl

-- what it begins with is no LF and no `}`, and it is not empty
pub record Front (s : Text) : Type 0 where
  pub lf : begins 10 s ≡ false
  pub close : begins 125 s ≡ false
  pub some : s ≡ [] → ⊥

piece_front : (s : Text) → starts begins_piece s ≡ true → Front s
piece_front s h = record { lf = begins_no 10 piece_10 s h; close = begins_no 125 piece_125 s h; some = some_piece s h }

pub value_front : {s r : Text} {v : Value} → IsPlainValue true s r v → Front s
value_front {s = s} (a_string (string p e)) = piece_front s (string_begins p)
value_front {s = s} (a_plain p e) = piece_front s (plain_begins p)

pub node_front : {s r : Text} {x : data'.Node} → IsNode true s r x → Front s
node_front {s = s} (named untyped (string p e) d) = piece_front s (string_begins p)
node_front (named (typed (parens ss x us) vs) w d) = record { lf = refl; close = refl; some = λ e. cc }

pub begins_here : (c : ℕ) (s t : Text) → s ≡ c ∷ t → begins c s ≡ false → ⊥
begins_here c s t e h = let f : begins c (c ∷ t) ≡ false = subst (λ (x : Text). begins c x ≡ false) e h in go (c == c) f (omega_true c)
  where
    omega_true : (c : ℕ) → (c == c) ≡ true
    omega_true c = grind (arith, nat_tests)

    go : (b : Bool) → b ≡ false → b ≡ true → ⊥
    go b x y = cc

-- a gap that begins with `}`, or at the end, is none
no_dash : (c : ℕ) (s r : Text) → (c == 47) ≡ false → Slashdash (c ∷ s) r → ⊥
no_dash c s r h d = go d refl
  where
    go : {t : Text} → Slashdash t r → t ≡ c ∷ s → ⊥
    go (slashdash ls) e = let f : 47 ≡ c = cc in let g : (47 == 47) ≡ false = subst (λ (z : ℕ). (z == 47) ≡ false) (sym f) h in cc

no_dash_here : (r : Text) → Slashdash [] r → ⊥
no_dash_here r d = go d refl
  where
    go : {t : Text} → Slashdash t r → t ≡ [] → ⊥
    go (slashdash ls) e = cc

close_space : {w t : Text} → LineSpace (125 ∷ w) t → ⊥
close_space (LineSpace.space n) = let e = (token_det (t_space n) t_closing).1 in cc
close_space (LineSpace.«break» n) = let e = (token_det (t_newline n) t_closing).1 in cc

pub close_gap : (w : Text) {r : Text} → Gap true (125 ∷ w) r → r ≡ 125 ∷ w
close_gap w no_gap = refl
close_gap w (line_space l g) = absurd (close_space l)
close_gap w (dropped_node m x e g) = absurd (no_dash 125 w _ refl m)

end_space : {t : Text} → LineSpace [] t → ⊥
end_space (LineSpace.space n) = no_token (t_space n)
end_space (LineSpace.«break» n) = no_token (t_newline n)

pub end_gap : {r : Text} → Gap true [] r → r ≡ []
end_gap no_gap = refl
end_gap (line_space l g) = absurd (end_space l)
end_gap (dropped_node m x e g) = absurd (no_dash_here _ m)

lf_token : {r : Text} → BeginsToken (10 ∷ r) Token.newline r
unfolding is_newline_char
lf_token = t_newline (Break.newline (one refl refl))

lf_space : {r t : Text} → LineSpace (10 ∷ r) t → t ≡ r
lf_space (LineSpace.space n) = let e = (token_det (t_space n) lf_token).1 in cc
lf_space (LineSpace.«break» n) = (token_det (t_newline n) lf_token).0

lf_gap : (r : Text) {s : Text} → Gap true (10 ∷ r) s → (s ≡ 10 ∷ r) ⊎ Gap true r s
lf_gap r no_gap = inl refl
lf_gap r {s = s} (line_space l g) = inr (subst (λ (t : Text). Gap true t s) (lf_space l) g)
lf_gap r (dropped_node m x e g) = absurd (no_dash 10 r _ refl m)

no_number : true ≡ false → ⊥
no_number h = cc

no_lf : (s r : Text) → NodesEnd s → s ≡ 10 ∷ r → ⊥
no_lf s r (inl e) f = cc
no_lf s r (inr (t, e)) f = let g : 125 ≡ 10 = cc in no_number (subst (λ (z : ℕ). (z == 125) ≡ false) (sym g) refl)

-- nodes after an LF are nodes without it
pub after_lf : (r : Text) {s : Text} {xs : data'.Nodes} → NodesEnd s → AreNodes true (10 ∷ r) s xs → AreNodes true r s xs
after_lf r {s = s} z (last_gap g) = elim (lf_gap r g) [
  | inl e ↦ absurd (no_lf s r z e)
  | inr h ↦ last_gap h
]
after_lf r z (node_then {t = t} g x e ds) = elim (lf_gap r g) [
  | inl f ↦ absurd (begins_here 10 t r f (node_front x).lf)
  | inr h ↦ node_then h x e ds
]

-- a terminator before another node ends by itself
pub closing_terminates : {s r : Text} (m : Closing Terminator s r) → Terminates Anything m.piece
closing_terminates m = λ r s xs p z d. go r s xs z d (m.closes r)
  where
    go : (r s : Text) (xs : data'.Nodes) → NodesEnd s → AreNodes true r s xs → Terminator (m.piece ++ r) r ⊎ ((v : Text) × (r ≡ 10 ∷ v) × Terminator (m.piece ++ r) v) → (v : Text) × Terminator (m.piece ++ r) v × AreNodes true v s xs
    go r s xs z d (inl x) = (r, x, d)
    go r s xs z d (inr (v, e, x)) = (v, x, after_lf v z (subst (λ (t : Text). AreNodes true t s xs) e d))

-- what begins an entry is a value end, before any rest
pub record EndsHere (s r : Text) : Type 0 where
  pub piece : Text
  pub text : s ≡ piece ++ r
  pub ends : (u : Text) → ValueEnd true (piece ++ u)

some_after : (p r : Text) → (r ≡ [] → ⊥) → p ++ r ≡ [] → ⊥
some_after [] r h e = h e
some_after (c ∷ p) r h e = cc

escline_end : {t s r : Text} → Star Ws s t → EscEnd t r → (r ≡ [] → ⊥) → EndsHere (92 ∷ s) r
escline_end {t = t} {s = s} {r = r} ss e h =
    let m = esc_closes e h in let k = shift_blanks ss in
    record {
      piece = 92 ∷ (k.at.piece ++ m.piece);
      text = ap (λ (x : Text). 92 ∷ x) (k.at.here ∙ k.at.text t ∙ ap (λ (x : Text). k.at.piece ++ x) m.text ∙ sym (append_assoc k.at.piece m.piece r));
      ends = λ u. subst (λ (x : Text). ValueEnd true (92 ∷ x)) (sym (append_assoc k.at.piece m.piece u)) (subst (λ (x : Text). ValueEnd true (92 ∷ x)) (k.at.text (m.piece ++ u)) (go u (k.there (m.piece ++ u) (same_first (m.piece ++ u) t (m.full u))) (m.closes u)));
    }
  where
    go : {q x : Text} (u : Text) → Star Ws x q → EscEnd q u ⊎ ((v : Text) × (u ≡ 10 ∷ v) × EscEnd q v) → ValueEnd true (92 ∷ x)
    go u ws (inl y) = ValueEnd.escline (escline ws y)
    go u ws (inr (v, f, y)) = ValueEnd.escline (escline ws y)

following : {s t r : Text} → EndsHere s t → (p : Text) → t ≡ p ++ r → EndsHere s r
following {r = r} m p e = record {
  piece = m.piece ++ p;
  text = m.text ∙ ap (λ (x : Text). m.piece ++ x) e ∙ sym (append_assoc m.piece p r);
  ends = λ u. subst (λ (x : Text). ValueEnd true x) (sym (append_assoc m.piece p u)) (m.ends (p ++ u));
}

space_end : {s r : Text} → NodeSpace s r → (r ≡ [] → ⊥) → EndsHere s r
space_end (NodeSpace.ws (Ws.space (a_space {c = c} x))) h = record { piece = c ∷ []; text = refl; ends = λ u. ValueEnd.space (a_space x) }
space_end {r = r} (NodeSpace.ws (Ws.comment (block p))) h =
    let m = shift_parts p in
    record { piece = 47 ∷ 42 ∷ m.at.piece; text = ap (λ (x : Text). 47 ∷ 42 ∷ x) (m.at.here ∙ m.at.text r); ends = λ u. ValueEnd.block_comment }
space_end (NodeSpace.escline (escline ss e)) h = escline_end ss e h

pub leading_ends : {s r : Text} → EntryLeading s r → (r ≡ [] → ⊥) → EndsHere s r
leading_ends (leading none (plus n ss)) h = let e = end_spaces ss in following (space_end n (λ f. some_after e.piece _ h (sym e.text ∙ f))) e.piece e.text
leading_ends (leading (more (dropped none (slashdash ls) i) ds) n) h =
    let e = then (end_lines ls) (then (end_entry i) (then (end_star (λ s r d. end_dropped d) ds) (end_some n))) in
    record { piece = 47 ∷ 45 ∷ e.piece; text = ap (λ (x : Text). 47 ∷ 45 ∷ x) e.text; ends = λ u. ValueEnd.slashdash refl }
leading_ends (leading (more (dropped (more x ss) m i) ds) n) h =
    let e = then (end_spaces ss) (then (end_slashdash m) (then (end_entry i) (then (end_star (λ s r d. end_dropped d) ds) (end_some n)))) in
    following (space_end x (λ f. some_after e.piece _ h (sym e.text ∙ f))) e.piece e.text
