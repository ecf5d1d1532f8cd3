-- Node-spaces that come before a rest come before each rest, and nodes before a newline before LF, where CR at their end is LF.
use Rattle.kdl_layout.proofs.Common.{◌≡◌, ◌≢◌, ℕ, Bool, true, false, ◌&&◌, ◌==◌, List, [], ◌∷◌, ◌++◌, refl, sym, ap, subst, ◌∙◌, append_assoc, if◌then◌else◌, Text, begins, starts, Newline, crlf, Star, more, Plus, plus, BlockComment, block, Line, Ws, EscEnd, escline, NodeSpace, ValueEnd, space_ends, end_spaces, end_slashdash, end_type, move_spaces, move_slashdash, move_string, move_entry, punctuation_end, spaces_end, any_run, Put, stands, also, joined, same, IsNode, named, AfterName, kept_entry, dropped_entry, Blocks, dropped_block, no_block, AfterBlock, dropped_later, no_more, IsBlock, braces, move_nodes, line_text, is_newline_char, AreNodeSpaces}
use Rattle.std.proofs.lemmas.List.{append_cancel_right}
use Rattle.kdl_text.specs.Chars.{one, none, space as a_space}
use Rattle.kdl_text.specs.Internal.Here.{first}
use Rattle.kdl_text.specs.Trivia.{line as a_line}
use Rattle.kdl_text.proofs.Looking.Ends.{then as after_end}
use Rattle.kdl_entry.specs.Data.{Entry}
use Rattle.kdl_entry.proofs.Moving.EntryEnds.{end_some}
use Rattle.kdl_entry.proofs.Moving.EntryMoves.{move_space, move_plus, move_maybe, spaces_dash}
use Rattle.kdl_grammar.specs.Data.{Node, Children, Nodes}
use Rattle.kdl_grammar.specs.Grammar.{block as a_block}
use Rattle.kdl_grammar.proofs.ReadingBack.Following.{Anywhere, shift_parts}
use Rattle.kdl_layout.proofs.Rewriting.LastCharacters.{Last, last_after, last_end, is_string_last, entry_last, block_last, ws_last}

-- the text of a line is that of its end
pub line_after : (p : Text) (c : ℕ) (q : Text) → line_text (p ++ (c ∷ q)) ≡ p ++ line_text (c ∷ q)
line_after [] c q = refl
line_after (d ∷ []) c q = refl
line_after (d ∷ e ∷ p) c q = ap (λ (z : Text). d ∷ z) (line_after (e ∷ p) c q)

-- the piece q in s before r
pub piece_kept : {s r : Text} (q : Text) → s ≡ q ++ r → Last s r → (p : Text) → line_text (p ++ q) ≡ p ++ q
piece_kept {r = r} q e l p =
    let f : q ≡ l.front ++ (l.char ∷ []) = append_cancel_right q (l.front ++ (l.char ∷ [])) r (sym e ∙ l.text ∙ sym (append_assoc l.front (l.char ∷ []) r)) in
    rw f (sym (ap line_text (append_assoc p l.front (l.char ∷ []))) ∙ line_after (p ++ l.front) l.char [] ∙ ap (λ (b : Bool). (p ++ l.front) ++ ((if b then 10 else l.char) ∷ [])) l.other ∙ append_assoc p l.front (l.char ∷ []))

lined_after : (q : Text) {piece line : Text} → ((p : Text) → line_text (p ++ piece) ≡ p ++ line) → (p : Text) → line_text (p ++ (q ++ piece)) ≡ p ++ (q ++ line)
lined_after q {piece} {line} f p = ap line_text (sym (append_assoc p q piece)) ∙ f (p ++ q) ∙ append_assoc p q line

-- what comes before each rest
pub closed_block : {s r : Text} → BlockComment s r → Anywhere BlockComment s r
closed_block (block p) = let m = shift_parts p in record { at = also 47 (also 42 m.at); full = λ u. refl; there = λ u. block (m.there u) }

pub closed_ws : {s r : Text} → Ws s r → Anywhere Ws s r
closed_ws (Ws.space (a_space {c = c} x)) = record { at = also c stands; full = λ u. refl; there = λ u. Ws.space (a_space x) }
closed_ws (Ws.comment b) = let m = closed_block b in record { at = m.at; full = m.full; there = λ u. Ws.comment (m.there u) }

pub closed_braces : {s r : Text} {xs : Nodes} → IsBlock true s r xs → Anywhere (λ s r. IsBlock true s r xs) s r
closed_braces (braces ns) =
    let a = move_nodes ns in
    record { at = also 123 (joined a.at (also 125 stands)); full = λ u. refl; there = λ u. braces (a.there (125 ∷ u) refl) }

-- what is in s before r, and the same before other rests
pub record OnLine (rest : Text → Text) (R : Text → Text → Type 0) (s r : Text) : Type 0 where
  pub piece : Text
  pub line : Text
  pub text : s ≡ piece ++ r
  pub lined : (p : Text) → line_text (p ++ piece) ≡ p ++ line
  pub there : (u : Text) → R (line ++ rest u) (rest u)

-- before each rest, and before LF
abbrev pub any : Text → Text
any u = u

abbrev pub feed : Text → Text
feed u = 10 ∷ u

-- the text begins as before
abbrev pub Begun : {rest : Text → Text} {R : Text → Text → Type 0} {s r : Text} → OnLine rest R s r → Type 0
Begun {rest = rest} {s = s} k = (u : Text) → first (k.line ++ rest u) ≡ first s

pub put_line : {s t : Text} (p : Put s t) (line u : Text) → p.put (line ++ u) ≡ (p.piece ++ line) ++ u
put_line p line u = p.text (line ++ u) ∙ sym (append_assoc p.piece line u)

pub put_text : {s t : Text} (p : Put s t) (q r : Text) → t ≡ q ++ r → s ≡ (p.piece ++ q) ++ r
put_text {t = t} p q r e = p.here ∙ p.text t ∙ ap (λ (z : Text). p.piece ++ z) e ∙ sym (append_assoc p.piece q r)

abbrev following : {rest : Text → Text} {R Q : Text → Text → Type 0} {s t r : Text} (p : Put s t) (k : OnLine any R t r) → ((u : Text) → Q (p.put (k.line ++ rest u)) (rest u)) → OnLine rest Q s r
following {rest = rest} {Q = Q} {r = r} p k f = record {
  piece = p.piece ++ k.piece;
  line = p.piece ++ k.line;
  text = put_text p k.piece r k.text;
  lined = lined_after p.piece k.lined;
  there = λ u. subst (λ (z : Text). Q z (rest u)) (put_line p k.line (rest u)) (f u);
}

-- newlines
pub a_newline : (u : Text) → Newline (10 ∷ u) u
unfolding is_newline_char
a_newline u = one refl refl

pub newline_end : (u : Text) → ValueEnd true (10 ∷ u)
newline_end u = ValueEnd.newline (a_newline u)

pub lf : is_newline_char 10 ≡ true
unfolding is_newline_char
lf = refl

line_char_newline : (c : ℕ) → is_newline_char c ≡ true → is_newline_char (if c == 13 then 10 else c) ≡ true
line_char_newline c h = go (c == 13)
  where
    go : (b : Bool) → is_newline_char (if b then 10 else c) ≡ true
    go true = lf
    go false = h

pub line_char_other : (c : ℕ) → ((if c == 13 then 10 else c) == 13) ≡ false
line_char_other c = go (c == 13) refl
  where
    go : (b : Bool) → (c == 13) ≡ b → ((if b then 10 else c) == 13) ≡ false
    go true e = refl
    go false e = e

newline_line : {s r : Text} → Newline s r → OnLine any Newline s r
newline_line crlf = record { piece = 13 ∷ 10 ∷ []; line = 13 ∷ 10 ∷ []; text = refl; lined = λ p. line_after p 13 (10 ∷ []); there = λ u. crlf }
newline_line (one {c = c} x y) =
    record {
      piece = c ∷ [];
      line = (if c == 13 then 10 else c) ∷ [];
      text = refl;
      lined = λ p. line_after p c [];
      there = λ u. one (line_char_newline c x) (ap (λ (b : Bool). b && begins 10 u) (line_char_other c));
    }

line_line : {s r : Text} → Line s r → r ≢ [] → OnLine any Line s r
line_line Line.ends h = absurd (h refl)
line_line (Line.newline n) h = following stands (newline_line n) (λ u. Line.newline ((newline_line n).there u))
line_line (Line.other {c = c} x l) h = let k = line_line l h in following (also c stands) k (λ u. Line.other x (k.there u))

-- node-spaces
esc_line : {s r : Text} → EscEnd s r → r ≢ [] → OnLine any EscEnd s r
esc_line (EscEnd.comment (a_line l)) h = let k = line_line l h in following (also 47 (also 47 stands)) k (λ u. EscEnd.comment (a_line (k.there u)))
esc_line (EscEnd.newline n) h = let k = newline_line n in following stands k (λ u. EscEnd.newline (k.there u))
esc_line EscEnd.ends h = absurd (h refl)

record SpacesLine (R : Text → Text → Type 0) (s r : Text) : Type 0 where
  on : OnLine any R s r
  begun : Begun on

closed_line : {R : Text → Text → Type 0} {s r : Text} → Anywhere R s r → Last s r → SpacesLine R s r
closed_line {R = R} {r = r} c l = record {
  on = record {
    piece = c.at.piece;
    line = c.at.piece;
    text = c.at.here ∙ c.at.text r;
    lined = piece_kept c.at.piece (c.at.here ∙ c.at.text r) l;
    there = λ u. subst (λ (z : Text). R z u) (c.at.text u) (c.there u);
  };
  begun = λ u. ap first (sym (c.at.text u)) ∙ c.full u;
}

space_line : {s r : Text} → NodeSpace s r → r ≢ [] → SpacesLine NodeSpace s r
space_line (NodeSpace.ws w) h = let m = closed_ws w in closed_line (record { at = m.at; full = m.full; there = λ u. NodeSpace.ws (m.there u) }) (ws_last w)
space_line (NodeSpace.escline (escline ss f)) h =
    let a = any_run ss in let k = esc_line f h in
    record { on = following (also 92 a.at) k (λ u. NodeSpace.escline (escline (a.there (k.line ++ u)) (k.there u))); begun = λ u. refl }

add_space : {s t r : Text} → NodeSpace s t → Plus NodeSpace t r → Plus NodeSpace s r
add_space n (plus m ms) = plus n (more m ms)

spaces_line : {s t r : Text} → NodeSpace s t → Star NodeSpace t r → r ≢ [] → SpacesLine (Plus NodeSpace) s r
spaces_line n none h =
    let k = space_line n h in
    record { on = record { piece = k.on.piece; line = k.on.line; text = k.on.text; lined = k.on.lined; there = λ u. plus (k.on.there u) none }; begun = k.begun }
spaces_line n (more m ms) h =
    let a = move_space n in let k = spaces_line m ms h in
    record {
      on = following a.at k.on (λ u. add_space (a.there (k.on.line ++ u) (k.begun u)) (k.on.there u));
      begun = λ u. ap first (sym (put_line a.at k.on.line u)) ∙ same a.at (k.on.line ++ u) (k.begun u);
    }

pub some : {R : Text → Text → Type 0} {s r : Text} → Plus R s r → Star R s r
some (plus n ss) = more n ss

-- the text t before r
pub spaces_before_each : (t r : Text) → r ≢ [] → Star NodeSpace (t ++ r) r → AreNodeSpaces (line_text t)
spaces_before_each t r h ss = go refl ss
  where
    go : {s : Text} → s ≡ t ++ r → Star NodeSpace s r → AreNodeSpaces (line_text t)
    go e none = let f : [] ≡ t = append_cancel_right [] t r e in subst (λ (z : Text). AreNodeSpaces (line_text z)) f (λ w. none)
    go e (more n ns) =
        let k = spaces_line n ns h in
        let f : t ≡ k.on.piece = append_cancel_right t k.on.piece r (sym e ∙ k.on.text) in
        subst AreNodeSpaces (sym (ap line_text f ∙ k.on.lined [])) (λ w. some (k.on.there w))

-- what ends with node-spaces, cut before them: it comes before each value end, and node-spaces after it
pub record Cut (R : Text → Text → Type 0) (s r : Text) : Type 0 where
  pub rest : Text
  pub at : Put s rest
  pub spaces : Star NodeSpace rest r
  pub last : {t : Text} → Last t s → Last t rest
  pub ends : (u : Text) → ValueEnd true u → ValueEnd true (at.put u)
  pub there : (u q : Text) → ValueEnd true u → Star NodeSpace u q → R (at.put u) q

pub some_end : {s r : Text} → Plus NodeSpace s r → ValueEnd true s
some_end (plus n ss) = space_ends n

brace_end : {s r : Text} {xs : Nodes} → IsBlock true s r xs → ValueEnd true s
brace_end (braces ns) = punctuation_end 123 refl

cut_later : {s r : Text} → AfterBlock true s r → Cut (AfterBlock true) s r
cut_later {s} {r} (no_more ss) = record { rest = s; at = stands; spaces = ss; last = λ l. l; ends = λ u e. e; there = λ u q e f. no_more f }
cut_later (dropped_later ss m b d) =
    let a = move_spaces ss in let o = move_slashdash m in let c = closed_braces b in let k = cut_later d in
    let dashed = λ (u : Text). o.there (c.at.put (k.at.put u)) (c.full (k.at.put u)) in
    let spaced = λ (u : Text). a.there (o.at.put (c.at.put (k.at.put u))) (same o.at (c.at.put (k.at.put u)) (c.full (k.at.put u))) in
    record {
      rest = k.rest;
      at = joined a.at (joined o.at (joined c.at k.at));
      spaces = k.spaces;
      last = λ l. k.last (last_after (after_end (last_end l) (after_end (end_spaces ss) (end_slashdash m))) (block_last b));
      ends = λ u e. spaces_dash (spaced u) (dashed u);
      there = λ u q e f. dropped_later (spaced u) (dashed u) (c.there (k.at.put u)) (k.there u q e f);
    }

cut_blocks : {b : Bool} {s r : Text} {k : Children} → Blocks true b s r k → Cut (λ s r. Blocks true b s r k) s r
cut_blocks {s = s} (no_block ss) = record { rest = s; at = stands; spaces = ss; last = λ l. l; ends = λ u e. e; there = λ u q e f. no_block f }
cut_blocks (a_block ss b d) =
    let a = move_spaces ss in let c = closed_braces b in let k = cut_later d in
    let spaced = λ (u : Text). a.there (c.at.put (k.at.put u)) (c.full (k.at.put u)) in
    record {
      rest = k.rest;
      at = joined a.at (joined c.at k.at);
      spaces = k.spaces;
      last = λ l. k.last (last_after (after_end (last_end l) (end_spaces ss)) (block_last b));
      ends = λ u e. spaces_end (spaced u) (brace_end (c.there (k.at.put u)));
      there = λ u q e f. a_block (spaced u) (c.there (k.at.put u)) (k.there u q e f);
    }
cut_blocks (dropped_block ss m b d) =
    let a = move_spaces ss in let o = move_slashdash m in let c = closed_braces b in let k = cut_blocks d in
    let dashed = λ (u : Text). o.there (c.at.put (k.at.put u)) (c.full (k.at.put u)) in
    let spaced = λ (u : Text). a.there (o.at.put (c.at.put (k.at.put u))) (same o.at (c.at.put (k.at.put u)) (c.full (k.at.put u))) in
    record {
      rest = k.rest;
      at = joined a.at (joined o.at (joined c.at k.at));
      spaces = k.spaces;
      last = λ l. k.last (last_after (after_end (last_end l) (after_end (end_spaces ss) (end_slashdash m))) (block_last b));
      ends = λ u e. spaces_dash (spaced u) (dashed u);
      there = λ u q e f. dropped_block (spaced u) (dashed u) (c.there (k.at.put u)) (k.there u q e f);
    }

cut_name : {s r : Text} {es : List Entry} {k : Children} → AfterName true s r es k → Cut (λ s r. AfterName true s r es k) s r
cut_name (AfterName.blocks d) = let k = cut_blocks d in record { rest = k.rest; at = k.at; spaces = k.spaces; last = k.last; ends = k.ends; there = λ u q e f. AfterName.blocks (k.there u q e f) }
cut_name (kept_entry n i d) =
    let a = move_plus n in let c = move_entry i in let k = cut_name d in
    let spaced = λ (u : Text). a.there (c.at.put (k.at.put u)) (c.full (k.at.put u)) in
    record {
      rest = k.rest;
      at = joined a.at (joined c.at k.at);
      spaces = k.spaces;
      last = λ l. k.last (last_after (after_end (last_end l) (end_some n)) (entry_last i));
      ends = λ u e. some_end (spaced u);
      there = λ u q e f. kept_entry (spaced u) (c.there (k.at.put u) (k.ends u e)) (k.there u q e f);
    }
cut_name (dropped_entry ss m i d) =
    let a = move_spaces ss in let o = move_slashdash m in let c = move_entry i in let k = cut_name d in
    let dashed = λ (u : Text). o.there (c.at.put (k.at.put u)) (c.full (k.at.put u)) in
    let spaced = λ (u : Text). a.there (o.at.put (c.at.put (k.at.put u))) (same o.at (c.at.put (k.at.put u)) (c.full (k.at.put u))) in
    record {
      rest = k.rest;
      at = joined a.at (joined o.at (joined c.at k.at));
      spaces = k.spaces;
      last = λ l. k.last (last_after (after_end (last_end l) (after_end (end_spaces ss) (end_slashdash m))) (entry_last i));
      ends = λ u e. spaces_dash (spaced u) (dashed u);
      there = λ u q e f. dropped_entry (spaced u) (dashed u) (c.there (k.at.put u) (k.ends u e)) (k.there u q e f);
    }

-- a node likewise
pub record CutNode (x : Node) (s r : Text) : Type 0 where
  pub rest : Text
  pub at : Put s rest
  pub spaces : Star NodeSpace rest r
  pub last : Last s rest
  pub full : (u : Text) → first (at.put u) ≡ first s
  pub there : (u q : Text) → ValueEnd true u → Star NodeSpace u q → IsNode true (at.put u) q x

pub cut_node : {s r : Text} {x : Node} → IsNode true s r x → CutNode x s r
cut_node (named y w d) =
    let b = move_maybe y in let o = move_string w in let k = cut_name d in
    record {
      rest = k.rest;
      at = joined b.at (joined o.at k.at);
      spaces = k.spaces;
      last = k.last (last_after (end_type y) (is_string_last w));
      full = λ u. same b.at (o.at.put (k.at.put u)) (o.full (k.at.put u));
      there = λ u q e f. named (b.there (o.at.put (k.at.put u)) (o.full (k.at.put u))) (o.there (k.at.put u) (k.ends u e)) (k.there u q e f);
    }

-- a node before a newline
pub record NodeLine (x : Node) (s r : Text) : Type 0 where
  pub on : OnLine feed (λ s r. IsNode true s r x) s r
  pub begun : Begun on

node_line_at : {x : Node} {s t r : Text} (p : Put s t) → Last s t → ((u : Text) → first (p.put u) ≡ first s)
    → ((u q : Text) → ValueEnd true u → Star NodeSpace u q → IsNode true (p.put u) q x) → Star NodeSpace t r → r ≢ [] → NodeLine x s r
node_line_at {x = x} {t = t} p l full there none h = record {
  on = record {
    piece = p.piece;
    line = p.piece;
    text = p.here ∙ p.text t;
    lined = piece_kept p.piece (p.here ∙ p.text t) l;
    there = λ u. subst (λ (z : Text). IsNode true z (10 ∷ u) x) (p.text (10 ∷ u)) (there (10 ∷ u) (10 ∷ u) (newline_end u) none);
  };
  begun = λ u. ap first (sym (p.text (10 ∷ u))) ∙ full (10 ∷ u);
}
node_line_at p l full there (more n ss) h =
    let k = spaces_line n ss h in
    record {
      on = following p k.on (λ u. there (k.on.line ++ (10 ∷ u)) (10 ∷ u) (some_end (k.on.there (10 ∷ u))) (some (k.on.there (10 ∷ u))));
      begun = λ u. ap first (sym (put_line p k.on.line (10 ∷ u))) ∙ full (k.on.line ++ (10 ∷ u));
    }

pub node_line : {s r : Text} {x : Node} → IsNode true s r x → starts is_newline_char r ≡ true → NodeLine x s r
node_line d h = let c = cut_node d in node_line_at c.at c.last c.full c.there c.spaces (λ e. let z : false ≡ true = sym (ap (starts is_newline_char) e) ∙ h in cc)
