-- Which texts begin a node text.
use Rattle.std.proofs.Common.{◌≡◌, ◌≢◌, Bool, true, false, List, [], ◌∷◌, ◌++◌, take, Some, None, refl, sym, ap, subst, ◌∙◌, append_assoc}
use Rattle.std.proofs.lemmas.List.{append_cancel_right}
use Rattle.kdl_text.specs.Chars.{Text, Star, begins, starts, is_identifier_char}
use Rattle.kdl_text.specs.Chars.Star.{none as no_star, more}
use Rattle.kdl_text.specs.Trivia.{LineSpace}
use Rattle.kdl_syntax.specs.Tokens.{Token, space, newline, string, value, closing, semicolon, BeginsToken, t_space, t_newline, t_right, t_opening, t_closing, t_semicolon, done}
use Rattle.kdl_syntax.proofs.Lexing.TokenUnique.{token_det, no_token}
use Rattle.kdl_syntax.proofs.Moving.Puts.{front_first, two_parts, two_some}
use Rattle.kdl_grammar.specs.Data.{Nodes}
use Rattle.kdl_grammar.specs.GoingOn.{BeginsNoOther, DerivedNode, NodeAlive, NodeDeadAtToken}
use Rattle.kdl_grammar.specs.Grammar.{AreNodes, last_gap, node_then, node_text}
use Rattle.kdl_syntax.specs.Control.{Control, at, step, finish}
use Rattle.kdl_syntax.specs.declared.control.{Spot.TheVariants.Fresh, Spot.TheVariants.Later, Frame.TheVariants.Dropped as DroppedBlock, Frame.TheVariants.Later as LaterBlock, Phase.Phase, Frame.Frame, Word.Word as ControlWord, Owner.Owner, Word.TheVariants.MayBeKey, Word.TheVariants.NoKey, Owner.TheVariants.Name as OfName, Owner.TheVariants.Value as OfValue}
use Rattle.kdl_syntax.specs.declared.control.Phase.TheVariants.{Gap, NodeSlashdash, TypeOpen, TypeName, TypeDone, InNode, Property, EntrySlashdash, BlockSlashdash, Kept, KeptSlashdash}
use Rattle.kdl_grammar.specs.Going.{Goes, here, goes}
use Rattle.kdl_grammar.specs.NodeControl.{NodeControl, in_text, node_step, node_finish, node_start, NodeReaches, NodeRefusesFront}
use Rattle.kdl_grammar.proofs.Reading.NodeComplete.{NodeGoes, and_then, lines_stay, at_end, at_close, Stands, between, in_open, kept_open, no_line, found_node, gap_only}
use Rattle.kdl_grammar.proofs.Reading.NodeSteps.{control_of, steps, refuses_two}
use Rattle.kdl_grammar.proofs.Reading.Refusing.{near_after}
use Rattle.kdl_grammar.proofs.Reading.Sound.{derives}
use Rattle.kdl_entry.proofs.Moving.TokenMoves.{Fits}
use Rattle.kdl_grammar.proofs.Reading.Viable.{Ends, at_gap, at_node, at_kept, closing_text, missing_text, a_word, no_right, no_close, worded, after_string, after_value, carry, reads}

-- it goes over the text, which may end there
pub record Passes (n : NodeControl) (s : Text) : Type 0 where
  pub last : NodeControl
  pub there : NodeGoes n s last []
  pub ends : node_finish last ≡ true

over : {n m : NodeControl} {s r : Text} {k : Token} → BeginsToken s k r → node_step n k ≡ Some m → Passes m r → Passes n s
over b e x = record { last = x.last; there = goes b e x.there; ends = x.ends }

ahead : {n m : NodeControl} {s r : Text} → NodeGoes n s m r → Passes m r → Passes n s
ahead g x = record { last = x.last; there = and_then g x.there; ends = x.ends }

-- what is left of such a text passes from where it is reached
follows : {n m l : NodeControl} {s r : Text} → NodeGoes n s m r → NodeGoes n s l [] → NodeGoes m r l []
follows here h = h
follows (goes b e g) here = absurd (no_token b)
follows {n = n} {l = l} (goes {c' = c} {k = k} b e g) (goes {c' = c''} {t = t} {k = j} b' e' h) =
    let x = token_det b b' in
    let same : c'' ≡ c = cc in
    follows g (subst (λ (z : Text). NodeGoes c z l []) (sym x.0) (subst (λ (z : NodeControl). NodeGoes z t l []) same h))

rest_passes : {n m : NodeControl} {s r : Text} → NodeGoes n s m r → Passes n s → Passes m r
rest_passes g x = record { last = x.last; there = follows g x.there; ends = x.ends }

-- where the node has ended only line-spaces are left
abbrev after_node : NodeControl
after_node = in_text true (at Gap [])

line_then : {s t : Text} {m : NodeControl} (k : Token) → BeginsToken s k t → node_step after_node k ≡ Some m → (m ≡ after_node → Star LineSpace t []) → Star LineSpace s []
line_then space (t_space n) e f = more (LineSpace.space n) (f cc)
line_then newline (t_newline n) e f = more (LineSpace.«break» n) (f cc)
line_then k b e f = absurd cc

only_lines : {n l : NodeControl} {s : Text} → n ≡ after_node → NodeGoes n s l [] → Star LineSpace s []
only_lines h here = no_star
only_lines h (goes {k = k} b e g) = line_then k b (ap (λ z. node_step z k) (sym h) ∙ e) (λ x. only_lines x g)

refuse_close : (q : Phase) {m : NodeControl} {k : Token} {r t : Text} → node_step (in_text true (at q [])) closing ≡ None → BeginsToken (125 ∷ r) k t → node_step (in_text true (at q [])) k ≡ Some m → ⊥
refuse_close q {k = k} h b e =
    let x : k ≡ closing = (token_det b t_closing).1 in
    let f = ap (node_step (in_text true (at q []))) (sym x) ∙ e in
    cc

pub lines_left : {l : NodeControl} {p : Phase} {s : Text} → Stands p s → NodeGoes (in_text true (at p [])) s l [] → Star LineSpace s []
lines_left between g = only_lines refl g
lines_left (in_open at_end) g = no_star
lines_left (kept_open at_end) g = no_star
lines_left (in_open {p = q} at_close) (goes b e g) = absurd (refuse_close (InNode q) refl b e)
lines_left (kept_open at_close) (goes b e g) = absurd (refuse_close Kept refl b e)

lines_pass : {p : Phase} {s : Text} → Stands p s → Star LineSpace s [] → Passes (in_text true (at p [])) s
lines_pass between ls = record { last = in_text true (at Gap []); there = lines_stay refl refl ls; ends = refl }
lines_pass (in_open {p = q} c) no_star = record { last = in_text true (at (InNode q) []); there = here; ends = refl }
lines_pass (kept_open c) no_star = record { last = in_text true (at Kept []); there = here; ends = refl }
lines_pass (in_open c) (more n m) = absurd (no_line c n)
lines_pass (kept_open c) (more n m) = absurd (no_line c n)

-- a node text is one that it passes
pub complete : {s : Text} → DerivedNode s → Passes node_start s
complete (x, node_text g n e ls) = let y = found_node g n e in ahead y.there (lines_pass y.stands ls)

forgotten : {n m : NodeControl} {s r : Text} → NodeGoes n s m r → Goes (control_of n) s (control_of m) r
forgotten here = here
forgotten (goes {c = c} {c' = d} {k = k} b e g) = goes b (steps c d k e) (forgotten g)

finished : (n : NodeControl) → node_finish n ≡ true → finish (control_of n) ≡ true
finished (in_text true c) e = e
finished (in_text false c) e = absurd cc

not_before : {s : Text} {c : NodeControl} → NodeGoes node_start s c [] → node_finish c ≡ false → Passes node_start s → ⊥
not_before {c = c} g f x = go (rest_passes g x)
  where
    go : Passes c [] → ⊥
    go y = last y.there y.ends
      where
        last : {l : NodeControl} → NodeGoes c [] l [] → node_finish l ≡ true → ⊥
        last here e = cc
        last (goes b e' g') e = no_token b

from_nodes : {s : Text} {xs : Nodes} → Passes node_start s → AreNodes true s [] xs → DerivedNode s
from_nodes x (last_gap g) = let y = gap_only g in absurd (not_before y.1 y.2 x)
from_nodes x (node_then {x = n} g d e ds) = let y = found_node g d e in (n, node_text g d e (lines_left y.stands (rest_passes y.there x).there))

pub sound : {s : Text} → Passes node_start s → DerivedNode s
sound x =
    let y = reads (forgotten x.there) done (finished x.last x.ends) in
    let z = derives y.lexed y.accepted in
    from_nodes x z.1

-- What ends a text: what is due, a `}` for each open block, and a node if it has not begun.
abbrev pub following : Bool → Text
following true = []
following false = 59 ∷ 97 ∷ []

abbrev pub begin : Bool → Text
begin true = []
begin false = 97 ∷ []

abbrev pub ending : Phase → List Frame → Bool → Text
ending Gap [] b = begin b
ending _ _ b = following b

abbrev pub closed_text : Phase → List Frame → Bool → Text
closed_text p fs b = closing_text fs ++ ending p fs b

abbrev pub out_text : Phase → List Frame → Bool → Text
out_text p fs b = missing_text p ++ closed_text p fs b

a_node : Passes (in_text false (at Gap [])) (97 ∷ [])
a_node = record { last = in_text true (at (InNode (Fresh NoKey)) []); there = goes (a_word [] refl) refl here; ends = refl }

ended : (b : Bool) {p : Phase} → node_step (in_text false (at p [])) semicolon ≡ Some (in_text false (at Gap [])) → finish (at p []) ≡ true → Passes (in_text b (at p [])) (following b)
ended true {p = p} e f = record { last = in_text true (at p []); there = here; ends = f }
ended false e f = over t_semicolon e a_node

closes : {p : Phase} → Ends p → (fs : List Frame) (b : Bool) → Passes (in_text b (at p fs)) (closed_text p fs b)
closes at_gap [] true = record { last = in_text true (at Gap []); there = here; ends = refl }
closes at_gap [] false = a_node
closes at_node [] b = ended b refl refl
closes at_kept [] b = ended b refl refl
closes at_gap (DroppedBlock ∷ fs) b = over t_closing refl (closes (at_node {p = Later}) fs b)
closes at_gap (f ∷ fs) b = over t_closing refl (closes at_kept fs b)
closes at_node (DroppedBlock ∷ fs) b = over t_closing refl (closes (at_node {p = Later}) fs b)
closes at_node (f ∷ fs) b = over t_closing refl (closes at_kept fs b)
closes at_kept (DroppedBlock ∷ fs) b = over t_closing refl (closes (at_node {p = Later}) fs b)
closes at_kept (f ∷ fs) b = over t_closing refl (closes at_kept fs b)

no_semicolon : is_identifier_char 59 ≡ false
unfolding is_identifier_char Rattle.kdl_text.specs.Chars.is_space Rattle.kdl_text.specs.Chars.is_newline_char Rattle.kdl_text.specs.Chars.is_banned Rattle.kdl_text.specs.Chars.is_punctuation
no_semicolon = refl

after_class : (fs : List Frame) (b : Bool) → starts is_identifier_char (closing_text fs ++ following b) ≡ false
after_class [] true = refl
after_class [] false = no_semicolon
after_class (f ∷ fs) b = no_close

after_quote : (fs : List Frame) (b : Bool) → begins 34 (closing_text fs ++ following b) ≡ false
after_quote [] true = refl
after_quote [] false = refl
after_quote (f ∷ fs) b = refl

after_feed : (fs : List Frame) (b : Bool) → begins 10 (closing_text fs ++ following b) ≡ false
after_feed [] true = refl
after_feed [] false = refl
after_feed (f ∷ fs) b = refl

-- from each state some text passes
named : (w : ControlWord) (fs : List Frame) (b : Bool) {n : NodeControl} → node_step n (string (97 ∷ [])) ≡ Some (in_text b (at (InNode (Fresh w)) fs)) → Passes n (97 ∷ (closing_text fs ++ following b))
named w fs b e = over (a_word (closing_text fs ++ following b) (after_class fs b)) e (closes (at_node {p = Fresh w}) fs b)

done_takes : (o : Owner) (fs : List Frame) (b : Bool) → node_step (in_text b (at (TypeDone o) fs)) (string (97 ∷ [])) ≡ Some (in_text b (at (InNode (Fresh NoKey)) fs))
done_takes OfName fs b = refl
done_takes OfValue fs b = refl

pub out : (p : Phase) (fs : List Frame) (b : Bool) → Passes (in_text b (at p fs)) (out_text p fs b)
out Gap fs b = closes at_gap fs b
out NodeSlashdash fs b = named NoKey fs b refl
out (TypeOpen o) fs b = over (a_word (41 ∷ 97 ∷ (closing_text fs ++ following b)) no_right) refl (over t_right refl (named NoKey fs b (done_takes o fs b)))
out (TypeName o) fs b = over t_right refl (named NoKey fs b (done_takes o fs b))
out (TypeDone o) fs b = named NoKey fs b (done_takes o fs b)
out (InNode p) fs b = closes (at_node {p = p}) fs b
out Property fs b = named NoKey fs b refl
out EntrySlashdash fs b = named MayBeKey fs b refl
out BlockSlashdash fs b = over t_opening refl (closes at_gap (DroppedBlock ∷ fs) b)
out Kept fs b = closes at_kept fs b
out KeptSlashdash fs b = over t_opening refl (closes at_gap (LaterBlock ∷ fs) b)

gap_feed : (fs : List Frame) (b : Bool) → begins 10 (closed_text Gap fs b) ≡ false
gap_feed [] true = refl
gap_feed [] false = refl
gap_feed (f ∷ fs) b = refl

out_feed : (p : Phase) (fs : List Frame) (b : Bool) → begins 10 (out_text p fs b) ≡ false
out_feed Gap fs b = gap_feed fs b
out_feed (InNode p) fs b = after_feed fs b
out_feed Kept fs b = after_feed fs b
out_feed p fs b = refl

word_fits : (p : Phase) (fs : List Frame) (b : Bool) → worded (at p fs) ≡ true → (starts is_identifier_char (out_text p fs b) ≡ false) × (begins 34 (out_text p fs b) ≡ false)
word_fits (InNode (Fresh w)) fs b e = (after_class fs b, after_quote fs b)
word_fits (TypeName o) fs b e = (no_right, refl)
word_fits p fs b e = absurd cc

out_fits : (c : Control) (k : Token) (p : Phase) (fs : List Frame) (b : Bool) → step c k ≡ Some (at p fs) → Fits k (out_text p fs b)
out_fits c (string v) p fs b e = word_fits p fs b (after_string c v (at p fs) e)
out_fits c (value v) p fs b e = (word_fits p fs b (after_value c v (at p fs) e)).0
out_fits c k p fs b e = tt

pub node_alive : NodeAlive
node_alive p r (in_text b (at q fs)) g =
    let u = out_text q fs b in
    let x = carry u (out_feed q fs b) (λ c k e. out_fits (control_of c) k q fs b (steps c (in_text b (at q fs)) k e)) g in
    let y = sound (ahead x.there (out q fs b)) in
    let same : x.at.piece ≡ p = append_cancel_right x.at.piece p r (sym (x.at.here ∙ x.at.text r)) in
    (x.glue ++ u, subst (λ (z : Text). DerivedNode z) (x.at.text (x.glue ++ u) ∙ ap (λ (z : Text). z ++ (x.glue ++ u)) same) y)

-- no text passes that begins with a front of refused tokens alone
refused : {n : NodeControl} (f u : Text) → f ≢ [] → NodeRefusesFront n f → Passes n (f ++ u) → ⊥
refused {n = n} f u some h x = go (f ++ u) refl x.there
  where
    go : (s : Text) → s ≡ f ++ u → {l : NodeControl} → NodeGoes n s l [] → ⊥
    go s e here = some (front_empty f u (sym e))
      where
        front_empty : (f u : Text) → f ++ u ≡ [] → f ≡ []
        front_empty [] u e = refl
        front_empty (c ∷ f) u e = cc
    go s e (goes {t = t} {k = k} b e' g) = let y = h u t k (subst (λ (z : Text). BeginsToken z k t) e b) in cc

pub node_dead_at_front : (p f r : Text) (n : NodeControl) → f ≢ [] → NodeReaches (p ++ (f ++ r)) n (f ++ r) → NodeRefusesFront n f → BeginsNoOther DerivedNode (p ++ f)
node_dead_at_front p f r n some g h u d =
    refused f u some h (rest_passes (near_after p (f ++ r) (f ++ u) (front_first f u r some) g) (complete (subst (λ (z : Text). DerivedNode z) (append_assoc p f u) d)))

pub node_dead_at_token : NodeDeadAtToken
node_dead_at_token p r s n k g b e =
    let (q, f) = two_parts r in
    let some : r ≢ [] = λ x. no_token (subst (λ (z : Text). BeginsToken z k s) x b) in
    node_dead_at_front p (take 2 r) q n (two_some r some) (subst (λ (z : Text). NodeReaches (p ++ z) n z) f g) (refuses_two n b e)
