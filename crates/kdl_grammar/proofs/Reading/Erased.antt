-- Without data and places the machine is the one that says which tokens may come; so what it returns is derived.
use Rattle.std.proofs.Common.{◌≡◌, true, List, [], ◌∷◌, Option, Some, None, option_map, refl, sym, ap, subst, ◌∙◌}
use Rattle.kdl_text.specs.Chars.{Text}
use Rattle.kdl_syntax.specs.Tokens.{Token, value, closing, bom, t_bom, Lexes, done, next}
use Rattle.kdl_syntax.proofs.Lexing.TokenUnique.{token_det}
use Rattle.kdl_grammar.specs.Data as data'
use Rattle.kdl_grammar.specs.Grammar.{AreNodes, IsDocument, IsDocumentIn}
use Rattle.kdl_grammar.specs.Laid.{LaidDocument, LaidDocumentAs, LaidContent, with_bom}
use Rattle.kdl_grammar.specs.Tree.{Document, Nodes, document_data}
use Rattle.kdl_grammar.specs.Internal.Machine.{pending, fresh, spaced, later, gap, type_done, in_node, kept, Frame, in_block, in_dropped, in_later, State, at, phase_of, popped, step, finish, initial, Runs, stops, reads, AnswersDocument}
use Rattle.kdl_syntax.specs.Control as c
use Rattle.kdl_syntax.specs.declared.control.{Frame.Frame as ControlFrame, Owner.TheVariants.Name as OfName}
use Rattle.kdl_syntax.specs.declared.control.Phase.TheVariants.{Gap}
use Rattle.kdl_syntax.specs.declared.control.Frame.TheVariants.{Node as NodeBlock, Dropped as DroppedBlock, Later as LaterBlock}
use Rattle.kdl_grammar.proofs.Reading.Complete.{runs_det, placed, built, bom_data}
use Rattle.kdl_grammar.proofs.Reading.Sound.{derives}

abbrev pub a_frame : Frame → ControlFrame
a_frame (in_block h q l) = NodeBlock
a_frame (in_dropped h l) = DroppedBlock
a_frame (in_later x l) = LaterBlock

abbrev pub a_stack : List Frame → List ControlFrame
a_stack [] = []
a_stack (f ∷ fs) = a_frame f ∷ a_stack fs

-- the state without data and places
abbrev pub a_state : State → c.Control
a_state (at p l fs from) = c.at (phase_of p) (a_stack fs)

module _ (whole : Text) where
  popped_is : (l : Option Nodes) (fs : List Frame) (from s r : Text) → c.popped (a_stack fs) ≡ option_map a_state (popped whole l fs from s r)
  popped_is l [] from s r = refl
  popped_is l (in_block h q m ∷ fs) from s r = refl
  popped_is l (in_dropped h m ∷ fs) from s r = refl
  popped_is l (in_later x m ∷ fs) from s r = refl

  -- a step of the one is a step of the other
  pub erased : (st : State) (k : Token) (s r : Text) → c.step (a_state st) k ≡ option_map a_state (step whole st k s r)
  erased (at gap l fs f) closing s r = popped_is l fs _ s r
  erased (at (kept x) l fs f) closing s r = popped_is _ fs _ s r
  erased (at (in_node h (fresh None)) l fs f) closing s r = popped_is _ fs _ s r
  erased (at (in_node h (fresh (Some (pending c k a)))) l fs f) closing s r = popped_is _ fs _ s r
  erased (at (in_node h (spaced None)) l fs f) closing s r = popped_is _ fs _ s r
  erased (at (in_node h (spaced (Some (pending c k a)))) l fs f) closing s r = popped_is _ fs _ s r
  erased (at (in_node h later) l fs f) closing s r = popped_is _ fs _ s r
  erased (at (type_done OfName c q y d a) l fs f) (value v) s r = refl
  erased (at p l fs f) closing s r = refl
  erased (at p l fs f) k s r = refl

  finished : (st : State) (x : Document) → finish whole st ≡ Some x → c.finish (a_state st) ≡ true
  finished (at gap l [] f) x e = refl
  finished (at (in_node h p) l [] f) x e = refl
  finished (at (kept y) l [] f) x e = refl
  finished _ x e = cc

  record Accepted (st : State) (s : Text) : Type 0 where
    tokens : List Token
    lexed : Lexes s tokens
    accepts : c.accepts (a_state st) tokens ≡ true

  accepted : {x : Document} {st : State} {s : Text} → Runs whole x st s → Accepted st s
  accepted {x = x} {st = st} (stops e) = record { tokens = []; lexed = done; accepts = finished st x e }
  accepted {st = st} {s = s} (reads {r = r} {k = k} t e a) =
      let b = accepted a in
      record { tokens = k ∷ b.tokens; lexed = next t b.lexed; accepts = ap (c.held (λ c'. c.accepts c' b.tokens)) (erased st k s r ∙ ap (option_map a_state) e) ∙ b.accepts }

  -- what the machine returns is laid in the text, and the text is derived with its data
  pub sound_runs : {d : Document} {s : Text} → Runs whole d (initial s) s → LaidContent true whole d s [] × AreNodes true s [] (document_data d)
  sound_runs {d = d} {s = s} a =
      let b = accepted a in
      let n = derives b.lexed b.accepts in
      let p = placed whole n.1 in
      let same = runs_det p.runs a in
      (subst (λ (z : Document). LaidContent true whole z s []) same p.laid, subst (λ (z : data'.Nodes). AreNodes true s [] z) (sym p.same ∙ ap document_data same) n.1)

  pub lexed_runs : {d : Document} {s : Text} → Runs whole d (initial s) s → (ks : List Token) × Lexes s ks
  lexed_runs a = let b = accepted a in (b.tokens, b.lexed)

-- nodes are cut into tokens that may come in this order
pub accepted_nodes : {s : Text} {x : data'.Nodes} → AreNodes true s [] x → (ks : List Token) × Lexes s ks × (c.accepts (c.at Gap []) ks ≡ true)
accepted_nodes {s = s} n = let a = accepted s (placed s n).runs in (a.tokens, a.lexed, a.accepts)

-- U+FEFF ends what the machine reads from between nodes
pub no_bom_here : {whole s : Text} {d : Document} {l : Option Nodes} {fs : List Frame} {from : Text} → Runs whole d (at gap l fs from) (0xFEFF ∷ s) → ⊥
no_bom_here {whole = whole} {s = s} {l = l} {fs = fs} {from = from} (reads {r = r} t e a) =
    let k = (token_det t t_bom).1 in
    let f = ap (λ (j : Token). step whole (at gap l fs from) j (0xFEFF ∷ s) r) (sym k) ∙ e in
    cc

-- the machine has one result at most
pub answers_det : {t : Text} {x y : Document} → AnswersDocument t x → AnswersDocument t y → x ≡ y
answers_det (AnswersDocument.no_bom a) (AnswersDocument.no_bom b) = runs_det a b
answers_det (AnswersDocument.after_bom a) (AnswersDocument.after_bom b) = ap with_bom (runs_det a b)
answers_det (AnswersDocument.no_bom a) (AnswersDocument.after_bom b) = absurd (no_bom_here a)
answers_det (AnswersDocument.after_bom a) (AnswersDocument.no_bom b) = absurd (no_bom_here b)

pub sound : (t : Text) (d : Document) → AnswersDocument t d → LaidDocument d t × IsDocument t (document_data d)
sound t d (AnswersDocument.no_bom a) = let p = sound_runs t a in (LaidDocumentAs.no_bom p.0, IsDocumentIn.no_bom p.1)
sound t d' (AnswersDocument.after_bom {t = s} {d = d} a) = let p = sound_runs t a in (LaidDocumentAs.after_bom p.0, subst (λ (z : data'.Nodes). IsDocument t z) (sym (bom_data d)) (IsDocumentIn.after_bom p.1))

pub answered : (t : Text) (x : data'.Nodes) → IsDocument t x → (d : Document) × AnswersDocument t d × (document_data d ≡ x)
answered t x i = let b = built i in (b.tree, b.answers, b.same)

-- no text is two documents
pub one_document : (t : Text) (x y : data'.Nodes) → IsDocument t x → IsDocument t y → x ≡ y
one_document t x y i j = let a = built i in let b = built j in sym a.same ∙ ap document_data (answers_det a.answers b.answers) ∙ b.same

-- a text that is derived is cut into tokens
pub lexed : (t : Text) (x : data'.Nodes) → IsDocument t x → (ks : List Token) × Lexes t ks
lexed t x i = go (built i).answers
  where
    go : {t : Text} {d : Document} → AnswersDocument t d → (ks : List Token) × Lexes t ks
    go (AnswersDocument.no_bom {t = t} a) = lexed_runs t a
    go (AnswersDocument.after_bom {t = s} a) = let b = lexed_runs (0xFEFF ∷ s) a in (bom ∷ b.0, next t_bom b.1)
