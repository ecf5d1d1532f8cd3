-- Nodes that are a whole text: a document with that node alone, and line-spaces after its terminator.
use Rattle.std.proofs.Common.{◌≡◌, ℕ, ◌-◌, length, true, false, List, [], ◌∷◌, Option, Some, Ok, Err, refl, sym, ap, subst, ◌∙◌, arith, append-nil}
use Rattle.std.specs.Str.{chars, IsUtf8}
use Rattle.kdl_text.specs.Chars.{Text, Star}
use Rattle.kdl_text.specs.Internal.Here.{Here}
use Rattle.kdl_text.specs.Spans.{bytes}
use Rattle.kdl_text.specs.Trivia.{LineSpace}
use Rattle.kdl_text.specs.declared.span.SourceSpan.{SourceSpan}
use Rattle.kdl_text.proofs.Looking.Texts.{chars_bytes}
use Rattle.kdl_entry.specs.Places.{span_of}
use Rattle.kdl_syntax.specs.declared.lexer.LexFailure.{LexFailure}
use Rattle.kdl_syntax.specs.declared.lexer.LexFailure.TheVariants.{Faulty, Memory}
use Rattle.kdl_grammar.specs.Data as data'
use Rattle.kdl_grammar.specs.Former.{IsFormerNodeText}
use Rattle.kdl_grammar.specs.Grammar.{IsNodeText}
use Rattle.kdl_grammar.specs.Laid.{LaidNode, laid_node, no_node, a_node, LaidContent, with_nodes, LaidNodeText, laid_node_text}
use Rattle.kdl_grammar.specs.Internal.Machine.{initial, Runs}
use Rattle.kdl_grammar.specs.Print.{format_of, trailing_text, print_node}
use Rattle.kdl_grammar.specs.Tree.{DocumentFormat, Node, Document, document, Nodes, none, first, node_data}
use Rattle.kdl_grammar.proofs.Reading.Complete.{runs_det, only_node}
use Rattle.kdl_grammar.proofs.Laying.LaidIsDerived.{node_text_of}
use Rattle.kdl_grammar.proofs.Reading.Erased.{sound_runs}
use Rattle.kdl_grammar.proofs.Laying.LaidPrints.{node_text_printed}
use Rattle.kdl_grammar.proofs.LawProofs.{one_node}
use Rattle.kdl_value.specs.Tree.{text_of}
use Rattle.kdl_parser.specs.Internal.Answered.{AnswersParts}
use Rattle.kdl_parser.specs.Internal.LineSpaces.{AreLineSpaces}
use Rattle.kdl_parser.specs.Internal.NodeText.{with_text_after, RunsOnText, RunsToNodes, NoNode}
use Rattle.kdl_parser.specs.Internal.Parts.{document_by, nodes_tree}
use Rattle.kdl_parser.specs.declared.node_parts.DocumentParts.{DocumentParts}
use Rattle.kdl_grammar.proofs.Moving.FormerIsPresent.{wider_node}

-- what the parts of a document are
abbrev nodes_in : Document → Nodes
nodes_in (document f at ns) = ns

-- on a node's text the machine returns one node, with line-spaces after it
one_there : (t : Text) (f : Option DocumentFormat) (ns : Nodes) (x : data'.Node) → RunsToNodes t f ns → IsNodeText t x → (n : Node) × (ns ≡ first n none) × Star LineSpace (trailing_text f) []
one_there t f ns x (at, a) i =
    let o = only_node i in
    let e = runs_det o.runs a in
    (o.tree, sym (ap nodes_in e), subst (λ (z : Text). Star LineSpace z []) (ap (λ (d : Document). trailing_text (format_of d)) e) o.line_spaces)

pub no_lines : (t : Text) (f : Option DocumentFormat) (ns : Nodes) → RunsToNodes t f ns → (Star LineSpace (trailing_text f) [] → ⊥) → (x : data'.Node) → IsNodeText t x → ⊥
no_lines t f ns a n x i = n (one_there t f ns x a i).2

-- the one node, laid as a text of its own
node_laid : {t q z w s r : Text} {at : SourceSpan} {n : Node} → (v : Text) (place : SourceSpan) → LaidNode true t q z w at n s r → LaidNode true t q z v place (with_text_after n v place) s r
node_laid v place (laid_node y i es k) = laid_node y i es k

text_laid : {t : Text} {f : Option DocumentFormat} {at : SourceSpan} {n : Node} → LaidContent true t (document f at (first n none)) t [] → Star LineSpace (trailing_text f) [] → LaidNodeText t (with_text_after n (trailing_text f) (span_of t t []))
text_laid {t = t} (with_nodes {trailing = w} {t = s} (a_node g x z l no_node) k y) ls =
    let e : s ≡ w = k.text ∙ append-nil w in
    laid_node_text g (node_laid w (span_of t t []) x) z (record { is = subst (λ (u : Text). Star LineSpace u []) (sym e) ls; text = k.text }) refl

whole_span : (bs : List ℕ) → IsUtf8 bs → span_of (chars bs) (chars bs) [] ≡ record { offset = 0; len = length bs }
unfolding span_of
whole_span bs v =
    let n : bytes (chars bs) - bytes (chars bs) ≡ 0 = omega arith in
    let m : bytes (chars bs) - 0 ≡ length bs = omega (arith, chars_bytes bs v) in
    ap (λ (k : ℕ). record { offset = k; len = bytes (chars bs) - 0 }) n ∙ ap (λ (k : ℕ). record { offset = 0; len = k }) m

is_alone : (bs : List ℕ) (f : Option DocumentFormat) (n : Node) → IsUtf8 bs → RunsToNodes (chars bs) f (first n none) → Star LineSpace (trailing_text f) []
    → LaidNodeText (chars bs) (with_text_after n (trailing_text f) (record { offset = 0; len = length bs }))
is_alone bs f n v (at, a) ls = subst (λ (p : SourceSpan). LaidNodeText (chars bs) (with_text_after n (trailing_text f) p)) (whole_span bs v) (text_laid (sound_runs (chars bs) a).0 ls)

-- what the text is, by the node that is laid in it
pub found : (t : Text) (n : Node) → LaidNodeText t n → IsNodeText t (node_data n)
found t n l = node_text_of true n t l

pub only : (t : Text) (n : Node) → LaidNodeText t n → (x : data'.Node) → IsNodeText t x → x ≡ node_data n
only t n l x i = one_node true t x (node_data n) i (found t n l)

pub prints : (t : Text) (n : Node) → LaidNodeText t n → print_node n 0 ≡ t
prints t n l = node_text_printed true n t l

pub former : (t : Text) (n : Node) → LaidNodeText t n → (x : data'.Node) → IsFormerNodeText t x → node_data n ≡ x
former t n l x i = sym (only t n l x (wider_node false i))

-- the nodes of a document
pub one_left : {N : Type 0} (ns ms : List N) (n : N) → ns ≡ n ∷ ms → length ns ≡ 1 → ns ≡ n ∷ []
one_left ns [] n e k = e
one_left ns (m ∷ ms) n e k = absurd (omega (arith, k, ap length e))

one_of : {N : Type 0} (tree : N → Node) (ns : List N) (m : Node) → nodes_tree tree ns ≡ first m none → (n : N) × (ns ≡ n ∷ [])
one_of tree [] m e = absurd cc
one_of tree (n ∷ []) m e = (n, refl)
one_of tree (n ∷ k ∷ ns) m e = absurd cc

-- where they are not one, the text is not a node
pub not_one : {N : Type 0} (tree : N → Node) (t : Text) (d : DocumentParts N) → RunsOnText t (document_by tree d) → ((n : N) → d.nodes.items ≡ n ∷ [] → ⊥) → NoNode t Faulty
not_one tree t d a n x i =
    let (m, e, ls) = one_there t (Some (record { leading = text_of d.leading; trailing = text_of d.trailing })) (nodes_tree tree d.nodes.items) x (d.span, a) i in
    let (k, f) = one_of tree d.nodes.items m e in
    n k f

pub one_read : {N : Type 0} (tree : N → Node) (t : Text) (d : DocumentParts N) (n : N) → RunsOnText t (document_by tree d) → d.nodes.items ≡ n ∷ []
    → (leading : Text) × RunsToNodes t (Some (record { leading = leading; trailing = text_of d.trailing })) (first (tree n) none)
one_read tree t d n a e =
    (text_of d.leading, subst (λ z. RunsToNodes t (Some (record { leading = text_of d.leading; trailing = text_of d.trailing })) (nodes_tree tree z)) e (d.span, a))

-- the one node, with the text after it
pub laid_there : (bs : List ℕ) (u : Text) (f : Option DocumentFormat) (n m : Node) → IsUtf8 bs → RunsToNodes (chars bs) f (first n none) → u ≡ trailing_text f → Star LineSpace u []
    → m ≡ with_text_after n (trailing_text f) (record { offset = 0; len = length bs }) → LaidNodeText (chars bs) m
laid_there bs u f n m v a e ls h = subst (λ (z : Node). LaidNodeText (chars bs) z) (sym h) (is_alone bs f n v a (subst (λ (z : Text). Star LineSpace z []) e ls))

pub none_there : (t u : Text) (f : Option DocumentFormat) (n : Node) (e : LexFailure) → RunsToNodes t f (first n none) → u ≡ trailing_text f → AreLineSpaces u (Err e) → NoNode t e
none_there t u f n Faulty a e x = no_lines t f (first n none) a (λ ls. x (subst (λ (z : Text). Star LineSpace z []) (sym e) ls))
none_there t u f n Memory a e x = tt

-- the builder's result on the whole text
pub whole_read : {N : Type 0} (tree : N → Node) (t : Text) (l : Here) (d : DocumentParts N) → l.text ≡ t → l.rest ≡ t → AnswersParts tree l.text l.rest (Ok d) → RunsOnText t (document_by tree d)
whole_read tree t l d e f a = subst (λ (z : Text). Runs z (document_by tree d) (initial t) t) e (subst (λ (z : Text). Runs l.text (document_by tree d) (initial z) z) f a)

pub nothing_read : {N : Type 0} (tree : N → Node) (t : Text) (l : Here) (e : LexFailure) → l.text ≡ t → l.rest ≡ t → AnswersParts tree l.text l.rest (Err e) → NoNode t e
nothing_read tree t l Faulty p q a =
    let b : AnswersParts tree t t (Err Faulty) = subst (λ (z : Text). AnswersParts tree z t (Err Faulty)) p (subst (λ (z : Text). AnswersParts tree l.text z (Err Faulty)) q a) in
    λ x i. let o = only_node i in b (document (Some (record { leading = []; trailing = o.trailing })) o.span (first o.tree none)) o.runs
nothing_read tree t l Memory p q a = tt
