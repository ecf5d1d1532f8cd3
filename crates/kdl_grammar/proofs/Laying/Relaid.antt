-- A document is laid again, in the text that it prints, with heads of nodes that can be laid where the old ones are.
use Rattle.std.proofs.Common.{◌≡◌, Bool, true, false, List, [], ◌∷◌, ◌++◌, Option, option_map, refl, sym, subst}
use Rattle.kdl_text.specs.Chars.{Text}
use Rattle.kdl_text.specs.Internal.Here.{first as first_char}
use Rattle.kdl_text.specs.Trivia.{ValueEnd}
use Rattle.kdl_text.specs.declared.span.SourceSpan.{SourceSpan}
use Rattle.kdl_entry.specs.Places.{Is}
use Rattle.kdl_entry.specs.Print.{print_entry}
use Rattle.kdl_entry.specs.Laid.{LaidIdentifier, LaidType}
use Rattle.kdl_entry.specs.Tree.{Entry, without_span}
use Rattle.kdl_entry.proofs.Moving.EntryMoves.{move_identifier, move_laid_type, punctuation_end, is_move}
use Rattle.kdl_syntax.proofs.Moving.Puts.{same, same_piece}
use Rattle.kdl_entry.proofs.Laying.Respanned.{free_identifier, free_type, free_entry, same_identifier, same_type}
use Rattle.kdl_entry.proofs.Laying.EntryStands.{CanStand, entry_end}
use Rattle.kdl_grammar.specs.Edited.{EachNode, each_node, EachChildren, EachDocument, each_document, EachNodes}
use Rattle.kdl_grammar.specs.Laid.{LaidEntries, no_entry, an_entry, LaidNode, laid_node, LaidChildren, no_block, a_block, LaidNodes, no_node, a_node, LaidContent, without_nodes, with_nodes, LaidDocumentAs, with_bom}
use Rattle.kdl_grammar.specs.Print.{print_document}
use Rattle.kdl_grammar.specs.Tree.{NodeFormat, Head, Node, node, Children, Document, Nodes}
use Rattle.kdl_grammar.proofs.Laying.LaidPrints.{printed}
use Rattle.kdl_grammar.proofs.Moving.Moves.{MoveEnd, move_before, before_end, move_after, move_gap, move_terminator, terminator_end}

is_move_end : {R : Text → Text → Type 0} {p s r : Text} (m : MoveEnd R s r) → Is R p s r → (u : Text) → first_char u ≡ first_char r → ValueEnd true u → Is R p (m.at.put u) u
is_move_end m d u e v = record { is = m.there u e v; text = same_piece _ m.at d.text u }

-- a text in which it is laid, and that begins like s
record Again (R : Text → Type 0) (s : Text) : Type 0 where
  text : Text
  laid : R text
  begins : first_char text ≡ first_char s

-- and where a value ends
record AtEnd (R : Text → Type 0) : Type 0 where
  text : Text
  laid : R text
  end : ValueEnd true text

-- entries that can come before every text with a value end
pub data AllStand : List Entry → Type 0 where
  none_stands : AllStand []
  one_stands : {e : Entry} {es : List Entry} → CanStand e → AllStand es → AllStand (e ∷ es)

-- a head that can be laid where h is
pub record CanReplace (h h' : Head) : Type 0 where
  pub ty : option_map without_span h.ty ≡ option_map without_span h'.ty
  pub name : without_span h.name ≡ without_span h'.name
  pub format : h.format ≡ h'.format
  pub entries : AllStand h'.entries

-- the parts of a head are laid
pub data LaidHead (exact : Bool) (whole : Text) (h : Head) : Type 0 where
  laid_head : {before after following s t u r : Text} → LaidType exact whole h.ty before after following s t → LaidIdentifier exact whole h.name t u → LaidEntries exact whole h.entries u r → LaidHead exact whole h

-- where a head is laid, a head of the relation with it can be laid
abbrev pub Replaces : (Head → Head → Type 0) → Type 0
Replaces R = (exact : Bool) (whole : Text) (h h' : Head) → LaidHead exact whole h → R h h' → CanReplace h h'

module _ (R : Head → Head → Type 0) (replaces : Replaces R) (exact : Bool) (whole other : Text) where
  relaid_entries : {es : List Entry} → AllStand es → (u : Text) → ValueEnd true u → AtEnd (λ t. LaidEntries false other es t u)
  relaid_entries none_stands u v = record { text = u; laid = no_entry; end = v }
  relaid_entries {es = e ∷ es} (one_stands f c) u v =
      let k = relaid_entries c u v in
      let x = f other k.text k.end in
      record { text = print_entry e ++ k.text; laid = an_entry x k.laid; end = entry_end x }

  mutual
    relaid_node : {q z w : Text} {at : SourceSpan} {x y : Node} {s r : Text} → LaidNode exact whole q z w at x s r → EachNode R x y → (u : Text) → first_char u ≡ first_char r → ValueEnd true u
        → Again (λ t. (at' : SourceSpan) × LaidNode false other q z w at' y t u) s
    relaid_node {q = q} {z = z} {w = w} (laid_node {ty = ty} {name = name} y i e k) (each_node {h = h} {h' = h'} {k' = k'} c d) u f v =
        let x = replaces exact whole h h' (laid_head y i e) c in
        let K = relaid_children k d u f v in
        let E = relaid_entries x.entries K.text K.end in
        let I = move_identifier other (same_identifier other name h'.name x.name (free_identifier exact whole other i)) in
        let Y = move_laid_type other (same_type other ty h'.ty x.ty (free_type exact whole other y)) in
        let t = Y.at.put (I.at.put E.text) in
        let n = laid_node (Y.there (I.at.put E.text) (I.full E.text)) (I.there E.text E.end) E.laid K.laid in
        record {
          text = t;
          laid = (h'.span, subst (λ (g : Option NodeFormat). LaidNode false other q z w h'.span (node (record h' { format = g }) k') t u) x.format n);
          begins = same Y.at (I.at.put E.text) (I.full E.text);
        }

    relaid_children : {b l : Text} {k k' : Children} {s r : Text} → LaidChildren exact whole k b l s r → EachChildren R k k' → (u : Text) → first_char u ≡ first_char r → ValueEnd true u → AtEnd (λ t. LaidChildren false other k' b l t u)
    relaid_children (no_block c) EachChildren.without_block u h v =
        let m = move_before c.is in
        let x = is_move_end m c u h v in
        record { text = m.at.put u; laid = no_block x; end = before_end x.is v }
    relaid_children (a_block c d l) (EachChildren.with_block e) u h v =
        let a = move_after l.is in
        let D = relaid_content d e (125 ∷ a.at.put u) refl in
        let m = move_before c.is in
        let x = is_move_end m c (123 ∷ D.text) refl (punctuation_end 123 refl) in
        record { text = m.at.put (123 ∷ D.text); laid = a_block x D.laid (is_move a l u h); end = before_end x.is (punctuation_end 123 refl) }

    relaid_nodes : {ns ms : Nodes} {s r : Text} → LaidNodes exact whole ns s r → EachNodes R ns ms → (u : Text) → first_char u ≡ first_char r → Again (λ t. LaidNodes false other ms t u) s
    relaid_nodes no_node EachNodes.last u h = record { text = u; laid = no_node; begins = h }
    relaid_nodes (a_node g x e z ns) (EachNodes.next d ds) u h =
        let N = relaid_nodes ns ds u h in
        let m = move_terminator e.is in
        let T = is_move m e N.text N.begins in
        let X = relaid_node x d (m.at.put N.text) (same m.at N.text N.begins) (terminator_end T.is) in
        let a = move_gap g.is in
        record { text = a.at.put X.text; laid = a_node (is_move a g X.text X.begins) X.laid.1 T tt N.laid; begins = same a.at X.text X.begins }

    relaid_content : {d d' : Document} {s r : Text} → LaidContent exact whole d s r → EachDocument R d d' → (u : Text) → first_char u ≡ first_char r → Again (λ t. LaidContent false other d' t u) s
    relaid_content (without_nodes g z) (each_document EachNodes.last) u h =
        let a = move_gap g.is in
        record { text = a.at.put u; laid = without_nodes (is_move a g u h) tt; begins = same a.at u h }
    relaid_content (with_nodes ns g z) (each_document (EachNodes.next d ds)) u h =
        let a = move_gap g.is in
        let N = relaid_nodes ns (EachNodes.next d ds) (a.at.put u) (same a.at u h) in
        record { text = N.text; laid = with_nodes N.laid (is_move a g u h) tt; begins = N.begins }

-- spans and the whole are free
module _ (whole other : Text) where
  free_entries : {es : List Entry} {s r : Text} → LaidEntries false whole es s r → LaidEntries false other es s r
  free_entries no_entry = no_entry
  free_entries (an_entry d ds) = an_entry (free_entry false whole other d) (free_entries ds)

  mutual
    free_node : {q z w : Text} {at : SourceSpan} {x : Node} {s r : Text} → LaidNode false whole q z w at x s r → LaidNode false other q z w at x s r
    free_node (laid_node y i e k) = laid_node (free_type false whole other y) (free_identifier false whole other i) (free_entries e) (free_children k)

    free_children : {b l : Text} {k : Children} {s r : Text} → LaidChildren false whole k b l s r → LaidChildren false other k b l s r
    free_children (no_block c) = no_block c
    free_children (a_block c d l) = a_block c (free_content d) l

    free_nodes : {ns : Nodes} {s r : Text} → LaidNodes false whole ns s r → LaidNodes false other ns s r
    free_nodes no_node = no_node
    free_nodes (a_node g x e z ns) = a_node g (free_node x) e tt (free_nodes ns)

    free_content : {d : Document} {s r : Text} → LaidContent false whole d s r → LaidContent false other d s r
    free_content (without_nodes g z) = without_nodes g tt
    free_content (with_nodes ns g z) = with_nodes (free_nodes ns) g tt

-- laid in some text
LaidSomewhere : Document → Type 0
LaidSomewhere d = (t : Text) × LaidDocumentAs false d t

module _ (R : Head → Head → Type 0) (replaces : Replaces R) where
  plain_again : {exact : Bool} {whole s : Text} {d d' : Document} → LaidContent exact whole d s [] → EachDocument R d d' → LaidSomewhere d'
  unfolding LaidSomewhere
  plain_again {exact = exact} {whole = whole} c e =
      let A = relaid_content R replaces exact whole [] c e [] refl in
      (A.text, LaidDocumentAs.no_bom (free_content [] A.text A.laid))

  bom_again : {exact : Bool} {whole s : Text} {d d' : Document} → LaidContent exact whole d s [] → EachDocument R (with_bom d) d' → LaidSomewhere d'
  unfolding LaidSomewhere
  bom_again {exact = exact} {whole = whole} (without_nodes g z) (each_document {at' = at} EachNodes.last) =
      let A = relaid_content R replaces exact whole [] (without_nodes g z) (each_document {at' = at} EachNodes.last) [] refl in
      (0xFEFF ∷ A.text, LaidDocumentAs.after_bom (free_content [] (0xFEFF ∷ A.text) A.laid))
  bom_again {exact = exact} {whole = whole} (with_nodes ns g z) (each_document {at' = at} (EachNodes.next d ds)) =
      let A = relaid_content R replaces exact whole [] (with_nodes ns g z) (each_document {at' = at} (EachNodes.next d ds)) [] refl in
      (0xFEFF ∷ A.text, LaidDocumentAs.after_bom (free_content [] (0xFEFF ∷ A.text) A.laid))

  pub relaid : (exact : Bool) (t : Text) (d d' : Document) → LaidDocumentAs exact d t → EachDocument R d d' → LaidDocumentAs false d' (print_document d' 0)
  unfolding LaidSomewhere
  relaid exact t d d' l e = let A = go l e in subst (λ (u : Text). LaidDocumentAs false d' u) (sym (printed false d' A.0 A.1)) A.1
    where
      go : {d : Document} {t : Text} → LaidDocumentAs exact d t → EachDocument R d d' → LaidSomewhere d'
      go (LaidDocumentAs.no_bom c) e = plain_again c e
      go (LaidDocumentAs.after_bom c) e = bom_again c e
