-- Nodes that end by themselves, since they end in `;` or a newline.
use Rattle.kdl_laws.proofs.Common.{◌≡◌, inl, inr, ℕ, [], ◌∷◌, ◌++◌, Option, Some, None, option_map, refl, ap, ◌∙◌, sym, subst, append-nil, Text, text_of, Anything, TextEnd, NodeReads, reads, NodeFormat, Head, node, Children, children_of, node_format_tree, KdlNodeFormat, node_format_of, NodeEnds, NodeReadsBack, document_tree, KdlNode, out-KdlNode, node_tree_out, EndsLine}
use Rattle.kdl_grammar.specs.Grammar.{Terminator}
use Rattle.kdl_grammar.specs.ReadsBack.{BeforeTerminator, EndReads, Terminates, terminator_text}
use Rattle.kdl_grammar.proofs.Moving.Moves.{terminator_end}
use Rattle.kdl_layout.proofs.Rewriting.BeforeNewlines.{a_newline}
use Rattle.kdl.proofs.Putting.PutReads.{place_moves}
use Rattle.kdl.specs.Tree.{head_tree}
use Rattle.kdl_laws.specs.Pushed.{IsLineEnded}

-- a terminator of one character, which ends a node before whatever follows
record Ends (c : ℕ) : Type 0 where
  always : (r : Text) → Terminator (c ∷ r) r

semicolon_ends : Ends 59
semicolon_ends = record { always = λ r. Terminator.semicolon }

newline_ends : Ends 10
newline_ends = record { always = λ r. Terminator.newline (a_newline r) }

end_moves : (c : ℕ) (k : Children) (f : NodeFormat) → Ends c → terminator_text f ≡ c ∷ [] → EndReads TextEnd k f → EndReads Anything k f
end_moves c k f x h end = record { place = λ r p t. at r t; terminator = subst (Terminates Anything) (sym h) (λ r s xs p z d. (r, x.always r, d)) }
  where
    alone : BeforeTerminator k (f.before_terminator ++ (c ∷ [])) (c ∷ [])
    alone =
        subst (λ (u : Text). BeforeTerminator k (f.before_terminator ++ (u ++ [])) (u ++ [])) h
        (end.place [] refl (subst (λ (u : Text). Terminator (u ++ []) []) (sym h) (x.always [])))

    at : (r : Text) {v : Text} → Terminator (terminator_text f ++ r) v → BeforeTerminator k (f.before_terminator ++ (terminator_text f ++ r)) (terminator_text f ++ r)
    at r t =
        subst (λ (u : Text). BeforeTerminator k (f.before_terminator ++ (u ++ r)) (u ++ r)) (sym h)
        (place_moves k f.before_terminator (c ∷ []) (c ∷ r) alone refl (terminator_end (x.always r)))

end_anywhere : (k : Children) (f : NodeFormat) → EndsLine (terminator_text f) → EndReads TextEnd k f → EndReads Anything k f
end_anywhere k f (inl e) end = end_moves 59 k f semicolon_ends e end
end_anywhere k f (inr e) end = end_moves 10 k f newline_ends e end

node_anywhere : (h : Head) (k : Children) (f : NodeFormat) → h.format ≡ Some f → EndsLine (terminator_text f) → NodeReads TextEnd (node h k) → NodeReads Anything (node h k)
node_anywhere h k f s e (reads {f = g} a head kids end) =
    let both : Some g ≡ Some f = sym a ∙ s in
    let same : g ≡ f = cc in
    reads a head kids (end_anywhere k g (subst (λ (x : NodeFormat). EndsLine (terminator_text x)) (sym same) e) end)

pub line_ends : (n : KdlNode) (f : KdlNodeFormat) → node_format_of n ≡ Some f → EndsLine (text_of f.terminator ++ text_of f.trailing) → NodeReadsBack n → NodeEnds n
line_ends n f s e x =
    let X = out-KdlNode n in
    let k = children_of (option_map document_tree X.children) in
    subst (NodeReads Anything) (sym (node_tree_out n)) (node_anywhere (head_tree X) k (node_format_tree f) (ap (option_map node_format_tree) s) e (subst (NodeReads TextEnd) (node_tree_out n) x))

-- a node that ends in `;` or a newline, with no text after it
ended_of : (n : KdlNode) (o : Option KdlNodeFormat) → node_format_of n ≡ o → IsLineEnded o → NodeReadsBack n → NodeEnds n
ended_of n None s h = absurd h
ended_of n (Some f) s h =
    let all : text_of f.terminator ++ text_of f.trailing ≡ text_of f.terminator = ap (λ (t : Text). text_of f.terminator ++ t) h.0 ∙ append-nil (text_of f.terminator) in
    line_ends n f s (subst EndsLine (sym all) h.1)

pub line_ended : (n : KdlNode) → IsLineEnded (node_format_of n) → NodeReadsBack n → NodeEnds n
line_ended n h = ended_of n (node_format_of n) refl h
