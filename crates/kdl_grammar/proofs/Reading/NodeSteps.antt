-- The steps of the control of a node text.
use Rattle.std.proofs.Common.{◌≡◌, Bool, true, false, [], take, Option, Some, None, refl, sym, ap, ◌∙◌}
use Rattle.kdl_text.specs.Chars.{Text}
use Rattle.kdl_syntax.specs.Tokens.{Token, space, string, value, BeginsToken}
use Rattle.kdl_syntax.proofs.Lexing.TokenFronts.{RefusedWith, refused_with}
use Rattle.kdl_syntax.specs.Control.{Control, at, step}
use Rattle.kdl_syntax.specs.declared.control.Phase.TheVariants.{Gap}
use Rattle.kdl_grammar.specs.NodeControl.{NodeControl, in_text, with_begun, between_nodes, node_step, NodeRefusesFront}
use Rattle.kdl_grammar.proofs.Reading.Refusing.{refused_too}

-- the control in it
abbrev pub control_of : NodeControl → Control
control_of (in_text b c) = c

-- between nodes with no block open, or elsewhere, where its step is that of a document's control
data Place (c : Control) : Type 0 where
  between : c ≡ at Gap [] → Place c
  elsewhere : ((b : Bool) (k : Token) → node_step (in_text b c) k ≡ with_begun b (step c k)) → Place c

place : (c : Control) → Place c
place (at Gap []) = between refl
place (at p fs) = elsewhere (λ b k. refl)

begun_some : (b : Bool) (o : Option Control) (d : NodeControl) → with_begun b o ≡ Some d → o ≡ Some (control_of d)
begun_some b None d e = absurd cc
begun_some b (Some c) (in_text b' d) e = cc

begun_none : (b : Bool) (o : Option Control) → with_begun b o ≡ None → o ≡ None
begun_none b None e = refl
begun_none b (Some c) e = absurd cc

between_step : (b : Bool) (k : Token) (d : NodeControl) → between_nodes b k ≡ Some d → step (at Gap []) k ≡ Some (control_of d)
between_step true space (in_text b d) e = cc
between_step false space (in_text b d) e = cc
between_step b k (in_text b' d) e = cc

-- each step is one of a document's control
pub steps : (c d : NodeControl) (k : Token) → node_step c k ≡ Some d → step (control_of c) k ≡ Some (control_of d)
steps (in_text b c) d k e = go (place c)
  where
    go : Place c → step c k ≡ Some (control_of d)
    go (between h) = ap (λ z. step z k) h ∙ between_step b k d (sym (ap (λ z. node_step (in_text b z) k) h) ∙ e)
    go (elsewhere h) = begun_some b (step c k) d (sym (h b k) ∙ e)

-- where a token is refused, those that begin alike are
between_too : (b : Bool) (k j : Token) → RefusedWith k j → between_nodes b k ≡ None → between_nodes b j ≡ None
between_too true (string v) (string w) a e = refl
between_too true (string v) (value w) a e = refl
between_too false (string v) j a e = absurd cc
between_too true (value v) (value w) a e = refl
between_too false (value v) (value w) a e = refl
between_too true (string v) _ a e = absurd a
between_too b (value v) _ a e = absurd a
between_too b k j a e = ap (between_nodes b) (sym a) ∙ e

pub also_refused : (n : NodeControl) (k j : Token) → RefusedWith k j → node_step n k ≡ None → node_step n j ≡ None
also_refused (in_text b c) k j a e = go (place c)
  where
    go : Place c → node_step (in_text b c) j ≡ None
    go (between h) = ap (λ z. node_step (in_text b z) j) h ∙ between_too b k j a (sym (ap (λ z. node_step (in_text b z) k) h) ∙ e)
    go (elsewhere h) = h b j ∙ ap (with_begun b) (refused_too c k j a (begun_none b (step c k) (sym (h b k) ∙ e)))

-- so are all tokens that begin with the first two characters of a refused one
pub refuses_two : {r s : Text} (n : NodeControl) {k : Token} → BeginsToken r k s → node_step n k ≡ None → NodeRefusesFront n (take 2 r)
refuses_two {r = r} n {k = k} b e u t j b' = also_refused n k j (refused_with r u b b') e
