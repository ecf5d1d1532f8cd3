-- An accepted document is derived, and so is an accepted node text.
use Rattle.std.proofs.Common.{◌≡◌, true, List, [], ◌∷◌, Option, Some, None, option_map, refl, sym, ap, ◌∙◌}
use Rattle.kdl_text.specs.Chars.{Text}
use Rattle.kdl_syntax.specs.Tokens.{Token, Lexes, done, next}
use Rattle.kdl_syntax.specs.Control.{Control, at, step, accepts, held}
use Rattle.kdl_syntax.specs.declared.control.Phase.TheVariants.{Gap}
use Rattle.kdl_syntax.specs.NodeControl.{NodeControl, node_start, node_step}
use Rattle.kdl_diagnostics.specs.TextControl.{TextControl, in_document, in_node, text_step, text_finish, Takes, ends, takes, AcceptsDocument, no_bom, after_bom}
use Rattle.kdl_grammar.specs.Going.{here, goes}
use Rattle.kdl_grammar.specs.GoingOn.{Derived, DerivedNode}
use Rattle.kdl_grammar.specs.Grammar.{IsDocumentIn}
use Rattle.kdl_grammar.proofs.NodeTexts.{Passes, sound}
use Rattle.kdl_grammar.proofs.Reading.Sound.{derives}

stepped : {S : Type 0} (wrap : S → TextControl) (o : Option S) (d : TextControl) → option_map wrap o ≡ Some d → (c : S) × (o ≡ Some c) × (d ≡ wrap c)
stepped wrap None d e = absurd cc
stepped wrap (Some c) d e = (c, refl, cc)

-- the tokens of a document
lexed : {c : TextControl} {t : Text} → Takes c t → (m : Control) → c ≡ in_document m → (ks : List Token) × Lexes t ks × (accepts m ks ≡ true)
lexed (ends f) m q = ([], done, ap text_finish (sym q) ∙ f)
lexed (takes {d = d} {k = k} b e a) m q =
    let (m', f, g) = stepped in_document (step m k) d (ap (λ z. text_step z k) (sym q) ∙ e) in
    let (ks, l, h) = lexed a m' g in
    (k ∷ ks, next b l, ap (held (λ c'. accepts c' ks)) f ∙ h)

pub accepted_document : {t : Text} → AcceptsDocument t → Derived t
accepted_document (no_bom a) = let (ks, l, h) = lexed a (at Gap []) refl in let (xs, n) = derives l h in (xs, IsDocumentIn.no_bom n)
accepted_document (after_bom a) = let (ks, l, h) = lexed a (at Gap []) refl in let (xs, n) = derives l h in (xs, IsDocumentIn.after_bom n)

-- the tokens of a node text
over_node : {c : TextControl} {t : Text} → Takes c t → (m : NodeControl) → c ≡ in_node m → Passes m t
over_node (ends f) m q = record { last = m; there = here; ends = ap text_finish (sym q) ∙ f }
over_node (takes {d = d} {k = k} b e a) m q =
    let (m', f, g) = stepped in_node (node_step m k) d (ap (λ z. text_step z k) (sym q) ∙ e) in
    let x = over_node a m' g in
    record { last = x.last; there = goes b f x.there; ends = x.ends }

pub accepted_node : (t : Text) → Takes (in_node node_start) t → DerivedNode t
accepted_node t a = sound (over_node a node_start refl)
