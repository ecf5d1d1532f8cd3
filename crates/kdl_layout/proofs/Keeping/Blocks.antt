-- The texts around the nodes of a block, which prints `{}` or begins with a newline.
use Rattle.kdl_layout.proofs.Common.{◌≡◌, ◌≢◌, ◌==◌, ◌&&◌, Bool, true, false, [], ◌∷◌, ◌++◌, refl, ap, ◌∙◌, list_all, ℕ, MatchBool, String, Global, text_of, Text, is_space, DocumentFormat, Node, Nodes, none, first, Item, Settings, indentation, in_braces, newline_if_none, newline_at_end, content_of, block_of, is_empty_block, subst, append-nil, List}
use Rattle.std.proofs.Common.{string_len}
use Rattle.kdl_layout.specs.Plain as plain'
use Rattle.kdl_layout.proofs.Texts.{empty_string}
use Rattle.kdl_layout.proofs.Keeping.GapFronts.{Front, newline, newline_if, joined, indented}

-- the block prints `{}`, or it does not
pub data Braces (ind : Text) : Bool → Nodes → Text → Text → DocumentFormat → Type 0 where
  together : Braces ind true none [] [] (record { leading = []; trailing = [] })
  apart : {compact : Bool} {ns : Nodes} {x y : Text} → Braces ind compact ns x y (in_braces ind (content_of compact ns x y))

pub block_texts : (compact : Bool) (ind : Text) (ns : Nodes) (x y : Text) → Braces ind compact ns x y (block_of compact ind ns x y)
block_texts true ind none [] [] = together
block_texts true ind none [] (c ∷ y) = apart
block_texts true ind none (c ∷ x) y = apart
block_texts true ind (first n ns) x y = apart
block_texts false ind ns x y = apart

-- no newline is in place of nodes where there are nodes
pub no_newline : (compact : Bool) (n : Node) (ns : Nodes) → newline_at_end compact (first n ns) ≡ []
no_newline true n ns = refl
no_newline false n ns = refl

-- the texts are the same around other nodes
pub end_same : (compact : Bool) (ns ms : Nodes) → newline_if_none ms ≡ newline_if_none ns → newline_at_end compact ms ≡ newline_at_end compact ns
end_same true ns ms e = refl
end_same false ns ms e = e

pub block_same : (compact : Bool) (ind : Text) (x y : Text) (ns ms : Nodes) → newline_if_none ms ≡ newline_if_none ns → block_of compact ind ms x y ≡ block_of compact ind ns x y
block_same false ind x y ns ms e = ap (λ (t : Text). in_braces ind (record { leading = x; trailing = y ++ t })) e
block_same true ind x y none none e = refl
block_same true ind x y (first n ns) (first m ms) e = refl
block_same true ind x y none (first m ms) e = absurd cc
block_same true ind x y (first n ns) none e = absurd cc

-- with the items of what is kept
pub record Fronts (f : DocumentFormat) (is js : List Item) : Type 0 where
  pub leading : Front f.leading is
  pub trailing : Front f.trailing js

pub block_fronts : (s : Settings) → list_all is_space s.indent ≡ true → (level : ℕ) {compact : Bool} {ns : Nodes} {x y : Text} {f : DocumentFormat} {is js : List Item} → Braces (indentation s level) compact ns x y f → Front x is → Front y js → Fronts f is js
block_fronts s ok level together f g = record { leading = f; trailing = g }
block_fronts s ok level {compact = compact} {ns = ns} {y = y} {js = js} apart f g = record {
  leading = joined newline f;
  trailing = subst (λ (l : List Item). Front ((y ++ newline_at_end compact ns) ++ indentation s level) l) (append-nil (js ++ []) ∙ append-nil js) (joined (joined g (newline_if compact ns)) (indented s ok level));
}

-- the texts of a block that prints `{}`, and of another one
blank : (a b : Bool) (x y : Text) → MatchBool a (x ≡ []) (x ≢ []) → MatchBool b (y ≡ []) (y ≢ []) → (a && b) ≡ is_empty_block true none x y
blank true true [] [] p q = refl
blank true true [] (c ∷ y) p q = absurd cc
blank true true (c ∷ x) y p q = absurd cc
blank true false [] [] p q = absurd (q refl)
blank true false [] (c ∷ y) p q = refl
blank true false (c ∷ x) y p q = absurd cc
blank false b [] y p q = absurd (p refl)
blank false b (c ∷ x) y p q = refl

pub empty_block_is : (compact last : Bool) (l t : String Global) (ns : Nodes) (x y : Text) → plain'.newline_if last ≡ newline_if_none ns → text_of l ≡ x → text_of t ≡ y ++ newline_at_end compact ns
    → (compact && last && (string_len l == 0) && (string_len t == 0)) ≡ is_empty_block compact ns x y
empty_block_is false last l t ns x y e a b = refl
empty_block_is true false l t none x y e a b = absurd cc
empty_block_is true false l t (first n ns) x y e a b = refl
empty_block_is true true l t (first n ns) x y e a b = absurd cc
empty_block_is true true l t none x y e a b =
    let z : text_of t ≡ y = b ∙ append-nil y in
    blank (string_len l == 0) (string_len t == 0) (text_of l) (text_of t) (empty_string _ l refl) (empty_string _ t refl) ∙ rw (a, z) refl

pub empty_texts : (compact : Bool) (ind : Text) (ns : Nodes) (x y : Text) → is_empty_block compact ns x y ≡ true → content_of compact ns x y ≡ block_of compact ind ns x y
empty_texts true ind none [] [] e = refl
empty_texts true ind none [] (c ∷ y) e = absurd cc
empty_texts true ind none (c ∷ x) y e = absurd cc
empty_texts true ind (first n ns) x y e = absurd cc
empty_texts false ind ns x y e = absurd cc

pub other_texts : (compact : Bool) (ind : Text) (ns : Nodes) (x y : Text) → is_empty_block compact ns x y ≡ false → in_braces ind (content_of compact ns x y) ≡ block_of compact ind ns x y
other_texts compact ind ns x y e = rw e refl
