-- Copies say the same.
use Rattle.std.proofs.Common.{◌≡◌, List, [], ◌∷◌, map, fold, refl, ap, ◌∙◌}
use Rattle.std.specs.List.{AllZip}
use Rattle.kdl_query.specs.Data.{Selector}
use Rattle.kdl_query.specs.Tree.{node_test_says, step_says}
use Rattle.kdl_query.specs.declared.tree.Step.{Step}

-- one by one
pub copied : {A B : Type 0} (says : A → B) (xs ys : List A) → AllZip (λ x y. says y ≡ says x) xs ys → map says ys ≡ map says xs
copied says [] [] h = refl
copied says [] (y ∷ ys) h = absurd h
copied says (x ∷ xs) [] h = absurd h
copied says (x ∷ xs) (y ∷ ys) h = rw (h.0, copied says xs ys h.1) refl

pub steps_copied : (s : Selector) (xs ys : List Step) → AllZip (λ x y. (y.combinator ≡ x.combinator) × (node_test_says y.node ≡ node_test_says x.node)) xs ys → fold step_says s ys ≡ fold step_says s xs
steps_copied s [] [] h = refl
steps_copied s [] (y ∷ ys) h = absurd h
steps_copied s (x ∷ xs) [] h = absurd h
steps_copied s (x ∷ xs) (y ∷ ys) h = ap (λ t. fold step_says t ys) (rw (h.0.0, h.0.1) refl) ∙ steps_copied (step_says s x) xs ys h.1
