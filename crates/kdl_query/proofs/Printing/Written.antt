-- Tests, steps and selectors, written one after another.
use Rattle.std.proofs.Common.{◌≡◌, ℕ, ◌+◌, ◌<◌, List, [], ◌∷◌, ◌++◌, map, fold, length, take, get_or, encode_utf8_all, refl, sym, append-nil}
use Rattle.std.proofs.lemmas.Grind.{flat_map-append}
use Rattle.std.proofs.lemmas.List.{map-append, take_more}
use Rattle.std.proofs.lemmas.List.Sums.{fold-append}
use Rattle.std.proofs.lemmas.Str.{encodes-append}
use Rattle.std.specs.List.{flat_map}
use Rattle.kdl_text.specs.Chars.{Text}
use Rattle.kdl_query.specs.Data.{Selector}
use Rattle.kdl_query.specs.Printed.{print_selector, print_step}
use Rattle.kdl_query.specs.Tree.{node_test_says, step_says}
use Rattle.kdl_query.specs.declared.tree.Step.{Step}

-- one more piece
more_text : {A B : Type 0} (says : A → B) (print : B → Text) (xs : List A) (i : ℕ) (x : A) → i < length xs
    → flat_map print (map says (take (i + 1) xs)) ≡ flat_map print (map says (take i xs)) ++ print (says (get_or xs i x))
more_text says print xs i x h =
    let y = get_or xs i x in
    rw (take_more xs i x h, map-append says (take i xs) (y ∷ []), flat_map-append print (map says (take i xs)) (says y ∷ []), append-nil (print (says y))) refl

pub piece_written : {A B : Type 0} (says : A → B) (print : B → Text) (xs : List A) (i : ℕ) (x : A) → i < length xs → x ≡ get_or xs i x
    → encode_utf8_all (flat_map print (map says (take i xs))) ++ encode_utf8_all (print (says x)) ≡ encode_utf8_all (flat_map print (map says (take (i + 1) xs)))
piece_written says print xs i x h k =
    rw (more_text says print xs i x h, ← k) (sym (encodes-append (flat_map print (map says (take i xs))) (print (says x))))

-- one more step
more_steps : (s : Selector) (xs : List Step) (i : ℕ) (x : Step) → i < length xs
    → print_selector (fold step_says s (take (i + 1) xs)) ≡ print_selector (fold step_says s (take i xs)) ++ print_step (get_or xs i x).combinator (node_test_says (get_or xs i x).node)
more_steps s xs i x h =
    let y = get_or xs i x in
    rw (take_more xs i x h, fold-append step_says s (take i xs) (y ∷ [])) refl

pub step_written : (s : Selector) (xs : List Step) (i : ℕ) (x : Step) → i < length xs → x ≡ get_or xs i x
    → encode_utf8_all (print_selector (fold step_says s (take i xs))) ++ encode_utf8_all (print_step x.combinator (node_test_says x.node)) ≡ encode_utf8_all (print_selector (fold step_says s (take (i + 1) xs)))
step_written s xs i x h k =
    rw (more_steps s xs i x h, ← k) (sym (encodes-append (print_selector (fold step_says s (take i xs))) (print_step x.combinator (node_test_says x.node))))
