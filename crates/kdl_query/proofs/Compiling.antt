-- The parts of a selector are those of its steps, one after another.
use Rattle.std.proofs.Common.{◌≡◌, List, [], ◌∷◌, ◌++◌, Some, None, false, length, map, nat_eq, refl, ap, ◌∙◌, sym}
use Rattle.std.specs.Prelude.{fold}
use Rattle.std.proofs.lemmas.List.{append_assoc, append-nil}
use Rattle.kdl_query.specs.Data.{NodeTest, Selector, then}
use Rattle.kdl_query.specs.Tree.{node_test_says, step_says}
use Rattle.kdl_query.specs.Internal.Parts.{PartSays, all_parts, entered, entered_part, fresh, next_of, part_says, parts_to, step_parts}
use Rattle.kdl_query.specs.declared.part.Part.{Part}
use Rattle.kdl_query.specs.declared.part.Link.TheVariants.{After}
use Rattle.kdl_query.specs.declared.tree.Combinator.{Combinator}
use Rattle.kdl_query.specs.declared.tree.Step.{Step}

all_then : (s : Selector) (c : Combinator) (t : NodeTest) (ts : List Step) → all_parts (fold step_says (then s c t) ts) ≡ parts_to None (fold step_says (then s c t) ts)
all_then s c t [] = refl
all_then s c t (u ∷ ts) = all_then (then s c t) u.combinator (node_test_says u.node) ts

parts_folded : (s : Selector) (ts : List Step) → parts_to None (fold step_says s ts) ≡ parts_to (next_of ts) s ++ step_parts ts
parts_folded s [] = sym (append-nil (parts_to None s))
parts_folded s (t ∷ ts) = parts_folded (step_says s t) ts ∙ append_assoc (parts_to (Some t.combinator) s) (fresh After (Some (node_test_says t.node)) (next_of ts) ∷ []) (step_parts ts)

all_folded : (s : Selector) (ts : List Step) → nat_eq (length ts) 0 ≡ false → all_parts (fold step_says s ts) ≡ parts_to (next_of ts) s ++ step_parts ts
all_folded s [] e = absurd (cc)
all_folded s (t ∷ ts) e = all_then s t.combinator (node_test_says t.node) ts ∙ parts_folded s (t ∷ ts)

pub all_pushed : (s : Selector) (us ts : List Step) (ps bs cs : List PartSays) → ts ≡ us → nat_eq (length ts) 0 ≡ false → bs ≡ ps ++ parts_to (next_of ts) s → cs ≡ bs ++ step_parts ts → cs ≡ ps ++ all_parts (fold step_says s us)
all_pushed s us ts ps bs cs w d e f =
    f ∙ ap (λ l. l ++ step_parts ts) e ∙ append_assoc ps (parts_to (next_of ts) s) (step_parts ts) ∙ ap (λ l. ps ++ l) (sym (all_folded s ts d)) ∙ ap (λ l. ps ++ all_parts (fold step_says s l)) w

pub entered_says : (ps : List Part) → map part_says (map entered_part ps) ≡ entered (map part_says ps)
entered_says [] = refl
entered_says (p ∷ ps) = ap (λ l. part_says (entered_part p) ∷ l) (entered_says ps)
