-- What is shown of the nodes at paths.
use Rattle.std.proofs.Common.{◌≡◌, ℕ, suc, List, [], ◌∷◌, ◌++◌, Option, Some, decimal, length, map, refl, ap, ◌∙◌, sym}
use Rattle.std.proofs.lemmas.List.{length-map}
use Rattle.std.specs.List.{flat_map}
use Rattle.std.specs.Option.{option_map_or}
use Rattle.kdl.specs.Words.{Nodes, document_says}
use Rattle.kdl.specs.declared.document.KdlDocument.{KdlDocument}
use Rattle.kdl.specs.declared.node.KdlNode.{KdlNode}
use Rattle.kdl_query.specs.Held.{held_at}
use Rattle.kdl_query.specs.Selects.{Path}
use Rattle.kdl_query.specs.Turns.{paths_from, turned}
use Rattle.kdl_query.specs.declared.find.Turn.{Turn}
use Rattle.cli_shown.specs.Nodes.{node_shown, part_shown, shown, shown_at}
use Rattle.cli_shown.specs.declared.nodes.View.{View}
use Rattle.cli_shown.specs.declared.nodes.View.TheVariants.{Text, Raw, Json, Count, Paths}

-- as many nodes as paths
pub as_many : (F : Path → Option KdlNode) (ps : List Path) (ns : List KdlNode) → map F ps ≡ map Some ns → length ns ≡ length ps
as_many F ps ns e = sym (length-map ns Some) ∙ ap length (sym e) ∙ length-map ps F

-- as many paths as turns
pub paths_counted : (p : Path) (ts : List Turn) → length (paths_from p ts) ≡ length ts
paths_counted p [] = refl
paths_counted p (t ∷ ts) = ap suc (paths_counted (turned p t) ts)

-- a view other than that of PATHs shows the same of a node at each path
part_is : (v : View) → (v ≡ Paths → ⊥) → (x : Nodes) (p : Path) (n : KdlNode) → part_shown v n ≡ node_shown v x p n
part_is Text other x p n = refl
part_is Raw other x p n = refl
part_is Json other x p n = refl
part_is Count other x p n = refl
part_is Paths other x p n = absurd (other refl)

lines_are : (v : View) → (v ≡ Paths → ⊥) → (d : KdlDocument) (ps : List Path) (ns : List KdlNode) → map (λ p. held_at p d) ps ≡ map Some ns → flat_map (part_shown v) ns ≡ flat_map (shown_at v d) ps
lines_are v other d [] [] e = refl
lines_are v other d [] (n ∷ ns) e = absurd cc
lines_are v other d (p ∷ ps) [] e = absurd cc
lines_are v other d (p ∷ ps) (n ∷ ns) e =
    let here : held_at p d ≡ Some n = cc in
    let rest : map (λ r. held_at r d) ps ≡ map Some ns = cc in
    ap (λ t. t ++ flat_map (part_shown v) ns) (part_is v other (document_says d) p n ∙ ap (λ o. option_map_or (node_shown v (document_says d) p) o []) (sym here))
    ∙ ap (λ t. shown_at v d p ++ t) (lines_are v other d ps ns rest)

-- the number of the nodes, where a number is shown
pub number_shown : (v : View) → v ≡ Count → (k : ℕ) (ns : List KdlNode) → k ≡ length ns → (t : List ℕ) → t ≡ decimal k ++ (10 ∷ []) → (d : KdlDocument) (ps : List Path) → map (λ p. held_at p d) ps ≡ map Some ns → t ≡ shown v d ps
number_shown v is k ns many t h d ps e = h ∙ ap (λ n. decimal n ++ (10 ∷ [])) (many ∙ as_many (λ p. held_at p d) ps ns e) ∙ ap (λ w. shown w d ps) (sym is)

-- the lines of the nodes, where no number is shown
pub lines_shown : (v : View) → (v ≡ Paths → ⊥) → (v ≡ Count → ⊥) → (ns : List KdlNode) (t : List ℕ) → t ≡ flat_map (part_shown v) ns → (d : KdlDocument) (ps : List Path) → map (λ p. held_at p d) ps ≡ map Some ns → t ≡ shown v d ps
lines_shown Text other c ns t h d ps e = h ∙ lines_are Text other d ps ns e
lines_shown Raw other c ns t h d ps e = h ∙ lines_are Raw other d ps ns e
lines_shown Json other c ns t h d ps e = h ∙ lines_are Json other d ps ns e
lines_shown Count other c ns t h d ps e = absurd (c refl)
lines_shown Paths other c ns t h d ps e = absurd (other refl)
