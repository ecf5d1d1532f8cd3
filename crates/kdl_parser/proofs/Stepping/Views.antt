-- One more entry, one more node.
use Rattle.std.proofs.Common.{◌≡◌, List, [], ◌∷◌, ◌++◌, ◌==◌, ℕ, suc, map, length, true, false, Option, Some, None, refl, ap, sym, ◌∙◌}
use Rattle.std.proofs.lemmas.Bool.{eq-eqb, eqb-true}
use Rattle.kdl_text.specs.Chars.{Text}
use Rattle.kdl_entry.specs.Tree.{entry_tree}
use Rattle.kdl_entry.specs.declared.entry.KdlEntry.{KdlEntry}
use Rattle.kdl_entry.specs.Places.{between}
use Rattle.kdl_grammar.specs.Tree.{Node, Document, Nodes, none, first, join}
use Rattle.kdl_parser.specs.Internal.Parts.{nodes_tree}
use Rattle.kdl_grammar.specs.Internal.Machine as machine
use Rattle.kdl_parser.specs.Internal.Building.{level_view, stacked}
use Rattle.kdl_parser.specs.declared.builder.Under.{Under}

pub entry_pushed : (es : List KdlEntry) (e : KdlEntry) → map entry_tree (es ++ (e ∷ [])) ≡ map entry_tree es ++ (entry_tree e ∷ [])
entry_pushed [] e = refl
entry_pushed (x ∷ xs) e = ap (λ z. entry_tree x ∷ z) (entry_pushed xs e)

pub node_pushed : {N : Type 0} (tree : N → Node) (ns : List N) (n : N) → nodes_tree tree (ns ++ (n ∷ [])) ≡ join (nodes_tree tree ns) (first (tree n) none)
node_pushed tree [] n = refl
node_pushed tree (x ∷ xs) n = ap (first (tree x)) (node_pushed tree xs n)

-- one more open block is on top
stacked_pushed : {N : Type 0} (tree : N → Node) (acc : List machine.Frame) (fs : List (Under N)) (f : Under N) → stacked tree acc (fs ++ (f ∷ [])) ≡ level_view tree f ∷ stacked tree acc fs
stacked_pushed tree acc [] f = refl
stacked_pushed tree acc (g ∷ gs) f = stacked_pushed tree (level_view tree g ∷ acc) gs f

pub level_pushed : {N : Type 0} (tree : N → Node) (fs : List (Under N)) (f : Under N) → stacked tree [] (fs ++ (f ∷ [])) ≡ level_view tree f ∷ stacked tree [] fs
level_pushed tree fs f = stacked_pushed tree [] fs f

-- whether a block is open
under_one : {N : Type 0} (tree : N → Node) (whole from : Text) (l : Option Nodes) (x : machine.Frame) (acc : List machine.Frame) (fs : List (Under N)) → machine.at_end whole l (stacked tree (x ∷ acc) fs) from ≡ None
under_one tree whole from l x acc [] = refl
under_one tree whole from l x acc (g ∷ gs) = under_one tree whole from l (level_view tree g) (x ∷ acc) gs

pub one_open : {N : Type 0} (tree : N → Node) (whole from : Text) (l : Option Nodes) (fs : List (Under N)) (n : ℕ) → n ≡ length fs → false ≡ (n == 0) → machine.at_end whole l (stacked tree [] fs) from ≡ None
one_open tree whole from l [] n k e = let f = eq-eqb n 0 k in cc
one_open tree whole from l (g ∷ gs) n k e = under_one tree whole from l (level_view tree g) [] gs

none_open : {N : Type 0} (tree : N → Node) (fs : List (Under N)) (n : ℕ) → n ≡ length fs → true ≡ (n == 0) → stacked tree [] fs ≡ []
none_open tree [] n k e = refl
none_open tree (g ∷ gs) n k e = let z : suc (length gs) ≡ 0 = sym k ∙ eqb-true n 0 (sym e) in cc

-- the document of the nodes, where no block is open
pub all_closed : {N : Type 0} (tree : N → Node) (whole from end place : Text) (o : Option Nodes) (ns : Nodes) (fs : List (Under N)) (n : ℕ) (d : Document)
    → n ≡ length fs → true ≡ (n == 0) → o ≡ Some ns → d ≡ machine.content_at whole ns place end → place ≡ between from end → end ≡ [] → machine.at_end whole o (stacked tree [] fs) from ≡ Some d
all_closed tree whole from end place o ns fs n d z e f g h k =
    let x = none_open tree fs n z e in
    let y : machine.at_end whole (Some ns) [] from ≡ Some (machine.content_at whole ns (between from []) []) = refl in
    cc
