-- The blocks that are due have the breaches that are still to be found.
use Rattle.std.proofs.Common.{◌≡◌, ℕ, zero, suc, ◌+◌, ◌<◌, ◌≤◌, ◌⊎◌, ◌↔◌, inl, inr, Bool, true, false, if◌then◌else◌, List, [], ◌∷◌, ◌++◌, map, flat_map, Option, Some, None, refl, ap, ◌∙◌, sym, subst, arith, slice_get}
use Rattle.std.specs.List.{Contains}
use Rattle.std.specs.Option.{option_map_or}
use Rattle.std.proofs.lemmas.List.{map-append}
use Rattle.std.proofs.lemmas.List.Elements.{Contains-append_left, Contains-append_right, Contains-append_cases}
use Rattle.std.proofs.lemmas.Option.{none-some}
use Rattle.kdl.specs.Internal.Count.{total, count_nodes, count_option}
use Rattle.kdl.specs.Words.{node_says, nodes_of}
use Rattle.kdl.specs.declared.document.KdlDocument.{KdlDocument}
use Rattle.kdl.specs.declared.node.KdlNode.{KdlNode, out-KdlNode}
use Rattle.kdl.proofs.NodeCounts.{count_doc_out, count_node_out, total-append}
use Rattle.use_files.specs.Breaches.{Block, BreachView, IsBreach, IsBreachIn, at, below, blocks_at, breaches_at, is_allowed, rule_of}
use Rattle.use_files.specs.declared.schema.Rule.{Rule}

-- an element of a list with one more
contains_first : {A : Type 0} (x : A) (xs : List A) → Contains (x ∷ xs) x
contains_first x xs = (0, omega arith, refl)

contains_later : {A : Type 0} (y : A) (xs : List A) (x : A) → Contains xs x → Contains (y ∷ xs) x
contains_later y xs x h = Contains-append_right (y ∷ []) xs x h

contains_cases : {A : Type 0} (y : A) (xs : List A) (x : A) → Contains (y ∷ xs) x → (y ≡ x) ⊎ Contains xs x
contains_cases y xs x (zero, b, e) = inl e
contains_cases y xs x (suc k, b, e) = inr (k, omega arith, e)

none_in_nil : {A : Type 0} (x : A) → Contains [] x → ⊥
none_in_nil x (k, b, e) = omega arith

-- the element of a list of one
only : {A : Type 0} (y x : A) → Contains (y ∷ []) x → y ≡ x
only y x h = elim (contains_cases y [] x h) [ inl e ↦ e | inr c ↦ absurd (none_in_nil x c) ]

-- an element of the list that an element is mapped to
contains_mapped : {A B : Type 0} (f : A → List B) (xs : List A) (x : A) (y : B) → Contains xs x → Contains (f x) y → Contains (flat_map f xs) y
contains_mapped f [] x y h k = absurd (none_in_nil x h)
contains_mapped {A} {B} f (z ∷ xs) x y h k = elim (contains_cases z xs x h) [
  | inl e ↦ Contains-append_left (f z) (flat_map f xs) y (subst (λ (w : A). Contains (f w) y) (sym e) k)
  | inr c ↦ Contains-append_right (f z) (flat_map f xs) y (contains_mapped f xs x y c k)
]

mapped_from : {A B : Type 0} (f : A → List B) (xs : List A) (y : B) → Contains (flat_map f xs) y → (x : A) × Contains xs x × Contains (f x) y
mapped_from f [] y h = absurd (none_in_nil y h)
mapped_from f (z ∷ xs) y h = elim (Contains-append_cases (f z) (flat_map f xs) y h) [
  | inl k ↦ (z, contains_first z xs, k)
  | inr k ↦ (let (x, c, d) = mapped_from f xs y k in (x, contains_later z xs x c, d))
]

-- a breach in one of the blocks
abbrev pub InBlocks : List Rule → List Block → BreachView → Type 0
InBlocks rules bs b = (x : Block) × Contains bs x × IsBreach rules x.above x.nodes b

-- the block of a node, by whether the node is allowed there, its rule and its children
abbrev blocks_of : Bool → Option Rule → Option KdlDocument → List Block
blocks_of m f c = if m then option_map_or (λ r. option_map_or (λ d. record { nodes = nodes_of d; above = r } ∷ []) c []) f [] else []

-- it is there, and where it is from
block_there : (rules : List Rule) (above r : Rule) (n : KdlNode) (d : KdlDocument) → is_allowed above (node_says n) ≡ true → rule_of rules (node_says n) ≡ Some r → (out-KdlNode n).children ≡ Some d
    → Contains (blocks_at rules above n) (record { nodes = nodes_of d; above = r })
block_there rules above r n d m f c = rw (m, f, c) (contains_first _ [])

pub record BlockFrom (rules : List Rule) (above : Rule) (n : KdlNode) (x : Block) : Type 0 where
  pub rule : Rule
  pub document : KdlDocument
  pub allowed : is_allowed above (node_says n) ≡ true
  pub found : rule_of rules (node_says n) ≡ Some rule
  pub children : (out-KdlNode n).children ≡ Some document
  pub is : record { nodes = nodes_of document; above = rule } ≡ x

block_from : (rules : List Rule) (above : Rule) (n : KdlNode) (x : Block) → Contains (blocks_at rules above n) x → BlockFrom rules above n x
block_from rules above n x = go (is_allowed above (node_says n)) (rule_of rules (node_says n)) (out-KdlNode n).children refl refl refl
  where
    go : (m : Bool) (f : Option Rule) (c : Option KdlDocument) → is_allowed above (node_says n) ≡ m → rule_of rules (node_says n) ≡ f → (out-KdlNode n).children ≡ c → Contains (blocks_of m f c) x → BlockFrom rules above n x
    go true (Some r) (Some d) m f c h = record { rule = r; document = d; allowed = m; found = f; children = c; is = only _ x h }
    go true (Some r) None m f c h = absurd (none_in_nil x h)
    go true None c m f e h = absurd (none_in_nil x h)
    go false f c m e k h = absurd (none_in_nil x h)

-- the breaches among nodes are those at the nodes, and those in their blocks
found_or_in : (rules : List Rule) (above : Rule) (ns : List KdlNode) (b : BreachView) → IsBreach rules above ns b → Contains (flat_map (breaches_at rules above) ns) b ⊎ InBlocks rules (flat_map (blocks_at rules above) ns) b
found_or_in rules above ns b (at {n = n} c h) = inl (contains_mapped (breaches_at rules above) ns n b c h)
found_or_in rules above ns b (below {r = r} {n = n} {d = d} c m f k i) =
    let x : Block = record { nodes = nodes_of d; above = r } in
    inr (x, contains_mapped (blocks_at rules above) ns n x c (block_there rules above r n d m f k), i)

is_breach : (rules : List Rule) (above : Rule) (ns : List KdlNode) (b : BreachView) → Contains (flat_map (breaches_at rules above) ns) b ⊎ InBlocks rules (flat_map (blocks_at rules above) ns) b → IsBreach rules above ns b
is_breach rules above ns b (inl h) = let (n, c, k) = mapped_from (breaches_at rules above) ns b h in at c k
is_breach rules above ns b (inr (x, h, i)) =
    let (n, c, k) = mapped_from (blocks_at rules above) ns x h in
    let f = block_from rules above n x k in
    below c f.allowed f.found f.children (subst (λ (y : Block). IsBreach rules y.above y.nodes b) (sym f.is) i)

-- what was found, and what is still in the blocks that are due, are the breaches in the document
abbrev pub IsComplete : List Rule → KdlDocument → List BreachView → List Block → Type 0
IsComplete rules d found due = (b : BreachView) → (Contains found b ⊎ InBlocks rules due b) ↔ IsBreachIn rules d b

-- at first nothing is found, and the document is due, where there is a rule for its top
pub first_due : (rules : List Rule) (top : Rule) (d : KdlDocument) (found : List BreachView) (due : List Block) → Some top ≡ slice_get rules 0 → found ≡ [] → due ≡ record { nodes = nodes_of d; above = top } ∷ []
    → IsComplete rules d found due
first_due [] top d found due e f g = absurd (none-some _ (sym e))
first_due (r ∷ rules) top d found due e f g = rw (f, g) (λ b. (forth b, λ i. inr (record { nodes = nodes_of d; above = top }, contains_first _ [], subst (λ (x : Rule). IsBreach (r ∷ rules) x (nodes_of d) b) (sym same) i)))
  where
    same : top ≡ r
    same = cc

    forth : (b : BreachView) → Contains [] b ⊎ InBlocks (r ∷ rules) (record { nodes = nodes_of d; above = top } ∷ []) b → IsBreach (r ∷ rules) r (nodes_of d) b
    forth b (inl h) = absurd (none_in_nil b h)
    forth b (inr (x, h, i)) =
        subst (λ (y : Rule). IsBreach (r ∷ rules) y (nodes_of d) b) same (subst (λ (y : Block). IsBreach (r ∷ rules) y.above y.nodes b) (sym (only _ x h)) i)

pub none_due : (rules : List Rule) (d : KdlDocument) (found : List BreachView) (due : List Block) → None ≡ slice_get rules 0 → found ≡ [] → due ≡ [] → IsComplete rules d found due
none_due (r ∷ rules) d found due e f g = absurd (none-some _ e)
none_due [] d found due e f g = rw (f, g) (λ b. (forth b, λ h. absurd h))
  where
    forth : (b : BreachView) → Contains [] b ⊎ InBlocks [] [] b → ⊥
    forth b (inl h) = none_in_nil b h
    forth b (inr (x, h, i)) = none_in_nil x h

-- the last block is checked, and the blocks in it are due in its place
pub next_due : (rules : List Rule) (d : KdlDocument) (found found' : List BreachView) (due ds due' : List Block) (x : Block) → due ≡ ds ++ (x ∷ [])
    → found' ≡ found ++ flat_map (breaches_at rules x.above) x.nodes → due' ≡ ds ++ flat_map (blocks_at rules x.above) x.nodes → IsComplete rules d found due → IsComplete rules d found' due'
next_due rules d found found' due ds due' x e f g h = rw (f, g) (λ b. (λ k. (h b).0 (back b k), λ i. forth b ((h b).1 i)))
  where
    last : Contains due x
    last = subst (λ (l : List Block). Contains l x) (sym e) (Contains-append_right ds (x ∷ []) x (contains_first x []))

    before : (y : Block) → Contains ds y → Contains due y
    before y c = subst (λ (l : List Block). Contains l y) (sym e) (Contains-append_left ds (x ∷ []) y c)

    back : (b : BreachView) → Contains (found ++ flat_map (breaches_at rules x.above) x.nodes) b ⊎ InBlocks rules (ds ++ flat_map (blocks_at rules x.above) x.nodes) b → Contains found b ⊎ InBlocks rules due b
    back b (inl k) = elim (Contains-append_cases found (flat_map (breaches_at rules x.above) x.nodes) b k) [
      | inl c ↦ inl c
      | inr c ↦ inr (x, last, is_breach rules x.above x.nodes b (inl c))
    ]
    back b (inr (y, k, i)) = elim (Contains-append_cases ds (flat_map (blocks_at rules x.above) x.nodes) y k) [
      | inl c ↦ inr (y, before y c, i)
      | inr c ↦ inr (x, last, is_breach rules x.above x.nodes b (inr (y, c, i)))
    ]

    checked : (b : BreachView) → Contains (flat_map (breaches_at rules x.above) x.nodes) b ⊎ InBlocks rules (flat_map (blocks_at rules x.above) x.nodes) b
        → Contains (found ++ flat_map (breaches_at rules x.above) x.nodes) b ⊎ InBlocks rules (ds ++ flat_map (blocks_at rules x.above) x.nodes) b
    checked b (inl c) = inl (Contains-append_right found _ b c)
    checked b (inr (y, c, i)) = inr (y, Contains-append_right ds _ y c, i)

    forth : (b : BreachView) → Contains found b ⊎ InBlocks rules due b → Contains (found ++ flat_map (breaches_at rules x.above) x.nodes) b ⊎ InBlocks rules (ds ++ flat_map (blocks_at rules x.above) x.nodes) b
    forth b (inl k) = inl (Contains-append_left found _ b k)
    forth b (inr (y, k, i)) = elim (Contains-append_cases ds (x ∷ []) y (subst (λ (l : List Block). Contains l y) e k)) [
      | inl c ↦ inr (y, Contains-append_left ds _ y c, i)
      | inr c ↦ checked b (found_or_in rules x.above x.nodes b (subst (λ (z : Block). IsBreach rules z.above z.nodes b) (sym (only x y c)) i))
    ]

-- how much is due: each block counts once, and so does each node and block in it
abbrev size : Block → ℕ
size x = 1 + count_nodes x.nodes

abbrev pub due_size : List Block → ℕ
due_size bs = total (map size bs)

due_size-append : (xs ys : List Block) → due_size (xs ++ ys) ≡ due_size xs + due_size ys
due_size-append xs ys = ap total (map-append size xs ys) ∙ total-append (map size xs) (map size ys)

block_within : (rules : List Rule) (above : Rule) (n : KdlNode) → due_size (blocks_at rules above n) ≤ count_option (out-KdlNode n).children
block_within rules above n = go (is_allowed above (node_says n)) (rule_of rules (node_says n)) (out-KdlNode n).children
  where
    go : (m : Bool) (f : Option Rule) (c : Option KdlDocument) → due_size (blocks_of m f c) ≤ count_option c
    go true (Some r) (Some d) = omega (arith, count_doc_out d)
    go true (Some r) None = omega arith
    go true None c = omega arith
    go false f c = omega arith

blocks_within : (rules : List Rule) (above : Rule) (ns : List KdlNode) → due_size (flat_map (blocks_at rules above) ns) ≤ count_nodes ns
blocks_within rules above [] = omega arith
blocks_within rules above (n ∷ ns) =
    omega (arith, due_size-append (blocks_at rules above n) (flat_map (blocks_at rules above) ns), block_within rules above n, blocks_within rules above ns, count_node_out n)

pub less_due : (rules : List Rule) (due ds due' : List Block) (x : Block) → due ≡ ds ++ (x ∷ []) → due' ≡ ds ++ flat_map (blocks_at rules x.above) x.nodes → due_size due' < due_size due
less_due rules due ds due' x e g =
    omega (arith, ap due_size e, ap due_size g, due_size-append ds (x ∷ []), due_size-append ds (flat_map (blocks_at rules x.above) x.nodes), blocks_within rules x.above x.nodes)
