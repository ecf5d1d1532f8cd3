-- Data that memory can hold.
use Rattle.std.specs.Prelude.{◌≡◌, true, Option, List, [], ◌∷◌, IfSome}
use Rattle.std.specs.List.{list_all}
use Rattle.kdl_text.specs.Chars.{Text, is_scalar}
use Rattle.kdl_value.specs.WellFormed.{IsWellFormed}
use Rattle.kdl_entry.specs.Data.{Entry}
use Rattle.kdl_grammar.specs.Data.{Node, node, Children, no_children, children, Nodes, none, first}

-- the text, if there is one, contains only Unicode scalar values
abbrev pub AreScalars : Option Text → Type 0
AreScalars o = IfSome o (λ s. list_all is_scalar s ≡ true)

-- an entry whose key, type and value memory can hold
abbrev pub IsWellFormedEntry : Entry → Type 0
IsWellFormedEntry e = AreScalars e.key × AreScalars e.ty × IsWellFormed e.value

-- entries whose keys, types and values memory can hold
abbrev pub AreWellFormedEntries : List Entry → Type 0
AreWellFormedEntries [] = Unit {0}
AreWellFormedEntries (e ∷ es) = IsWellFormedEntry e × AreWellFormedEntries es

-- nodes whose texts and values memory can hold, at every depth
abbrev mutual
  pub IsWellFormedNode : Node → Type 0
  IsWellFormedNode (node ty name es k) = AreScalars ty × (list_all is_scalar name ≡ true) × AreWellFormedEntries es × AreWellFormedChildren k

  pub AreWellFormedChildren : Children → Type 0
  AreWellFormedChildren no_children = Unit {0}
  AreWellFormedChildren (children ns) = AreWellFormed ns

  pub AreWellFormed : Nodes → Type 0
  AreWellFormed none = Unit {0}
  AreWellFormed (first n ns) = IsWellFormedNode n × AreWellFormed ns
