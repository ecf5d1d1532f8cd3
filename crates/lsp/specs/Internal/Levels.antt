-- Where a writer of symbols is, whose lists of nodes are open.
use Rattle.std.specs.Prelude.{List, Option, None, Some, fold}
use Rattle.lsp.specs.Internal.Nesting.{Items, Members, Nesting}
use Rattle.lsp.specs.declared.symbols.Level.{Level}

-- in a list of nodes: an array, which for nodes of a block is in the object of their node
abbrev pub in_owner : {A : Type 0} → Nesting → Option A → Nesting
in_owner n None = Items n
in_owner n (Some owner) = Items (Members n)

abbrev pub in_level : Nesting → Level → Nesting
in_level n l = in_owner n l.owner

-- in lists, each in the one before it
abbrev pub in_levels : Nesting → List Level → Nesting
in_levels n ls = fold in_level n ls
