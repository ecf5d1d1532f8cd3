-- The entry that a removal by name removes.
use Rattle.std.proofs.Common.{◌≡◌, List, [], ℕ, Option, Some, unwrap_or, ap, ◌∙◌}
use Rattle.std.proofs.lemmas.Option.{none-some}
use Rattle.std.specs.Prelude.{position}
use Rattle.kdl.specs.Words.{entries_of, entry_there, has_name, key_name, removed_place}
use Rattle.kdl.specs.declared.KdlEntry.{KdlEntry}
use Rattle.kdl.specs.declared.NodeKey.{NodeKey}
use Rattle.kdl.specs.declared.NodeKey.TheVariants.{Index, Key}
use Rattle.kdl.specs.declared.node.KdlNode.{KdlNode}

removed_named : (k : NodeKey) (s : List ℕ) (es : List KdlEntry) → key_name k ≡ Some s → removed_place k es ≡ position (has_name s) es
removed_named (Key w) s es h = ap (λ (o : Option (List ℕ)). position (has_name (unwrap_or o [])) es) h
removed_named (Index i) s es h = absurd (none-some s h)

pub removed_first : (k : NodeKey) (s : List ℕ) (n : KdlNode) (o : Option KdlEntry) → key_name k ≡ Some s → o ≡ entry_there (removed_place k (entries_of n)) n → o ≡ entry_there (position (has_name s) (entries_of n)) n
removed_first k s n o h e = e ∙ ap (λ p. entry_there p n) (removed_named k s (entries_of n) h)
