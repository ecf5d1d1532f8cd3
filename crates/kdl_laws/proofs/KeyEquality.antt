-- What `==` of keys means, on what they look for.
use Rattle.kdl_laws.proofs.Common.{◌≡◌, Decides-eqb, Decides-like, Decides, identifier_decides, NodeKey, Key, Index}
use Rattle.kdl_parts.specs.EntryLists.{sought}
use Rattle.kdl_parts.specs.contracts.key.NodeKeyPartialEq.TheImpl as key_impl
use Rattle.kdl_laws.specs.Keys.{sought_anywhere}

-- keys are equal exactly where they look for the same, whatever the spans of their names
pub key_decides : (k l : NodeKey) → Decides (key_impl.ghosts.eq k l) (sought_anywhere (sought k) ≡ sought_anywhere (sought l))
key_decides (Key i) (Key j) = Decides-like _ (λ e. cc) (λ e. cc) (identifier_decides i j)
key_decides (Index m) (Index n) = Decides-like _ (λ e. cc) (λ e. cc) (Decides-eqb m n)
key_decides _ _ = (λ e. cc, λ e. cc)
