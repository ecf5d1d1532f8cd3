-- What a slashdash drops.

-- After a slashdash between nodes: what the control passes over is the dropped node.
pub mod DroppedNodes
-- What a slashdash drops in a place of a node, and where it ends.
pub mod DroppedParts
-- The loops that pass over what is dropped, token by token, and the texts that they cut out.
pub mod TokenLoop
-- Where the grammar derives a piece, the control goes on over it.
pub mod Paths
