-- Values, as they are shown.
pub mod Values
-- The PATH of a node.
pub mod Names
-- Nodes, as a view shows them.
pub mod Nodes
-- What the code keeps between two nodes.
pub mod Internal
