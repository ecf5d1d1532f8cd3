-- Newlines at the ends of nodes.
pub mod NodeEnds
-- Nodes put among others: the trees, what is printed, and what is said.
pub mod Puts
-- Documents that read back, with a node put in or taken out.
pub mod PutReads
-- Documents that read back, with some of their nodes.
pub mod Retained
-- Documents and blocks that read back, with a node put in.
pub mod DocumentReads
-- Nodes that read back, with a child put into their block, or into a new one.
pub mod ChildReads
-- Fewer newlines at the ends of nodes, which do not do.
pub mod Fewest
-- Nodes put among others with the newlines that are lacking, and no more.
pub mod Exact
