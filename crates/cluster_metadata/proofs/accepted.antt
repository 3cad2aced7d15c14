-- What accepted commands say of nodes and keyspaces, and the changes that they make.
pub mod ChangedNodes
pub mod KeyspaceLemmas
