-- Sets of nodes, as the crates above cite them.
pub use Rattle.cluster_terms.specs.IdSets.{IsNodeSet, has_node, without, with_change}
