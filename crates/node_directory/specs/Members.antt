-- The group that members stand for, which the contracts of `Members`, `Tally` and `shape_of` cite.
use Rattle.cluster_terms.specs.Group.{Group}
use Rattle.cluster_terms.specs.Replication.{whole_group, datacenter_group}
use Rattle.node_directory.specs.declared.members.Members.{Members}
use Rattle.node_directory.specs.declared.members.Members.TheVariants.{All, Datacenter}

-- the group of all nodes, counted as one rack, or of the nodes of a datacenter, with their racks
abbrev pub group_of : Members → Group
group_of (All rf) = whole_group rf
group_of (Datacenter dir name rf) = datacenter_group dir.now.rows (name.now, rf)
