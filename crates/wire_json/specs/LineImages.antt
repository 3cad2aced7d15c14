-- The images whose values fit a line.
use Rattle.std.specs.Prelude.{◌^◌, ◌<◌, IsTrue}
use Rattle.std.specs.List.{AllByRecursion}
use Rattle.cluster_terms.specs.Arc.{IsToken}
use Rattle.cluster_terms.specs.Name.{is_name}
use Rattle.cluster_terms.specs.Replication.{IsReplication}
use Rattle.cluster_terms.specs.declared.node.NodeRow.{NodeRow}
use Rattle.cluster_terms.specs.declared.token.Pair.{Pair}
use Rattle.transformations.specs.declared.image.Image.{Image}
use Rattle.transformations.specs.declared.keyspace.KeyspaceRow.{KeyspaceRow}
use Rattle.transformations.specs.declared.sequence.SeqRow.{SeqRow}
use Rattle.wire_json.specs.Entries.{IsNode}

-- the values of a pair are a token and a node
abbrev pub IsPair : Pair → Type 0
IsPair p = IsToken p.token × IsNode p.node

-- the values of a registered node are a node and names
abbrev pub IsNodeRow : NodeRow → Type 0
IsNodeRow row = IsNode row.id × IsTrue (is_name row.name) × IsTrue (is_name row.dc) × IsTrue (is_name row.rack)

-- the values of a keyspace are a name and a replication
abbrev pub IsKeyspaceRow : KeyspaceRow → Type 0
IsKeyspaceRow row = IsTrue (is_name row.name) × IsReplication row.replication

-- the values of a movement are a node and pairs
abbrev pub IsSeqRow : SeqRow → Type 0
IsSeqRow s = IsNode s.node × AllByRecursion IsPair s.out_pairs × AllByRecursion IsPair s.in_pairs

-- an image whose values fit a line. It needn't be valid
pub record FitsLine (image : Image) : Type 0 where
  pub epoch : image.epoch < 2 ^ 64
  pub next : image.next < 2 ^ 32
  pub nodes : AllByRecursion IsNodeRow image.nodes
  pub tokens : AllByRecursion IsPair image.tokens
  pub keyspaces : AllByRecursion IsKeyspaceRow image.keyspaces
  pub sequences : AllByRecursion IsSeqRow image.sequences
