-- The orders in which an image keeps its rows.
use Rattle.std.specs.Ordering.{nat_cmp, int_cmp}
use Rattle.std.specs.Cmp.Lexicographic.{slice_cmp}
use Rattle.std.specs.declared.cmp.Ordering.{Ordering}
use Rattle.cluster_terms.specs.declared.token.Pair.{Pair}
use Rattle.transformations.specs.declared.keyspace.KeyspaceRow.{KeyspaceRow}
use Rattle.transformations.specs.declared.sequence.SeqRow.{SeqRow}

-- pairs by token
abbrev pub by_token : Pair → Pair → Ordering
by_token p q = int_cmp p.token q.token

-- keyspaces by the bytes of their names
abbrev pub by_name : KeyspaceRow → KeyspaceRow → Ordering
by_name k l = slice_cmp nat_cmp k.name l.name

-- movements by node
abbrev pub by_node : SeqRow → SeqRow → Ordering
by_node s q = nat_cmp s.node q.node
