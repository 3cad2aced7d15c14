-- The replications of keyspaces.
use Rattle.std.specs.Prelude.{not, List, [], ◌∷◌, filter}
use Rattle.cluster_terms.specs.Replication.{same_replication}
use Rattle.cluster_terms.specs.declared.replication.Replication.{Replication}
use Rattle.transformations.specs.declared.keyspace.KeyspaceRow.{KeyspaceRow}

-- the replications of these keyspaces, each once, in the order in which they first appear
abbrev pub replications_of : List KeyspaceRow → List Replication
replications_of [] = []
replications_of (k ∷ ks) = k.replication ∷ filter (λ r. not (same_replication k.replication r)) (replications_of ks)
