use Rattle.std.proofs.Common.{take}
use Rattle.std.specs.List.{AllByRecursion}
use Rattle.cluster_terms.specs.Replication.{IsReplication}
use Rattle.cluster_metadata.proofs.metadata_parts.have_replications.Given as goal

-- the keyspaces before this one have replications
abbrev pub invariant-loop-row : goal.invariant-loop-row
invariant-loop-row l = AllByRecursion (λ k. IsReplication k.replication) (take l.row-index l.keyspaces)
