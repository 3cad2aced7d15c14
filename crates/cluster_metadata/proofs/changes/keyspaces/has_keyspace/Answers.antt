use Rattle.std.proofs.Common.{◌≡◌, Some, option_map, ap, sym, ◌∙◌}
use Rattle.cluster_terms.proofs.texts.ReplicationLemmas.{same_replication-exact}
use Rattle.cluster_terms.specs.declared.replication.Replication.{Replication}
use Rattle.transformations.specs.declared.keyspace.KeyspaceRow.{KeyspaceRow}
use Rattle.cluster_metadata.proofs.changes.keyspaces.has_keyspace.Goals as goal

pub returns-in-Some : goal.returns-in-Some
returns-in-Some c same =
    let exact : c.in-Some.row.now.replication ≡ c.args.replication.now = same_replication-exact c.in-Some.row.now.replication c.args.replication.now (sym c.same.ensures ∙ same) in
    ap (option_map (λ (row : KeyspaceRow). row.replication)) (sym c.in-Some.ensures) ∙ ap (λ (r : Replication). Some r) exact
