use Rattle.std.proofs.Common.{◌≡◌, ◌++◌, OnOk, Some, option_map, sym}
use Rattle.transformations.specs.declared.keyspace.KeyspaceRow.{KeyspaceRow}
use Rattle.placement_maps.specs.Served.{keyspace_of, served}
use Rattle.script_session.proofs.answers.LocalLemmas.{local_answered}
use Rattle.script_session.proofs.session.quorum_text.local_text.Goals as goal

pub returns-clause-added : goal.returns-clause-added
returns-clause-added c =
    let found : Some c.in-Some.replication.now ≡ option_map (λ (k : KeyspaceRow). k.replication) (keyspace_of c.args.metadata.now c.args.keyspace.now) = c.in-Some.ensures in
    let sets : Some (c.in-Some-replicas.reads.now, c.in-Some-replicas.writes.now) ≡ served c.args.metadata.now c.args.keyspace.now c.args.t = c.in-Some-replicas.ensures.sets in
    let named = rw c.in-Some-factors_naming.ensures.factors at c.local_sets_text.ensures.added in
    local_answered (λ l. OnOk c.local_sets_text.result (c.local_sets_text.new.out ≡ c.args.out.now ++ l)) c.args.metadata.now c.args.keyspace.now c.args.dc.now c.args.t _ _ _ found sets (sym c.in-Some-factors_naming.ensures.named) named
