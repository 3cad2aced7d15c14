use Rattle.std.proofs.Common.{◌≡◌, ◌++◌, OnOk, Some, option_map}
use Rattle.transformations.specs.declared.keyspace.KeyspaceRow.{KeyspaceRow}
use Rattle.placement_maps.specs.Maps.{placement_rows}
use Rattle.placement_maps.specs.Served.{keyspace_of}
use Rattle.script_session.proofs.answers.KeyspacePlacements.{place_answered}
use Rattle.script_session.proofs.session.place_text.placements_text.Goals as goal

pub returns-in-Some-clause-added : goal.returns-in-Some-clause-added
returns-in-Some-clause-added c =
    let image = c.args.metadata.now in
    let name = c.args.keyspace.now in
    let found : Some c.in-Some.map.now ≡ option_map (λ (k : KeyspaceRow). placement_rows image k.replication) (keyspace_of image name) = c.in-Some.ensures in
    let shown = rw c.epoch.ensures at c.place_text.ensures.added in
    place_answered (λ l. OnOk c.place_text.result (c.place_text.new.out ≡ c.args.out.now ++ l)) image name c.in-Some.map.now found shown
