use Rattle.std.proofs.Common.{◌≡◌, ◌++◌, flat_map, take}
use Rattle.transformations.specs.declared.keyspace.KeyspaceRow.{KeyspaceRow}
use Rattle.placement_maps.specs.Served.{keyspace_of}
use Rattle.script_session.specs.Machine.{placements}
use Rattle.tcm_session.proofs.files.report.places_text.Given as goal

-- the keyspaces so far are added
abbrev pub invariant-loop-keyspace : goal.invariant-loop-keyspace
invariant-loop-keyspace l =
    l.out ≡ l.fn.out ++ flat_map (λ (k : KeyspaceRow). placements l.metadata (keyspace_of l.metadata k.name)) (take l.keyspace-index l.metadata.keyspaces)
