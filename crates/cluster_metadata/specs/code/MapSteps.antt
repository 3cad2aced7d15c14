-- How changes move the placements, and the maps that they bring.
use Rattle.std.specs.Prelude.{List}
use Rattle.transformations.specs.DeltaSteps.{cancel_delta, step_delta}
use Rattle.transformations.specs.declared.image.Image.{Image}
use Rattle.transformations.specs.declared.sequence.Goal.TheVariants as goal
use Rattle.transformations.specs.declared.sequence.Phase.TheVariants as phase
use Rattle.cluster_metadata.specs.code.Change.{changed}
use Rattle.cluster_metadata.specs.declared.changes.change.Change.{Change}
use Rattle.cluster_metadata.specs.declared.changes.change.Change.TheVariants.{Registered, Unregistered, Begun, Started, Mid, Finished, Ended, BroughtBack}
use Rattle.placement_maps.specs.code.ShownMaps.{AreMaps}
use Rattle.placement_maps.specs.declared.map_change.MapChange.{MapChange}
use Rattle.range_placements.specs.declared.map_row.MapRow.{MapRow}
use Rattle.placement_maps.specs.code.Moves.{MovesAt, MovesBy, MovesOf, Stays, no_deltas}
use Rattle.placement_maps.specs.code.MapChanges.{maps_after}

-- how a change moves the placements; a change of nodes, a start, a step half way and a cancel half way keep the cuts
abbrev pub MapSteps : Image → Change → Type 0
MapSteps image (Registered node) = Stays image (changed image (Registered node))
MapSteps image (Unregistered n) = Stays image (changed image (Unregistered n))
MapSteps image (Begun at plan after) = MovesBy image (changed image (Begun at plan after)) no_deltas
MapSteps image (Started at) = MovesAt image (changed image (Started at)) at (step_delta goal.Start)
MapSteps image (Mid at) = MovesAt image (changed image (Mid at)) at (step_delta goal.Mid)
MapSteps image (BroughtBack at) = MovesAt image (changed image (BroughtBack at)) at (cancel_delta phase.Mid)
MapSteps image (Finished at left tokens) = MovesOf image (changed image (Finished at left tokens)) at (λ s. step_delta goal.Finish)
MapSteps image (Ended at) = MovesOf image (changed image (Ended at)) at (λ s. cancel_delta s.phase)
MapSteps image _ = Unit {0}

-- the maps of the image before a change become those of the image after it
abbrev pub BringsMaps : Image → Change → MapChange → Type 0
BringsMaps image change maps = (book : List MapRow) → AreMaps image book → AreMaps (changed image change) (maps_after maps book)
