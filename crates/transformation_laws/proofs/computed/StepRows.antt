-- A node that moves in a small cluster: what each command changes, and at which cuts. Each fact is computed.
use Rattle.std.specs.Prelude.{◌≡◌, pos, [], ◌∷◌, Some, None, refl}
use Rattle.cluster_terms.specs.Group.{is_chosen_rack, is_replica, place}
use Rattle.cluster_terms.specs.declared.replication.Replication.TheVariants.{Simple}
use Rattle.transformation_laws.proofs.computed.MovementRows.{moving_image}
use Rattle.transformation_laws.proofs.computed.Rows.{four_nodes_image}
use Rattle.transformations.specs.CutSteps.{ended_by}
use Rattle.transformations.specs.DeltaSteps.{with_delta, delta_of_command, no_change, no_changes}
use Rattle.transformations.specs.MovementDeltas.{placed_before, placed_with}
use Rattle.transformations.specs.History.{next_image}
use Rattle.transformations.specs.Rings.{cuts}
use Rattle.transformations.specs.Movements.{move_of}
use Rattle.transformations.specs.declared.command.Command.TheVariants.{Cancel, PrepareMove, Step}
use Rattle.transformations.specs.declared.sequence.Goal.TheVariants as goal
use Rattle.transformations.specs.declared.sequence.Kind.TheVariants.{Move}
use Rattle.transformations.specs.declared.sequence.Phase.{Phase}
use Rattle.transformations.specs.declared.sequence.Phase.TheVariants.{Prepared, Started, Mid}
use Rattle.transformations.specs.declared.sequence.SeqRow.{SeqRow}

-- nodes that a set loses go, and those that it gains come; a node that is there already stays once
pub set_changes : (with_delta (1 ∷ 3 ∷ 4 ∷ []) (record { gained = 2 ∷ []; lost = 1 ∷ [] }) ≡ 2 ∷ 3 ∷ 4 ∷ [])
    × (with_delta (1 ∷ 3 ∷ 4 ∷ []) (record { gained = 4 ∷ 5 ∷ []; lost = 2 ∷ [] }) ≡ 1 ∷ 3 ∷ 4 ∷ 5 ∷ [])
    × (with_delta (1 ∷ 3 ∷ []) no_change ≡ 1 ∷ 3 ∷ [])
set_changes = (refl, refl, refl)

-- node 2 moves from 100 to 250: with three replicas 1, 3 and 4 are placed at 150 before it, and 2, 3 and 4 with it
pub steps_of_move : (delta_of_command (moving_image Prepared) (Step goal.Start Move 2) (Simple 3) (pos 150) ≡ record { reads = no_change; writes = record { gained = 2 ∷ []; lost = [] } })
    × (delta_of_command (moving_image Started) (Step goal.Mid Move 2) (Simple 3) (pos 150) ≡ record { reads = record { gained = 2 ∷ []; lost = 1 ∷ [] }; writes = no_change })
    × (delta_of_command (moving_image Mid) (Step goal.Finish Move 2) (Simple 3) (pos 150) ≡ record { reads = no_change; writes = record { gained = []; lost = 1 ∷ [] } })
unfolding placed_before placed_with place is_replica is_chosen_rack
steps_of_move = (refl, refl, refl)

-- a cancel undoes the last step
pub cancels_of_move : (delta_of_command (moving_image Prepared) (Cancel 2) (Simple 3) (pos 150) ≡ no_changes)
    × (delta_of_command (moving_image Started) (Cancel 2) (Simple 3) (pos 150) ≡ record { reads = no_change; writes = record { gained = []; lost = 2 ∷ [] } })
    × (delta_of_command (moving_image Mid) (Cancel 2) (Simple 3) (pos 150) ≡ record { reads = record { gained = 1 ∷ []; lost = 2 ∷ [] }; writes = no_change })
unfolding placed_before placed_with place is_replica is_chosen_rack
cancels_of_move = (refl, refl, refl)

-- the new token is a cut from the prepare on, and the old one until the finish
pub cuts_of_move : (cuts (next_image four_nodes_image (PrepareMove 2 (pos 250))) ≡ pos 0 ∷ pos 100 ∷ pos 200 ∷ pos 250 ∷ pos 300 ∷ [])
    × (cuts (next_image (moving_image Started) (Step goal.Mid Move 2)) ≡ pos 0 ∷ pos 100 ∷ pos 200 ∷ pos 250 ∷ pos 300 ∷ [])
    × (cuts (next_image (moving_image Mid) (Step goal.Finish Move 2)) ≡ pos 0 ∷ pos 200 ∷ pos 250 ∷ pos 300 ∷ [])
    × (cuts (next_image (moving_image Started) (Cancel 2)) ≡ pos 0 ∷ pos 100 ∷ pos 200 ∷ pos 300 ∷ [])
unfolding next_image
cuts_of_move = (refl, refl, refl, refl)

-- the movement at a phase
abbrev moving_row : Phase → SeqRow
moving_row phase = (let row : SeqRow = move_of four_nodes_image.tokens 2 (pos 250) in let s : SeqRow = record row { phase = phase } in s)

-- a finish ends its movement, and so does a cancel before MID
pub ends_of_move : (ended_by (moving_image Mid) (Step goal.Finish Move 2) ≡ Some (moving_row Mid))
    × (ended_by (moving_image Started) (Cancel 2) ≡ Some (moving_row Started))
    × (ended_by (moving_image Mid) (Cancel 2) ≡ None)
    × (ended_by (moving_image Started) (Step goal.Mid Move 2) ≡ None)
ends_of_move = (refl, refl, refl, refl)
