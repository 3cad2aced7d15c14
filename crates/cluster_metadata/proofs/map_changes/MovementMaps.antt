-- The placement maps after the steps of a movement, by the deltas of its plan.
use Rattle.std.proofs.Common.{◌≡◌, ℕ, suc, zero, ◌<◌, false, ℤ, List, [], ◌∷◌, length, get_or, Some, sym, ap, subst, arith}
use Rattle.std.specs.List.{AllByRecursion, slice_get}
use Rattle.cluster_terms.specs.Arc.{IsToken}
use Rattle.cluster_terms.specs.Row.{rows_between}
use Rattle.cluster_terms.specs.declared.replication.Replication.{Replication}
use Rattle.placement_deltas.specs.declared.delta_book.DeltaBookRow.{DeltaBookRow}
use Rattle.placement_deltas.specs.declared.plan.Plan.{Plan}
use Rattle.range_placements.specs.declared.row_changes.RowChange.{RowChange}
use Rattle.placement_deltas.specs.ExactDeltas.{AreDeltas, gained_by, lost_by, no_nodes}
use Rattle.sequence_plans.specs.PlanDeltas.{HasDeltas}
use Rattle.placement_deltas.specs.Replications.{replications_of}
use Rattle.transformations.specs.DeltaSteps.{PlacementDelta, cancel_delta, step_delta}
use Rattle.transformations.specs.MovementDeltas.{placed_before, placed_with}
use Rattle.transformations.specs.Rings.{cuts, is_mid}
use Rattle.transformations.specs.declared.image.Image.{Image}
use Rattle.transformations.specs.declared.sequence.Goal.TheVariants as goal
use Rattle.transformations.specs.declared.sequence.Phase.TheVariants as phase
use Rattle.transformations.specs.declared.sequence.SeqRow.{SeqRow}
use Rattle.placement_maps.proofs.EditedMaps.{RecutsAll}
use Rattle.placement_maps.proofs.ExchangedMaps.{same_count}
use Rattle.cluster_metadata.proofs.in_flight.RunningLemmas.{place_within, value_at}
use Rattle.placement_maps.specs.code.MapChanges.{each_exchanged, maps_after}
use Rattle.placement_maps.specs.code.Moves.{MovesAt, MovesBy, MovesOf, deltas_of}
use Rattle.placement_maps.specs.code.ShownMaps.{AreMaps}
use Rattle.cluster_metadata.specs.code.Running.{HaveDeltas, IsRunning, movement_row, phase_of, plan_of}
use Rattle.placement_maps.specs.code.Turns.{each_map, recut_rows, turned_rows, undoing}
use Rattle.placement_maps.specs.declared.map_change.MapChange.{MapChange}
use Rattle.range_placements.specs.declared.map_row.MapRow.{MapRow}
use Rattle.cluster_metadata.specs.declared.movements.running.Running.{Running}
use Rattle.placement_maps.specs.declared.turn.Turn.{Turn}
use Rattle.placement_maps.specs.declared.turn.Turn.TheVariants.{Reads, Writes, ReadsBack}
use Rattle.placement_maps.proofs.TurnedMaps.{back_turns, finish_turns, maps_recut, maps_turned, mid_turns, start_turns, Turns, undo_turns}

-- the plan of a movement, at its position
plan_at : (image : Image) (running : List Running) (at : ℕ) (m : Running) → HaveDeltas image running → at < length running → m ≡ get_or running at m → HasDeltas image (plan_of m)
plan_at image [] at m have within is = absurd (omega arith)
plan_at image (v ∷ running) zero m have within is = subst (λ (v : Running). HasDeltas image (plan_of v)) (sym is) have.0
plan_at image (v ∷ running) (suc at) m have within is = plan_at image running at m have.1 (omega arith) is

-- ---- the changes of movements

-- what moves the placements by deltas of a movement does so by those of its plan's row: they don't depend on the phase
own_moves : (image after : Image) (delta : List ℕ → List ℕ → PlacementDelta) (m : Running) → MovesBy image after (deltas_of delta image (movement_row m)) → MovesBy image after (deltas_of delta image (plan_of m).row)
unfolding placed_before placed_with
own_moves image after delta m moves = record { keyspaces = moves.keyspaces; changes = moves.changes }

-- new sets are those that the deltas give, if there are as many deltas as maps
abbrev pub SetsTurned : List MapRow → Turn → List (List RowChange) → List DeltaBookRow → Type 0
SetsTurned book turn changes deltas = length book ≡ length deltas → each_exchanged changes book ≡ each_map (turned_rows turn) book deltas

module _ (image : Image) (book : List MapRow) (running : List Running) (at : ℕ) (m : Running) (s : SeqRow) (are : AreMaps image book) (values : IsRunning image.sequences running) (have : HaveDeltas image running)
    (stands : slice_get image.sequences at ≡ Some s) (is : m ≡ get_or running at m) where
  abbrev plan : Plan
  plan = plan_of m

  own : movement_row m ≡ s
  own = value_at image.sequences running at s m values stands is

  pub held : HasDeltas image plan
  held = plan_at image running at m have (place_within image.sequences running at s values stands) is

  pub moved : (after : Image) (delta : SeqRow → List ℕ → List ℕ → PlacementDelta) → MovesOf image after at delta → MovesBy image after (deltas_of (delta s) image plan.row)
  moved after delta moves = own_moves image after (delta s) m (subst (λ q. MovesBy image after (deltas_of (delta s) image q)) (sym own) (moves s stands))

  -- new sets for the rows that change, under each replication
  turned_maps : (t : Turn) (gained lost : Replication → ℤ → List ℕ) (deltas : List DeltaBookRow) (delta : List ℕ → List ℕ → PlacementDelta) → ((r : Replication) → Turns t (gained r) (lost r) (deltas_of delta image plan.row r))
      → AreDeltas (replications_of image.keyspaces) gained lost deltas → (after : Image) (changes : List (List RowChange)) → SetsTurned book t changes deltas → MovesAt image after at delta → AreMaps after (each_exchanged changes book)
  turned_maps t gained lost deltas delta turns exact after changes sets steps =
      subst (AreMaps after) (sym (sets (same_count image book deltas gained lost are exact)))
      (maps_turned image after gained lost (deltas_of delta image plan.row) t turns book deltas steps.cuts (moved after (λ s. delta) steps.moves) are exact)

  pub start_maps : (after : Image) (changes : List (List RowChange)) → SetsTurned book Writes changes plan.gain → MovesAt image after at (step_delta goal.Start) → AreMaps after (each_exchanged changes book)
  start_maps = turned_maps Writes (gained_by image plan.row) no_nodes plan.gain (step_delta goal.Start) (start_turns image plan.row) held.gains

  pub mid_maps : (after : Image) (changes : List (List RowChange)) → SetsTurned book Reads changes plan.swap → MovesAt image after at (step_delta goal.Mid) → AreMaps after (each_exchanged changes book)
  mid_maps = turned_maps Reads (gained_by image plan.row) (lost_by image plan.row) plan.swap (step_delta goal.Mid) (mid_turns image plan.row) held.swaps

  pub back_maps : (after : Image) (changes : List (List RowChange)) → SetsTurned book ReadsBack changes plan.swap → MovesAt image after at (cancel_delta phase.Mid) → AreMaps after (each_exchanged changes book)
  back_maps = turned_maps ReadsBack (gained_by image plan.row) (lost_by image plan.row) plan.swap (cancel_delta phase.Mid) (back_turns image plan.row) held.swaps

  pub end_maps : (after : Image) (made : MapChange) → RecutsAll (undoing (phase_of m)) (rows_between (cuts after)) book plan.gain made → is_mid s.phase ≡ false → AllByRecursion IsToken (cuts after)
      → MovesOf image after at (λ s. cancel_delta s.phase) → AreMaps after (maps_after made book)
  end_maps after made sets early tokens moves =
      let phase : s.phase ≡ phase_of m = ap (λ (q : SeqRow). q.phase) (sym own) in
      subst (AreMaps after) (sym (sets (same_count image book plan.gain (gained_by image plan.row) no_nodes are held.gains)))
      (subst (λ p. AreMaps after (each_map (recut_rows (undoing p) (rows_between (cuts after))) book plan.gain)) phase
      (maps_recut image after (gained_by image plan.row) no_nodes (deltas_of (cancel_delta s.phase) image plan.row) (undoing s.phase) (λ r. undo_turns image plan.row r s.phase early) book plan.gain tokens
      (moved after (λ s. cancel_delta s.phase) moves) are held.gains))

  pub finish_maps : (after : Image) (made : MapChange) → RecutsAll Writes (rows_between (cuts after)) book plan.lose made → AllByRecursion IsToken (cuts after)
      → MovesOf image after at (λ s. step_delta goal.Finish) → AreMaps after (maps_after made book)
  finish_maps after made sets tokens moves =
      subst (AreMaps after) (sym (sets (same_count image book plan.lose no_nodes (lost_by image plan.row) are held.loses)))
      (maps_recut image after no_nodes (lost_by image plan.row) (deltas_of (step_delta goal.Finish) image plan.row) Writes (finish_turns image plan.row) book plan.lose tokens
      (moved after (λ s. step_delta goal.Finish) moves) are held.loses)
