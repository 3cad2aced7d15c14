-- The values of the movements, by the place of their rows.
use Rattle.std.proofs.Common.{◌≡◌, ℕ, suc, zero, ◌<◌, List, [], ◌∷◌, length, map, get_or, set, Some, option_map, refl, sym, ap, ◌∙◌, arith}
use Rattle.std.proofs.Math.Seq.{map-set_same}
use Rattle.std.proofs.lemmas.List.{length-map, map-set}
use Rattle.std.proofs.lemmas.Option.{slice_get-map, slice_get_within}
use Rattle.std.specs.List.{insert, remove, slice_get}
use Rattle.placement_deltas.specs.declared.plan.Plan.{Plan}
use Rattle.transformations.specs.declared.sequence.Phase.{Phase}
use Rattle.transformations.specs.declared.sequence.SeqRow.{SeqRow}
use Rattle.cluster_metadata.proofs.in_flight.MovementPlaces.{at_index, known_of, phased_at}
use Rattle.cluster_metadata.specs.code.Change.{StandsAt, in_phase, phased}
use Rattle.cluster_metadata.specs.code.Running.{IsRunning, movement_row, phase_after, phase_of, plan_of}
use Rattle.cluster_metadata.specs.declared.movements.running.Running.{Running}

-- ---- lists

-- an item that is taken out and another one that is put in its place
pub put_back : {X : Type 0} (xs : List X) (i : ℕ) (x : X) → i < length xs → insert (remove xs i) i x ≡ set xs i x
put_back [] i x within = absurd (omega arith)
put_back (y ∷ ys) zero x within = refl
put_back (y ∷ ys) (suc i) x within = ap (λ l. y ∷ l) (put_back ys i x (omega arith))

pub map_insert : {X Y : Type 0} (f : X → Y) (xs : List X) (i : ℕ) (x : X) → map f (insert xs i x) ≡ insert (map f xs) i (f x)
map_insert f xs zero x = refl
map_insert f [] (suc i) x = refl
map_insert f (y ∷ ys) (suc i) x = ap (λ l. f y ∷ l) (map_insert f ys i x)

-- ---- values

-- the value at a place is that of the row there
pub row_there : (rows : List SeqRow) (rs : List Running) (at : ℕ) (r : Running) → IsRunning rows rs → at < length rs → r ≡ get_or rs at r → slice_get rows at ≡ Some (movement_row r)
row_there rows rs at r is within here =
    ap (λ l. slice_get l at) (sym is) ∙ slice_get-map movement_row rs at ∙ ap (option_map movement_row) (at_index rs at r within here)

pub place_within : (rows : List SeqRow) (rs : List Running) (at : ℕ) (s : SeqRow) → IsRunning rows rs → slice_get rows at ≡ Some s → at < length rs
place_within rows rs at s is found = omega (arith, slice_get_within rows at s found, ap length is, length-map rs movement_row)

pub value_at : (rows : List SeqRow) (rs : List Running) (at : ℕ) (s : SeqRow) (r : Running) → IsRunning rows rs → slice_get rows at ≡ Some s → r ≡ get_or rs at r → movement_row r ≡ s
value_at rows rs at s r is found here = cc (row_there rows rs at r is (place_within rows rs at s is found) here)

-- a value and its row are put in
pub running_insert : (rows : List SeqRow) (rs : List Running) (at : ℕ) (s : SeqRow) (r : Running) → IsRunning rows rs → movement_row r ≡ s → IsRunning (insert rows at s) (insert rs at r)
running_insert rows rs at s r is same =
    map_insert movement_row rs at r ∙ ap (λ l. insert l at (movement_row r)) is ∙ ap (insert rows at) same

-- the value of a movement is taken out, takes its next step, and is put back: its row is at the next phase, and its
-- plan stays
module _ (rs : List Running) (at : ℕ) (r new : Running) (within : at < length rs) (here : r ≡ get_or rs at r) (kept : plan_of new ≡ plan_of r) where
  pub running_step : phase_of new ≡ phase_after (phase_of r) → (rows : List SeqRow) (p : Phase) → IsRunning rows rs → StandsAt rows at p → IsRunning (phased rows at (phase_after p)) (insert (remove rs at) at new)
  running_step next rows p is stands =
      let found = row_there rows rs at r is within here in
      let own : phase_of r ≡ p = known_of (λ s. s.phase) p (slice_get rows at) (movement_row r) stands found in
      let now : movement_row new ≡ in_phase (phase_after p) (movement_row r) = ap (λ (l : Plan). in_phase (phase_of new) l.row) kept ∙ ap (λ f. in_phase f (plan_of r).row) (next ∙ ap phase_after own) in
      ap (map movement_row) (put_back rs at new within) ∙ map-set movement_row rs at new ∙ ap (λ l. set l at (movement_row new)) is ∙ ap (set rows at) now ∙ phased_at (phase_after p) rows at (movement_row r) found

  pub plans_step : map plan_of (insert (remove rs at) at new) ≡ map plan_of rs
  plans_step = ap (map plan_of) (put_back rs at new within) ∙ map-set_same plan_of rs at new r (kept ∙ ap plan_of here)
