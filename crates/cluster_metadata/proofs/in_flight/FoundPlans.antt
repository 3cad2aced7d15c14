-- The plan of the movement of a node, which its value holds.
use Rattle.std.proofs.Common.{◌≡◌, ℕ, Bool, true, false, ◌==◌, cond, List, [], ◌∷◌, find, map, option_map, Option, Some, None, refl, sym, ap, ◌∙◌}
use Rattle.sequence_plans.specs.PlanDeltas.{HasDeltas}
use Rattle.transformations.proofs.lists.ListLemmas.{all_found}
use Rattle.transformations.specs.Movements.{movement_of}
use Rattle.transformations.specs.declared.image.Image.{Image}
use Rattle.transformations.specs.declared.sequence.Phase.{Phase}
use Rattle.transformations.specs.declared.sequence.Phase.TheVariants as phase
use Rattle.transformations.specs.declared.sequence.SeqRow.{SeqRow}
use Rattle.cluster_metadata.specs.code.Change.{in_phase}
use Rattle.cluster_metadata.specs.code.Running.{HaveDeltas, IsRunning, moving_node, movement_row, plan_of}
use Rattle.cluster_metadata.specs.declared.movements.running.Running.{Running}

abbrev pub value_of : List Running → ℕ → Option Running
value_of values n = find (λ m. moving_node m == n) values

-- the movement of a node is that of its value
pub movement_is : (values : List Running) (n : ℕ) → find (λ (s : SeqRow). s.node == n) (map movement_row values) ≡ option_map movement_row (value_of values n)
movement_is [] n = refl
movement_is (m ∷ values) n = by (moving_node m == n) (movement_is values n)
  where
    by : (b : Bool) → find (λ (s : SeqRow). s.node == n) (map movement_row values) ≡ option_map movement_row (value_of values n)
        → cond b (Some (movement_row m)) (find (λ (s : SeqRow). s.node == n) (map movement_row values)) ≡ option_map movement_row (cond b (Some m) (value_of values n))
    by true more = refl
    by false more = more

abbrev at_prepared : Option Running → Option SeqRow
at_prepared found = option_map (in_phase phase.Prepared) (option_map movement_row found)

module _ (image : Image) (values : List Running) (running : IsRunning image.sequences values) (n : ℕ) where
  pub movement_found : movement_of image n ≡ option_map movement_row (value_of values n)
  movement_found = ap (λ rows. find (λ (s : SeqRow). s.node == n) rows) (sym running) ∙ movement_is values n

  -- its row is that of the plan
  pub row_found : (m : Running) → Some m ≡ value_of values n → (plan_of m).row.phase ≡ phase.Prepared
      → Some (plan_of m).row ≡ option_map (in_phase phase.Prepared) (movement_of image n)
  row_found m found own =
      ap (λ (p : Phase). Some (in_phase p (plan_of m).row)) own ∙ ap at_prepared found ∙ sym (ap (option_map (in_phase phase.Prepared)) movement_found)

  pub none_found : None ≡ value_of values n → None ≡ option_map (in_phase phase.Prepared) (movement_of image n)
  none_found none = ap at_prepared none ∙ sym (ap (option_map (in_phase phase.Prepared)) movement_found)

-- it has the deltas of the movement
pub deltas_found : (image : Image) (values : List Running) (n : ℕ) (m : Running) → HaveDeltas image values → Some m ≡ value_of values n → HasDeltas image (plan_of m)
deltas_found image values n m deltas found = all_found (λ v. HasDeltas image (plan_of v)) (λ v. moving_node v == n) values m (sym found) deltas
