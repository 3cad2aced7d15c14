-- The rows of a stream plan, made row by row from a placement map.
use Rattle.std.proofs.Common.{◌≡◌, ℕ, ◌+◌, ◌<◌, Bool, ℤ, List, [], ◌∷◌, ◌++◌, length, get_or, take, drop, Option, sym, ap, ◌∙◌, subst, append_assoc, add-one, drop-cons}
use Rattle.std.proofs.lemmas.List.{take_more}
use Rattle.std.specs.List.{AllByRecursion}
use Rattle.cluster_terms.specs.Arc.{IsToken}
use Rattle.cluster_terms.specs.Group.{Group}
use Rattle.cluster_terms.specs.Row.{last_token}
use Rattle.placement_deltas.specs.declared.delta_row.DeltaRow.{DeltaRow}
use Rattle.range_placements.specs.declared.placement_row.PlacementRow.{PlacementRow}
use Rattle.transformations.proofs.lists.ListLemmas.{all_append}
use Rattle.stream_plan.specs.code.RowSteps.{left_after, rows_at, rows_by}
use Rattle.stream_plan.specs.declared.stream_row.StreamRow.{StreamRow}

module _ (gs : List Group) (mid : Bool) (delta : List DeltaRow) where
  -- one row more
  pub one_more : (left next : Option ℤ) (rows new out : List StreamRow) (map : List PlacementRow) (i : ℕ) (row : PlacementRow) → i < length map → row ≡ get_or map i row
      → rows ++ rows_by gs mid delta left (drop i map) ≡ out → new ≡ rows ++ rows_at gs mid delta left row → next ≡ left_after row.right
      → new ++ rows_by gs mid delta next (drop (i + 1) map) ≡ out
  one_more left next rows new out map i row lt is so_far more after =
      let rest : List PlacementRow = drop (i + 1) map in
      let split : drop i map ≡ row ∷ rest = rw (add-one) (drop-cons map i row lt) ∙ ap (λ r. r ∷ rest) (sym is) in
      (λ j. more j ++ rows_by gs mid delta (after j) rest)
      ∙ append_assoc rows (rows_at gs mid delta left row) (rows_by gs mid delta (left_after row.right) rest)
      ∙ sym (ap (λ l. rows ++ rows_by gs mid delta left l) split) ∙ so_far

pub token_more : (map : List PlacementRow) (i : ℕ) (row : PlacementRow) → i < length map → row ≡ get_or map i row → IsToken (last_token row.right)
    → AllByRecursion (λ (r : PlacementRow). IsToken (last_token r.right)) (take i map) → AllByRecursion (λ (r : PlacementRow). IsToken (last_token r.right)) (take (i + 1) map)
token_more map i row lt is token all =
    let P : PlacementRow → Type 0 = λ (r : PlacementRow). IsToken (last_token r.right) in
    subst (AllByRecursion P) (sym (take_more map i row lt ∙ ap (λ r. take i map ++ r ∷ []) (sym is)))
    (all_append P (take i map) (row ∷ []) all (token, tt))
