-- The ranges of chosen rows.
use Rattle.std.specs.Prelude.{Bool, true, false, if◌then◌else◌, List, [], ◌∷◌, ◌++◌, map, Option, Some, None}
use Rattle.std.specs.Ordering.{int_eq}
use Rattle.cluster_terms.specs.Arc.{greatest_token}
use Rattle.cluster_terms.specs.Row.{last_token}
use Rattle.cluster_terms.specs.declared.row.TokenRange.{TokenRange}
use Rattle.cluster_terms.specs.declared.token.RightEnd.TheVariants.{Max}

-- a row, joined to the range that ends where the row begins, if there is such a range
abbrev pub grown : Option TokenRange → TokenRange → TokenRange
grown None row = row
grown (Some range) row = record { left = range.left; right = row.right }

-- a range, with the right end Max if it ends at the greatest token
abbrev pub ended : TokenRange → TokenRange
ended range = if int_eq (last_token range.right) greatest_token then (record { left = range.left; right = Max }) else range

-- the range that has begun, if any
abbrev pub begun_range : Option TokenRange → List TokenRange
begun_range None = []
begun_range (Some range) = range ∷ []

-- the ranges of the chosen rows, with adjacent rows joined; `begun`, if any, is a range that ends at the first row
abbrev pub chosen_from : Option TokenRange → List TokenRange → List Bool → List TokenRange
chosen_from begun (row ∷ rows) (true ∷ chosen) = chosen_from (Some (grown begun row)) rows chosen
chosen_from begun (row ∷ rows) (false ∷ chosen) = begun_range begun ++ chosen_from None rows chosen
chosen_from begun _ _ = map ended (begun_range begun)
