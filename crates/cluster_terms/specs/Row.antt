-- The rows between cuts: ranges that are open on the left and closed on the right, as Cassandra's are.
use Rattle.std.specs.Prelude.{◌≡◌, Bool, true, false, ◌&&◌, if◌then◌else◌, ℕ, ℤ, int_lt, int_le, List, [], ◌∷◌, Option, Some, None}
use Rattle.std.specs.List.Sorted.{IsPartitionPoint}
use Rattle.std.specs.Ordering.{int_eq}
use Rattle.cluster_terms.specs.Arc.{greatest_token}
use Rattle.cluster_terms.specs.declared.row.TokenRange.{TokenRange}
use Rattle.cluster_terms.specs.declared.token.RightEnd.{RightEnd}
use Rattle.cluster_terms.specs.declared.token.RightEnd.TheVariants.{At, Max}

-- whether no token comes after this left end
abbrev pub is_last : Option ℤ → Bool
is_last None = false
is_last (Some t) = int_eq t greatest_token

-- the rows after this left end: one up to each cut, and one for the tokens after the last cut, if any
abbrev pub rows_from : Option ℤ → List ℤ → List TokenRange
rows_from left [] = if is_last left then [] else (record { left = left; right = Max }) ∷ []
rows_from left (cut ∷ cuts) = (record { left = left; right = At cut }) ∷ rows_from (Some cut) cuts

-- the rows between ascending cuts
abbrev pub rows_between : List ℤ → List TokenRange
rows_between cuts = rows_from None cuts

-- the last token of a row
abbrev pub last_token : RightEnd → ℤ
last_token (At t) = t
last_token Max = greatest_token

-- whether a token is past a left end
abbrev pub is_past : Option ℤ → ℤ → Bool
is_past None t = true
is_past (Some left) t = int_lt left t

-- whether a token is within a range
abbrev pub is_within : ℤ → TokenRange → Bool
is_within t range = is_past range.left t && int_le t (last_token range.right)

-- rows, each with a right end, cover the ring: their last tokens ascend, and the last row ends in Max or at the
-- greatest token
abbrev pub CoverRing : {R : Type 0} → (R → RightEnd) → List R → Type 0
CoverRing right [] = ⊥
CoverRing right (row ∷ []) = last_token (right row) ≡ greatest_token
CoverRing right (row ∷ next ∷ rows) = (int_lt (last_token (right row)) (last_token (right next)) ≡ true) × CoverRing right (next ∷ rows)

-- the first k rows end before a token, and the others do not
abbrev pub EndBefore : {R : Type 0} → (R → RightEnd) → ℤ → List R → ℕ → Type 0
EndBefore right t rows k =
    IsPartitionPoint (λ r. int_lt (last_token (right r)) t ≡ true) (λ r. int_lt (last_token (right r)) t ≡ false) rows k
