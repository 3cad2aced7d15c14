-- The tokens at which ranges begin and end.
use Rattle.std.specs.Prelude.{ℤ, List, [], ◌∷◌, ◌++◌, Option, Some, None}
use Rattle.cluster_terms.specs.declared.row.TokenRange.{TokenRange}
use Rattle.cluster_terms.specs.declared.token.RightEnd.{RightEnd}
use Rattle.cluster_terms.specs.declared.token.RightEnd.TheVariants.{At, Max}

-- the token of a left end or a right end, if it has a token
abbrev pub left_bound : Option ℤ → List ℤ
left_bound None = []
left_bound (Some left) = left ∷ []

-- the right bound of a range, if it is a token
abbrev pub right_bound : RightEnd → List ℤ
right_bound (At right) = right ∷ []
right_bound Max = []

-- the bounds of ranges, in the order of the ranges
abbrev pub bounds_of : List TokenRange → List ℤ
bounds_of [] = []
bounds_of (range ∷ ranges) = left_bound range.left ++ right_bound range.right ++ bounds_of ranges
