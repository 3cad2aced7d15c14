-- The cuts near ranges.
use Rattle.std.specs.Prelude.{Bool, true, ◌&&◌, ℤ, int_le, List, filter, Option, Some, None}
use Rattle.std.specs.List.{list_any}
use Rattle.cluster_terms.specs.Row.{last_token}
use Rattle.cluster_terms.specs.declared.row.TokenRange.{TokenRange}

-- whether a token is past a left end or at it
abbrev pub is_from : Option ℤ → ℤ → Bool
is_from None t = true
is_from (Some left) t = int_le left t

-- whether a range contains a token or begins at it
abbrev pub touches : TokenRange → ℤ → Bool
touches range t = is_from range.left t && int_le t (last_token range.right)

-- whether one of the ranges contains a token or begins at it
abbrev pub is_near : List TokenRange → ℤ → Bool
is_near ranges t = list_any (λ range. touches range t) ranges

-- the cuts that one of the ranges contains or begins at
abbrev pub near_cuts : List ℤ → List TokenRange → List ℤ
near_cuts cuts ranges = filter (is_near ranges) cuts
