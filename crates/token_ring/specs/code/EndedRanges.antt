-- Ranges that end before others begin.
use Rattle.std.specs.Prelude.{Bool, false, ℤ, int_le, Option, Some}
use Rattle.cluster_terms.specs.declared.token.RightEnd.{RightEnd}
use Rattle.cluster_terms.specs.declared.token.RightEnd.TheVariants.{At}

-- whether a range with this right end has no token past this left end
abbrev pub ends_by : RightEnd → Option ℤ → Bool
ends_by (At right) (Some left) = int_le right left
ends_by _ _ = false
