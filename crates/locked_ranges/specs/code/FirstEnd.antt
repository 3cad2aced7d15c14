-- The first of the right ends that are found under each replication.
use Rattle.std.specs.Prelude.{int_lt, if◌then◌else◌, Option, Some, None}
use Rattle.cluster_terms.specs.declared.token.RightEnd.{RightEnd}
use Rattle.cluster_terms.specs.declared.token.RightEnd.TheVariants.{At, Max}

-- the lesser of two right ends
abbrev pub lesser_end : RightEnd → RightEnd → RightEnd
lesser_end Max end = end
lesser_end (At t) Max = At t
lesser_end (At t) (At u) = At (if int_lt u t then u else t)

-- the lesser of two right ends that may be absent: the other one, if one is
abbrev pub first_end : Option RightEnd → Option RightEnd → Option RightEnd
first_end None end = end
first_end (Some one) None = Some one
first_end (Some one) (Some end) = Some (lesser_end one end)
