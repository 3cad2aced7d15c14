-- The first conflict of a movement with other movements, by the rows between the cuts of the cluster.
use Rattle.std.specs.Prelude.{Bool, ℕ, ℤ, List, [], ◌∷◌, Option, None, option_map, find, filter_map, slice_get}
use Rattle.std.specs.Option.{option_or}
use Rattle.cluster_terms.specs.Row.{last_token, rows_between}
use Rattle.cluster_terms.specs.declared.row.TokenRange.{TokenRange}
use Rattle.cluster_terms.specs.declared.token.RightEnd.{RightEnd}
use Rattle.token_ring.specs.declared.range_book.LockRow.{LockRow}
use Rattle.token_ring.specs.declared.range_book.RangeRow.{RangeRow}
use Rattle.locked_ranges.specs.Sharing.{share_token}

-- whether two books share a row, by its last token
abbrev pub share_row : List RangeRow → List RangeRow → TokenRange → Bool
share_row one other row = share_token one other (last_token row.right)

-- the right end of the first row that two books share
abbrev pub first_shared_end : List RangeRow → List RangeRow → List ℤ → Option RightEnd
first_shared_end one other cuts = option_map (λ row. row.right) (find (share_row one other) (rows_between cuts))

-- the conflict with a movement: its node, and the right end of the first row that it shares
abbrev pub conflict_with : List RangeRow → List ℤ → LockRow → Option (ℕ × RightEnd)
conflict_with ours cuts row = option_map (λ end. (row.node, end)) (first_shared_end ours row.ranges cuts)

-- the first conflict, in the order of the rows
abbrev pub conflict_of : List RangeRow → List LockRow → List ℤ → Option (ℕ × RightEnd)
conflict_of ours wide cuts = slice_get (filter_map (conflict_with ours cuts) wide) 0

-- the first row that has a conflict with a later one: its node, and the first such conflict
abbrev pub overlap_among : List LockRow → List ℤ → Option (ℕ × ℕ × RightEnd)
overlap_among [] cuts = None
overlap_among (row ∷ later) cuts = option_or (option_map (λ c. (row.node, c.0, c.1)) (conflict_of row.ranges later cuts)) (overlap_among later cuts)
