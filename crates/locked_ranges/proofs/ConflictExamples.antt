-- Movements of nodes 2 and 3 in a cluster with two replications and the cuts 5, 10 and 20. Each fact is computed.
use Rattle.std.specs.Prelude.{◌≡◌, ℤ, pos, List, [], ◌∷◌, Option, Some, None, refl}
use Rattle.cluster_terms.specs.declared.replication.Replication.{Replication}
use Rattle.cluster_terms.specs.declared.row.TokenRange.{TokenRange}
use Rattle.cluster_terms.specs.declared.token.RightEnd.{RightEnd}
use Rattle.cluster_terms.specs.declared.token.RightEnd.TheVariants.{At, Max}
use Rattle.token_ring.specs.declared.range_book.LockRow.{LockRow}
use Rattle.token_ring.specs.declared.range_book.RangeRow.{RangeRow}
use Rattle.locked_ranges.specs.Conflict.{conflict_of}
use Rattle.locked_ranges.specs.Table.{lock_row, other_locks}

module _ (one other : Replication) where
  -- the ranges under one replication, and those under the other
  abbrev book : List TokenRange → List TokenRange → List RangeRow
  book ranges more = (record { replication = one; ranges = ranges }) ∷ (record { replication = other; ranges = more }) ∷ []

  abbrev range : Option ℤ → RightEnd → List TokenRange
  range left right = (record { left = left; right = right }) ∷ []

  abbrev movements : List LockRow
  movements =
      lock_row 2 (book (range None (At (pos 5))) (range (Some (pos 20)) Max))
      ∷ lock_row 3 (book (range (Some (pos 5)) (At (pos 20))) (range (Some (pos 5)) (At (pos 20))))
      ∷ []

  abbrev cuts : List ℤ
  cuts = pos 5 ∷ pos 10 ∷ pos 20 ∷ []

  -- node 2 has none of the rows up to 10 and 20, and node 3 has both
  first_row : conflict_of (book [] (range (Some (pos 5)) (At (pos 20)))) movements cuts ≡ Some (3, At (pos 10))
  first_row = refl

  -- the second replication shares an earlier row than the first
  earlier_row : conflict_of (book (range (Some (pos 10)) (At (pos 20))) (range (Some (pos 5)) (At (pos 10)))) movements cuts ≡ Some (3, At (pos 10))
  earlier_row = refl

  -- node 2 comes first, though the row that it shares comes last
  first_node : conflict_of (book [] (range (Some (pos 5)) Max)) movements cuts ≡ Some (2, Max)
  first_node = refl

  -- ranges of node 2 under one replication, asked for under the other
  no_conflict : conflict_of (book (range (Some (pos 20)) Max) (range None (At (pos 5)))) movements cuts ≡ None
  no_conflict = refl

  -- the rows once the movement of node 3 has ended
  unlocked : other_locks movements 3 ≡ lock_row 2 (book (range None (At (pos 5))) (range (Some (pos 20)) Max)) ∷ []
  unlocked = refl
