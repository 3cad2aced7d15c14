-- The table of the ranges that movements in flight lock.
use Rattle.std.specs.Prelude.{◌≡◌, ◌≢◌, ℕ, Bool, not, ◌==◌, List, map, filter, AllPairs, nat_eq}
use Rattle.std.specs.List.{AllByRecursion}
use Rattle.std.specs.Set.{is_member}
use Rattle.token_ring.specs.declared.range_book.LockRow.{LockRow}
use Rattle.token_ring.specs.declared.range_book.RangeRow.{RangeRow}
use Rattle.locked_ranges.specs.Sharing.{ShareNoToken, IsInside}

-- the nodes are distinct, and no two rows share a token
pub record IsLockTable (rows : List LockRow) : Type 0 where
  pub nodes : AllPairs (λ one other. one.node ≢ other.node) rows
  pub apart : AllPairs (λ one other. ShareNoToken one.ranges other.ranges) rows

-- whether a node has a row
abbrev pub has_row : List LockRow → ℕ → Bool
has_row rows n = is_member nat_eq (map (λ row. row.node) rows) n

-- the row of a node and its ranges
abbrev pub lock_row : ℕ → List RangeRow → LockRow
lock_row n ranges = record { node = n; ranges = ranges }

-- the rows of the other nodes
abbrev pub other_locks : List LockRow → ℕ → List LockRow
other_locks rows n = filter (λ row. not (row.node == n)) rows

-- wider rows of the nodes of a table: the ranges of each row of the table are inside those of the wide row of its node
abbrev pub AreWider : List LockRow → List LockRow → Type 0
AreWider wide rows = AllByRecursion (λ row. AllByRecursion (λ w. w.node ≡ row.node → IsInside row.ranges w.ranges) wide) rows
