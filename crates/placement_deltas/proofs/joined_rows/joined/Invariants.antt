use Rattle.std.proofs.Common.{◌≡◌, ◌++◌, length, None}
use Rattle.placement_deltas.specs.code.Changes.{so_far}
use Rattle.placement_deltas.specs.code.JoinedRows.{change_rows, joined_from}
use Rattle.placement_deltas.proofs.joined_rows.joined.Given as goal

-- the rows so far, and those that are left
abbrev pub invariant-loop-row : goal.invariant-loop-row
invariant-loop-row l = record {
  rows : (so_far l.joined.items).joined ++ joined_from (so_far l.joined.items).begun (change_rows l.row-iterator.a.a.rest.now l.row-iterator.a.b.rest.now l.row-iterator.b.rest.now) ≡ joined_from None (change_rows l.rows l.before l.after);
  before : length l.row-iterator.a.b.rest.now ≡ length l.row-iterator.a.a.rest.now;
  after : length l.row-iterator.b.rest.now ≡ length l.row-iterator.a.a.rest.now;
}
