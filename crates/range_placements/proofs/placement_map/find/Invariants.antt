use Rattle.std.proofs.Common.{ℕ, ◌+◌, ◌-◌, ◌*◌, ◌^◌, ◌≡◌, ◌<◌, ◌≤◌, true, false, int_lt, length, get_or}
use Rattle.cluster_terms.specs.Row.{last_token}
use Rattle.range_placements.proofs.placement_map.find.Given as goal
use Rattle.range_placements.specs.declared.placement_row.PlacementRow.{PlacementRow}

-- the rows below `low` end before the token, those from `high` on do not, and each step has
-- halved what is between, but not more
abbrev pub invariant-loop-low : goal.invariant-loop-low
invariant-loop-low g l = record {
  order : l.low ≤ l.high;
  within : l.high < length l.rows;
  before : (j : ℕ) (d : PlacementRow) → j < l.low → int_lt (last_token (get_or l.rows j d).right) l.number ≡ true;
  after : (j : ℕ) (d : PlacementRow) → l.high ≤ j → j < length l.rows → int_lt (last_token (get_or l.rows j d).right) l.number ≡ false;
  rises : l.initial.steps ≤ l.steps;
  narrow : 2 ^ (l.steps - l.initial.steps) * (l.high - l.low) < length l.rows;
  cost : 2 ^ (l.steps - l.initial.steps) ≤ 2 * length l.rows;
  enough : length l.rows < 2 ^ (l.steps - l.initial.steps) * (l.high - l.low + 2);
}

abbrev pub decreases-loop-low : goal.decreases-loop-low
decreases-loop-low g l = l.high - l.low
