use Rattle.std.proofs.Common.{◌≡◌, ◌++◌, drop}
use Rattle.ring_reach.specs.code.Windows.{window_bounds}
use Rattle.ring_reach.proofs.rows.push_bounds.Given as goal

-- the bounds so far, and those of the windows that are left
abbrev pub invariant-loop-window : goal.invariant-loop-window
invariant-loop-window l = l.bounds.items ++ window_bounds (drop l.window-index l.windows) ≡ l.initial.bounds.items ++ window_bounds l.windows
