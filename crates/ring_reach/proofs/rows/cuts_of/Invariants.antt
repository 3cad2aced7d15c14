use Rattle.std.proofs.Common.{◌≡◌, take}
use Rattle.std.specs.List.{flat_map}
use Rattle.ring_reach.specs.code.Windows.{window_bounds}
use Rattle.ring_reach.proofs.rows.cuts_of.Given as goal

-- the bounds of the groups so far
abbrev pub invariant-loop-windows : goal.invariant-loop-windows
invariant-loop-windows l = l.bounds.items ≡ flat_map window_bounds (take l.windows-index l.groups)
