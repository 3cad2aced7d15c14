use Rattle.std.proofs.Common.{◌≡◌, ◌-◌, drop, take}
use Rattle.catch_up.proofs.replies.entries_after.Given as goal

-- the entries up to this epoch
abbrev pub invariant-loop-before : goal.invariant-loop-before
invariant-loop-before l = l.entries ≡ take (l.before - l.epoch) (drop l.epoch l.log)
