use Rattle.std.proofs.Common.{◌≡◌}
use Rattle.transformations.specs.History.{state_after}
use Rattle.transformations.specs.Log.{commands_of}
use Rattle.snapshot_store.proofs.entries_taken.take_all.Given as goal

-- the image is led through the entries before this one
abbrev pub invariant-loop-before : goal.invariant-loop-before
invariant-loop-before l = l.image ≡ state_after (commands_of l.log) l.before
