use Rattle.std.proofs.Common.{◌≡◌, ◌-◌}
use Rattle.generated_scripts.specs.Generated.{after_lines}
use Rattle.generated_scripts.specs.GeneratedLines.{delivers}
use Rattle.generated_scripts.proofs.generation.Generation.deliver_down.Given as goal

-- what is left to be delivered
abbrev pub invariant-loop-epoch : goal.invariant-loop-epoch
invariant-loop-epoch l = after_lines l.fn.self (delivers l.after (l.last - l.after)) ≡ after_lines l.self (delivers l.after (l.epoch - l.after))

abbrev pub decreases-loop-epoch : goal.decreases-loop-epoch
decreases-loop-epoch l = l.epoch
