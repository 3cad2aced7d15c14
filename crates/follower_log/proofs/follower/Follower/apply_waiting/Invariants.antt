use Rattle.std.proofs.Common.{length, Result}
use Rattle.follower_log.specs.Follower.{FollowerState}
use Rattle.follower_log.specs.code.WaitingEntries.{Advances}
use Rattle.follower_log.specs.declared.fault.FollowerFault.{FollowerFault}
use Rattle.follower_log.specs.declared.took.Took.{Took}
use Rattle.follower_log.proofs.follower.Follower.apply_waiting.Given as goal

-- whatever the rest comes to, the whole advance comes to
abbrev pub invariant-loop-self : goal.invariant-loop-self
invariant-loop-self l = (result : Result Took FollowerFault) (end : FollowerState) → Advances l.self result end → Advances l.initial.self result end

abbrev pub decreases-loop-self : goal.decreases-loop-self
decreases-loop-self l = length l.self.waiting
