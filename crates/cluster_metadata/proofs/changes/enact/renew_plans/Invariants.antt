use Rattle.std.proofs.Common.{◌≡◌, length, map}
use Rattle.cluster_metadata.proofs.in_flight.RenewedPlans.{HaveLeft}
use Rattle.cluster_metadata.specs.code.Running.{movement_row}
use Rattle.cluster_metadata.proofs.changes.enact.renew_plans.Given as goal

-- the plans after those that are left have taken their places, and no row has changed
abbrev pub invariant-loop-plan : goal.invariant-loop-plan
invariant-loop-plan l = record {
  left : HaveLeft l.fn.plans.items l.left.items l.running.items;
  rows : map movement_row l.running.items ≡ map movement_row l.initial.running.items;
}

abbrev pub decreases-loop-plan : goal.decreases-loop-plan
decreases-loop-plan l = length l.left.items
