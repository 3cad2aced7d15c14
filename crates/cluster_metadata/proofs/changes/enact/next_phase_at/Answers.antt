use Rattle.cluster_metadata.proofs.in_flight.RunningLemmas.{plans_step, running_step}
use Rattle.cluster_metadata.proofs.changes.enact.next_phase_at.Goals as goal

pub returns-clause-running : goal.returns-clause-running
returns-clause-running c =
    rw (c.put.ensures, c.remove-movement.ensures.items) (running_step _ _ _ c.next_phase.result c.requires c.remove-movement.ensures.value c.next_phase.ensures.plan c.next_phase.ensures.phase)

pub returns-clause-plans : goal.returns-clause-plans
returns-clause-plans c = rw (c.put.ensures, c.remove-movement.ensures.items) (plans_step _ _ _ c.next_phase.result c.requires c.remove-movement.ensures.value c.next_phase.ensures.plan)
