use Rattle.transformations.specs.declared.sequence.Phase.TheVariants as phase
use Rattle.cluster_metadata.proofs.changes.enact.change_parts.Goals as goal

pub returns-in-Started-clause-running : goal.returns-in-Started-clause-running
returns-in-Started-clause-running c = rw c.in-Started.is (c.next_phase_at.ensures.running _ phase.Prepared c.requires.running (rw c.in-Started.is at c.requires.follows))

pub returns-in-Mid-clause-running : goal.returns-in-Mid-clause-running
returns-in-Mid-clause-running c = rw c.in-Mid.is (c.next_phase_at-in-Mid.ensures.running _ phase.Started c.requires.running (rw c.in-Mid.is at c.requires.follows))

pub returns-in-BroughtBack-clause-running : goal.returns-in-BroughtBack-clause-running
returns-in-BroughtBack-clause-running c =
    rw c.in-BroughtBack.is (c.next_phase_at-in-BroughtBack.ensures.running _ phase.Mid c.requires.running (rw c.in-BroughtBack.is at c.requires.follows))
