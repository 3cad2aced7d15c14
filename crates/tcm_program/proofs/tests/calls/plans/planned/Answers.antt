use Rattle.transformations.specs.declared.sequence.Phase.TheVariants as phase
use Rattle.cluster_metadata.proofs.in_flight.ResumeLemmas.{sound_resumed}
use Rattle.tcm_program.proofs.tests.calls.plans.planned.Goals as goal

pub plan-requires-clause-sound : goal.plan-requires-clause-sound
plan-requires-clause-sound g c = rw c.in_ok-row.ensures (sound_resumed phase.Prepared _ _ c.requires.sound c.requires.moves)
