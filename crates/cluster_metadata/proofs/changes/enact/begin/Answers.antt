use Rattle.std.proofs.Common.{◌≡◌, ap, sym, ◌∙◌}
use Rattle.placement_deltas.specs.declared.plan.Plan.{Plan}
use Rattle.cluster_metadata.proofs.in_flight.RunningLemmas.{running_insert}
use Rattle.cluster_metadata.specs.code.Change.{in_phase}
use Rattle.cluster_metadata.specs.code.Running.{movement_row, phase_of}
use Rattle.cluster_metadata.proofs.changes.enact.begin.Goals as goal

pub returns-clause-running : goal.returns-clause-running
returns-clause-running c =
    let row : movement_row c.begin.result ≡ c.args.plan.row =
    ap (λ (l : Plan). in_phase (phase_of c.begin.result) l.row) (c.begin.ensures.plan ∙ c.parted-ranges.ensures.plan) ∙ ap (λ f. in_phase f c.args.plan.row) (c.begin.ensures.phase ∙ sym c.requires.phase) in
    rw (c.put.ensures, c.move_over.ensures.items) (running_insert _ _ c.args.at _ _ c.requires.running row)
