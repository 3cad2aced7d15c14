use Rattle.std.proofs.Common.{not, refl, sym, ap, ◌∙◌, subst}
use Rattle.sequence_plans.specs.PlanDeltas.{HasDeltas}
use Rattle.transformations.specs.Refusals.{with_movement}
use Rattle.transformations.specs.declared.sequence.Phase.TheVariants as phase
use Rattle.cluster_metadata.proofs.locks.LockLemmas.{own_cut, plan_ascends}
use Rattle.cluster_metadata.proofs.locks.LocksResumed.{cuts_resumed, overlap_planned, row_planned}
use Rattle.cluster_metadata.proofs.in_flight.PlanLemmas.{deltas_elsewhere}
use Rattle.cluster_metadata.proofs.in_flight.ResumeLemmas.{sound_resumed}
use Rattle.cluster_metadata.specs.code.Change.{plan_lock}
use Rattle.cluster_metadata.specs.code.Locking.{AreCutAt}
use Rattle.sequence_plans.specs.Plan.{IsLockRow}
use Rattle.cluster_metadata.proofs.movements.running.resumed.Goals as goal

pub planned-requires-clause-sound : goal.planned-requires-clause-sound
planned-requires-clause-sound g c = rw c.in_ok-at_phase.ensures (sound_resumed phase.Prepared _ _ c.requires.sound c.requires.movement)

-- the deltas of the plan are those in the image, which has the same nodes, ring and keyspaces
pub returns-in-Ok-clause-deltas : goal.returns-in-Ok-clause-deltas
returns-in-Ok-clause-deltas g c =
    let image = c.args.image.now in
    let deltas = deltas_elsewhere (with_movement image c.in_ok-at_phase.field-0) image.epoch image.sequences c.in_ok-plan.plan c.in_ok-plan.ensures.deltas in
    subst (λ plan. HasDeltas image plan) (sym c.resume.ensures.plan) deltas

pub returns-in-Ok-clause-lock : goal.returns-in-Ok-clause-lock
returns-in-Ok-clause-lock g c =
    let is = rw c.in_ok-at_phase.ensures at c.in_ok-plan.ensures in
    subst (λ plan. IsLockRow c.args.image.now c.args.row.now (plan_lock plan)) (sym c.resume.ensures.plan) (row_planned phase.Prepared _ _ _ c.requires.sound c.requires.movement is)

pub is_free-requires-clause-ascending : goal.is_free-requires-clause-ascending
is_free-requires-clause-ascending g c = rw c.as_slice.ensures (plan_ascends _ _ _ c.in_ok-plan.ensures)

pub is_free-requires-clause-own_cut : goal.is_free-requires-clause-own_cut
is_free-requires-clause-own_cut g c = rw c.as_slice.ensures (own_cut _ _ _ c.in_ok-plan.ensures)

pub is_free-requires-clause-rows_cut : goal.is_free-requires-clause-rows_cut
is_free-requires-clause-rows_cut g c =
    let is = rw c.in_ok-at_phase.ensures at c.in_ok-plan.ensures in
    let same = c.as_slice.ensures ∙ is.cuts ∙ cuts_resumed phase.Prepared c.args.image.now c.args.row.now c.requires.sound c.requires.movement in
    subst (λ ts. AreCutAt ts c.args.locks.now) (sym same) c.requires.cut

pub returns-then-not-is_free-clause-overlap : goal.returns-then-not-is_free-clause-overlap
returns-then-not-is_free-clause-overlap g c earlier are =
    let is = rw c.in_ok-at_phase.ensures at c.in_ok-plan.ensures in
    let judged = overlap_planned phase.Prepared c.args.image.now c.args.row.now _ earlier _ _ c.is_free.result c.requires.sound c.requires.movement is are c.as_slice.ensures c.is_free.ensures.conflict in
    rw c.overlapping.ensures (judged ∙ ap not c.if-not-is_free.true, refl)

pub lock-requires-clause-apart : goal.lock-requires-clause-apart
lock-requires-clause-apart g c = rw c.in_ok-ranges.ensures (c.is_free.ensures.free c.if-not-is_free.false)

pub returns-in-Ok-clause-overlap : goal.returns-in-Ok-clause-overlap
returns-in-Ok-clause-overlap g c earlier are =
    let is = rw c.in_ok-at_phase.ensures at c.in_ok-plan.ensures in
    let judged = overlap_planned phase.Prepared c.args.image.now c.args.row.now _ earlier _ _ c.is_free.result c.requires.sound c.requires.movement is are c.as_slice.ensures c.is_free.ensures.conflict in
    judged ∙ ap not c.if-not-is_free.false
