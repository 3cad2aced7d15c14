use Rattle.std.proofs.Common.{ap, sym, ◌∙◌}
use Rattle.cluster_metadata.proofs.locks.LockLemmas.{others_cut, own_cut, plan_ascends, plan_locked, shown}
use Rattle.cluster_metadata.proofs.locks.LocksTaken.{lock_of_book, plan_contains, plan_names}
use Rattle.cluster_metadata.proofs.in_flight.PlanLemmas.{deltas_elsewhere}
use Rattle.transformations.specs.Refusals.{with_movement}
use Rattle.cluster_metadata.proofs.movements.preparing.prepare.Goals as goal

pub conflict-requires-clause-names : goal.conflict-requires-clause-names
conflict-requires-clause-names g c = plan_names _ _ c.requires.new _ _ c.requires.movements c.requires.locks c.in-Ok.ensures.plan

pub conflict-requires-clause-contains : goal.conflict-requires-clause-contains
conflict-requires-clause-contains g c = plan_contains _ _ c.requires.new _ _ c.requires.movements c.requires.locks c.in-Ok.ensures.plan

pub conflict-requires-clause-ascending : goal.conflict-requires-clause-ascending
conflict-requires-clause-ascending g c = rw c.as_slice-cuts.ensures (plan_ascends _ _ _ c.in-Ok.ensures.plan)

pub conflict-requires-clause-own_cut : goal.conflict-requires-clause-own_cut
conflict-requires-clause-own_cut g c = rw c.as_slice-cuts.ensures (own_cut _ _ _ c.in-Ok.ensures.plan)

pub conflict-requires-clause-wide_cut : goal.conflict-requires-clause-wide_cut
conflict-requires-clause-wide_cut g c = rw c.as_slice-cuts.ensures (others_cut _ _ _ c.in-Ok.ensures.plan)

pub returns-in-Some-clause-refusal : goal.returns-in-Some-clause-refusal
returns-in-Some-clause-refusal g c =
    let found = rw c.as_slice-cuts.ensures at c.in-Some.ensures.conflict in
    sym (plan_locked _ _ _ c.in-Ok.ensures.plan) ∙ ap shown (sym found)

pub begun-requires-clause-new : goal.begun-requires-clause-new
begun-requires-clause-new g c = rw (c.without_others.ensures, c.in-Ok.ensures.plan.row) c.requires.new

pub begun-requires-clause-deltas : goal.begun-requires-clause-deltas
begun-requires-clause-deltas g c =
    rw c.without_others.ensures
    (deltas_elsewhere (with_movement c.args.image.now c.args.row) c.args.image.now.epoch c.args.image.now.sequences c.in-Ok.plan c.in-Ok.ensures.plan.deltas)

pub begun-requires-clause-ranges : goal.begun-requires-clause-ranges
begun-requires-clause-ranges g c = rw (c.without_others.ensures, c.in-Ok.ensures.plan.row) (lock_of_book _ _ _ c.in-Ok.ensures.plan.ranges)

pub returns-clause-refusal : goal.returns-clause-refusal
returns-clause-refusal g c =
    let none = rw (c.as_slice-cuts.ensures, c.in_default.is) at c.conflict.ensures.conflict in
    sym (plan_locked _ _ _ c.in-Ok.ensures.plan) ∙ ap shown (sym none)
