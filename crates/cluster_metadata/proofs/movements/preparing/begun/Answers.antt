use Rattle.std.proofs.Common.{◌≡◌, refl, subst, sym}
use Rattle.std.specs.List.{insert}
use Rattle.placement_deltas.specs.declared.plan.Plan.{Plan}
use Rattle.cluster_metadata.specs.code.Change.{Begins}
use Rattle.cluster_metadata.specs.declared.changes.change.Change.TheVariants.{Begun}
use Rattle.cluster_metadata.proofs.in_flight.AcceptedSteps.{begins}
use Rattle.cluster_metadata.proofs.movements.preparing.begun.Goals as goal

pub returns : goal.returns
returns c =
    let place = rw c.as_slice.ensures at c.place_for-at.ensures in
    let after : c.insert.new.self ≡ insert c.args.image.now.sequences c.place_for-at.result c.args.plan.row = cc (c.in_ok-insert.ensures, c.in_ok-sequences.ensures, c.in_ok-copy.ensures) in
    let begun = begins _ c.place_for-at.result c.args.plan _ c.requires.phase place.bound after (place.place _ refl) c.requires.deltas c.requires.ranges in
    subst (λ (plan : Plan). Begins c.args.image.now c.args.plan.row (Begun c.place_for-at.result plan c.insert.new.self)) (sym c.in_ok-plan.ensures) begun
