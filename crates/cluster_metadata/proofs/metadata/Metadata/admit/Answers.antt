use Rattle.std.proofs.Common.{◌≡◌, None, Some}
use Rattle.transformations.specs.Refusals.{early_refusal_of, refusal_of}
use Rattle.cluster_metadata.proofs.locks.LockRefusals.{early_first}
use Rattle.cluster_metadata.proofs.map_changes.ChangeMoves.{map_steps}
use Rattle.cluster_metadata.proofs.PermitOutcomes.{valid_changed}
use Rattle.cluster_metadata.proofs.metadata.Metadata.admit.Goals as goal

pub returns-in-Some-clause-refusal : goal.returns-in-Some-clause-refusal
returns-in-Some-clause-refusal g c =
    let early : early_refusal_of c.args.self.now c.args.cmd.now ≡ Some c.in-Some.refusal = cc c.in_ok-refusal.ensures in
    early_first _ _ _ early

pub maps_for-requires-clause-valid : goal.maps_for-requires-clause-valid
maps_for-requires-clause-valid g c =
    let accepted : refusal_of c.self.inside.image c.args.cmd.now ≡ None = c.in_ok-change.ensures.refusal in
    valid_changed _ _ _ c.self.invariant.valid c.requires.formed accepted (rw c.self.view_is c.requires.below_limit) c.in_ok-change.ensures.change

pub maps_for-requires-clause-steps : goal.maps_for-requires-clause-steps
maps_for-requires-clause-steps g c =
    let accepted : refusal_of c.self.inside.image c.args.cmd.now ≡ None = c.in_ok-change.ensures.refusal in
    map_steps _ _ _ c.self.invariant.valid c.requires.formed accepted c.in_ok-change.ensures.change
