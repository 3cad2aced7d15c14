use Rattle.std.proofs.Common.{◌≡◌, ◌∙◌, subst}
use Rattle.transformations.specs.Ranges.{moved_by}
use Rattle.sequence_plans.proofs.PlacerLemmas.{placed_low, placed_moved}
use Rattle.replica_placer.specs.Placers.{PlacesOn, at_homes}
use Rattle.sequence_plans.proofs.movement_rings.MovementRings.placers.Goals as goal

pub returns : goal.returns
returns c =
    let rings = c.args.self.now in
    let nodes = rings.directory.now.rows in
    let r = c.args.replication.now in
    let homes : at_homes nodes c.as_slice-moved.result.now r ≡ at_homes rings.image.now.nodes (moved_by rings.row.now) r =
    λ i. at_homes (c.requires.nodes i) ((c.as_slice-moved.ensures ∙ c.requires.moved) i) r in
    let before = subst (λ q. PlacesOn rings.before nodes q c.in_ok-among.field-0) homes c.in_ok-among.ensures in
    let after = subst (λ q. PlacesOn rings.after nodes q c.in_ok-among-2.field-0) homes c.in_ok-among-2.ensures in
    record {
      before = placed_low rings.image.now nodes _ _ rings.before c.requires.nodes before c.requires.before;
      after = placed_moved rings.image.now nodes _ _ rings.after c.requires.nodes after rings.row.now c.requires.after;
    }
