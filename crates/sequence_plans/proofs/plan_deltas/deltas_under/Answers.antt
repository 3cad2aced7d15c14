use Rattle.std.proofs.Common.{◌≡◌, ◌∙◌, ap}
use Rattle.transformations.proofs.ranges.RowsServed.{cuts_ascend}
use Rattle.transformations.specs.Rings.{cuts}
use Rattle.placement_deltas.specs.Deltas.{only}
use Rattle.placement_deltas.specs.declared.side.Side.TheVariants.{Gained, Lost}
use Rattle.sequence_plans.proofs.RowDeltas.{swap_found, swap_is}
use Rattle.sequence_plans.specs.code.NearCuts.{near_cuts}
use Rattle.sequence_plans.proofs.plan_deltas.deltas_under.Goals as goal

pub near_cuts-requires-clause-ascending : goal.near_cuts-requires-clause-ascending
near_cuts-requires-clause-ascending g c = rw c.requires.cuts (cuts_ascend c.args.rings.now.image.now)

pub of_changes-requires : goal.of_changes-requires
of_changes-requires g c =
    let q = c.requires in
    let rings = q.rings in
    let ranges = c.args.row.now.ranges in
    let near : c.as_slice-2.result.now ≡ near_cuts (cuts c.args.rings.now.image.now) ranges =
    c.as_slice-2.ensures.value ∙ c.in_ok-near.ensures ∙ (λ i. near_cuts (q.cuts i) (c.as_slice.ensures.ranges i)) in
    record {
      rows = _;
      joined = c.in_ok-changes.ensures.changes;
      delta = swap_is _ _ _ rings.sound rings.moves _ q.ranges c.as_slice.ensures.list q.bounds _ near c.in_ok-changes.ensures.tokens _ c.in_ok-placers.ensures;
    }

pub returns : goal.returns
returns g c =
    let q = c.requires in
    let rings = q.rings in
    let ranges = c.args.row.now.ranges in
    let near : c.as_slice-2.result.now ≡ near_cuts (cuts c.args.rings.now.image.now) ranges =
    c.as_slice-2.ensures.value ∙ c.in_ok-near.ensures ∙ (λ i. near_cuts (q.cuts i) (c.as_slice.ensures.ranges i)) in
    let is = c.in_ok-swap.ensures _ c.in_ok-changes.ensures.changes in
    let exact = swap_found _ _ _ rings.sound rings.moves _ q.ranges c.as_slice.ensures.list q.bounds _ near c.in_ok-changes.ensures.tokens _ c.in_ok-placers.ensures _ is in
    record {
      gain = λ x token. c.in_ok-only.ensures x token ∙ ap (only Gained) (exact x token);
      swap = exact;
      lose = λ x token. c.in_ok-only-2.ensures x token ∙ ap (only Lost) (exact x token);
    }
