use Rattle.std.proofs.Common.{◌+◌, ◌-◌, ◌/◌, ◌≤ℤ◌, ◌≤◌, ◌<◌, length, sym, subst, ◌∙◌, rules, w64, to_z, of_z, arith}
use Rattle.std.proofs.lemmas.Int.{to_z-of_z}
use Rattle.cluster_terms.proofs.rows.RingRows.{climb_high, climb_low}
use Rattle.cluster_terms.specs.Arc.{greatest_token}
use Rattle.range_placements.proofs.Halving.{begin_cost, begin_enough, begin_narrow, step_costs, step_keeps, step_narrows}
use Rattle.range_placements.proofs.MapRows.{last_stays, none_low, some_rows}
use Rattle.range_placements.proofs.placement_map.find.Goals as goal
use Rattle.range_placements.specs.declared.placement_row.PlacementRow.{PlacementRow}

pub loop-low-init : goal.loop-low-init
loop-low-init g c =
    let some = some_rows c.args.rows.now c.requires in
    let upto : c.value-number.result ≤ℤ greatest_token = search rules in
    let top : to_z w64 (of_z w64 c.value-number.result) ≤ℤ greatest_token = subst (λ n. n ≤ℤ greatest_token) (sym (to_z-of_z w64 c.value-number.result (search rules))) upto in
    record {
      order = omega arith;
      within = omega arith;
      before = none_low c.args.rows.now (to_z w64 (of_z w64 c.value-number.result));
      after = last_stays c.args.rows.now (to_z w64 (of_z w64 c.value-number.result)) c.requires top;
      rises = omega arith;
      narrow = begin_narrow c.args.steps.now (length c.args.rows.now) some;
      cost = begin_cost c.args.steps.now (length c.args.rows.now) some;
      enough = begin_enough c.args.steps.now (length c.args.rows.now) some;
    }

pub loop-low-preserved-then-ends_before : goal.loop-low-preserved-then-ends_before
loop-low-preserved-then-ends_before g c =
    let i = c.loop-low.invariant in
    let order : c.loop-low.low + (c.loop-low.high - c.loop-low.low) / 2 + 1 ≤ c.loop-low.high = omega arith in
    let within : c.loop-low.low + (c.loop-low.high - c.loop-low.low) / 2 < length c.args.rows.now = omega arith in
    record {
      order = order;
      within = i.within;
      before = λ j d below. climb_low (λ (r : PlacementRow). r.right) c.args.rows.now (to_z w64 (of_z w64 c.value-number.result)) c.requires (c.loop-low.low + (c.loop-low.high - c.loop-low.low) / 2) c.index-rows-middle.result within c.index-rows-middle.is
          (sym c.ends_before.ensures.answer ∙ c.if-ends_before.true) j d (omega arith);
      after = i.after;
      rises = omega arith;
      narrow = rw c.ends_before.ensures.counted (step_narrows c.args.steps.now c.loop-low.steps (c.loop-low.high - c.loop-low.low) (length c.args.rows.now) _ i.rises i.narrow (omega arith));
      cost = rw c.ends_before.ensures.counted (step_costs c.args.steps.now c.loop-low.steps (c.loop-low.high - c.loop-low.low) (length c.args.rows.now) i.rises i.narrow (omega arith));
      enough = rw c.ends_before.ensures.counted (step_keeps c.args.steps.now c.loop-low.steps (c.loop-low.high - c.loop-low.low) (length c.args.rows.now) _ i.rises i.enough (omega arith));
    }

pub loop-low-preserved : goal.loop-low-preserved
loop-low-preserved g c =
    let i = c.loop-low.invariant in
    let within : c.loop-low.low + (c.loop-low.high - c.loop-low.low) / 2 < length c.args.rows.now = omega arith in
    record {
      order = omega arith;
      within = within;
      before = i.before;
      after = climb_high (λ (r : PlacementRow). r.right) c.args.rows.now (to_z w64 (of_z w64 c.value-number.result)) c.requires (c.loop-low.low + (c.loop-low.high - c.loop-low.low) / 2) c.index-rows-middle.result within c.index-rows-middle.is
          (sym c.ends_before.ensures.answer ∙ c.if-ends_before.false);
      rises = omega arith;
      narrow = rw c.ends_before.ensures.counted (step_narrows c.args.steps.now c.loop-low.steps (c.loop-low.high - c.loop-low.low) (length c.args.rows.now) _ i.rises i.narrow (omega arith));
      cost = rw c.ends_before.ensures.counted (step_costs c.args.steps.now c.loop-low.steps (c.loop-low.high - c.loop-low.low) (length c.args.rows.now) i.rises i.narrow (omega arith));
      enough = rw c.ends_before.ensures.counted (step_keeps c.args.steps.now c.loop-low.steps (c.loop-low.high - c.loop-low.low) (length c.args.rows.now) _ i.rises i.enough (omega arith));
    }
