use Rattle.std.proofs.Common.{◌≡◌, ◌∙◌, [], length, refl, rules}
use Rattle.std.specs.Vec.{vec_len}
use Rattle.cluster_metadata.proofs.in_flight.RenewedPlans.{all_renewed, next_renewed, next_row, next_rows, next_there, none_renewed}
use Rattle.cluster_metadata.proofs.changes.enact.renew_plans.Goals as goal

pub loop-plan-init : goal.loop-plan-init
loop-plan-init c = record { left = none_renewed _ _ c.requires; rows = refl }

pub remove-movement-requires : goal.remove-movement-requires
remove-movement-requires c =
    let place : c.len-at.result ≡ length c.pop.new.self.items = search rules in
    let count : vec_len c.loop-plan.running ≡ length c.loop-plan.running.items = search rules in
    rw count (next_there _ _ _ _ _ _ c.in-Some.ensures.items place c.loop-plan.invariant.left)

pub renewed-requires : goal.renewed-requires
renewed-requires c =
    let place : c.len-at.result ≡ length c.pop.new.self.items = search rules in
    next_row _ _ _ _ _ _ c.in-Some.ensures.items place c.loop-plan.invariant.left _ c.remove-movement.ensures.value

pub loop-plan-preserved : goal.loop-plan-preserved
loop-plan-preserved c =
    let place : c.len-at.result ≡ length c.pop.new.self.items = search rules in
    let items = c.in-Some.ensures.items in
    let value = c.remove-movement.ensures.value in
    let kept = next_renewed _ _ _ _ _ _ items place c.loop-plan.invariant.left _ value c.renewed.result c.renewed.ensures.plan c.renewed.ensures.phase in
    let rows = next_rows _ _ _ _ _ _ items place c.loop-plan.invariant.left _ value c.renewed.result c.renewed.ensures.plan c.renewed.ensures.phase in
    record {
      left = rw (c.put.ensures, c.remove-movement.ensures.items) kept;
      rows = rw (c.put.ensures, c.remove-movement.ensures.items) (rows ∙ c.loop-plan.invariant.rows);
    }

pub returns-clause-plans : goal.returns-clause-plans
returns-clause-plans c =
    let none : c.loop-plan.left.items ≡ [] = search rules in
    all_renewed _ _ _ none c.loop-plan.invariant.left

pub returns-clause-rows : goal.returns-clause-rows
returns-clause-rows c = c.loop-plan.invariant.rows
