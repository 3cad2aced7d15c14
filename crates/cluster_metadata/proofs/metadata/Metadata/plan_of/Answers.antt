use Rattle.std.proofs.Common.{◌≡◌, List, Some, ap, sym, ◌∙◌, subst}
use Rattle.placement_deltas.specs.declared.plan.Plan.{Plan}
use Rattle.sequence_plans.specs.PlanDeltas.{HasDeltas}
use Rattle.transformations.specs.declared.image.Image.{Image}
use Rattle.transformations.specs.declared.sequence.Phase.TheVariants as phase
use Rattle.cluster_metadata.proofs.in_flight.FoundPlans.{deltas_found, none_found, row_found, value_of}
use Rattle.cluster_metadata.specs.code.Running.{HaveDeltas, IsRunning, plan_of}
use Rattle.cluster_metadata.specs.declared.movements.running.Running.{Running}
use Rattle.cluster_metadata.proofs.metadata.Metadata.plan_of.Goals as goal

pub returns-in-Some-clause-row : goal.returns-in-Some-clause-row
returns-in-Some-clause-row c =
    let values : List Running = c.self.inside.in_flight.running.items in
    let m : Running = c.in-Some.movement.now in
    let running : IsRunning c.args.self.now.sequences values = subst (λ (i : Image). IsRunning i.sequences values) c.self.view_is c.self.invariant.running in
    let found : Some m ≡ value_of values c.args.node = c.in-Some.ensures ∙ ap (λ vs. value_of vs c.args.node) c.as_slice.ensures.value in
    let own : (plan_of m).row.phase ≡ phase.Prepared = subst (λ (p : Plan). p.row.phase ≡ phase.Prepared) c.plan.ensures.plan c.plan.ensures.prepared in
    ap (λ (p : Plan). Some p.row) c.plan.ensures.plan ∙ row_found c.args.self.now values running c.args.node m found own

pub returns-in-Some-clause-deltas : goal.returns-in-Some-clause-deltas
returns-in-Some-clause-deltas c =
    let values : List Running = c.self.inside.in_flight.running.items in
    let m : Running = c.in-Some.movement.now in
    let deltas : HaveDeltas c.args.self.now values = subst (λ (i : Image). HaveDeltas i values) c.self.view_is c.self.invariant.deltas in
    let found : Some m ≡ value_of values c.args.node = c.in-Some.ensures ∙ ap (λ vs. value_of vs c.args.node) c.as_slice.ensures.value in
    subst (HasDeltas c.args.self.now) (sym c.plan.ensures.plan) (deltas_found c.args.self.now values c.args.node m deltas found)

pub returns-in-None-clause-row : goal.returns-in-None-clause-row
returns-in-None-clause-row c =
    let values : List Running = c.self.inside.in_flight.running.items in
    let running : IsRunning c.args.self.now.sequences values = subst (λ (i : Image). IsRunning i.sequences values) c.self.view_is c.self.invariant.running in
    none_found c.args.self.now values running c.args.node (c.in-None.ensures ∙ ap (λ vs. value_of vs c.args.node) c.as_slice.ensures.value)
