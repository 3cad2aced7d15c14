use Rattle.placement_deltas.specs.declared.plan.Plan.{Plan}
use Rattle.sequence_plans.proofs.PersistLemmas.{begun_persists}
use Rattle.sequence_plans.proofs.planning.plan_in.Goals as goal

pub returns-in-Ok-clause-persists : goal.returns-in-Ok-clause-persists
returns-in-Ok-clause-persists g c =
    let parts = c.in-Ok.parts in
    let plan : Plan = record { row = c.args.row; cuts = parts.cuts; ranges = parts.ranges; wide = parts.wide; gain = parts.books.gain; swap = parts.books.swap; lose = parts.books.lose } in
    begun_persists c.args.image.now c.args.row plan c.in-Ok.ensures.row c.in-Ok.ensures.deltas
