use Rattle.std.proofs.Common.{sym, ◌∙◌}
use Rattle.std.proofs.lemmas.Result.{IfOk-weaker}
use Rattle.cluster_terms.proofs.placement.PlacedByReach.{placed_by_reach}
use Rattle.cluster_terms.specs.Replication.{groups_of}
use Rattle.ring_reach.proofs.reach.reached.Goals as goal

pub returns-clause-alone : goal.returns-clause-alone
returns-clause-alone c =
    let gs = groups_of c.args.dir.now.rows c.args.replication.now in
    IfOk-weaker c.ranges_in_groups.result _ _
    (λ ranges h x one other token out ring another differ.
    placed_by_reach gs c.args.fixed.now c.args.widest.now c.args.moved.now one other x ring another differ (sym (h x token) ∙ out))
    c.ranges_in_groups.ensures.reach
