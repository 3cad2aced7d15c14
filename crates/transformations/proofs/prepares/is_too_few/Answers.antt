use Rattle.std.proofs.Common.{ℕ, List, Some, ap, ◌∙◌}
use Rattle.std.specs.List.{list_any}
use Rattle.transformations.proofs.commands.DatacenterGroupLemmas.{few_topology}
use Rattle.transformations.specs.code.DatacenterGroups.{is_short_at}
use Rattle.transformations.proofs.prepares.is_too_few.Goals as goal

pub returns-in-Topology : goal.returns-in-Topology
returns-in-Topology c =
    let image = c.args.image.now in
    let n = c.args.n in
    c.is_short_in_any.ensures
    ∙ ap (list_any (λ (f : List ℕ × ℕ). is_short_at image n (Some f.0) f.1)) c.rows.ensures.rows
    ∙ few_topology image n c.args.replication.now c.in-Topology.factors c.in-Topology.is
