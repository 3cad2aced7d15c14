use Rattle.std.proofs.Common.{◌∙◌}
use Rattle.cluster_metadata.proofs.accepted.ChangedNodes.{owner_refused}
use Rattle.cluster_metadata.proofs.permit.first_refusal.Goals as goal

pub returns-in-Register : goal.returns-in-Register
returns-in-Register c =
    let found = rw c.requires.nodes at c.find.ensures in
    c.register_refusal.ensures ∙ owner_refused c.args.image.now c.args.cmd.now _ _ _ c.find.result c.in-Register.is found
