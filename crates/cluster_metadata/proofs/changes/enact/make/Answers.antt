use Rattle.std.proofs.Common.{◌∙◌, sym}
use Rattle.cluster_metadata.proofs.in_flight.RenewedPlans.{own_rows}
use Rattle.cluster_metadata.proofs.changes.enact.make.Goals as goal

pub renew_plans-requires : goal.renew_plans-requires
renew_plans-requires c = (rw c.in-Keyspaces.is at c.requires.follows) ∙ sym (own_rows _ _ c.requires.running)
