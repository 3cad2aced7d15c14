use Rattle.std.proofs.Common.{sym, subst}
use Rattle.range_placements.proofs.Exchanges.{exchanged_map}
use Rattle.range_placements.specs.Placements.{IsPlacementMap}
use Rattle.range_placements.proofs.placement_map.PlacementMap.exchange.Goals as goal

pub invariant_of-self : goal.invariant_of-self
invariant_of-self c = subst IsPlacementMap (sym c.make.ensures) (exchanged_map c.args.changes c.self.inside.rows.items c.self.invariant)
