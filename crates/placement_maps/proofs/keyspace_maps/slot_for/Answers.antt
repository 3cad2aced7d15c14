use Rattle.std.proofs.Common.{ap, sym, ◌∙◌}
use Rattle.placement_maps.proofs.ArrangedMaps.{kept_fills, placed_fills}
use Rattle.placement_maps.specs.Maps.{placement_rows}
use Rattle.placement_maps.proofs.keyspace_maps.slot_for.Goals as goal

pub returns-in-Some : goal.returns-in-Some
returns-in-Some g c =
    kept_fills c.args.image.now c.args.replication.now c.args.left.now.items c.take_out.new.list.items c.in-Some.at (sym c.take_out.ensures.place ∙ c.in-Some.is) c.in-Some.ensures.left

pub returns-in_ok-replication-in-None : goal.returns-in_ok-replication-in-None
returns-in_ok-replication-in-None g c =
    placed_fills c.args.image.now c.args.replication.now c.args.left.now.items c.take_out.new.list.items _ c.in-None.ensures.left c.in_ok-replication-in-None.ensures.copied (c.in_ok-map-in-None.ensures.map ∙ ap (placement_rows c.args.image.now) (sym c.in_ok-replication-in-None.ensures.copied), c.in_ok-map-in-None.ensures.tokens)
