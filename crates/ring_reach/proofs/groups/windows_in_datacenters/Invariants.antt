use Rattle.std.proofs.Common.{◌≡◌, ℤ, map, take}
use Rattle.std.specs.List.{flat_map}
use Rattle.cluster_terms.specs.Reach.{is_reached}
use Rattle.cluster_terms.specs.Replication.{datacenter_group}
use Rattle.ring_reach.specs.code.RingChange.{tokens_of_both}
use Rattle.ring_reach.specs.code.Moved.{AreTokensAmong}
use Rattle.ring_reach.specs.code.Windows.{any_have, window_bounds}
use Rattle.ring_reach.proofs.groups.windows_in_datacenters.Given as goal

-- the windows of the datacenters so far
abbrev pub invariant-loop-name : goal.invariant-loop-name
invariant-loop-name l = record {
  reach : (x : ℤ) → any_have l.groups.items x ≡ is_reached (map (datacenter_group l.dir.rows) (take l.name-index l.factors)) l.change.fixed.now l.change.widest.now l.change.moved.now x;
  bounds : AreTokensAmong (flat_map window_bounds l.groups.items) (tokens_of_both l.change);
}
