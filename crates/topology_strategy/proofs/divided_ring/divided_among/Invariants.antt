use Rattle.std.proofs.Common.{◌≡◌, take}
use Rattle.topology_strategy.specs.code.RingParts.{parts_of}
use Rattle.topology_strategy.specs.GroupedRing.{homes_of}
use Rattle.topology_strategy.proofs.divided_ring.divided_among.Given as goal

-- the parts of the datacenters so far
abbrev pub invariant-loop-name : goal.invariant-loop-name
invariant-loop-name l = l.parts.items ≡ parts_of l.ring l.dir.rows (homes_of l.dir.rows l.pairs (take l.name-index l.factors))
