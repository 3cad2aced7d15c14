use Rattle.std.proofs.Common.{◌≤◌, length, take}
use Rattle.std.specs.Option.{option_copied}
use Rattle.cluster_terms.specs.Group.{nodes_of}
use Rattle.transformations.proofs.commands.DatacenterGroupLemmas.{AreFound}
use Rattle.transformations.specs.code.DatacenterGroups.{is_in_group}
use Rattle.transformations.proofs.prepares.has_more_in.Given as goal

-- the nodes of the pairs so far are found, and are no more than asked
abbrev pub invariant-loop-pair : goal.invariant-loop-pair
invariant-loop-pair l = record {
  found : AreFound (is_in_group l.nodes (option_copied l.initial.dc)) (nodes_of (take l.pair-index l.pairs)) l.found;
  most : length l.found ≤ l.most;
}
