use Rattle.std.proofs.Common.{◌≡◌}
use Rattle.std.specs.Option.{option_copied}
use Rattle.tcm_session.specs.Request.{node_list}
use Rattle.tcm_session.specs.code.Requests.{parts_left, size_left}
use Rattle.tcm_session.proofs.members.ReadLists.{kept_with}
use Rattle.tcm_session.proofs.node_list.node_list.Given as goal

-- the nodes so far and those of the rest are the nodes of the list
abbrev pub invariant-loop-rest : goal.invariant-loop-rest
invariant-loop-rest l = kept_with l.nodes (parts_left (option_copied l.rest)) ≡ node_list l.text

abbrev pub decreases-loop-rest : goal.decreases-loop-rest
decreases-loop-rest l = size_left (option_copied l.rest)
