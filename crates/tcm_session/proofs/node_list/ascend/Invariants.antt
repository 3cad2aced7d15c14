use Rattle.std.proofs.Common.{◌≡◌, ◌-◌, drop}
use Rattle.tcm_session.specs.Request.{nodes_ascend}
use Rattle.tcm_session.proofs.node_list.ascend.Given as goal

abbrev pub invariant-loop-at : goal.invariant-loop-at
invariant-loop-at l = nodes_ascend l.nodes ≡ nodes_ascend (drop (l.at - 1) l.nodes)
