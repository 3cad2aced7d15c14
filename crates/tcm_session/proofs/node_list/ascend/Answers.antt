use Rattle.std.proofs.Common.{◌≤◌, ◌+◌, ◌-◌, length, sym, ◌∙◌, arith}
use Rattle.tcm_session.proofs.members.ListedNodes.{ascend-end}
use Rattle.tcm_session.proofs.node_list.ascend.Goals as goal

pub returns : goal.returns
returns c =
    let past : length c.args.nodes.now ≤ (c.loop-at.at - 1) + 1 = omega arith in
    sym (c.loop-at.invariant ∙ ascend-end c.args.nodes.now (c.loop-at.at - 1) past)
