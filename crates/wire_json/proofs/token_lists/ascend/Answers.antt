use Rattle.std.proofs.Common.{◌≤◌, ◌+◌, ◌-◌, length, sym, ◌∙◌, arith}
use Rattle.wire_json.proofs.json_values.TokenItems.{ascend-end}
use Rattle.wire_json.proofs.token_lists.ascend.Goals as goal

pub returns : goal.returns
returns c =
    let past : length c.args.tokens.now ≤ (c.loop-at.at - 1) + 1 = omega arith in
    sym (c.loop-at.invariant ∙ ascend-end c.args.tokens.now (c.loop-at.at - 1) past)
