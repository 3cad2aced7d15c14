use Rattle.std.proofs.Common.{◌≡◌, ◌-◌, drop}
use Rattle.transformations.specs.History.{ascend}
use Rattle.wire_json.proofs.token_lists.ascend.Given as goal

abbrev pub invariant-loop-at : goal.invariant-loop-at
invariant-loop-at l = ascend l.tokens ≡ ascend (drop (l.at - 1) l.tokens)
