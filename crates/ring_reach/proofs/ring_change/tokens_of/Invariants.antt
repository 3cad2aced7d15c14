use Rattle.std.proofs.Common.{◌≡◌, take}
use Rattle.node_directory.specs.Members.{group_of}
use Rattle.ring_reach.specs.code.Moved.{tokens_in}
use Rattle.ring_reach.proofs.ring_change.tokens_of.Given as goal

-- the tokens so far
abbrev pub invariant-loop-pair : goal.invariant-loop-pair
invariant-loop-pair l = l.tokens.items ≡ tokens_in (group_of l.members) (take l.pair-index l.pairs)
