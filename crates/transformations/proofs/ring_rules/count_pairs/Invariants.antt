use Rattle.std.proofs.Common.{◌≡◌, ℕ, ◌<◌, get_or, length, take}
use Rattle.transformations.specs.Movements.{owned}
use Rattle.transformations.proofs.ring_rules.count_pairs.Given as goal

-- the pairs of each node so far are counted
abbrev pub invariant-loop-pair : goal.invariant-loop-pair
invariant-loop-pair l = record {
  long : length l.counts.items ≡ l.ids;
  counts : (n : ℕ) → n < l.ids → get_or l.counts.items n 0 ≡ length (owned (take l.pair-index l.pairs) n);
}
