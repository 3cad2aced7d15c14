use Rattle.std.proofs.Common.{◌≡◌, ◌||◌, ℤ, take}
use Rattle.std.specs.BTreeSet.{contains}
use Rattle.std.specs.Ordering.{int_cmp}
use Rattle.transformations.proofs.images.TokenLoops.{has_token}
use Rattle.transformations.proofs.movement_rules.add_tokens.Given as goal

-- the tokens so far are in the set
abbrev pub invariant-loop-pair : goal.invariant-loop-pair
invariant-loop-pair l = (t : ℤ) → contains int_cmp l.seen t ≡ (contains int_cmp l.fn.seen t || has_token (take l.pair-index l.pairs) t)
