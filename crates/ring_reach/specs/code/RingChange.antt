-- The tokens that a change of a ring reaches.
use Rattle.std.specs.Prelude.{Bool, ℤ, List, ◌++◌}
use Rattle.cluster_terms.specs.Group.{Group}
use Rattle.cluster_terms.specs.Pair.{tokens_of}
use Rattle.cluster_terms.specs.Reach.{is_reached, is_reached_in}
use Rattle.ring_reach.specs.declared.ring_change.RingChange.{RingChange}

-- whether a change reaches a token in a group
abbrev pub reaches_in : RingChange → Group → ℤ → Bool
reaches_in change g = λ x. is_reached_in change.fixed.now change.widest.now change.moved.now x g

-- whether a change reaches a token in any of several groups
abbrev pub reaches_any : RingChange → List Group → ℤ → Bool
reaches_any change gs = λ x. is_reached gs change.fixed.now change.widest.now change.moved.now x

-- the tokens of the pairs that stay and of those that come or go
abbrev pub tokens_of_both : RingChange → List ℤ
tokens_of_both change = tokens_of change.fixed.now ++ tokens_of change.moved.now
