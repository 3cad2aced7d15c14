use Rattle.std.proofs.Common.{◌≡◌, false, ◌&&◌, take}
use Rattle.std.specs.List.{AllByRecursion}
use Rattle.cluster_terms.specs.Arc.{IsToken}
use Rattle.token_ring.specs.TokenRanges.{have_token}
use Rattle.token_ring.proofs.range_list.RangeList.first_common.Given as goal

-- the cuts so far are tokens, and none of them is in both lists
abbrev pub invariant-loop-cut : goal.invariant-loop-cut
invariant-loop-cut l = record {
  none : AllByRecursion (λ t. (have_token l.a t && have_token l.b t) ≡ false) (take l.cut-index l.cuts);
  tokens : AllByRecursion IsToken (take l.cut-index l.cuts);
}
