use Rattle.std.proofs.Common.{sym, subst}
use Rattle.std.specs.List.Sorted.{IsStrictlySortedBy}
use Rattle.std.specs.Ordering.{int_cmp}
use Rattle.ring_reach.proofs.WindowLemmas.{one_ascends}
use Rattle.ring_reach.specs.code.Windows.{rights_of, window}
use Rattle.ring_reach.proofs.windows.Windows.whole_ring.Goals as goal

pub invariant_of-result : goal.invariant_of-result
invariant_of-result c = subst (λ ws. IsStrictlySortedBy int_cmp (rights_of ws)) (sym c.in_ok-windows.ensures.items) (one_ascends (window c.args.token c.args.token))
