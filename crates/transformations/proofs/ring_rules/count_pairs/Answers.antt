use Rattle.std.proofs.Common.{arith}
use Rattle.transformations.proofs.images.LoopLemmas.{counted_fits}
use Rattle.transformations.proofs.ring_rules.count_pairs.Goals as goal

pub overflow_add-index_mut : goal.overflow_add-index_mut
overflow_add-index_mut c =
    let le = counted_fits _ _ c.loop-pair.pair-index _ _ c.index_mut.result.now c.loop-pair.invariant.counts c.loop-pair.invariant.long c.if-at-ids.true c.index_mut.ensures.value in
    omega arith
