use Rattle.std.proofs.Common.{◌≡◌, ◌<◌, length, arith}
use Rattle.token_ring.proofs.RangeLemmas.{search_within, search_past}
use Rattle.token_ring.proofs.range_list.RangeList.contains.Goals as goal

pub returns-then-before-len : goal.returns-then-before-len
returns-then-before-len c =
    let within : c.count_before-before.result < length c.self.inside.ranges.items = omega arith in
    rw (← c.self.view_is) (search_within _ _ _ c.index.result.now c.is_past.result c.self.invariant (rw c.deref.ensures.value at c.count_before-before.ensures.split) within c.index.ensures c.is_past.ensures)

pub returns-else-before-len : goal.returns-else-before-len
returns-else-before-len c =
    let all : c.len.result ≡ length c.self.inside.ranges.items = omega arith in
    rw (← c.self.view_is) (search_past _ _ _ c.len.result c.self.invariant (rw c.deref.ensures.value at c.count_before-before.ensures.split) all c.if-before-len.false)
