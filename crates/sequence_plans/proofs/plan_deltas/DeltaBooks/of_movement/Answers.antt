use Rattle.std.proofs.Common.{map, take}
use Rattle.token_ring.specs.declared.range_book.RangeRow.{RangeRow}
use Rattle.sequence_plans.proofs.BookLemmas.{all_at}
use Rattle.sequence_plans.proofs.DeltaBookLemmas.{replications_more, steps_more}
use Rattle.sequence_plans.proofs.plan_deltas.DeltaBooks.of_movement.Goals as goal

pub deltas_under-requires-clause-ranges : goal.deltas_under-requires-clause-ranges
deltas_under-requires-clause-ranges g c = all_at _ c.args.ranges.now c.loop-row.row-index c.row-item.result c.requires.ranges.ranges c.loop-row-test.true c.row-item.is

pub deltas_under-requires-clause-bounds : goal.deltas_under-requires-clause-bounds
deltas_under-requires-clause-bounds g c = all_at _ c.args.ranges.now c.loop-row.row-index c.row-item.result c.requires.ranges.bounds c.loop-row-test.true c.row-item.is

pub loop-row-preserved : goal.loop-row-preserved
loop-row-preserved g c =
    let loop = c.loop-row in
    let rows = c.args.ranges.now in
    let row = c.row-item.result in
    let pushed = c.in_ok-push.ensures in
    steps_more (map (λ (r : RangeRow). r.replication) (take loop.row-index rows)) row.replication c.args.rings.now.image.now c.args.rings.now.row.now loop.books.gain loop.books.swap loop.books.lose
    c.in_ok-deltas.deltas _ _ _ _ loop.invariant c.in_ok-deltas.ensures (replications_more rows loop.row-index row c.loop-row-test.true c.row-item.is)
    pushed.gain pushed.swap pushed.lose
