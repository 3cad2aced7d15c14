use Rattle.std.proofs.Common.{sym, ◌∙◌}
use Rattle.token_ring.specs.code.EndedRanges.{ends_by}
use Rattle.token_ring.proofs.RangesApart.{advance_one, advance_other}
use Rattle.token_ring.proofs.common.are_apart.Goals as goal

pub loop-i-preserved-then-ends_by : goal.loop-i-preserved-then-ends_by
loop-i-preserved-then-ends_by c =
    advance_one c.args.a.now c.args.b.now c.loop-i.i c.loop-i.j c.index-a-i.result c.index-b-j.result c.loop-i-test.true c.if-j-b.true c.index-a-i.is c.index-b-j.is c.requires.other ((λ k. ends_by (c.index-a-i.is k).right (c.index-b-j.is k).left) ∙ sym c.ends_by.ensures ∙ c.if-ends_by.true) c.loop-i.invariant

pub loop-i-preserved : goal.loop-i-preserved
loop-i-preserved c =
    advance_other c.args.a.now c.args.b.now c.loop-i.i c.loop-i.j c.index-a-i-else-ends_by.result c.index-b-j-else-ends_by.result c.loop-i-test.true c.if-j-b.true c.index-a-i-else-ends_by.is c.index-b-j-else-ends_by.is c.requires.one ((λ k. ends_by (c.index-b-j-else-ends_by.is k).right (c.index-a-i-else-ends_by.is k).left) ∙ sym c.ends_by-else-ends_by.ensures ∙ c.if-ends_by-2.true) c.loop-i.invariant
