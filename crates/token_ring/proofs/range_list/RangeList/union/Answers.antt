use Rattle.std.proofs.Common.{rules, ◌∙◌}
use Rattle.token_ring.specs.TokenRanges.{either_has}
use Rattle.token_ring.proofs.ChosenRows.{have_either}
use Rattle.token_ring.proofs.range_list.RangeList.union.Goals as goal

pub returns : goal.returns
returns c = λ t token.
    let one = c.args.self.now in
    let other = c.args.other.now in
    c.in_ok-both.ensures.ranges (either_has one other) (λ x b _ told. search rules) t token
    ∙ have_either c.deref.result.now one other (rw c.deref.ensures.value c.in_ok-cuts.ensures.ascending) c.in_ok-both.ensures.tokens
    (rw (c.deref.ensures.value, ← c.as_slice.ensures.ranges) c.in_ok-cuts.ensures.one)
    (rw (c.deref.ensures.value, ← c.as_slice-2.ensures.ranges) c.in_ok-cuts.ensures.other) t token
