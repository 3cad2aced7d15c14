use Rattle.std.proofs.Common.{sym, subst}
use Rattle.token_ring.specs.TokenRanges.{IsRangeList}
use Rattle.token_ring.proofs.RangeLemmas.{list_push}
use Rattle.token_ring.proofs.range_list.RangeList.push.Goals as goal
use Rattle.token_ring.proofs.range_list.RangeList.push.Goals.{in-Ok, in-Err}

pub invariant_of-self : goal.invariant_of-self
invariant_of-self c =
    elim c.match-push.branch [
      | in-Ok w ↦ subst IsRangeList (sym w.in-Ok.ensures.items) (list_push c.self.inside.ranges.items c.args.range c.self.invariant c.requires.range (rw (← c.self.view_is) at c.requires.apart))
      | in-Err w ↦ subst IsRangeList (sym w.in-Err.ensures.items) c.self.invariant
    ]
