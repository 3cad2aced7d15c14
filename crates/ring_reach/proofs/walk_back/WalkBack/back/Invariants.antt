use Rattle.std.proofs.Common.{◌≡◌, None, drop}
use Rattle.ring_reach.specs.code.WalkBack.{course_of, met_back, back}
use Rattle.ring_reach.proofs.walk_back.WalkBack.back.Given as goal

-- the nodes of the pairs so far are met, and the walk did not end at them
abbrev pub invariant-loop-at : goal.invariant-loop-at
invariant-loop-at l = record {
  met : l.tally ≡ met_back (course_of l.self) (drop l.at l.pairs) l.fn.tally;
  goes_on : back (course_of l.self) l.span (drop l.at l.pairs) l.fn.tally ≡ None;
}
