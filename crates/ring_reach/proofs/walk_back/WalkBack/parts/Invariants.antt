use Rattle.std.proofs.Common.{◌≡◌, true, take}
use Rattle.std.specs.List.{All}
use Rattle.std.specs.Ordering.{int_eq}
use Rattle.std.specs.Set.{is_member}
use Rattle.ring_reach.specs.code.WalkBack.{AsksAs, course_of}
use Rattle.ring_reach.specs.code.Windows.{rights_of}
use Rattle.ring_reach.proofs.PartLemmas.{IsPartOf}
use Rattle.ring_reach.proofs.walk_back.WalkBack.parts.Given as goal

-- a part for each token so far
abbrev pub invariant-loop-token : goal.invariant-loop-token
invariant-loop-token l = record {
  asks : AsksAs (course_of l.self) l.tally;
  left : is_member int_eq l.moved l.left ≡ true;
  rights : rights_of l.windows.items ≡ take l.token-index l.moved;
  parts : All (IsPartOf (course_of l.self) l.moved) l.windows.items;
}
