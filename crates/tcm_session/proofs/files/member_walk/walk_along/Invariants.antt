use Rattle.std.proofs.Common.{◌≡◌, ◌++◌, IsSome, length}
use Rattle.cms_members.specs.Accepted.{service_after_all}
use Rattle.cms_members.specs.Service.{service_of}
use Rattle.tcm_session.specs.code.Walks.{service_at}
use Rattle.tcm_session.specs.files.MemberRoute.{change_lines}
use Rattle.tcm_session.proofs.files.member_walk.walk_along.Given as goal

-- the changes that are left are accepted, and their lines follow those so far
abbrev pub invariant-loop-change : goal.invariant-loop-change
invariant-loop-change l = record {
  accepted : IsSome (service_after_all (service_at l.walk) l.rest);
  lines : l.out ++ change_lines (service_at l.walk) l.rest ≡ l.fn.out ++ change_lines (service_of l.fn.members) l.changes;
}

abbrev pub decreases-loop-change : goal.decreases-loop-change
decreases-loop-change l = length l.rest
