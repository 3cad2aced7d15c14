-- The members of the metadata service, and how a change changes them. At most one node at a time has started to join: it
-- takes commits and doesn't vote yet.
use Rattle.std.specs.Prelude.{ℕ, Bool, false, ◌&&◌, ◌==◌, List, [], ◌∷◌, length, nat_eq, nat_le, nat_lt, if◌then◌else◌, Option, Some, None, is_none}
use Rattle.std.specs.Ordering.{nat_cmp}
use Rattle.cluster_terms.specs.Ascending.{put}
use Rattle.node_sets.specs.NodeSets.{has_node, without}
use Rattle.cms_members.specs.declared.change.Change.{Change}
use Rattle.cms_members.specs.declared.change.Change.TheVariants.{Start, Finish, Stop, Remove}
use Rattle.cms_members.specs.declared.fault.MemberFault.{MemberFault}
use Rattle.cms_members.specs.declared.fault.MemberFault.TheVariants.{NotMember, Last}
use Rattle.cms_members.specs.declared.fault.StartFault.{StartFault}
use Rattle.cms_members.specs.declared.fault.StartFault.TheVariants.{Member, Full}

-- the greatest number of members
abbrev pub most_members : ℕ
most_members = 32

-- whether these are 1 to 32 nodes, so that they can be members
abbrev pub are_members : List ℕ → Bool
are_members nodes = nat_le 1 (length nodes) && nat_le (length nodes) most_members

-- the voting members, ascending, and the node that has started to join them, if there is one
pub record Service : Type 0 where
  pub voting : List ℕ
  pub started : Option ℕ

-- the voting members, ascending, and the node that has started to join them
pub record Growth : Type 0 where
  pub voting : List ℕ
  pub node : ℕ

-- the service while no node has started
abbrev pub service_of : List ℕ → Service
service_of members = record { voting = members; started = None }

-- the service while a node has started
abbrev pub growing_service : Growth → Service
growing_service g = record { voting = g.voting; started = Some g.node }

-- why a node can't start
abbrev pub start_fault : List ℕ → ℕ → Option StartFault
start_fault members n =
    if has_node members n then Some Member
    else (if nat_lt (length members) most_members then None else Some (Full most_members))

-- why a member can't be removed
abbrev pub remove_fault : List ℕ → ℕ → Option MemberFault
remove_fault members n =
    if has_node members n then (if length members == 1 then Some Last else None)
    else Some NotMember

-- whether this is the node that has started
abbrev pub has_started : Option ℕ → ℕ → Bool
has_started None n = false
has_started (Some m) n = nat_eq m n

-- the service after a change, or none if the change is refused
abbrev pub service_after : Service → Change → Option Service
service_after s (Start n) =
    if is_none s.started && is_none (start_fault s.voting n)
    then Some (record { voting = s.voting; started = Some n }) else None
service_after s (Finish n) = if has_started s.started n then Some (service_of (put nat_cmp n s.voting)) else None
service_after s (Stop n) = if has_started s.started n then Some (service_of s.voting) else None
service_after s (Remove n) =
    if is_none s.started && is_none (remove_fault s.voting n)
    then Some (service_of (without s.voting (n ∷ []))) else None
