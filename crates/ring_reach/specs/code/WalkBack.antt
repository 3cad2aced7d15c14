-- A walk back round the ring in one group, from a moved token to the place where enough replicas are met.
use Rattle.std.specs.Prelude.{◌≡◌, ℕ, ◌-◌, Bool, true, ◌||◌, if◌then◌else◌, nat_lt, ℤ, List, [], ◌∷◌, Option, Some, None}
use Rattle.std.specs.Ordering.{int_eq}
use Rattle.std.specs.Set.{is_member}
use Rattle.cluster_terms.specs.Group.{Group, nodes_of, node_count, rack_count, ahead_of}
use Rattle.cluster_terms.specs.Pair.{tokens_of}
use Rattle.cluster_terms.specs.declared.token.Pair.{Pair}
use Rattle.node_directory.specs.Members.{group_of}
use Rattle.node_directory.specs.Tally.{Tallied, nothing, met, lacks}
use Rattle.ring_reach.specs.code.Windows.{is_inside}
use Rattle.ring_reach.specs.declared.walk_back.WalkBack.{WalkBack}
use Rattle.ring_reach.specs.declared.windows.Window.{Window}

-- a group, the fixed pairs, and how many nodes and racks are to be met
pub record Course : Type 0 where
  pub group : Group
  pub fixed : List Pair
  pub nodes : ℕ
  pub racks : ℕ

-- the course of a walk
abbrev pub course_of : WalkBack → Course
course_of w = record { group = group_of w.members.now; fixed = w.fixed.now; nodes = w.shape.wanted; racks = w.shape.wanted - w.shape.spare }

-- whether x leaves replicas to find at y: from x clockwise before y too few nodes or racks are met
abbrev pub leaves : Course → ℤ → ℤ → Bool
leaves c x y =
    let ahead = nodes_of (ahead_of x y c.fixed) in
    nat_lt (node_count c.group ahead) c.nodes || nat_lt (rack_count c.group ahead) c.racks

-- the tally after the nodes of the pairs are met, from the last to the first
abbrev pub met_back : Course → List Pair → Tallied → Tallied
met_back c [] tally = tally
met_back c (p ∷ ps) tally = met c.group p.node (met_back c ps tally)

-- where a walk in a span ends at a pair, if it does: at the span's left end if the pair is past it, and at the pair's
-- token if the tally then lacks nothing
abbrev pub stop_at : Window → Pair → Tallied → Option ℤ
stop_at span p tally = if is_inside p.token span then (if lacks tally then None else Some p.token) else Some span.left

-- the first of two, if there is one, otherwise the second
abbrev pub first_some : Option ℤ → Option ℤ → Option ℤ
first_some None other = other
first_some (Some t) other = Some t

-- where a walk back over the pairs ends, if it does
abbrev pub back : Course → Window → List Pair → Tallied → Option ℤ
back c span [] tally = None
back c span (p ∷ ps) tally = first_some (back c span ps tally) (stop_at span p (met_back c (p ∷ ps) tally))

-- two tallies ask for as many nodes and racks
pub record AskSame (tally other : Tallied) : Type 0 where
  pub nodes : tally.most_nodes ≡ other.most_nodes
  pub racks : tally.most_racks ≡ other.most_racks

-- a tally asks for the nodes and racks that are to be met, and these are some
pub record AsksAs (c : Course) (tally : Tallied) : Type 0 where
  pub same : AskSame (nothing c.nodes c.racks) tally
  pub some : lacks (nothing c.nodes c.racks) ≡ true

-- a part of a span has those tokens of the span that leave replicas to find at its right end
pub record IsPart (c : Course) (span part : Window) : Type 0 where
  pub right : part.right ≡ span.right
  pub left : is_member int_eq (span.left ∷ tokens_of c.fixed) part.left ≡ true
  pub reach : (x : ℤ) → is_inside x span ≡ true → leaves c x span.right ≡ is_inside x part
