-- The nodes that a walk takes in one group (NetworkTopologyStrategy).
use Rattle.std.specs.Prelude.{ℕ, ◌-◌, if◌then◌else◌, List, [], ◌∷◌, ◌++◌, length, take, drop, nat_eq, nat_lt, Option, Some, None, flat_map}
use Rattle.std.specs.List.{zip}
use Rattle.std.specs.Set.{is_member}
use Rattle.std.specs.Str.{bytes_eq}
use Rattle.cluster_terms.specs.Group.{Group, nodes_of}
use Rattle.cluster_terms.specs.Replication.{datacenter_group}
use Rattle.cluster_terms.specs.declared.node.NodeRow.{NodeRow}
use Rattle.cluster_terms.specs.declared.token.Pair.{Pair}
use Rattle.node_directory.specs.declared.shape.Shape.{Shape}
use Rattle.topology_strategy.specs.DatacenterShapes.{shapes_of}

-- the nodes that are taken, the racks that are seen, and how many further nodes of seen racks may be taken
pub record Found : Type 0 where
  pub taken : List ℕ
  pub racks : List (List ℕ)
  pub repeats : ℕ

-- the walk after a node of a rack is met: it passes over a node that is taken already; it takes any other node if the
-- rack is new, or if a repeat is left, which the node uses up
abbrev pub found_at : ℕ → List ℕ → Found → Found
found_at n rack found =
    if is_member nat_eq found.taken n then found
    else (if is_member bytes_eq found.racks rack then
    (if nat_lt 0 found.repeats then record found { taken = found.taken ++ n ∷ []; repeats = found.repeats - 1 } else found)
    else record found { taken = found.taken ++ n ∷ []; racks = found.racks ++ rack ∷ [] })

-- the walk after a node is met: it passes over a node outside the group, and over any node once it has all wanted nodes
abbrev pub found_with : ℕ → ℕ → Option (List ℕ) → Found → Found
found_with wanted n None found = found
found_with wanted n (Some rack) found = if nat_lt (length found.taken) wanted then found_at n rack found else found

-- the walk after several nodes are met, one after another
abbrev pub found_after : Group → ℕ → List ℕ → Found → Found
found_after g wanted [] found = found
found_after g wanted (n ∷ ns) found = found_after g wanted ns (found_with wanted n (g.rack_of n) found)

-- the nodes that a walk along ns takes in a group of this shape
abbrev pub taken_along : List ℕ → Group → Shape → List ℕ
taken_along ns g shape = (found_after g shape.wanted ns (record { taken = []; racks = []; repeats = shape.spare })).taken

-- the nodes that the walks along ns take in several datacenters of these shapes, each by itself
abbrev pub taken_in_all : List ℕ → List NodeRow → List (List ℕ × ℕ) → List Shape → List ℕ
taken_in_all ns nodes factors shapes = flat_map (λ p. taken_along ns (datacenter_group nodes p.0) p.1) (zip factors shapes)

-- the nodes that the walks from the pair at position i take: each goes once round the ring, and has the shape of its
-- datacenter in the ring
abbrev pub taken_from : ℕ → List NodeRow → List (List ℕ × ℕ) → List Pair → List ℕ
taken_from i nodes factors ring =
    taken_in_all (nodes_of (drop i ring ++ take i ring)) nodes factors (shapes_of nodes factors (nodes_of ring))
