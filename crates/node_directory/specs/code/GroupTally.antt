-- The tally of several nodes of a group, and when it is complete.
use Rattle.std.specs.Prelude.{◌≡◌, ℕ, Bool, not, ◌&&◌, List, [], ◌∷◌, length, nat_lt}
use Rattle.std.specs.Set.{is_member}
use Rattle.std.specs.Str.{bytes_eq}
use Rattle.cluster_terms.specs.Group.{Group}
use Rattle.node_directory.specs.Tally.{Tallied, nothing, met}

-- the tally after several nodes are met, one after another
abbrev pub met_all : Group → List ℕ → Tallied → Tallied
met_all g [] tally = tally
met_all g (n ∷ ns) tally = met_all g ns (met g n tally)

-- the tally of these nodes in a group, with at most as many nodes and racks as the group is to have replicas
abbrev pub group_tally : Group → List ℕ → Tallied
group_tally g ns = met_all g ns (nothing g.rf g.rf)

-- whether the tally has as many nodes as asked for, and the rack of the group of all nodes, which has the empty name
abbrev pub has_all : Tallied → Bool
has_all tally = not (nat_lt (length tally.nodes) tally.most_nodes) && is_member bytes_eq tally.racks []

-- no nodes of the group change the tally
abbrev pub IsComplete : Group → Tallied → Type 0
IsComplete g tally = (ns : List ℕ) → met_all g ns tally ≡ tally
