-- How many replicas QUORUM and LOCAL_QUORUM need while replicas are pending (CEP-21), and when two such quorums have a
-- replica in common.
use Rattle.std.specs.Prelude.{◌≡◌, ℕ, ◌+◌, ◌/◌, ◌≤◌, Bool, true, not, ◌||◌, List, ◌++◌, filter, find, length, Option, is_some, nat_eq, nat_lt}
use Rattle.std.specs.List.{IsDistinct}
use Rattle.std.specs.Set.{is_member, distinct_count}
use Rattle.std.specs.Str.{bytes_eq}
use Rattle.cluster_terms.specs.NodeRow.{row_of}
use Rattle.cluster_terms.specs.Replication.{rack_within}
use Rattle.cluster_terms.specs.declared.node.NodeRow.{NodeRow}

-- half of the replicas asked for, rounded down, plus one
abbrev pub quorum_of : ℕ → ℕ
quorum_of total = total / 2 + 1

-- at a token: the number of replicas asked for, the nodes that are read, and the nodes that are written
pub record Sets : Type 0 where
  pub total : ℕ
  pub reads : List ℕ
  pub writes : List ℕ

-- the nodes among ns that are in this datacenter
abbrev pub within : List NodeRow → List ℕ → List ℕ → List ℕ
within nodes dc ns = filter (λ n. is_some (rack_within dc (row_of nodes n))) ns

-- the sets for LOCAL_QUORUM of a datacenter: its own factor, and both sets reduced to its nodes
abbrev pub local_sets : List NodeRow → List ℕ × ℕ → List ℕ → List ℕ → Sets
local_sets nodes f reads writes = record { total = f.1; reads = within nodes f.0 reads; writes = within nodes f.0 writes }

-- the row of this datacenter among the factors, if they name it
abbrev pub datacenter_of : List (List ℕ × ℕ) → List ℕ → Option (List ℕ × ℕ)
datacenter_of factors dc = find (λ f. bytes_eq f.0 dc) factors

-- the pending replicas: they are written and not read
abbrev pub pending : List ℕ → List ℕ → List ℕ
pending reads writes = filter (λ n. not (is_member nat_eq reads n)) writes

-- the number of replicas that a read needs: a quorum
abbrev pub read_need : Sets → ℕ
read_need s = quorum_of s.total

-- the number of replicas that a write needs: a quorum, and one more for each pending replica
abbrev pub write_need : Sets → ℕ
write_need s = quorum_of s.total + length (pending s.reads s.writes)

-- whether any a nodes of ns and any b nodes of ms have a node in common: ns has fewer than a nodes, or ms fewer than b,
-- or a + b is more than the number of distinct nodes in ns and ms together
abbrev pub have_common : ℕ → List ℕ → ℕ → List ℕ → Bool
have_common a ns b ms = nat_lt (length ns) a || (nat_lt (length ms) b || nat_lt (distinct_count nat_eq (ns ++ ms)) (a + b))

-- distinct nodes among `nodes`, at least `needed` of them
pub record AreSome (needed : ℕ) (nodes : List ℕ) (some : List ℕ) : Type 0 where
  pub distinct : IsDistinct nat_eq some
  pub among : (n : ℕ) → is_member nat_eq some n ≡ true → is_member nat_eq nodes n ≡ true
  pub enough : needed ≤ length some

-- whether each write quorum of `one` has a replica in common with each read quorum of `other`
abbrev pub writes_meet_reads : Sets → Sets → Bool
writes_meet_reads one other = have_common (write_need one) one.writes (read_need other) other.reads

-- the write quorums of `one` meet the read quorums of `other`, and the other way round
pub record Meet (one other : Sets) : Type 0 where
  pub there : writes_meet_reads one other ≡ true
  pub back : writes_meet_reads other one ≡ true
