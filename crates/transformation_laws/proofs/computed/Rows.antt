-- Small clusters, and what the definitions say of them. Each fact is computed.
use Rattle.std.specs.Prelude.{◌≡◌, ℕ, false, true, ℤ, pos, negsuc, List, [], ◌∷◌, ◌++◌, Some, None, refl, codes}
use Rattle.cluster_terms.specs.Arc.{greatest_token}
use Rattle.cluster_terms.specs.Group.{is_chosen_rack, is_replica, place}
use Rattle.cluster_terms.specs.Reach.{reaches}
use Rattle.cluster_terms.specs.Row.{rows_between}
use Rattle.cluster_terms.specs.declared.node.NodeRow.{NodeRow}
use Rattle.cluster_terms.specs.declared.replication.Replication.{Replication}
use Rattle.cluster_terms.specs.declared.replication.Replication.TheVariants.{Simple, Topology}
use Rattle.cluster_terms.specs.declared.token.Pair.{Pair}
use Rattle.cluster_terms.specs.declared.token.RightEnd.TheVariants.{At, Max}
use Rattle.transformations.specs.History.{next_image, state_after, IsHistory}
use Rattle.transformations.specs.Ranges.{in_ranges}
use Rattle.transformations.specs.Refusals.{refusal_of, early_refusal_of, keyspace_locked, locked}
use Rattle.transformations.specs.Rings.{reads_at, writes_at, cuts}
use Rattle.transformations.specs.States.{node_state, state_of_row}
use Rattle.transformations.specs.declared.command.Command.{Command}
use Rattle.transformations.specs.declared.command.Command.TheVariants.{Register, Unregister, UnsafeJoin, Keyspace, DropKeyspace, PrepareJoin, Step}
use Rattle.transformations.specs.declared.image.Image.{Image}
use Rattle.transformations.specs.declared.keyspace.KeyspaceRow.{KeyspaceRow}
use Rattle.transformations.specs.declared.refusal.Refusal.TheVariants.{NameTaken, NoNode, WrongState, TokenTaken, NoKeyspace, InSequence, NoSequence, WrongStep, NotIdle, TooFewNodes, Locked, KeyspaceLocked}
use Rattle.transformations.specs.declared.sequence.Goal.TheVariants as goal
use Rattle.transformations.specs.declared.sequence.Kind.TheVariants.{Join, Leave, Move}
use Rattle.transformations.specs.declared.sequence.Phase.{Phase}
use Rattle.transformations.specs.declared.sequence.Phase.TheVariants.{Prepared, Started, Mid}
use Rattle.transformations.specs.declared.sequence.SeqRow.{SeqRow}
use Rattle.transformations.specs.declared.state.NodeState.TheVariants.{Left, Bootstrapping, Joined, Registered}

-- ---- how the clusters are written down

-- a node of datacenter dc1 that has not left
abbrev pub dc1_node : ℕ → List ℕ → List ℕ → NodeRow
dc1_node id name rack = record { id = id; name = name; dc = codes "dc1"; rack = rack; left = false }

abbrev pub pair : ℤ → ℕ → Pair
pair token node = record { token = token; node = node }

abbrev pub keyspace : List ℕ → Replication → KeyspaceRow
keyspace name replication = record { name = name; replication = replication }

-- at a token the first nodes are read, and the second are written
abbrev pub IsServed : Image → Replication → ℤ → List ℕ → List ℕ → Type 0
IsServed image replication x reads writes = (reads_at image replication x ≡ reads) × (writes_at image replication x ≡ writes)

-- ---- the clusters

-- one node at 0, and a keyspace with one replica
abbrev pub one_node_image : Image
one_node_image = record {
  epoch = 3;
  next = 2;
  nodes = dc1_node 1 (codes "a") (codes "r1") ∷ [];
  tokens = pair (pos 0) 1 ∷ [];
  keyspaces = keyspace (codes "ks") (Simple 1) ∷ [];
  sequences = [];
}

-- no node, and a keyspace with three replicas
abbrev pub no_nodes_image : Image
no_nodes_image = record {
  epoch = 1;
  next = 1;
  nodes = [];
  tokens = [];
  keyspaces = keyspace (codes "ks") (Simple 3) ∷ [];
  sequences = [];
}

-- the least token, -2^63
abbrev pub least_token : ℤ
least_token = negsuc 9223372036854775807

-- node 1 at the greatest token, node 2 at the least, and a keyspace with one replica
abbrev pub ends_image : Image
ends_image = record {
  epoch = 5;
  next = 3;
  nodes = dc1_node 1 (codes "a") (codes "r1") ∷ dc1_node 2 (codes "b") (codes "r1") ∷ [];
  tokens = pair least_token 2 ∷ pair greatest_token 1 ∷ [];
  keyspaces = keyspace (codes "ks") (Simple 1) ∷ [];
  sequences = [];
}

-- six registered nodes of one rack, of which four stand at 0, 100, 200 and 300, and a keyspace with three replicas
abbrev pub four_nodes_image : Image
four_nodes_image = record {
  epoch = 11;
  next = 7;
  nodes = dc1_node 1 (codes "a") (codes "r1") ∷ dc1_node 2 (codes "b") (codes "r1") ∷ dc1_node 3 (codes "c") (codes "r1")
      ∷ dc1_node 4 (codes "d") (codes "r1") ∷ dc1_node 5 (codes "e") (codes "r1") ∷ dc1_node 6 (codes "f") (codes "r1") ∷ [];
  tokens = pair (pos 0) 1 ∷ pair (pos 100) 2 ∷ pair (pos 200) 3 ∷ pair (pos 300) 4 ∷ [];
  keyspaces = keyspace (codes "ks") (Simple 3) ∷ [];
  sequences = [];
}

-- the same four nodes, with node 5 joining at 150, so far
abbrev pub joining_image : ℕ → Phase → Image
joining_image epoch phase =
    let join : SeqRow = record { node = 5; kind = Join; out_pairs = []; in_pairs = pair (pos 150) 5 ∷ []; phase = phase } in
    record four_nodes_image { epoch = epoch; sequences = join ∷ [] }

-- NetworkTopologyStrategy with three replicas in dc1
abbrev pub three_in_dc1 : Replication
three_in_dc1 = Topology ((codes "dc1", 3) ∷ [])

-- nodes 1, 2 and 3 of rack a and node 4 of rack b, at 0, 100, 200 and 300, and a keyspace with three replicas in dc1
abbrev pub racks_image : Image
racks_image = record {
  epoch = 9;
  next = 5;
  nodes = dc1_node 1 (codes "a") (codes "a") ∷ dc1_node 2 (codes "b") (codes "a")
      ∷ dc1_node 3 (codes "c") (codes "a") ∷ dc1_node 4 (codes "d") (codes "b") ∷ [];
  tokens = pair (pos 0) 1 ∷ pair (pos 100) 2 ∷ pair (pos 200) 3 ∷ pair (pos 300) 4 ∷ [];
  keyspaces = keyspace (codes "kt") three_in_dc1 ∷ [];
  sequences = [];
}

-- ---- who is read and written

-- one node serves every token, on both sides of its own
pub one_node : IsServed one_node_image (Simple 1) (pos 0) (1 ∷ []) (1 ∷ [])
    × IsServed one_node_image (Simple 1) greatest_token (1 ∷ []) (1 ∷ [])
unfolding reads_at writes_at place is_replica is_chosen_rack
one_node = ((refl, refl), (refl, refl))

-- where there are no nodes none is read and none is written
pub no_nodes : IsServed no_nodes_image (Simple 3) (pos 0) [] []
unfolding reads_at writes_at place is_replica is_chosen_rack
no_nodes = (refl, refl)

-- the least token is a token like others: a node at it serves it alone, and the next node the rest of the ring
pub ends_of_the_ring : IsServed ends_image (Simple 1) least_token (2 ∷ []) (2 ∷ [])
    × IsServed ends_image (Simple 1) (negsuc 9223372036854775806) (1 ∷ []) (1 ∷ [])
    × IsServed ends_image (Simple 1) greatest_token (1 ∷ []) (1 ∷ [])
unfolding reads_at writes_at place is_replica is_chosen_rack
ends_of_the_ring = ((refl, refl), (refl, refl), (refl, refl))

-- a join that has started adds the joining node to the writes, where it is to be a replica, and leaves the reads
pub join_started : IsServed (joining_image 13 Started) (Simple 3) (pos 0) (1 ∷ 2 ∷ 3 ∷ []) (1 ∷ 2 ∷ 3 ∷ 5 ∷ [])
    × IsServed (joining_image 13 Started) (Simple 3) (pos 50) (2 ∷ 3 ∷ 4 ∷ []) (2 ∷ 3 ∷ 4 ∷ 5 ∷ [])
    × IsServed (joining_image 13 Started) (Simple 3) (pos 100) (2 ∷ 3 ∷ 4 ∷ []) (2 ∷ 3 ∷ 4 ∷ 5 ∷ [])
    × IsServed (joining_image 13 Started) (Simple 3) (pos 150) (1 ∷ 3 ∷ 4 ∷ []) (1 ∷ 3 ∷ 4 ∷ 5 ∷ [])
    × IsServed (joining_image 13 Started) (Simple 3) (pos 200) (1 ∷ 3 ∷ 4 ∷ []) (1 ∷ 3 ∷ 4 ∷ [])
    × IsServed (joining_image 13 Started) (Simple 3) (pos 300) (1 ∷ 2 ∷ 4 ∷ []) (1 ∷ 2 ∷ 4 ∷ [])
    × IsServed (joining_image 13 Started) (Simple 3) greatest_token (1 ∷ 2 ∷ 3 ∷ []) (1 ∷ 2 ∷ 3 ∷ 5 ∷ [])
unfolding reads_at writes_at place is_replica is_chosen_rack
join_started = ((refl, refl), (refl, refl), (refl, refl), (refl, refl), (refl, refl), (refl, refl), (refl, refl))

-- half way the joining node is read in the place of the node that it relieves; a cancel takes that back, and a
-- second one the write to it
pub join_mid_cancelled : IsServed (joining_image 14 Mid) (Simple 3) (pos 50) (2 ∷ 3 ∷ 5 ∷ []) (2 ∷ 3 ∷ 4 ∷ 5 ∷ [])
    × IsServed (joining_image 15 Started) (Simple 3) (pos 50) (2 ∷ 3 ∷ 4 ∷ []) (2 ∷ 3 ∷ 4 ∷ 5 ∷ [])
    × IsServed (record four_nodes_image { epoch = 16 }) (Simple 3) (pos 50) (2 ∷ 3 ∷ 4 ∷ []) (2 ∷ 3 ∷ 4 ∷ [])
unfolding reads_at writes_at place is_replica is_chosen_rack
join_mid_cancelled = ((refl, refl), (refl, refl), (refl, refl))

-- two racks for three replicas: one node of rack b, and one further node of rack a
pub racks_and_repeats : IsServed racks_image three_in_dc1 (pos 0) (1 ∷ 2 ∷ 4 ∷ []) (1 ∷ 2 ∷ 4 ∷ [])
    × IsServed racks_image three_in_dc1 (pos 100) (2 ∷ 3 ∷ 4 ∷ []) (2 ∷ 3 ∷ 4 ∷ [])
    × IsServed racks_image three_in_dc1 (pos 200) (1 ∷ 3 ∷ 4 ∷ []) (1 ∷ 3 ∷ 4 ∷ [])
    × IsServed racks_image three_in_dc1 (pos 300) (1 ∷ 2 ∷ 4 ∷ []) (1 ∷ 2 ∷ 4 ∷ [])
    × IsServed racks_image three_in_dc1 greatest_token (1 ∷ 2 ∷ 4 ∷ []) (1 ∷ 2 ∷ 4 ∷ [])
unfolding reads_at writes_at place is_replica is_chosen_rack
racks_and_repeats = ((refl, refl), (refl, refl), (refl, refl), (refl, refl), (refl, refl))

-- ---- between which tokens

-- the cuts of a join in flight are the tokens of the ring and of the join, ascending
pub cuts_of_a_join : cuts (joining_image 13 Started) ≡ pos 0 ∷ pos 100 ∷ pos 150 ∷ pos 200 ∷ pos 300 ∷ []
cuts_of_a_join = refl

-- a cut at 0 makes two rows; cuts at both ends of the ring make two rows as well, and none is past the last
pub rows_of_cuts : (rows_between (cuts one_node_image)
    ≡ record { left = None; right = At (pos 0) } ∷ record { left = Some (pos 0); right = Max } ∷ [])
    × (rows_between (cuts ends_image)
    ≡ record { left = None; right = At least_token } ∷ record { left = Some least_token; right = At greatest_token } ∷ [])
rows_of_cuts = (refl, refl)

-- ---- commands

-- the commands that make the cluster of one node
abbrev pub one_node_history : List Command
one_node_history = Register (codes "a") (codes "dc1") (codes "r1") ∷ UnsafeJoin 1 (pos 0 ∷ []) ∷ Keyspace (codes "ks") (Simple 1) ∷ []

-- they are accepted one after another, and make it
pub one_node_after : IsHistory one_node_history × (state_after one_node_history 3 ≡ one_node_image)
unfolding next_image refusal_of early_refusal_of keyspace_locked state_of_row
one_node_after = (refl, refl)

-- the commands that make the cluster of four nodes
abbrev pub register_in_r1 : List ℕ → Command
register_in_r1 name = Register name (codes "dc1") (codes "r1")

abbrev pub four_nodes_history : List Command
four_nodes_history = register_in_r1 (codes "a") ∷ register_in_r1 (codes "b") ∷ register_in_r1 (codes "c") ∷ register_in_r1 (codes "d")
    ∷ UnsafeJoin 1 (pos 0 ∷ []) ∷ UnsafeJoin 2 (pos 100 ∷ []) ∷ UnsafeJoin 3 (pos 200 ∷ []) ∷ UnsafeJoin 4 (pos 300 ∷ [])
    ∷ Keyspace (codes "ks") (Simple 3) ∷ register_in_r1 (codes "e") ∷ register_in_r1 (codes "f") ∷ []

-- they are accepted one after another, and make it
pub four_nodes_after : IsHistory four_nodes_history × (state_after four_nodes_history 11 ≡ four_nodes_image)
unfolding next_image refusal_of early_refusal_of keyspace_locked state_of_row
four_nodes_after = (refl, refl)

-- a node of the cluster has the name that is to be registered
pub name_taken : refusal_of one_node_image (Register (codes "a") (codes "dc2") (codes "r2")) ≡ Some (NameTaken 1)
unfolding refusal_of early_refusal_of
name_taken = refl

-- a node that isn't registered gets no tokens, and is not removed
pub no_node : (refusal_of one_node_image (UnsafeJoin 2 (pos 0 ∷ [])) ≡ Some NoNode) × (refusal_of one_node_image (Unregister 2) ≡ Some NoNode)
unfolding refusal_of early_refusal_of
no_node = (refl, refl)

-- a node that has tokens gets no others at once, whether they are taken or not, and is not removed
pub joined_stays : (refusal_of one_node_image (UnsafeJoin 1 (pos 0 ∷ [])) ≡ Some (WrongState Joined))
    × (refusal_of one_node_image (UnsafeJoin 1 (pos 7 ∷ [])) ≡ Some (WrongState Joined))
    × (refusal_of one_node_image (Unregister 1) ≡ Some (WrongState Joined))
unfolding refusal_of early_refusal_of state_of_row
joined_stays = (refl, refl, refl)

-- the least token that stands in the ring already is refused, and so is one that a movement brings
pub token_taken : (refusal_of four_nodes_image (UnsafeJoin 5 (negsuc 4 ∷ pos 0 ∷ pos 200 ∷ [])) ≡ Some (TokenTaken (pos 0)))
    × (refusal_of (joining_image 12 Prepared) (PrepareJoin 6 (pos 149 ∷ pos 150 ∷ [])) ≡ Some (TokenTaken (pos 150)))
unfolding refusal_of early_refusal_of state_of_row
token_taken = (refl, refl)

-- a node that is removed makes room for its name, and for its id never
abbrev pub removed_history : List Command
removed_history = register_in_r1 (codes "a") ∷ register_in_r1 (codes "b") ∷ Unregister 2 ∷ register_in_r1 (codes "b") ∷ []

pub ids_are_not_used_again : IsHistory removed_history
    × ((state_after removed_history 4).nodes ≡ dc1_node 1 (codes "a") (codes "r1") ∷ dc1_node 3 (codes "b") (codes "r1") ∷ [])
    × (refusal_of (state_after removed_history 4) (Unregister 2) ≡ Some NoNode)
unfolding next_image refusal_of early_refusal_of state_of_row
ids_are_not_used_again = (refl, refl, refl)

-- a keyspace that is dropped is gone, and is not dropped again
pub keyspace_dropped : (next_image one_node_image (DropKeyspace (codes "ks")) ≡ record one_node_image { epoch = 4; keyspaces = [] })
    × (refusal_of one_node_image (DropKeyspace (codes "ks")) ≡ None)
    × (refusal_of one_node_image (DropKeyspace (codes "kt")) ≡ Some NoKeyspace)
    × (refusal_of (next_image one_node_image (DropKeyspace (codes "ks"))) (DropKeyspace (codes "ks")) ≡ Some NoKeyspace)
unfolding next_image refusal_of early_refusal_of
keyspace_dropped = (refl, refl, refl, refl)

-- ---- the states of nodes

-- a node with tokens, one without, and one that isn't registered
pub states_at_rest : (node_state four_nodes_image 1 ≡ Some Joined) × (node_state four_nodes_image 5 ≡ Some Registered) × (node_state four_nodes_image 7 ≡ None)
unfolding state_of_row
states_at_rest = (refl, refl, refl)

-- a join shows once it has started, and at its node alone
pub states_of_a_join : (node_state (joining_image 12 Prepared) 5 ≡ Some Registered)
    × (node_state (joining_image 13 Started) 5 ≡ Some Bootstrapping)
    × (node_state (joining_image 14 Mid) 5 ≡ Some Bootstrapping)
    × (node_state (joining_image 13 Started) 1 ≡ Some Joined)
unfolding state_of_row
states_of_a_join = (refl, refl, refl, refl)

-- a node that has left may be removed, and gets no tokens
abbrev pub left_image : Image
left_image = record one_node_image { nodes = record (dc1_node 1 (codes "a") (codes "r1")) { left = true } ∷ []; tokens = [] }

pub left_node : (node_state left_image 1 ≡ Some Left)
    × (refusal_of left_image (Unregister 1) ≡ None)
    × (refusal_of left_image (UnsafeJoin 1 (pos 0 ∷ [])) ≡ Some (WrongState Left))
unfolding refusal_of early_refusal_of state_of_row
left_node = (refl, refl, refl)

-- ---- a join, step by step

-- the four commands of a join lead from the ring without the node to the ring with it
pub join_steps : (next_image four_nodes_image (PrepareJoin 5 (pos 150 ∷ [])) ≡ joining_image 12 Prepared)
    × (next_image (joining_image 12 Prepared) (Step goal.Start Join 5) ≡ joining_image 13 Started)
    × (next_image (joining_image 13 Started) (Step goal.Mid Join 5) ≡ joining_image 14 Mid)
    × (next_image (joining_image 14 Mid) (Step goal.Finish Join 5)
    ≡ record four_nodes_image { epoch = 15; tokens = pair (pos 0) 1 ∷ pair (pos 100) 2 ∷ pair (pos 150) 5 ∷ pair (pos 200) 3 ∷ pair (pos 300) 4 ∷ [] })
unfolding next_image
join_steps = (refl, refl, refl, refl)

-- a step that isn't the next one is refused with where the movement is; other steps have no movement to go on
pub wrong_steps : (refusal_of (joining_image 13 Started) (Step goal.Finish Join 5) ≡ Some (WrongStep Join Started))
    × (refusal_of (joining_image 13 Started) (Step goal.Start Join 5) ≡ Some (WrongStep Join Started))
    × (refusal_of (joining_image 13 Started) (Step goal.Mid Move 5) ≡ Some (WrongStep Join Started))
    × (refusal_of (joining_image 13 Started) (Step goal.Mid Join 1) ≡ Some NoSequence)
    × (refusal_of (joining_image 13 Started) (Step goal.Mid Join 77) ≡ Some NoNode)
    × (refusal_of (joining_image 13 Started) (Step goal.Mid Join 5) ≡ None)
unfolding refusal_of early_refusal_of
wrong_steps = (refl, refl, refl, refl, refl, refl)

-- while a node joins, it is left alone, and no tokens are given at once; keyspaces are set and dropped
pub while_joining : (refusal_of (joining_image 12 Prepared) (Unregister 5) ≡ Some (InSequence 5))
    × (refusal_of (joining_image 12 Prepared) (UnsafeJoin 6 (pos 150 ∷ [])) ≡ Some (NotIdle 5))
    × (refusal_of (joining_image 12 Prepared) (Keyspace (codes "k2") (Simple 1)) ≡ None)
    × (refusal_of (joining_image 12 Prepared) (DropKeyspace (codes "ks")) ≡ None)
    × (refusal_of (joining_image 12 Prepared) (DropKeyspace (codes "zz")) ≡ Some NoKeyspace)
    × (refusal_of (joining_image 12 Prepared) (Unregister 6) ≡ None)
unfolding refusal_of early_refusal_of keyspace_locked state_of_row
while_joining = (refl, refl, refl, refl, refl, refl)

-- while a node leaves, no keyspace asks for as many replicas as there are nodes
abbrev pub leaving_image : Image
leaving_image =
    let leave : SeqRow = record { node = 2; kind = Leave; out_pairs = pair (pos 100) 2 ∷ []; in_pairs = []; phase = Prepared } in
    record four_nodes_image { epoch = 12; sequences = leave ∷ [] }

pub while_leaving : (refusal_of leaving_image (Keyspace (codes "kt") (Simple 3)) ≡ None)
    × (refusal_of leaving_image (Keyspace (codes "kt") (Simple 4)) ≡ Some (TooFewNodes (codes "kt")))
unfolding refusal_of early_refusal_of keyspace_locked
while_leaving = (refl, refl)

-- ---- joins at the same time

-- a further join is refused where its ranges overlap those of the first
pub join_locked : (refusal_of (joining_image 12 Prepared) (PrepareJoin 6 (pos 250 ∷ [])) ≡ Some (Locked 5 (At (pos 100))))
unfolding refusal_of early_refusal_of locked in_ranges reaches state_of_row
join_locked = refl

-- two nodes without tokens, the first of which joins at 0, and a keyspace with one replica
abbrev pub first_join_image : Image
first_join_image =
    let join : SeqRow = record { node = 1; kind = Join; out_pairs = []; in_pairs = pair (pos 0) 1 ∷ []; phase = Prepared } in
    record {
      epoch = 4;
      next = 3;
      nodes = dc1_node 1 (codes "a") (codes "r1") ∷ dc1_node 2 (codes "b") (codes "r1") ∷ [];
      tokens = [];
      keyspaces = keyspace (codes "ks") (Simple 1) ∷ [];
      sequences = join ∷ [];
    }

-- on the empty ring a join reaches every token
pub joins_on_empty_ring : refusal_of first_join_image (PrepareJoin 2 (pos 100 ∷ [])) ≡ Some (Locked 1 (At (pos 0)))
unfolding refusal_of early_refusal_of locked in_ranges reaches state_of_row
joins_on_empty_ring = refl

-- racks a and b, with a node of rack c that joins at 50, and a further node of rack a
abbrev pub racks_joining_image : Image
racks_joining_image =
    let join : SeqRow = record { node = 5; kind = Join; out_pairs = []; in_pairs = pair (pos 50) 5 ∷ []; phase = Prepared } in
    record racks_image {
      epoch = 12;
      next = 7;
      nodes = racks_image.nodes ++ dc1_node 5 (codes "e") (codes "c") ∷ dc1_node 6 (codes "f") (codes "a") ∷ [];
      sequences = join ∷ [];
    }

-- a third rack changes the shape, so the join reaches every token
pub racks_locked : refusal_of racks_joining_image (PrepareJoin 6 (pos 150 ∷ [])) ≡ Some (Locked 5 (At (pos 0)))
unfolding refusal_of early_refusal_of locked in_ranges reaches state_of_row
racks_locked = refl

-- four nodes and the join at 150, under a keyspace with one replica
abbrev pub far_image : Image
far_image = record four_nodes_image { keyspaces = keyspace (codes "ks") (Simple 1) ∷ []; sequences = (joining_image 12 Prepared).sequences }

-- a join whose ranges overlap no other's is accepted
pub join_apart : refusal_of far_image (PrepareJoin 6 (pos 50 ∷ [])) ≡ None
unfolding refusal_of early_refusal_of locked in_ranges reaches state_of_row
join_apart = refl

-- the join at 150 and one at 50, with the same keyspace
abbrev pub two_joins_image : Image
two_joins_image =
    let join : SeqRow = record { node = 6; kind = Join; out_pairs = []; in_pairs = pair (pos 50) 6 ∷ []; phase = Prepared } in
    record far_image { sequences = far_image.sequences ++ join ∷ [] }

-- a keyspace is refused under which they would overlap, whether it is new or not
pub keyspaces_of_two_joins : (refusal_of two_joins_image (Keyspace (codes "k2") (Simple 1)) ≡ None)
    × (refusal_of two_joins_image (Keyspace (codes "k2") (Simple 2)) ≡ Some (KeyspaceLocked 5 6 (At (pos 50))))
    × (refusal_of two_joins_image (Keyspace (codes "ks") (Simple 3)) ≡ Some (KeyspaceLocked 5 6 (At (pos 0))))
unfolding refusal_of early_refusal_of keyspace_locked in_ranges reaches
keyspaces_of_two_joins = (refl, refl, refl)
