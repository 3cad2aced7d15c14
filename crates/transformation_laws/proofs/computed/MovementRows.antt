-- Small clusters whose nodes move, leave and are replaced, and what the definitions say of them. Each fact is computed.
use Rattle.std.specs.Prelude.{◌≡◌, pos, [], ◌∷◌, ◌++◌, Some, None, refl, codes}
use Rattle.cluster_terms.specs.Group.{is_chosen_rack, is_replica, place}
use Rattle.cluster_terms.specs.Reach.{reaches}
use Rattle.cluster_terms.specs.declared.replication.Replication.TheVariants.{Simple}
use Rattle.cluster_terms.specs.declared.token.RightEnd.TheVariants.{At}
use Rattle.transformation_laws.proofs.computed.Rows.{IsServed, dc1_node, four_nodes_image, joining_image, keyspace, one_node_image, pair}
use Rattle.transformations.specs.History.{next_image}
use Rattle.transformations.specs.Ranges.{in_ranges}
use Rattle.transformations.specs.Refusals.{early_refusal_of, locked, refusal_of}
use Rattle.transformations.specs.Rings.{reads_at, writes_at}
use Rattle.transformations.specs.States.{node_state, state_of_row}
use Rattle.transformations.specs.Movements.{leave_of, move_of, replace_of}
use Rattle.transformations.specs.declared.command.Command.TheVariants.{Cancel, PrepareLeave, PrepareMove, PrepareReplace, Step, Unregister}
use Rattle.transformations.specs.declared.image.Image.{Image}
use Rattle.transformations.specs.declared.refusal.Refusal.TheVariants.{InSequence, Locked, NoNode, NoSequence, NoTokens, NotOneToken, OtherRack, TokenTaken, TooFewNodes, WrongState}
use Rattle.transformations.specs.declared.sequence.Goal.TheVariants as goal
use Rattle.transformations.specs.declared.sequence.Kind.TheVariants.{Move, Leave, Replace}
use Rattle.transformations.specs.declared.sequence.Phase.{Phase}
use Rattle.transformations.specs.declared.sequence.Phase.TheVariants.{Prepared, Started, Mid}
use Rattle.transformations.specs.declared.sequence.SeqRow.{SeqRow}
use Rattle.transformations.specs.declared.state.NodeState.TheVariants.{Left, Joined, Registered, Leaving}

-- six nodes at 0 to 500, and a keyspace with two replicas
abbrev pub six_nodes_image : Image
six_nodes_image = record {
  epoch = 13;
  next = 7;
  nodes = dc1_node 1 (codes "a") (codes "r1") ∷ dc1_node 2 (codes "b") (codes "r1") ∷ dc1_node 3 (codes "c") (codes "r1")
      ∷ dc1_node 4 (codes "d") (codes "r1") ∷ dc1_node 5 (codes "e") (codes "r1") ∷ dc1_node 6 (codes "f") (codes "r1") ∷ [];
  tokens = pair (pos 0) 1 ∷ pair (pos 100) 2 ∷ pair (pos 200) 3 ∷ pair (pos 300) 4 ∷ pair (pos 400) 5 ∷ pair (pos 500) 6 ∷ [];
  keyspaces = keyspace (codes "ks") (Simple 2) ∷ [];
  sequences = [];
}

-- ---- leaves

-- a leave widens the ranges of another one, so that the two overlap; taken alone, the rows that they change don't meet
pub leave_widens : refusal_of (next_image six_nodes_image (PrepareLeave 2)) (PrepareLeave 4) ≡ Some (Locked 2 (At (pos 100)))
unfolding next_image refusal_of early_refusal_of locked in_ranges reaches state_of_row
leave_widens = refl

pub ranges_taken_anew : refusal_of (next_image six_nodes_image (PrepareLeave 4)) (PrepareLeave 2) ≡ Some (Locked 4 (At (pos 100)))
unfolding next_image refusal_of early_refusal_of locked in_ranges reaches state_of_row
ranges_taken_anew = refl

-- a node doesn't leave a group that has no more nodes than replicas
pub too_few_nodes : (refusal_of one_node_image (PrepareLeave 1) ≡ Some (TooFewNodes (codes "ks")))
    × (refusal_of six_nodes_image (PrepareLeave 1) ≡ None)
    × (refusal_of four_nodes_image (PrepareLeave 5) ≡ Some (WrongState Registered))
    × (refusal_of four_nodes_image (PrepareLeave 7) ≡ Some NoNode)
unfolding refusal_of early_refusal_of locked in_ranges reaches state_of_row
too_few_nodes = (refl, refl, refl, refl)

-- four nodes of which the first leaves, so far
abbrev pub leaving_image : Phase → Image
leaving_image phase = (let row : SeqRow = leave_of four_nodes_image.tokens 1 in let s : SeqRow = record row { phase = phase } in record four_nodes_image { sequences = s ∷ [] })

-- once its leave is done the node has left, and has no tokens; then it can be unregistered
pub leave_done : (node_state (leaving_image Started) 1 ≡ Some Leaving)
    × (node_state (next_image (leaving_image Mid) (Step goal.Finish Leave 1)) 1 ≡ Some Left)
    × ((next_image (leaving_image Mid) (Step goal.Finish Leave 1)).tokens ≡ pair (pos 100) 2 ∷ pair (pos 200) 3 ∷ pair (pos 300) 4 ∷ [])
    × (refusal_of (next_image (leaving_image Mid) (Step goal.Finish Leave 1)) (Unregister 1) ≡ None)
unfolding next_image refusal_of early_refusal_of state_of_row
leave_done = (refl, refl, refl, refl)

-- ---- moves

-- node 2 moves from 100 to 250, so far
abbrev pub moving_image : Phase → Image
moving_image phase = (let row : SeqRow = move_of four_nodes_image.tokens 2 (pos 250) in let s : SeqRow = record row { phase = phase } in record four_nodes_image { sequences = s ∷ [] })

pub move_started : IsServed (moving_image Started) (Simple 3) (pos 150) (1 ∷ 3 ∷ 4 ∷ []) (1 ∷ 2 ∷ 3 ∷ 4 ∷ [])
    × IsServed (moving_image Started) (Simple 3) (pos 220) (1 ∷ 2 ∷ 4 ∷ []) (1 ∷ 2 ∷ 4 ∷ [])
unfolding reads_at writes_at place is_replica is_chosen_rack
move_started = ((refl, refl), (refl, refl))

pub move_done : ((next_image (moving_image Mid) (Step goal.Finish Move 2)).tokens ≡ pair (pos 0) 1 ∷ pair (pos 200) 3 ∷ pair (pos 250) 2 ∷ pair (pos 300) 4 ∷ [])
unfolding next_image
move_done = refl

-- a node without a token doesn't move, and none moves to a token that is taken
pub moves_refused : (refusal_of four_nodes_image (PrepareMove 5 (pos 50)) ≡ Some (WrongState Registered))
    × (refusal_of four_nodes_image (PrepareMove 2 (pos 300)) ≡ Some (TokenTaken (pos 300)))
    × (refusal_of (record four_nodes_image { tokens = four_nodes_image.tokens ++ pair (pos 400) 1 ∷ [] }) (PrepareMove 1 (pos 300)) ≡ Some (NotOneToken 2))
    × (refusal_of four_nodes_image (PrepareMove 2 (pos 250)) ≡ None)
unfolding refusal_of early_refusal_of locked in_ranges reaches state_of_row
moves_refused = (refl, refl, refl, refl)

-- ---- replaces

-- node 5 replaces node 1, so far
abbrev pub replacing_image : Phase → Image
replacing_image phase = (let row : SeqRow = replace_of four_nodes_image.tokens 5 1 in let s : SeqRow = record row { phase = phase } in record four_nodes_image { sequences = s ∷ [] })

-- the node that is replaced has joined until the replace is done, and has left then
pub replace_done : (node_state (replacing_image Mid) 1 ≡ Some Joined)
    × (node_state (next_image (replacing_image Mid) (Step goal.Finish Replace 5)) 1 ≡ Some Left)
    × ((next_image (replacing_image Mid) (Step goal.Finish Replace 5)).tokens ≡ pair (pos 0) 5 ∷ pair (pos 100) 2 ∷ pair (pos 200) 3 ∷ pair (pos 300) 4 ∷ [])
unfolding next_image state_of_row
replace_done = (refl, refl, refl)

pub replaces_refused : (refusal_of (joining_image 12 Prepared) (PrepareReplace 6 5) ≡ Some (InSequence 5))
    × (refusal_of four_nodes_image (PrepareReplace 6 5) ≡ Some NoTokens)
    × (refusal_of four_nodes_image (PrepareReplace 6 9) ≡ Some NoNode)
    × (refusal_of four_nodes_image (PrepareReplace 1 2) ≡ Some (WrongState Joined))
    × (refusal_of (record four_nodes_image { nodes = four_nodes_image.nodes ++ dc1_node 7 (codes "g") (codes "r2") ∷ [] }) (PrepareReplace 7 1) ≡ Some (OtherRack (codes "dc1") (codes "r1")))
    × (refusal_of four_nodes_image (PrepareReplace 5 1) ≡ None)
unfolding refusal_of early_refusal_of locked in_ranges reaches state_of_row
replaces_refused = (refl, refl, refl, refl, refl, refl)

-- ---- cancels

-- a movement that is half way goes back to where it had started, and one before that ends
pub cancels : (next_image (joining_image 14 Mid) (Cancel 5) ≡ joining_image 15 Started)
    × (next_image (joining_image 13 Started) (Cancel 5) ≡ record four_nodes_image { epoch = 14 })
    × (next_image (joining_image 12 Prepared) (Cancel 5) ≡ record four_nodes_image { epoch = 13 })
    × (refusal_of (joining_image 12 Prepared) (Cancel 1) ≡ Some NoSequence)
    × (refusal_of (joining_image 12 Prepared) (Cancel 77) ≡ Some NoNode)
unfolding next_image refusal_of early_refusal_of
cancels = (refl, refl, refl, refl, refl)
