use Rattle.std.proofs.Common.{ℕ, ◌-◌, ◌∙◌, ap, length, arith}
use Rattle.cluster_terms.specs.Group.{nodes_of}
use Rattle.node_directory.proofs.TallyLemmas.{nodes_met, racks_met}
use Rattle.node_directory.proofs.shape.shape_of.Goals as goal
use Rattle.node_directory.specs.Members.{group_of}
use Rattle.node_directory.specs.Tally.{Tallied}
use Rattle.node_directory.specs.declared.shape.Shape.{Shape}

pub overflow_sub-result : goal.overflow_sub-result
overflow_sub-result c =
    let g = group_of c.args.members.now in
    let racks = c.rack_count.ensures ∙ ap (λ (t : Tallied). length t.racks) c.tally_of-tally.ensures ∙ racks_met g g.rf g.rf (nodes_of c.args.pairs.now) in
    omega (arith, racks, c.rf.ensures.value)

pub returns-clause-shape : goal.returns-clause-shape
returns-clause-shape c =
    let g = group_of c.args.members.now in
    let ns = nodes_of c.args.pairs.now in
    let nodes = c.node_count.ensures ∙ ap (λ (t : Tallied). length t.nodes) c.tally_of-tally.ensures ∙ nodes_met g g.rf g.rf ns in
    let racks = c.rack_count.ensures ∙ ap (λ (t : Tallied). length t.racks) c.tally_of-tally.ensures ∙ racks_met g g.rf g.rf ns in
    let shape : ℕ → ℕ → Shape = λ wanted spare. record { wanted = wanted; spare = spare } in
    (λ i. shape (nodes i) (c.rf.ensures.value i - racks i))

pub returns-clause-bound : goal.returns-clause-bound
returns-clause-bound c =
    let g = group_of c.args.members.now in
    let nodes = c.node_count.ensures ∙ ap (λ (t : Tallied). length t.nodes) c.tally_of-tally.ensures ∙ nodes_met g g.rf g.rf (nodes_of c.args.pairs.now) in
    omega (arith, nodes, c.rf.ensures.value, c.rf.ensures.high)
