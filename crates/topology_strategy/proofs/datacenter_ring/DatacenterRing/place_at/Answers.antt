use Rattle.std.proofs.Common.{◌≡◌, ◌<◌, ◌||◌, ℕ, List, length, take, drop, ap, sym, ◌∙◌}
use Rattle.std.proofs.lemmas.List.{drop-map, take-map}
use Rattle.std.specs.Borrow.{Bor}
use Rattle.cluster_terms.specs.Group.{nodes_of}
use Rattle.cluster_terms.specs.Replication.{datacenter_group}
use Rattle.node_directory.specs.Tally.{racks_in}
use Rattle.node_sets.specs.NodeSets.{has_node}
use Rattle.token_ring.specs.Ring.{IsFirstAt}
use Rattle.topology_strategy.specs.DatacenterRing.{RingPart}
use Rattle.topology_strategy.specs.code.RingParts.{is_replica_in}
use Rattle.topology_strategy.specs.code.WalkAmong.{found_among}
use Rattle.topology_strategy.proofs.RackedLemmas.{listed_ring, taken_within}
use Rattle.topology_strategy.proofs.datacenter_ring.DatacenterRing.place_at.Goals as goal

pub first_at-first-requires : goal.first_at-first-requires
first_at-first-requires c = rw c.deref.ensures.value (listed_ring _ _ _ _ c.self.invariant.0 c.self.invariant.1.0)

pub returns-clause-nodes : goal.returns-clause-nodes
returns-clause-nodes c =
    λ v.
    let part = c.self.inside in
    let own = part.racked.pairs.items in
    let bors = part.racked.racks.items in
    let j = c.first_at-first.result in
    let old = c.args.placed.now in
    let begun = c.begin-walk.result in
    let middle = c.go_among.new.self in
    let found = c.go_among-2.new.self in
    let first : 0 < length own → IsFirstAt own c.args.t j = rw c.deref.ensures.value at c.first_at-first.ensures.first in
    let rest : c.split_at.result.1.now ≡ drop j own = c.split_at.ensures.back ∙ ap (drop j) c.deref-2.ensures.value in
    let front : c.split_at.result.0.now ≡ take j own = c.split_at.ensures.front ∙ ap (take j) c.deref-2.ensures.value in
    let rest_racks : racks_in c.split_at-2.result.1.now ≡ drop j (racks_in bors) =
    ap racks_in (c.split_at-2.ensures.back ∙ ap (drop j) c.deref-3.ensures.value) ∙ sym (drop-map (λ (r : Bor (List ℕ)). r.now) j bors) in
    let front_racks : racks_in c.split_at-2.result.0.now ≡ take j (racks_in bors) =
    ap racks_in (c.split_at-2.ensures.front ∙ ap (take j) c.deref-3.ensures.value) ∙ sym (take-map (λ (r : Bor (List ℕ)). r.now) j bors) in
    let walked = taken_within (datacenter_group part.dir.now.rows (part.name.now, part.rf)) part.ring.now own (racks_in bors) c.self.invariant.0 c.self.invariant.1.0
    c.args.t j part.shape first c.self.invariant.1.1.0 begun middle found c.begin-walk.ensures
    (c.go_among.ensures ∙ (λ i. found_among part.shape.wanted (nodes_of (rest i)) (rest_racks i) begun))
    (c.go_among-2.ensures ∙ (λ i. found_among part.shape.wanted (nodes_of (front i)) (front_racks i) middle)) v in
    c.in_ok-add_all.ensures.nodes v ∙ ap (λ l. has_node old v || has_node l v) c.nodes.ensures
    ∙ ap (λ b. has_node old v || b) (walked ∙ ap (λ (r : RingPart). is_replica_in r c.args.t v) c.self.view_is)
