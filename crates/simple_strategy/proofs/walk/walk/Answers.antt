use Rattle.std.proofs.Common.{◌≡◌, ◌≤◌, [], ◌∷◌, refl, sym, ap, ◌∙◌, arith, take, drop}
use Rattle.std.specs.Ordering.{nat_cmp}
use Rattle.cluster_terms.specs.Ascending.{ascending}
use Rattle.cluster_terms.specs.Group.{nodes_of, place}
use Rattle.cluster_terms.specs.Replication.{whole_group}
use Rattle.simple_strategy.specs.SimpleWalk.{taken_after}
use Rattle.cluster_terms.proofs.placement.PlacementLemmas.{placed_nowhere}
use Rattle.simple_strategy.proofs.SimplePlacement.{placed_in_parts}
use Rattle.simple_strategy.proofs.walk.walk.Goals as goal

pub returns-in_default : goal.returns-in_default
returns-in_default c =
    let empty : c.args.ring.now ≡ [] = c.in_default.ensures.empty.0 refl in
    ap (λ ring. place (whole_group c.args.rf ∷ []) c.args.t ring) empty ∙ placed_nowhere (whole_group c.args.rf ∷ []) c.args.t
    ∙ ap (ascending nat_cmp) (sym c.of-taken.ensures)

pub returns : goal.returns
returns c =
    let ring = c.args.ring.now in
    let i = c.in-Some.first in
    let wanted : c.from-wanted.result ≡ c.args.rf = c.from-wanted.ensures ∙ c.value.ensures.value in
    let low : 1 ≤ c.args.rf = omega (arith, c.value.ensures.low, c.value.ensures.value) in
    let rest : c.split_at.result.1.now ≡ drop i ring = c.split_at.ensures.back ∙ ap (drop i) c.pairs.ensures.pairs in
    let front : c.split_at.result.0.now ≡ take i ring = c.split_at.ensures.front ∙ ap (take i) c.pairs.ensures.pairs in
    let first : c.take_nodes.new.taken ≡ taken_after c.args.rf [] (nodes_of (drop i ring)) =
    c.take_nodes.ensures ∙ (λ j. taken_after (wanted j) (c.of-taken.ensures j) (nodes_of (rest j))) in
    let all : c.take_nodes-2.new.taken ≡ taken_after c.args.rf (taken_after c.args.rf [] (nodes_of (drop i ring))) (nodes_of (take i ring)) =
    c.take_nodes-2.ensures ∙ (λ j. taken_after (wanted j) (first j) (nodes_of (front j))) in
    placed_in_parts ring c.args.t i c.pairs.ensures.ascends c.in-Some.ensures.first c.args.rf low ∙ ap (ascending nat_cmp) (sym all)
