use Rattle.std.proofs.Common.{find, get_or, length, nat_lt, option_map, pos, ap, ◌∙◌}
use Rattle.cluster_terms.specs.declared.node.NodeRow.{NodeRow}
use Rattle.transformations.proofs.images.OverLemmas.{over_counted}
use Rattle.transformations.specs.Movements.{owned}
use Rattle.transformations.proofs.ring_rules.too_many_of_node.Goals as goal

pub returns : goal.returns
returns c =
    c.first_over.ensures
    ∙ (λ i. option_map (λ (row : NodeRow). pos row.id) (find (λ row. nat_lt 256 (get_or (c.deref.ensures.value i) row.id 0)) (c.as_slice-2.ensures i)))
    ∙ over_counted c.args.image.now c.in_ok-counts.counts.items c.requires (λ n low. c.in_ok-counts.ensures.counts n low ∙ ap (λ ps. length (owned ps n)) c.as_slice.ensures)
