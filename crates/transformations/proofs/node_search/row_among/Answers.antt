use Rattle.std.proofs.Common.{sym, ◌∙◌}
use Rattle.transformations.proofs.images.NodeSearchLemmas.{row_found, row_missing, row_past}
use Rattle.transformations.proofs.node_search.row_among.Goals as goal

pub returns-then-nodes-below : goal.returns-then-nodes-below
returns-then-nodes-below c = row_past _ _ _ c.count_below-below.ensures.split c.if-nodes-below.true

pub returns-then-eq : goal.returns-then-eq
returns-then-eq c =
    row_found _ _ _ c.index-nodes-below.result c.count_below-below.ensures.split c.if-nodes-below.false c.index-nodes-below.is (sym c.eq.ensures ∙ c.if-eq.true)

pub returns-else-eq : goal.returns-else-eq
returns-else-eq c =
    row_missing _ _ _ c.index-nodes-below.result c.requires c.count_below-below.ensures.split c.if-nodes-below.false c.index-nodes-below.is (sym c.eq.ensures ∙ c.if-eq.false)
