use Rattle.std.proofs.Common.{ap, ◌∙◌}
use Rattle.wire_json.specs.EntryTexts.{list_items}
use Rattle.wire_json.proofs.json_values.ListItems.{items_view-all}
use Rattle.wire_json.proofs.json_lists.values_of.Goals as goal

pub returns : goal.returns
returns g c =
    items_view-all g.T.Written.data_of c.loop-item.values.items c.as_slice-items.result.now c.loop-item.item-index c.loop-item.invariant c.loop-item-test.false
    ∙ ap (list_items g.T.Written.data_of) c.as_slice-items.ensures
