use Rattle.std.proofs.Common.{◌≡◌, drop}
use Rattle.serde_json.specs.View.{items_view}
use Rattle.wire_json.specs.Values.{each_of}
use Rattle.wire_json.proofs.json_values.ListItems.{with_rest}
use Rattle.wire_json.proofs.json_lists.each_of.Given as goal

abbrev pub invariant-loop-value : goal.invariant-loop-value
invariant-loop-value g l = each_of g.T.Form.form (items_view l.values.items) ≡ with_rest g.T.Form.form l.items.items (drop l.value-index l.values.items)
