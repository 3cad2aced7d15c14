use Rattle.std.proofs.Common.{◌≡◌, ◌+◌, ◌-◌, ◌++◌, List, length, take, drop, ap, sym, ◌∙◌, arith}
use Rattle.std.proofs.Math.Seq.{take-add}
use Rattle.std.proofs.lemmas.List.{length-drop, map-append, take_rest}
use Rattle.cluster_terms.specs.declared.row.TokenRange.{TokenRange}
use Rattle.range_placements.specs.declared.placement_row.PlacementRow.{PlacementRow}
use Rattle.placement_maps.specs.code.Turns.{recut_rows, row_with, turned_at}
use Rattle.placement_maps.proofs.delta_changes.recut_map.Goals as goal

pub loop-done-preserved : goal.loop-done-preserved
loop-done-preserved c =
    let turn = c.args.turn in
    let rows = c.args.map.now in
    let delta = c.args.delta.now in
    let ranges = c.args.ranges.now in
    let done = c.loop-done.done in
    let count = c.in_ok-done.field-0 in
    let rest : take (length ranges - done) (drop done ranges) ≡ drop done ranges = take_rest ranges done in
    let left = ap (λ (l : List TokenRange). length l) rest ∙ length-drop done ranges in
    let below = c.in_ok-done.ensures.bound in
    let more : take done ranges ++ take count (take (length ranges - done) (drop done ranges)) ≡ take (done + count) ranges =
    ap (λ (l : List TokenRange). take done ranges ++ take count l) rest ∙ sym (take-add done count ranges) in
    record {
      bound = omega (arith, left, below, c.loop-done-test.true);
      rows =
          c.in_ok-done.ensures.rows
          ∙ ap (λ (l : List PlacementRow). l ++ recut_rows turn (take count (take (length ranges - done) (drop done ranges))) rows delta) c.loop-done.invariant.rows
          ∙ sym (map-append (row_with (turned_at turn rows delta)) (take done ranges) (take count (take (length ranges - done) (drop done ranges))))
          ∙ ap (λ (l : List TokenRange). recut_rows turn l rows delta) more;
    }
