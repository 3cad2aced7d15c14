use Rattle.std.proofs.Common.{◌≡◌, List, IfOk, ap, sym, subst, ◌∙◌}
use Rattle.std.specs.List.Sorted.{IsPermutation}
use Rattle.cluster_terms.specs.Row.{rows_between}
use Rattle.cluster_terms.specs.declared.token.Pair.{Pair}
use Rattle.range_placements.specs.Placements.{IsPlacementMap}
use Rattle.placement_maps.proofs.IdleMaps.{empty_rows, idle_rows}
use Rattle.placement_maps.proofs.ImageMaps.{is_map}
use Rattle.placement_maps.proofs.idle_map.idle_map.Goals as goal

pub from_rows-requires : goal.from_rows-requires
from_rows-requires g c =
    let image = c.args.image.now in
    let moved = subst (λ (ps : List Pair). IsPermutation ps c.in_ok-ring.ring) c.in_ok-tokens.ensures c.in_ok-ring.ensures.pairs in
    let ends = c.as_slice-ranges.ensures ∙ c.in_ok-ranges.ensures.rows ∙ ap rows_between (c.as_slice.ensures ∙ c.in_ok-cuts.ensures.cuts) in
    let rows = idle_rows image c.requires.idle c.in_ok-ring.ring _ c.args.replication.now c.in_ok-placer.placer moved c.requires.nodes c.in_ok-placer.ensures _ ends in
    subst IsPlacementMap (sym (c.in_ok-rows.ensures ∙ rows)) (is_map image c.args.replication.now c.in_ok-cuts.ensures.tokens)

pub returns-clause-map : goal.returns-clause-map
returns-clause-map g c =
    let moved = subst (λ (ps : List Pair). IsPermutation ps c.in_ok-ring.ring) c.in_ok-tokens.ensures c.in_ok-ring.ensures.pairs in
    let ends = c.as_slice-ranges.ensures ∙ c.in_ok-ranges.ensures.rows ∙ ap rows_between (c.as_slice.ensures ∙ c.in_ok-cuts.ensures.cuts) in
    let rows = idle_rows c.args.image.now c.requires.idle c.in_ok-ring.ring _ c.args.replication.now c.in_ok-placer.placer moved c.requires.nodes c.in_ok-placer.ensures _ ends in
    c.from_rows.ensures ∙ c.in_ok-rows.ensures ∙ rows

pub returns-then-has_no_tokens-clause-map : goal.returns-then-has_no_tokens-clause-map
returns-then-has_no_tokens-clause-map g c =
    let none = c.has_no_tokens.ensures c.if-has_no_tokens.true in
    subst (λ rows. IfOk c.map_without_nodes.result (λ map. map ≡ rows)) (sym (empty_rows c.args.image.now c.requires.idle none c.args.replication.now)) c.map_without_nodes.ensures
