use Rattle.std.proofs.Common.{◌≡◌, Some, None, option_map, IfSome, ap, sym, subst, ◌∙◌}
use Rattle.std.specs.List.{AllByRecursion}
use Rattle.std.specs.Option.{option_copied}
use Rattle.cluster_terms.specs.Arc.{IsToken}
use Rattle.cluster_terms.specs.Replication.{groups_of}
use Rattle.cluster_terms.specs.Row.{last_token}
use Rattle.placement_maps.specs.Maps.{placement_rows}
use Rattle.placement_maps.specs.Served.{keyspace_of}
use Rattle.range_placements.specs.declared.placement_row.PlacementRow.{PlacementRow}
use Rattle.stream_plan.proofs.planned_rows.StreamLemmas.{copied_some, delta_under, given_rows, has_delta, if_made}
use Rattle.stream_plan.specs.code.Plans.{IsPlanOf}
use Rattle.stream_plan.specs.code.RowSteps.{rows_by}
use Rattle.stream_plan.specs.Streams.{stream_rows}
use Rattle.transformations.specs.Rings.{is_mid}
use Rattle.transformations.specs.Movements.{movement_of}
use Rattle.transformations.specs.declared.keyspace.KeyspaceRow.{KeyspaceRow}
use Rattle.transformations.specs.declared.sequence.SeqRow.{SeqRow}
use Rattle.stream_plan.proofs.movement_streams.rows_under.Goals as goal

pub unwrap-delta-requires : goal.unwrap-delta-requires
unwrap-delta-requires c =
    copied_some c.delta_of.result _ c.delta_of.ensures (has_delta c.args.meta.now c.args.plan.now c.args.keyspace.now c.args.replication.now c.requires.keyspace c.requires.plan)

pub returns-clause-rows : goal.returns-clause-rows
returns-clause-rows c =
    let image = c.args.meta.now in
    let plan = c.args.plan.now in
    let r = c.args.replication.now in
    let is_read = c.is_at_mid-is_read.result in
    let delta = c.unwrap-delta.result.now in
    let map = c.rows.result.now in
    let has : Some delta ≡ delta_under plan r = ap option_copied (sym c.unwrap-delta.ensures) ∙ c.delta_of.ensures in
    let shown : Some map ≡ option_map (λ (k : KeyspaceRow). placement_rows image k.replication) (keyspace_of image c.args.keyspace.now) =
    ap (λ l. Some l) c.rows.ensures.rows ∙ ap option_copied (sym c.unwrap-map.ensures) ∙ c.placements.ensures in
    if_made c.rows_by.result (rows_by (groups_of c.directory.result.now.rows r) is_read delta None map)
    (AllByRecursion (λ (row : PlacementRow). IsToken (last_token row.right)) map)
    (λ rows. (movement : SeqRow) → IsPlanOf image movement plan → rows ≡ stream_rows image r movement)
    c.rows_by.ensures.rows c.rows_by.ensures.tokens
    (λ tokens rows made movement p. given_rows image plan c.args.keyspace.now r c.requires.keyspace c.as_image-image.ensures.valid
    c.directory.result.now.rows (λ i. (c.directory.ensures i).rows) is_read
    (subst (λ m. IfSome (movement_of m plan.row.node) (λ (s : SeqRow). is_read ≡ is_mid s.phase)) c.as_image-image.ensures.image c.is_at_mid-is_read.ensures)
    delta has map shown tokens rows made movement p)
