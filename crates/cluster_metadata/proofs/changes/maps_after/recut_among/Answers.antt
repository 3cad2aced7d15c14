use Rattle.std.proofs.Common.{List, ap, ◌∙◌, subst}
use Rattle.cluster_terms.specs.Row.{rows_between}
use Rattle.cluster_terms.specs.declared.row.TokenRange.{TokenRange}
use Rattle.transformations.specs.Rings.{cuts_among}
use Rattle.transformations.specs.declared.sequence.SeqRow.{SeqRow}
use Rattle.placement_maps.proofs.EditedMaps.{RecutsAll}
use Rattle.placement_maps.specs.declared.map_change.MapChange.TheVariants.{Rows}
use Rattle.cluster_metadata.proofs.changes.maps_after.recut_among.Goals as goal

pub returns-clause-maps : goal.returns-clause-maps
returns-clause-maps c =
    let cuts = c.as_slice-2.ensures ∙ c.in_ok-cuts.ensures.cuts ∙ ap (λ (s : List SeqRow). cuts_among c.args.tokens.now s) c.as_slice.ensures in
    let ranges = c.as_slice-3.ensures ∙ c.in_ok-ranges.ensures.rows ∙ ap rows_between cuts in
    subst (λ (rs : List TokenRange). RecutsAll c.args.turn rs c.args.maps.now c.args.deltas.now (Rows c.in_ok-edits.edits)) ranges c.in_ok-edits.ensures
