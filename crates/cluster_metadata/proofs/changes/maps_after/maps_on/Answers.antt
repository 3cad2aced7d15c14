use Rattle.std.proofs.Common.{◌≡◌, length, sym, ◌∙◌, rules}
use Rattle.std.proofs.lemmas.List.{nil_from_length}
use Rattle.cluster_metadata.proofs.map_changes.ChangedMaps.{no_maps}
use Rattle.cluster_metadata.proofs.changes.maps_after.maps_on.Goals as goal

pub returns-then-is_empty : goal.returns-then-is_empty
returns-then-is_empty c =
    let none : length c.as_slice-keyspaces.result.now ≡ 0 = search rules in
    no_maps c.args.image.now c.args.change.now c.args.tokens.now c.requires.change (sym c.as_slice-keyspaces.ensures ∙ nil_from_length c.as_slice-keyspaces.result.now none)
