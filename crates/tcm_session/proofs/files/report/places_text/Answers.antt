use Rattle.std.proofs.Common.{◌≡◌, ℕ, ◌≤◌, ◌++◌, List, flat_map, length, take, ap, ◌∙◌}
use Rattle.std.proofs.lemmas.List.{take_all}
use Rattle.transformations.specs.declared.image.Image.{Image}
use Rattle.transformations.specs.declared.keyspace.KeyspaceRow.{KeyspaceRow}
use Rattle.placement_maps.specs.Served.{keyspace_of}
use Rattle.script_session.specs.Machine.{placements}
use Rattle.script_session.proofs.answers.KeyspacePlacements.{places_answered}
use Rattle.tcm_session.proofs.files.report.places_text.Goals as goal

pub returns : goal.returns
returns c =
    let image = c.args.metadata.now in
    let items : c.as_slice-keyspace-items.result.now ≡ image.keyspaces = c.as_slice-keyspace-items.ensures ∙ ap (λ (i : Image). i.keyspaces) c.as_image.ensures.image in
    let past : length image.keyspaces ≤ c.loop-keyspace.keyspace-index = rw items at c.loop-keyspace-test.false in
    let whole : take c.loop-keyspace.keyspace-index image.keyspaces ≡ image.keyspaces = take_all c.loop-keyspace.keyspace-index image.keyspaces past in
    c.loop-keyspace.invariant
    ∙ ap (λ (ks : List KeyspaceRow). c.args.out.now ++ flat_map (λ (k : KeyspaceRow). placements image (keyspace_of image k.name)) ks) whole
    ∙ ap (λ (text : List ℕ). c.args.out.now ++ text) (places_answered image c.as_image.ensures.valid.sound.keyspaces)
