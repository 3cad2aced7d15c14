-- How long the text of an image is.
use Rattle.std.proofs.Common.{◌≡◌, ◌+◌, ◌*◌, ◌≤◌, List, [], ◌∷◌, length, refl, arith, length-append}
use Rattle.std.specs.List.{AllByRecursion}
use Rattle.cluster_terms.specs.declared.node.NodeRow.{NodeRow}
use Rattle.cluster_terms.specs.declared.token.Pair.{Pair}
use Rattle.transformations.specs.Rings.{incoming, outgoing}
use Rattle.transformations.specs.Valid.{IsSound}
use Rattle.transformations.specs.Words.{movement_word, phase_word}
use Rattle.transformations.specs.declared.image.Image.{Image}
use Rattle.transformations.specs.declared.keyspace.KeyspaceRow.{KeyspaceRow}
use Rattle.transformations.specs.declared.sequence.Kind.{Kind}
use Rattle.transformations.specs.declared.sequence.Kind.TheVariants as kind
use Rattle.transformations.specs.declared.sequence.Phase.{Phase}
use Rattle.transformations.specs.declared.sequence.Phase.TheVariants as phase
use Rattle.transformations.specs.declared.sequence.SeqRow.{SeqRow}
use Rattle.wire_json.specs.LineImages.{FitsLine, IsKeyspaceRow, IsNodeRow}
use Rattle.wire_json.specs.Reading.{most_bytes}
use Rattle.wire_json.specs.SnapshotTexts.{image_text, keyspace_row_data, movement_data, node_row_data, pair_data, snapshot_data}
use Rattle.wire_json.specs.EntryTexts.{list_items}
use Rattle.wire_json.proofs.images.ImagesReadBack.{whole_snapshot}
use Rattle.wire_json.proofs.images.SoundCounts.{HasFew, sound_few}
use Rattle.wire_json.proofs.json_values.TextBytes.{IsShort-name, IsShort-replication}
use Rattle.wire_json.proofs.json_values.WholeData.{Fits-text, items_most, most}

most-pairs : (ps : List Pair) → items_most (list_items pair_data ps) ≡ 1 + 47 * length ps
most-pairs [] = refl
most-pairs (p ∷ ps) = omega (arith, most-pairs ps)

most-node_row : (row : NodeRow) → IsNodeRow row → most (node_row_data row) ≤ 749
most-node_row row is = omega (arith, (IsShort-name row.name is.1).1, (IsShort-name row.dc is.2).1, (IsShort-name row.rack is.3).1)

most-nodes : (rows : List NodeRow) → AllByRecursion IsNodeRow rows → items_most (list_items node_row_data rows) ≤ 1 + 750 * length rows
most-nodes [] all = omega arith
most-nodes (row ∷ rows) all = omega (arith, most-node_row row all.0, most-nodes rows all.1)

most-keyspace_row : (row : KeyspaceRow) → IsKeyspaceRow row → most (keyspace_row_data row) ≤ 3999
most-keyspace_row row is = omega (arith, (IsShort-name row.name is.0).1, (IsShort-replication row.replication is.1).1)

most-keyspaces : (rows : List KeyspaceRow) → AllByRecursion IsKeyspaceRow rows → items_most (list_items keyspace_row_data rows) ≤ 1 + 4000 * length rows
most-keyspaces [] all = omega arith
most-keyspaces (row ∷ rows) all = omega (arith, most-keyspace_row row all.0, most-keyspaces rows all.1)

length-kind : (k : Kind) → length (movement_word k) ≤ 7
length-kind kind.Join = omega arith
length-kind kind.Move = omega arith
length-kind kind.Leave = omega arith
length-kind kind.Replace = omega arith

length-phase : (p : Phase) → length (phase_word p) ≤ 8
length-phase phase.Prepared = omega arith
length-phase phase.Started = omega arith
length-phase phase.Mid = omega arith

most-movement : (s : SeqRow) → most (movement_data s) ≤ 299 + 47 * (length s.in_pairs + length s.out_pairs)
most-movement s = omega (arith, most-pairs s.in_pairs, most-pairs s.out_pairs, length-kind s.kind, length-phase s.phase)

most-movements : (ss : List SeqRow) → items_most (list_items movement_data ss) ≤ 1 + (300 * length ss + 47 * (length (incoming ss) + length (outgoing ss)))
most-movements [] = omega arith
most-movements (s ∷ ss) = omega (arith, most-movement s, most-movements ss, length-append s.in_pairs (incoming ss), length-append s.out_pairs (outgoing ss))

most-snapshot : (image : Image) → FitsLine image → HasFew image → most (snapshot_data image) ≤ most_bytes
most-snapshot image is few =
    let nodes = most-nodes image.nodes is.nodes in
    let keyspaces = most-keyspaces image.keyspaces is.keyspaces in
    let sequences = most-movements image.sequences in
    let tokens = most-pairs image.tokens in
    omega (arith, nodes, keyspaces, sequences, tokens, few.nodes, few.keyspaces, few.sequences, few.pairs)

pub sound_fits : (image : Image) → FitsLine image → IsSound image → length (image_text image) ≤ most_bytes
unfolding image_text
sound_fits image is sound = (let fits = Fits-text (snapshot_data image) (whole_snapshot image is) in omega (arith, fits.1, most-snapshot image is (sound_few image sound)))
