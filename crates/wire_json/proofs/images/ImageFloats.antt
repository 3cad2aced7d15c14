-- An image has no float.
use Rattle.std.proofs.Common.{◌≡◌, false, refl}
use Rattle.cluster_terms.specs.declared.node.NodeRow.{NodeRow}
use Rattle.cluster_terms.specs.declared.token.Pair.{Pair}
use Rattle.serde_json.specs.Written.{has_float}
use Rattle.transformations.specs.declared.image.Image.{Image}
use Rattle.transformations.specs.declared.keyspace.KeyspaceRow.{KeyspaceRow}
use Rattle.transformations.specs.declared.sequence.SeqRow.{SeqRow}
use Rattle.wire_json.specs.SnapshotTexts.{keyspace_row_data, movement_data, node_row_data, pair_data, snapshot_data}
use Rattle.wire_json.proofs.entries.EntryFloats.{token_whole}
use Rattle.wire_json.proofs.json_values.ListItems.{list_whole}

pair_whole : (p : Pair) → has_float (pair_data p) ≡ false
pair_whole p = (let whole = token_whole p.token in rw whole)

movement_whole : (s : SeqRow) → has_float (movement_data s) ≡ false
movement_whole s =
    let new = list_whole pair_data pair_whole s.in_pairs in
    let gone = list_whole pair_data pair_whole s.out_pairs in
    rw (new, gone)

pub no_float : (image : Image) → has_float (snapshot_data image) ≡ false
no_float image =
    let keyspaces = list_whole keyspace_row_data (λ (row : KeyspaceRow). refl) image.keyspaces in
    let nodes = list_whole node_row_data (λ (row : NodeRow). refl) image.nodes in
    let sequences = list_whole movement_data movement_whole image.sequences in
    let tokens = list_whole pair_data pair_whole image.tokens in
    rw (keyspaces, nodes, sequences, tokens)
