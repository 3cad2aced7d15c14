-- The text of an image reads as the image.
use Rattle.std.proofs.Common.{◌≡◌, ◌≤◌, List, length, Some, Ok, IsUtf8, codes, refl, ◌∙◌, arith}
use Rattle.cluster_terms.proofs.texts.RoundTrip.{round_trip}
use Rattle.cluster_terms.specs.declared.node.NodeRow.{NodeRow}
use Rattle.cluster_terms.specs.declared.token.Pair.{Pair}
use Rattle.serde_json.specs.Data.{depth, items_depth}
use Rattle.transformations.specs.Words.{movement_word, phase_word}
use Rattle.transformations.specs.declared.image.Image.{Image}
use Rattle.transformations.specs.declared.keyspace.KeyspaceRow.{KeyspaceRow}
use Rattle.transformations.specs.declared.sequence.Kind.{Kind}
use Rattle.transformations.specs.declared.sequence.Kind.TheVariants as kind
use Rattle.transformations.specs.declared.sequence.Phase.{Phase}
use Rattle.transformations.specs.declared.sequence.Phase.TheVariants as phase
use Rattle.transformations.specs.declared.sequence.SeqRow.{SeqRow}
use Rattle.wire_json.specs.LineImages.{FitsLine, IsKeyspaceRow, IsNodeRow, IsPair, IsSeqRow}
use Rattle.wire_json.specs.Reading.{line_in, most_bytes, reading}
use Rattle.wire_json.specs.SnapshotTexts.{image_data, image_text, keyspace_row_data, movement_data, node_row_data, pair_data, snapshot_data}
use Rattle.wire_json.specs.Snapshots.{image_in, keyspace_row_in, kind_named, movement_in, node_row_in, pair_in, phase_named}
use Rattle.wire_json.specs.EntryTexts.{list_items}
use Rattle.wire_json.specs.declared.line.Line.TheVariants as line
use Rattle.wire_json.proofs.entries.EntriesReadBack.{name_there, node_there, token_there, whole_token}
use Rattle.wire_json.proofs.json_values.ListItems.{AreWhole-list, depth-list, each_there}
use Rattle.wire_json.proofs.json_values.ReadingLemmas.{reading-text}
use Rattle.wire_json.proofs.json_values.TextBytes.{IsUtf8-name, IsUtf8-replication, IsUtf8-tested}
use Rattle.wire_json.proofs.json_values.WholeData.{IsWhole}

-- ---- the object of an image is the image

pair_there : (p : Pair) → IsPair p → pair_in (pair_data p) ≡ Some p
pair_there p is = (let token = token_there p.token is.0 in let node = node_there p.node is.1 in rw (token, node))

node_row_there : (row : NodeRow) → IsNodeRow row → node_row_in (node_row_data row) ≡ Some row
unfolding node_row_in
node_row_there row is =
    let id = node_there row.id is.0 in
    let name = name_there row.name is.1 in
    let dc = name_there row.dc is.2 in
    let rack = name_there row.rack is.3 in
    rw (id, name, dc, rack)

keyspace_row_there : (row : KeyspaceRow) → IsKeyspaceRow row → keyspace_row_in (keyspace_row_data row) ≡ Some row
unfolding keyspace_row_in
keyspace_row_there row is = (let name = name_there row.name is.0 in let r = round_trip row.replication is.1 in rw (name, r))

kind_there : (k : Kind) → kind_named (movement_word k) ≡ Some k
kind_there kind.Join = refl
kind_there kind.Move = refl
kind_there kind.Leave = refl
kind_there kind.Replace = refl

phase_there : (p : Phase) → phase_named (phase_word p) ≡ Some p
phase_there phase.Prepared = refl
phase_there phase.Started = refl
phase_there phase.Mid = refl

movement_there : (s : SeqRow) → IsSeqRow s → movement_in (movement_data s) ≡ Some s
unfolding movement_in
movement_there s is =
    let node = node_there s.node is.0 in
    let kind = kind_there s.kind in
    let gone = each_there pair_in pair_data IsPair pair_there s.out_pairs is.1 in
    let new = each_there pair_in pair_data IsPair pair_there s.in_pairs is.2 in
    let phase = phase_there s.phase in
    rw (node, kind, gone, new, phase)

image_there : (image : Image) → FitsLine image → image_in (image_data image) ≡ Some image
unfolding image_in
image_there image is =
    let next = node_there image.next is.next in
    let nodes = each_there node_row_in node_row_data IsNodeRow node_row_there image.nodes is.nodes in
    let tokens = each_there pair_in pair_data IsPair pair_there image.tokens is.tokens in
    let keyspaces = each_there keyspace_row_in keyspace_row_data IsKeyspaceRow keyspace_row_there image.keyspaces is.keyspaces in
    let sequences = each_there movement_in movement_data IsSeqRow movement_there image.sequences is.sequences in
    rw (next, nodes, tokens, keyspaces, sequences)

line_there : (image : Image) → FitsLine image → line_in (snapshot_data image) ≡ Ok (line.Snapshot image)
unfolding line_in
line_there image is = (let there = image_there image is in rw there)

-- ---- its data can be written

whole_pair : (p : Pair) → IsPair p → IsWhole (pair_data p)
whole_pair p is = (whole_token p.token is.0, (omega (arith, is.1), tt))

whole_node_row : (row : NodeRow) → IsNodeRow row → IsWhole (node_row_data row)
whole_node_row row is = (
  (
    IsUtf8-tested (codes "dc") refl,
    IsUtf8-name row.dc is.2,
    (
      IsUtf8-tested (codes "id") refl,
      omega (arith, is.0),
      (
        IsUtf8-tested (codes "left") refl,
        tt,
        (IsUtf8-tested (codes "name") refl, IsUtf8-name row.name is.1, (IsUtf8-tested (codes "rack") refl, IsUtf8-name row.rack is.3, tt)),
      ),
    ),
  ),
  refl,
)

whole_keyspace_row : (row : KeyspaceRow) → IsKeyspaceRow row → IsWhole (keyspace_row_data row)
whole_keyspace_row row is =
    ((IsUtf8-tested (codes "name") refl, IsUtf8-name row.name is.0, (IsUtf8-tested (codes "replication") refl, IsUtf8-replication row.replication is.1, tt)), refl)

utf8_kind : (k : Kind) → IsUtf8 (movement_word k)
utf8_kind kind.Join = IsUtf8-tested (codes "join") refl
utf8_kind kind.Move = IsUtf8-tested (codes "move") refl
utf8_kind kind.Leave = IsUtf8-tested (codes "leave") refl
utf8_kind kind.Replace = IsUtf8-tested (codes "replace") refl

utf8_phase : (p : Phase) → IsUtf8 (phase_word p)
utf8_phase phase.Prepared = IsUtf8-tested (codes "PREPARED") refl
utf8_phase phase.Started = IsUtf8-tested (codes "STARTED") refl
utf8_phase phase.Mid = IsUtf8-tested (codes "MID") refl

whole_movement : (s : SeqRow) → IsSeqRow s → IsWhole (movement_data s)
whole_movement s is = (
  (
    IsUtf8-tested (codes "in") refl,
    AreWhole-list pair_data IsPair whole_pair s.in_pairs is.2,
    (
      IsUtf8-tested (codes "kind") refl,
      utf8_kind s.kind,
      (
        IsUtf8-tested (codes "node") refl,
        omega (arith, is.0),
        (
          IsUtf8-tested (codes "out") refl,
          AreWhole-list pair_data IsPair whole_pair s.out_pairs is.1,
          (IsUtf8-tested (codes "phase") refl, utf8_phase s.phase, tt),
        ),
      ),
    ),
  ),
  refl,
)

whole_image : (image : Image) → FitsLine image → IsWhole (image_data image)
whole_image image is = (
  (
    IsUtf8-tested (codes "epoch") refl,
    is.epoch,
    (
      IsUtf8-tested (codes "keyspaces") refl,
      AreWhole-list keyspace_row_data IsKeyspaceRow whole_keyspace_row image.keyspaces is.keyspaces,
      (
        IsUtf8-tested (codes "next") refl,
        omega (arith, is.next),
        (
          IsUtf8-tested (codes "nodes") refl,
          AreWhole-list node_row_data IsNodeRow whole_node_row image.nodes is.nodes,
          (
            IsUtf8-tested (codes "sequences") refl,
            AreWhole-list movement_data IsSeqRow whole_movement image.sequences is.sequences,
            (IsUtf8-tested (codes "tokens") refl, AreWhole-list pair_data IsPair whole_pair image.tokens is.tokens, tt),
          ),
        ),
      ),
    ),
  ),
  refl,
)

pub whole_snapshot : (image : Image) → FitsLine image → IsWhole (snapshot_data image)
whole_snapshot image is = ((IsUtf8-tested (codes "snapshot") refl, whole_image image is, tt), refl)

flat_pairs : (pairs : List Pair) → items_depth (list_items pair_data pairs) ≤ 1
flat_pairs pairs = depth-list pair_data 1 (λ p. omega arith) pairs

flat_movement : (s : SeqRow) → depth (movement_data s) ≤ 3
flat_movement s = omega (arith, flat_pairs s.in_pairs, flat_pairs s.out_pairs)

flat_snapshot : (image : Image) → depth (snapshot_data image) ≤ 127
flat_snapshot image =
    let keyspaces = depth-list keyspace_row_data 1 (λ row. omega arith) image.keyspaces in
    let nodes = depth-list node_row_data 1 (λ row. omega arith) image.nodes in
    let sequences = depth-list movement_data 3 flat_movement image.sequences in
    omega (arith, keyspaces, nodes, sequences, flat_pairs image.tokens)

-- ---- the round trip

pub image_reads_back : (image : Image) → FitsLine image → length (image_text image) ≤ most_bytes → reading (image_text image) ≡ Ok (line.Snapshot image)
unfolding image_text
image_reads_back image is short = reading-text (snapshot_data image) (whole_snapshot image is) (flat_snapshot image) short ∙ line_there image is
