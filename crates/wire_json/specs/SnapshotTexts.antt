-- The one text of an image.
use Rattle.std.specs.Prelude.{ℕ, List, [], ◌∷◌, ◌++◌, codes}
use Rattle.cluster_terms.specs.ReplicationText as replication
use Rattle.cluster_terms.specs.declared.node.NodeRow.{NodeRow}
use Rattle.cluster_terms.specs.declared.token.Pair.{Pair}
use Rattle.serde_json.specs.Data.{Data, boolean, number, array, object, unsigned, no_items, item, no_members, member}
use Rattle.serde_json.specs.Written.{compact_text}
use Rattle.transformations.specs.Words.{movement_word, phase_word}
use Rattle.transformations.specs.declared.image.Image.{Image}
use Rattle.transformations.specs.declared.keyspace.KeyspaceRow.{KeyspaceRow}
use Rattle.transformations.specs.declared.sequence.SeqRow.{SeqRow}
use Rattle.wire_json.specs.EntryTexts.{token_data, with_list, with_number, with_text}

-- [token,node]
abbrev pub pair_data : Pair → Data
pair_data p = array (item (token_data p.token) (item (number (unsigned p.node)) no_items))

-- the object of a registered node
abbrev pub node_row_data : NodeRow → Data
node_row_data row =
    object
    (with_text (codes "dc") row.dc
    (with_number (codes "id") row.id
    (member (codes "left") (boolean row.left)
    (with_text (codes "name") row.name
    (with_text (codes "rack") row.rack no_members)))))

-- the object of a keyspace
abbrev pub keyspace_row_data : KeyspaceRow → Data
keyspace_row_data row =
    object (with_text (codes "name") row.name (with_text (codes "replication") (replication.text_of row.replication) no_members))

-- the object of a movement in flight
abbrev pub movement_data : SeqRow → Data
movement_data s =
    object
    (with_list pair_data (codes "in") s.in_pairs
    (with_text (codes "kind") (movement_word s.kind)
    (with_number (codes "node") s.node
    (with_list pair_data (codes "out") s.out_pairs
    (with_text (codes "phase") (phase_word s.phase) no_members)))))

-- the object of an image
abbrev pub image_data : Image → Data
image_data image =
    object
    (with_number (codes "epoch") image.epoch
    (with_list keyspace_row_data (codes "keyspaces") image.keyspaces
    (with_number (codes "next") image.next
    (with_list node_row_data (codes "nodes") image.nodes
    (with_list movement_data (codes "sequences") image.sequences
    (with_list pair_data (codes "tokens") image.tokens no_members))))))

-- the object of a snapshot line
abbrev pub snapshot_data : Image → Data
snapshot_data image = object (member (codes "snapshot") (image_data image) no_members)

-- the text of an image
unfoldable pub image_text : Image → List ℕ
image_text image = compact_text (snapshot_data image)

-- the line of an image
abbrev pub snapshot_line : Image → List ℕ
snapshot_line image = image_text image ++ 10 ∷ []
