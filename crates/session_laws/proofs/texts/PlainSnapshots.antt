-- The line of an image holds no line feed before its end, and neither do the names of an image that is read.
use Rattle.std.proofs.Common.{◌≡◌, ℕ, true, List, Ok, arith}
use Rattle.serde_json.specs.Written.{compact_text}
use Rattle.transformations.proofs.lists.ListLemmas.{all_weaker}
use Rattle.transformations.specs.declared.image.Image.{Image}
use Rattle.transformations.specs.declared.keyspace.KeyspaceRow.{KeyspaceRow}
use Rattle.wire_json.proofs.images.SnapshotNames.{AreNamed, HasName, HasNames, read_named}
use Rattle.wire_json.specs.Reading.{reading}
use Rattle.wire_json.specs.SnapshotTexts.{image_text, snapshot_data, snapshot_line}
use Rattle.wire_json.specs.declared.line.Line.TheVariants as line
use Rattle.session_laws.specs.Shown.{IsOfNoQuorum}
use Rattle.session_laws.proofs.quorums.AnswerLines.{other_line}
use Rattle.session_laws.proofs.texts.PlainEntries.{plain_data}
use Rattle.session_laws.proofs.texts.PlainImages.{IsPlainImage, IsPlainRow}
use Rattle.session_laws.proofs.texts.PlainTexts.{is_plain, plain_name}
use Rattle.session_laws.proofs.texts.WholeLines.{AreLines}

-- an image's line begins with a brace
pub snapshot_is_line : (image : Image) → AreLines IsOfNoQuorum (snapshot_line image)
unfolding image_text
snapshot_is_line image = other_line (compact_text (snapshot_data image)) (plain_data (snapshot_data image)) (λ e. omega arith) (λ e. omega arith)

-- an image that is read has names
plain_named : (image : Image) → AreNamed image → IsPlainImage image
plain_named image named = record {
  nodes = all_weaker HasNames IsPlainRow (λ row is. record { name = plain_name row.name is.0; dc = plain_name row.dc is.1; rack = plain_name row.rack is.2 }) image.nodes named.nodes;
  keyspaces = all_weaker HasName (λ (k : KeyspaceRow). is_plain k.name ≡ true) (λ k is. plain_name k.name is) image.keyspaces named.keyspaces;
}

pub plain_read : (bytes : List ℕ) (image : Image) → reading bytes ≡ Ok (line.Snapshot image) → IsPlainImage image
plain_read bytes image is = plain_named image (read_named bytes image is)
