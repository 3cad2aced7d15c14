-- The line of an image with a movement, computed.
use Rattle.std.proofs.Common.{◌≡◌, pos, negsuc, false, [], ◌∷◌, ◌++◌, codes, refl}
use Rattle.std.specs.Fmt.{digits}
use Rattle.cluster_terms.specs.ReplicationText.{text_of}
use Rattle.cluster_terms.specs.declared.replication.Replication.TheVariants.{Simple}
use Rattle.serde_json.proofs.OnLiterals.{serde_json_on_literals}
use Rattle.transformations.specs.declared.image.Image.{Image}
use Rattle.transformations.specs.declared.sequence.Kind.TheVariants.{Join}
use Rattle.transformations.specs.declared.sequence.Phase.TheVariants.{Prepared}
use Rattle.wire_json.specs.SnapshotTexts.{image_text}

-- nodes 1 and 2, node 1 at token 0, and a join of node 2 at -7
abbrev joining_image : Image
joining_image = record {
  epoch = 5;
  next = 3;
  nodes = (record { id = 1; name = codes "a"; dc = codes "dc1"; rack = codes "r1"; left = false }) ∷ (record { id = 2; name = codes "b"; dc = codes "dc1"; rack = codes "r1"; left = false }) ∷ [];
  tokens = (record { token = pos 0; node = 1 }) ∷ [];
  keyspaces = (record { name = codes "ks"; replication = Simple 1 }) ∷ [];
  sequences = (record { node = 2; kind = Join; out_pairs = []; in_pairs = (record { token = negsuc 6; node = 2 }) ∷ []; phase = Prepared }) ∷ [];
}

pub text_of_joining : image_text joining_image
    ≡ codes "{\"snapshot\":{\"epoch\":5,\"keyspaces\":[{\"name\":\"ks\",\"replication\":\"simple 1\"}],\"next\":3,"
    ++ codes "\"nodes\":[{\"dc\":\"dc1\",\"id\":1,\"left\":false,\"name\":\"a\",\"rack\":\"r1\"},{\"dc\":\"dc1\",\"id\":2,\"left\":false,\"name\":\"b\",\"rack\":\"r1\"}],"
    ++ codes "\"sequences\":[{\"in\":[[-7,2]],\"kind\":\"join\",\"node\":2,\"out\":[],\"phase\":\"PREPARED\"}],\"tokens\":[[0,1]]}}"
unfolding image_text text_of digits serde_json_on_literals
text_of_joining = refl
