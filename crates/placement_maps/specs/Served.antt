-- Which nodes serve a keyspace.
use Rattle.std.specs.Prelude.{ℕ, ℤ, List, Option, option_map, find}
use Rattle.std.specs.Str.{bytes_eq}
use Rattle.cluster_terms.specs.declared.replication.Replication.{Replication}
use Rattle.transformations.specs.Rings.{reads_at, writes_at}
use Rattle.transformations.specs.declared.image.Image.{Image}
use Rattle.transformations.specs.declared.keyspace.KeyspaceRow.{KeyspaceRow}

-- the keyspace with this name, if there is one
abbrev pub keyspace_of : Image → List ℕ → Option KeyspaceRow
keyspace_of image name = find (λ row. bytes_eq row.name name) image.keyspaces

-- the nodes that are read and those that are written at a token, under a replication
abbrev pub served_by : Image → ℤ → Replication → List ℕ × List ℕ
served_by image t replication = (reads_at image replication t, writes_at image replication t)

-- the same for the keyspace with this name, if there is one
abbrev pub served : Image → List ℕ → ℤ → Option (List ℕ × List ℕ)
served image name t = option_map (λ row. served_by image t row.replication) (keyspace_of image name)
