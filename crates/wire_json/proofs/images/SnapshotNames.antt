-- The names in an image that is read are names.
use Rattle.std.proofs.Common.{◌≡◌, ℕ, List, ◌∷◌, Option, None, Some, option_map, option_and_then, Ok, IsTrue, codes, subst}
use Rattle.std.specs.List.{AllByRecursion}
use Rattle.std.specs.Option.{IfSome}
use Rattle.cluster_terms.specs.Name.{is_name}
use Rattle.cluster_terms.specs.declared.node.NodeRow.{NodeRow}
use Rattle.serde_json.specs.Data.{Data, Items, no_items, item}
use Rattle.serde_json.specs.Find.{as_array, get}
use Rattle.transformations.specs.declared.image.Image.{Image}
use Rattle.transformations.specs.declared.keyspace.KeyspaceRow.{KeyspaceRow}
use Rattle.wire_json.proofs.entries.EntryCommands.{IfSome-option_and_then, IfSome-where, of_name}
use Rattle.wire_json.proofs.json_values.LineParts.{reading_parts}
use Rattle.wire_json.specs.Reading.{reading}
use Rattle.wire_json.specs.Snapshots as spec
use Rattle.wire_json.specs.Values.{each_at, each_of, flag_at, name_at, node_at, number_at, replication_at}
use Rattle.wire_json.specs.declared.line.Line.TheVariants as line

abbrev IsName : List ℕ → Type 0
IsName name = IsTrue (is_name name)

-- the names of a node, and that of a keyspace
abbrev pub HasNames : NodeRow → Type 0
HasNames row = IsName row.name × IsName row.dc × IsName row.rack

abbrev pub HasName : KeyspaceRow → Type 0
HasName k = IsName k.name

pub record AreNamed (image : Image) : Type 0 where
  pub nodes : AllByRecursion HasNames image.nodes
  pub keyspaces : AllByRecursion HasName image.keyspaces

-- ---- the items of a list

mapped : {X Y : Type 0} (f : X → Y) (Q : Y → Type 0) (o : Option X) → IfSome o (λ x. Q (f x)) → IfSome (option_map f o) Q
mapped f Q None h = tt
mapped f Q (Some x) h = h

each_all : {A : Type 0} (form : Data → Option A) (P : A → Type 0) → ((value : Data) → IfSome (form value) P) → (items : Items) → IfSome (each_of form items) (AllByRecursion P)
each_all form P all no_items = tt
each_all form P all (item value values) =
    IfSome-where P (λ x. option_map (λ xs. x ∷ xs) (each_of form values)) (AllByRecursion P)
    (λ x here. mapped (λ xs. x ∷ xs) (AllByRecursion P) (each_of form values) (with_first x here (each_of form values) (each_all form P all values))) (form value) (all value)
  where
    with_first : (x : _) → P x → (o : Option (List _)) → IfSome o (AllByRecursion P) → IfSome o (λ xs. AllByRecursion P (x ∷ xs))
    with_first x here None h = tt
    with_first x here (Some xs) h = (here, h)

all_at : {A : Type 0} (form : Data → Option A) (P : A → Type 0) → ((value : Data) → IfSome (form value) P) → (key : List ℕ) (value : Data) → IfSome (each_at form key value) (AllByRecursion P)
all_at form P all key value = IfSome-option_and_then (each_of form) (AllByRecursion P) (each_all form P all) (option_and_then as_array (get key value))

-- ---- the parts of an image

node_named : (value : Data) → IfSome (spec.node_row_in value) HasNames
unfolding spec.node_row_in
node_named value =
    IfSome-option_and_then _ HasNames
    (λ keys. IfSome-option_and_then _ HasNames
    (λ id. IfSome-where IsName _ HasNames
    (λ name n. IfSome-where IsName _ HasNames
    (λ dc d. IfSome-where IsName _ HasNames
    (λ rack r. IfSome-option_and_then _ HasNames (λ left. (n, d, r)) (flag_at (codes "left") value))
    (name_at (codes "rack") value) (of_name (codes "rack") value))
    (name_at (codes "dc") value) (of_name (codes "dc") value))
    (name_at (codes "name") value) (of_name (codes "name") value))
    (node_at (codes "id") value))
    (spec.having spec.node_row_keys value)

keyspace_named : (value : Data) → IfSome (spec.keyspace_row_in value) HasName
unfolding spec.keyspace_row_in
keyspace_named value =
    IfSome-option_and_then _ HasName
    (λ keys. IfSome-where IsName _ HasName
    (λ name n. IfSome-option_and_then _ HasName (λ replication. n) (replication_at (codes "replication") value))
    (name_at (codes "name") value) (of_name (codes "name") value))
    (spec.having spec.keyspace_row_keys value)

image_named : (value : Data) → IfSome (spec.image_in value) AreNamed
unfolding spec.image_in
image_named value =
    IfSome-option_and_then _ AreNamed
    (λ keys. IfSome-option_and_then _ AreNamed
    (λ epoch. IfSome-option_and_then _ AreNamed
    (λ next. IfSome-where (AllByRecursion HasNames) _ AreNamed
    (λ nodes n. IfSome-option_and_then _ AreNamed
    (λ tokens. IfSome-where (AllByRecursion HasName) _ AreNamed
    (λ keyspaces k. IfSome-option_and_then _ AreNamed (λ sequences. record { nodes = n; keyspaces = k }) (each_at spec.movement_in (codes "sequences") value))
    (each_at spec.keyspace_row_in (codes "keyspaces") value) (all_at spec.keyspace_row_in HasName keyspace_named (codes "keyspaces") value))
    (each_at spec.pair_in (codes "tokens") value))
    (each_at spec.node_row_in (codes "nodes") value) (all_at spec.node_row_in HasNames node_named (codes "nodes") value))
    (node_at (codes "next") value))
    (number_at (codes "epoch") value))
    (spec.having spec.image_keys value)

snapshot_named : (value : Data) → IfSome (spec.snapshot_at (codes "snapshot") value) AreNamed
snapshot_named value = IfSome-option_and_then spec.image_in AreNamed image_named (get (codes "snapshot") value)

-- ---- lines

pub read_named : (bytes : List ℕ) (image : Image) → reading bytes ≡ Ok (line.Snapshot image) → AreNamed image
read_named bytes image is =
    let parts = reading_parts bytes (line.Snapshot image) is in
    subst (λ o. IfSome o AreNamed) parts.made (snapshot_named parts.value)
