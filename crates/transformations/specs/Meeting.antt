-- Quorums of images, and when those of two images meet (CEP-21: quorums of adjacent epochs meet).
use Rattle.std.specs.Prelude.{◌≡◌, ℕ, Bool, true, false, not, ◌&&◌, ℤ, List, [], length, nat_eq, nat_le}
use Rattle.std.specs.List.{AllByRecursion, Contains}
use Rattle.std.specs.Set.{is_member}
use Rattle.cluster_terms.specs.Arc.{IsToken}
use Rattle.cluster_terms.specs.Quorum.{Sets, Meet, local_sets, read_need, write_need}
use Rattle.cluster_terms.specs.Replication.{IsReplication, total_of}
use Rattle.cluster_terms.specs.declared.replication.Replication.{Replication}
use Rattle.cluster_terms.specs.declared.replication.Replication.TheVariants.{Simple, Topology}
use Rattle.transformations.specs.History.{changes_keyspace, next_image}
use Rattle.transformations.specs.Rings.{reads_at, writes_at}
use Rattle.transformations.specs.declared.command.Command.{Command}
use Rattle.transformations.specs.declared.command.Command.TheVariants.{UnsafeJoin, Keyspace}
use Rattle.transformations.specs.declared.image.Image.{Image}
use Rattle.transformations.specs.declared.keyspace.KeyspaceRow.{KeyspaceRow}

-- the nodes that QUORUM reads and writes at a token under a replication
abbrev pub sets_at : Image → Replication → ℤ → Sets
sets_at image r x = record { total = total_of r; reads = reads_at image r x; writes = writes_at image r x }

-- the nodes that LOCAL_QUORUM of a datacenter reads and writes there
abbrev pub local_sets_at : Image → Replication → List ℕ × ℕ → ℤ → Sets
local_sets_at image r f x = local_sets image.nodes f (reads_at image r x) (writes_at image r x)

-- the datacenters that a replication names, each with its factor
abbrev pub datacenters_of : Replication → List (List ℕ × ℕ)
datacenters_of (Simple rf) = []
datacenters_of (Topology factors) = factors

-- each node that is read at a token is written there
abbrev pub AreWritten : Image → Replication → ℤ → Type 0
AreWritten image r x = (n : ℕ) → is_member nat_eq (reads_at image r x) n ≡ true → is_member nat_eq (writes_at image r x) n ≡ true

-- sets have a write quorum if and only if they have a read quorum
abbrev pub HaveBothOrNone : Sets → Type 0
HaveBothOrNone s = nat_le (write_need s) (length s.writes) ≡ nat_le (read_need s) (length s.reads)

-- this holds for the sets of QUORUM at a token, and for those of LOCAL_QUORUM in each datacenter that is named
pub record ExistAt (image : Image) (r : Replication) (x : ℤ) : Type 0 where
  pub quorums : HaveBothOrNone (sets_at image r x)
  pub local_quorums : AllByRecursion (λ f. HaveBothOrNone (local_sets_at image r f x)) (datacenters_of r)

-- this holds at every token under every keyspace
abbrev pub QuorumsExistTogether : Image → Type 0
QuorumsExistTogether image = (x : ℤ) → IsToken x → AllByRecursion (λ k. ExistAt image k.replication x) image.keyspaces

-- each node that is read is written, at every token under every keyspace
abbrev pub ReadsAreWritten : Image → Type 0
ReadsAreWritten image = (x : ℤ) → IsToken x → AllByRecursion (λ k. AreWritten image k.replication x) image.keyspaces

-- the keyspaces have replications: the datacenters of each are different
abbrev pub HaveReplications : Image → Type 0
HaveReplications image = AllByRecursion (λ k. IsReplication k.replication) image.keyspaces

-- the quorums of two images meet at a token under a replication: those of QUORUM, and those of LOCAL_QUORUM in each
-- datacenter
pub record MeetAt (one other : Image) (r : Replication) (x : ℤ) : Type 0 where
  pub quorums : Meet (sets_at one r x) (sets_at other r x)
  pub local_quorums : AllByRecursion (λ f. Meet (local_sets_at one r f x) (local_sets_at other r f x)) (datacenters_of r)

-- they meet at every token under every keyspace of the first image
abbrev pub QuorumsMeet : Image → Image → Type 0
QuorumsMeet one other = (x : ℤ) → IsToken x → AllByRecursion (λ k. MeetAt one other k.replication x) one.keyspaces

-- whether a command gives tokens at once
abbrev pub is_unsafe_join : Command → Bool
is_unsafe_join (UnsafeJoin node tokens) = true
is_unsafe_join _ = false

-- whether a command makes a movement epoch for the keyspace of this name: it doesn't give tokens at once, and
-- neither sets nor drops the keyspace
abbrev pub makes_movement_epoch : List ℕ → Command → Bool
makes_movement_epoch name c = not (is_unsafe_join c) && not (changes_keyspace name c)

-- a keyspace is in the image after too, with the same replication, and under it the quorums before and after meet at
-- every token
pub record MeetsAfter (before after : Image) (k : KeyspaceRow) : Type 0 where
  pub stays : Contains after.keyspaces k
  pub meet : (x : ℤ) → IsToken x → MeetAt before after k.replication x

-- this holds across a command for each keyspace for which it makes a movement epoch
abbrev pub QuorumsMeetAcross : Image → Command → Type 0
QuorumsMeetAcross image c = (k : KeyspaceRow) → Contains image.keyspaces k → makes_movement_epoch k.name c ≡ true
    → MeetsAfter image (next_image image c) k

-- a command that makes a keyspace has a replication for it
abbrev pub HasReplication : Command → Type 0
HasReplication (Keyspace name replication) = IsReplication replication
HasReplication _ = Unit {0}
