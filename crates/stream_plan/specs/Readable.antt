-- Quorums of the placement with a movement read what quorums of the placement before it wrote, if the nodes that the
-- movement adds took what their sources had.
use Rattle.std.specs.Prelude.{◌≡◌, ℕ, Bool, true, false, ◌&&◌, ◌||◌, ℤ, List, nat_eq, IsTrue}
use Rattle.std.specs.List.{AllByRecursion, list_any}
use Rattle.std.specs.Set.{is_member}
use Rattle.cluster_terms.specs.Arc.{IsToken}
use Rattle.cluster_terms.specs.Quorum.{AreSome, quorum_of, within}
use Rattle.cluster_terms.specs.Replication.{total_of}
use Rattle.cluster_terms.specs.declared.replication.Replication.{Replication}
use Rattle.transformations.specs.MovementDeltas.{placed_before, placed_with}
use Rattle.transformations.specs.Meeting.{datacenters_of}
use Rattle.transformations.specs.declared.image.Image.{Image}
use Rattle.transformations.specs.declared.sequence.SeqRow.{SeqRow}
use Rattle.stream_plan.specs.Sources.{is_strictly_from, source_at}
use Rattle.stream_plan.specs.Streams.{is_for}
use Rattle.stream_plan.specs.declared.stream_row.StreamFrom.TheVariants.{Strict}
use Rattle.stream_plan.specs.declared.stream_row.StreamRow.{StreamRow}

-- whether, by these rows, a node streams strictly at a token from one of some nodes
abbrev pub streams_strictly : List StreamRow → ℤ → List ℕ → ℕ → Bool
streams_strictly rows x taken n = list_any (λ row. is_for x n row && is_strictly_from taken row.from) rows

-- of any `need` nodes placed before and any `need` nodes placed with the movement: one of the latter is among the
-- former, or streams strictly from one of them
abbrev pub AreReached : List StreamRow → ℤ → ℕ → List ℕ → List ℕ → Type 0
AreReached rows x need before after = (taken asked : List ℕ) → AreSome need before taken → AreSome need after asked
    → IsTrue (list_any (λ n. is_member nat_eq taken n || streams_strictly rows x taken n) asked)

-- at a token, this holds for quorums of all nodes, and for the quorums of each datacenter with its own factor
pub record AreReadable (image : Image) (rows : List StreamRow) (r : Replication) (s : SeqRow) (x : ℤ) : Type 0 where
  pub quorums : AreReached rows x (quorum_of (total_of r)) (placed_before image r x) (placed_with image r s x)
  pub local_quorums : AllByRecursion
      (λ f. AreReached rows x (quorum_of f.1) (within image.nodes f.0 (placed_before image r x)) (within image.nodes f.0 (placed_with image r s x)))
      (datacenters_of r)

-- the rows keep quorums readable, at every token
abbrev pub KeepReadable : Image → List StreamRow → Replication → SeqRow → Type 0
KeepReadable image rows r s = (x : ℤ) → IsToken x → AreReadable image rows r s x

-- the strict sources at a token: each is placed there before the movement and not with it, and is the source of one
-- node
pub record AreSources (image : Image) (r : Replication) (s : SeqRow) (x : ℤ) : Type 0 where
  pub before : (n source : ℕ) → source_at image r s x n ≡ Strict source → is_member nat_eq (placed_before image r x) source ≡ true
  pub gone : (n source : ℕ) → source_at image r s x n ≡ Strict source → is_member nat_eq (placed_with image r s x) source ≡ false
  pub once : (n m source : ℕ) → source_at image r s x n ≡ Strict source → source_at image r s x m ≡ Strict source → n ≡ m
