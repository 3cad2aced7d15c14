-- Deltas that are exact: they tell at every token what is gained and what is lost.
use Rattle.std.specs.Prelude.{◌≡◌, ℕ, ℤ, List, [], map}
use Rattle.std.specs.List.{AllByRecursion}
use Rattle.cluster_terms.specs.Arc.{IsToken}
use Rattle.cluster_terms.specs.declared.replication.Replication.{Replication}
use Rattle.placement_deltas.specs.Deltas.{delta_at}
use Rattle.placement_deltas.specs.declared.delta_book.DeltaBookRow.{DeltaBookRow}
use Rattle.placement_deltas.specs.declared.delta_row.DeltaRow.{DeltaRow}
use Rattle.transformations.specs.MovementDeltas.{gained_at, lost_at}
use Rattle.transformations.specs.declared.image.Image.{Image}
use Rattle.transformations.specs.declared.sequence.SeqRow.{SeqRow}

-- the nodes that a movement gains, under each replication at each token
abbrev pub gained_by : Image → SeqRow → Replication → ℤ → List ℕ
gained_by image s r x = gained_at image r s x

-- the nodes that a movement loses, under each replication at each token
abbrev pub lost_by : Image → SeqRow → Replication → ℤ → List ℕ
lost_by image s r x = lost_at image r s x

-- no nodes, under each replication at each token
abbrev pub no_nodes : Replication → ℤ → List ℕ
no_nodes r x = []

-- a delta tells at every token what is gained and what is lost
abbrev pub IsExact : (ℤ → List ℕ) → (ℤ → List ℕ) → List DeltaRow → Type 0
IsExact gained lost delta = (x : ℤ) → IsToken x → delta_at delta x ≡ (gained x, lost x)

-- a book has an exact delta for each of these replications, in their order
pub record AreDeltas (replications : List Replication) (gained lost : Replication → ℤ → List ℕ) (book : List DeltaBookRow) : Type 0 where
  pub rows : map (λ r. r.replication) book ≡ replications
  pub exact : AllByRecursion (λ r. IsExact (gained r.replication) (lost r.replication) r.delta) book
